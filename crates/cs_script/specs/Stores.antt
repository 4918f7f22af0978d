-- The stores that scripts run over.
use Rattle.std.specs.Prelude.{◌≡◌, ℕ, List, Option, Result, Ok, Err}
use Rattle.cs_refusal.specs.declared.refusals.Refusal.{Refusal}
use Rattle.cs_disk.specs.declared.disk.PageDisk.{Ghosts as PageDisk}
use Rattle.cs_writeback.specs.cs_core.Views.{View}
use Rattle.cs_script.specs.Outputs.{refusal_line}
use Rattle.cs_script.specs.Scripts.{Runs}
use Rattle.cs_script.specs.Watched.{RunsInPart, RunsWatched}
use Rattle.cs_script.specs.declared.watchers.LineFault.{LineFault}
use Rattle.cs_script.specs.declared.watchers.Onward.{Onward}

module _ {D : Type 0} (disks : PageDisk D) (can_crash : D → Type 0) (volatile_count : D → ℕ) where
  -- a script runs over the store that there is; or there is none, and that is printed
  abbrev pub RunsOver : Result (View D) Refusal → List ℕ → ℕ → List ℕ → Type 0
  RunsOver (Ok core) text status out = (left : Option (View D)) × Runs disks can_crash volatile_count text core 0 left status out
  RunsOver (Err refusal) text status out = (status ≡ 3) × (out ≡ refusal_line refusal)

  -- the first lines of a script run over the store that there is; or there is none, and that is printed
  abbrev pub RunsOverInPart : Result (View D) Refusal → List ℕ → ℕ → List ℕ → Type 0
  RunsOverInPart (Ok core) text status out = (left : Option (View D)) × RunsInPart disks can_crash volatile_count text core left status out
  RunsOverInPart (Err refusal) text status out = (status ≡ 3) × (out ≡ refusal_line refusal)

  -- a script runs with a watcher over the store that there is; or there is none, which is printed, and the watcher
  -- isn't told
  abbrev pub RunsOverWatched : {V : Type 0} → (meets : V → ℕ → List ℕ → LineFault → Onward → V → Type 0) → Result (View D) Refusal → List ℕ → V → ℕ → V → List ℕ → Type 0
  RunsOverWatched meets (Ok core) text watcher status told out = (left : Option (View D)) × RunsWatched disks can_crash volatile_count meets text 1 core 0 watcher left status told out
  RunsOverWatched meets (Err refusal) text watcher status told out = (status ≡ 3) × (told ≡ watcher) × (out ≡ refusal_line refusal)
