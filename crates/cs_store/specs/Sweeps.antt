-- A sweep for which room is made first.
use Rattle.std.specs.Prelude.{◌⊎◌, ℕ}
use Rattle.cs_refusal.specs.declared.refusals.Refusal.{Refusal}
use Rattle.cs_disk.specs.declared.disk.PageDisk.{Ghosts as PageDisk}
use Rattle.cs_core.specs.Views.{View}
use Rattle.cs_writeback.specs.Sweeps.{IsSweepRefused, Sweeps}
use Rattle.cs_store.specs.Rooms.{IsMadeReady, IsNoRoom}

module _ {D : Type 0} (disks : PageDisk D) where
  -- the store is made ready, and then so many chunks are moved off the extent and it is retired under this root
  abbrev pub SweepsReady : ℕ → (old new : View D) → (count root : ℕ) → Type 0
  SweepsReady extent old new count root = (ready : View D) × IsMadeReady disks old ready × Sweeps disks extent ready new count root

  -- no room is made; or the store is made ready, and then the sweep can't begin, or stops and is abandoned
  abbrev pub DeclinesSweep : ℕ → (old new : View D) → Refusal → Type 0
  DeclinesSweep extent old new refusal = IsNoRoom disks old refusal new
      ⊎ ((ready : View D) × IsMadeReady disks old ready × IsSweepRefused disks extent ready new refusal)
