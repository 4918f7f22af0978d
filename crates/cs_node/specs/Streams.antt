-- Which event of writeback is due where rounds of several syncs overlap.
use Rattle.std.specs.Prelude.{◌≡◌, ◌≢◌, ◌⊎◌, [], None, Result, MatchResult}
use Rattle.cs_refusal.specs.declared.refusals.Refusal.{Refusal}
use Rattle.cs_disk.specs.declared.disk.PageDisk.{Ghosts as PageDisk}
use Rattle.cs_core.specs.declared.events.Event.{Event}
use Rattle.cs_core.specs.declared.events.Event.TheVariants.{Begin, Stage}
use Rattle.cs_core.specs.declared.events.Reply.{Reply}
use Rattle.cs_core.specs.Stored.{Stored}
use Rattle.cs_core.specs.Unstaged.{MayStage, NothingToStage}
use Rattle.cs_core.specs.Views.{IsStep, View}
use Rattle.cs_node.specs.declared.gates.Step.{Step}
use Rattle.cs_node.specs.declared.gates.Step.TheVariants.{Idle}
use Rattle.cs_node.specs.Dues.{IsAtRest, IsOfRound, step_of}
use Rattle.cs_node.specs.Locks.{IsDone, IsRefused}

-- the event that is due: what is left of the round that is out, else to stage where there is something to stage, else a
-- new round where something waits
abbrev pub IsNext : Stored → Event → Type 0
IsNext s Stage = (s.out ≡ None) × MayStage s
IsNext s Begin = (s.out ≡ None) × NothingToStage s × (s.graph.staging.pending.waiting ≢ [])
IsNext s event = IsOfRound s event

-- one event was done, which this step names and which was due; or none was due
abbrev pub Streams : {D : Type 0} → (disks : PageDisk D) → (old : View D) → Step → (new : View D) → Type 0
Streams disks old step new = ((step ≡ Idle) × IsAtRest old.store × (new ≡ old))
    ⊎ ((event : Event) × (reply : Reply) × (step ≡ step_of event) × IsNext old.store event × IsStep disks old event reply new × IsDone reply)

-- the event that was due was refused: it was recorded with its refusal, and no other was; or none was
abbrev pub IsStreamRefused : {D : Type 0} → (disks : PageDisk D) → (old : View D) → Refusal → (new : View D) → Type 0
IsStreamRefused disks old r new = (event : Event) × IsNext old.store event × IsRefused disks old event r new

-- at most one event: the one that was due, which was done or refused
abbrev pub IsStreamTurn : {D : Type 0} → (disks : PageDisk D) → (old : View D) → Result Step Refusal → (new : View D) → Type 0
IsStreamTurn disks old result new = MatchResult result (λ step. Streams disks old step new) (λ r. IsStreamRefused disks old r new)
