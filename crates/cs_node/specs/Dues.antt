-- Which event of writeback is due.
use Rattle.std.specs.Prelude.{◌≡◌, ◌≢◌, ◌⊎◌, ◌<◌, ◌≤◌, ℕ, [], None, Ok, Result, length, MatchResult}
use Rattle.cs_refusal.specs.declared.refusals.Refusal.{Refusal}
use Rattle.cs_disk.specs.declared.disk.PageDisk.{Ghosts as PageDisk}
use Rattle.cs_core.specs.declared.events.Event.{Event}
use Rattle.cs_core.specs.declared.events.Event.TheVariants as asked
use Rattle.cs_core.specs.declared.events.Reply.{Reply}
use Rattle.cs_core.specs.Stored.{Stored, members_of}
use Rattle.cs_core.specs.Unstaged.{MayStage, NothingToStage}
use Rattle.cs_core.specs.Views.{IsStep, View}
use Rattle.cs_node.specs.Locks.{IsDone, IsRefused, WhileLocked}
use Rattle.cs_node.specs.Starts.{Start}
use Rattle.cs_node.specs.declared.gates.Step.{Step}
use Rattle.cs_node.specs.declared.gates.Step.TheVariants.{Abandon, Begin, BeginSweep, Delete, End, Get, Idle, Issue, MoveOne, Put, Retire, Settle, Stage}

-- the event without its fields
abbrev pub step_of : Event → Step
step_of (asked.Put id bytes) = Put
step_of (asked.Get id) = Get
step_of (asked.Delete id) = Delete
step_of asked.Stage = Stage
step_of asked.Begin = Begin
step_of asked.Issue = Issue
step_of asked.End = End
step_of (asked.BeginSweep e) = BeginSweep
step_of (asked.MoveOne e) = MoveOne
step_of (asked.Retire e) = Retire
step_of (asked.Abandon e) = Abandon
step_of (asked.Settle n) = Settle

-- what is left of the round that is out: its next member is issued, or it ends where all are
abbrev pub IsOfRound : Stored → Event → Type 0
IsOfRound s asked.Issue = s.issued < length (members_of s.out)
IsOfRound s asked.End = (s.out ≢ None) × (length (members_of s.out) ≤ s.issued)
IsOfRound s event = ⊥

-- the event of writeback that is due: what is left of the round that is out, else a new round where something waits,
-- else to stage where there is something to stage
abbrev pub IsDue : Stored → Event → Type 0
IsDue s asked.Begin = (s.out ≡ None) × (s.graph.staging.pending.waiting ≢ [])
IsDue s asked.Stage = (s.out ≡ None) × (s.graph.staging.pending.waiting ≡ []) × MayStage s
IsDue s event = IsOfRound s event

-- none is due: no round is out, nothing waits, and there is nothing to stage
abbrev pub IsAtRest : Stored → Type 0
IsAtRest s = (s.out ≡ None) × (s.graph.staging.pending.waiting ≡ []) × NothingToStage s

-- one event was done, which this step names and which was due; or none was due
abbrev pub Turns : {D : Type 0} → (disks : PageDisk D) → (old : View D) → Step → (new : View D) → Type 0
Turns disks old step new = ((step ≡ Idle) × IsAtRest old.store × (new ≡ old))
    ⊎ ((event : Event) × (reply : Reply) × (step ≡ step_of event) × IsDue old.store event × IsStep disks old event reply new × IsDone reply)

-- the event that was due was refused: it was recorded with its refusal, and no other was; or none was
abbrev pub IsTurnRefused : {D : Type 0} → (disks : PageDisk D) → (old : View D) → Refusal → (new : View D) → Type 0
IsTurnRefused disks old r new = (event : Event) × IsDue old.store event × IsRefused disks old event r new

-- at most one event: the one that was due, which was done or refused
abbrev pub IsTurn : {D : Type 0} → (disks : PageDisk D) → (old : View D) → Result Step Refusal → (new : View D) → Type 0
IsTurn disks old result new = MatchResult result (λ step. Turns disks old step new) (λ r. IsTurnRefused disks old r new)

-- one Stage, after which so many commands are accepted; or it was refused
abbrev pub IsStaged : {D : Type 0} → (disks : PageDisk D) → (old : View D) → Result ℕ Refusal → (new : View D) → Type 0
IsStaged disks old result new = MatchResult result (λ accepted. (reply : Reply) × IsStep disks old asked.Stage reply new × IsDone reply × (accepted ≡ new.store.accepted)) (λ r. IsRefused disks old asked.Stage r new)

-- as many commands as were wanted are persistent, and nothing was done; or fewer are, and at most one event was done,
-- or it was refused
abbrev pub IsAdvance : {D A : Type 0} → (disks : PageDisk D) → (old : View D) → ℕ → Result A Refusal → (new : View D) → Type 0
IsAdvance disks old target result new = MatchResult result
    (λ _. ((target ≤ old.store.frontier) × (new ≡ old)) ⊎ ((old.store.frontier < target) × ((step : Step) × Turns disks old step new)))
    (λ r. (old.store.frontier < target) × IsTurnRefused disks old r new)

-- a sync: once it staged, and it answers no fewer commands than were accepted then
abbrev pub Syncs : {D : Type 0} → (disks : PageDisk D) → Start → (frontier : ℕ) → Type 0
Syncs disks start frontier = (target : ℕ) × (target ≤ frontier) × WhileLocked disks start (λ old new. IsStaged disks old (Ok target) new)

-- the event of a sync that was refused: its Stage, or one that was due then
abbrev pub IsSyncRefused : {D : Type 0} → (disks : PageDisk D) → (old : View D) → Refusal → (new : View D) → Type 0
IsSyncRefused disks old r new = IsRefused disks old asked.Stage r new ⊎ IsTurnRefused disks old r new
