-- What an event does to the graph, the round that is out and the index's table.
use Rattle.std.specs.Prelude.{◌≡◌, ◌≢◌, ◌⊎◌, ◌<◌, ℕ, suc, List, [], Some, None, length, slice_get, true}
use Rattle.cs_deps.specs.declared.elements.Element.{Element as Name}
use Rattle.cs_refusal.specs.declared.refusals.Refusal.{Refusal}
use Rattle.cs_refusal.specs.declared.refusals.Refusal.TheVariants.{DeviceFault, InFlight, NoRound}
use Rattle.cs_deps.specs.Staging.{settled}
use Rattle.cs_deps.specs.State.{IsQueue}
use Rattle.cs_core.specs.declared.events.Event.{Event}
use Rattle.cs_core.specs.declared.events.Event.TheVariants.{Begin, Delete, End, Get, Issue, MoveOne, Put, Retire, Settle, Stage}
use Rattle.cs_core.specs.declared.events.Reply.{Reply}
use Rattle.cs_core.specs.declared.events.Reply.TheVariants.{Absent, Accepted, Begun, Ended, Issued, Moved, NoneLive, Nothing, Refused, Retired, Staged, Unchanged}
use Rattle.cs_core.specs.Stored.{StagesBehind, Stored, members_of}

-- the round that is out, and how much of it is issued, are as before
abbrev pub KeepsRound : (old new : Stored) → Type 0
KeepsRound old new = (new.out ≡ old.out) × (new.issued ≡ old.issued)

-- nothing was staged, and nothing became persistent
abbrev pub KeepsStaging : (old new : Stored) → Type 0
KeepsStaging old new = new.graph.staging ≡ old.graph.staging

-- what was staged waits behind what waited, and nothing became persistent
abbrev pub Stages : (old new : Stored) → Type 0
Stages old new = StagesBehind old.graph.staging.pending new.graph.staging.pending

-- a command more was accepted, and it has the number n
abbrev pub AddsCommand : ℕ → (old new : Stored) → Type 0
AddsCommand n old new = (n ≡ suc old.accepted) × (new.accepted ≡ n)

-- A round was begun: it is the first of the plan of all that waits.
pub record IsRoundBegun (round : List Name) (old new : Stored) : Type 0 where
  pub none : old.out ≡ None
  pub first : IsQueue old.graph.staging.pending 1 round
  pub some : round ≢ []
  pub out : new.out ≡ Some round
  pub issued : new.issued ≡ 0
  pub staging : new.graph.staging ≡ old.graph.staging
  pub same_index : new.index ≡ old.index
  pub frontier : new.frontier ≡ old.frontier

-- A member of the round was issued: the next one.
pub record IsMemberIssued (x : Name) (old new : Stored) : Type 0 where
  pub next : slice_get (members_of old.out) old.issued ≡ Some x
  pub issued : new.issued ≡ suc old.issued
  pub out : new.out ≡ old.out
  pub staging : new.graph.staging ≡ old.graph.staging
  pub same_index : new.index ≡ old.index
  pub frontier : new.frontier ≡ old.frontier

-- The round has ended: it joined what is persistent, after all of it was issued.
pub record IsRoundEnded (frontier : ℕ) (old new : Stored) : Type 0 where
  pub some : old.out ≢ None
  pub complete : old.issued ≡ length (members_of old.out)
  pub out : new.out ≡ None
  pub settles : new.graph.staging ≡ record { pending = settled old.graph.staging.pending (members_of old.out); staged = old.graph.staging.staged; latest = old.graph.staging.latest }
  pub same_index : new.index ≡ old.index
  pub is_frontier : new.frontier ≡ frontier

-- What a refused event leaves: a device fault in Issue or End halts the store, and nothing else changes. A Begin is
-- refused 5 only where a round is out, an Issue 42 only where none of it is left, and an End 42 only where none is out
-- or some of it isn't issued.
abbrev pub StaysRefused : Event → Refusal → (old new : Stored) → Type 0
StaysRefused Issue DeviceFault old new = new ≡ record old { halted = true }
StaysRefused End DeviceFault old new = new ≡ record old { halted = true }
StaysRefused Begin InFlight old new = (old.out ≢ None) × (new ≡ old)
StaysRefused Issue NoRound old new = (slice_get (members_of old.out) old.issued ≡ None) × (new ≡ old)
StaysRefused End NoRound old new = ((old.out ≡ None) ⊎ (old.issued < length (members_of old.out))) × (new ≡ old)
StaysRefused event r old new = new ≡ old

-- what an event with this reply does
abbrev pub WritesBack : (old : Stored) → Event → Reply → (new : Stored) → Type 0
WritesBack old event (Refused r) new = StaysRefused event r old new
WritesBack old (Put id bytes) (Accepted n) new = AddsCommand n old new × KeepsRound old new × Stages old new
WritesBack old (Delete id) (Accepted n) new = AddsCommand n old new × KeepsRound old new × KeepsStaging old new
WritesBack old (Delete id) Absent new = new ≡ old
WritesBack old (Get id) reply new = new ≡ old
WritesBack old (Settle n) reply new = new ≡ old
WritesBack old Stage (Staged v) new = (new.index.table ≡ []) × KeepsRound old new × Stages old new
WritesBack old Stage Unchanged new = (old.index.table ≡ []) × (new ≡ old)
WritesBack old Begin (Begun round) new = IsRoundBegun round old new
WritesBack old Begin Nothing new = (old.graph.staging.pending.waiting ≡ []) × (old.out ≡ None) × (new ≡ old)
WritesBack old Issue (Issued x page) new = IsMemberIssued x old new
WritesBack old End (Ended n) new = IsRoundEnded n old new
WritesBack old (MoveOne e) (Moved id chunk) new = KeepsRound old new × Stages old new
WritesBack old (MoveOne e) NoneLive new = new ≡ old
WritesBack old (Retire e) (Retired v) new = (new.index.table ≡ []) × KeepsRound old new × Stages old new
-- BeginSweep and Abandon; the other pairs that are left are no answers
WritesBack old event reply new = KeepsRound old new × KeepsStaging old new
