-- What a reclaimer does, and what each event of a sweep leaves it to do.
use Rattle.std.specs.Prelude.{◌≡◌, ◌⊎◌, ◌<◌, ◌≤◌, ◌+◌, ◌-◌, ◌++◌, ◌∷◌, ◌&&◌, Bool, true, false, ℕ, zero, suc, List, [], None, Option, Result, Some, MatchResult, if◌then◌else◌, length, nat_lt}
use Rattle.cs_refusal.specs.declared.refusals.Refusal.{Refusal}
use Rattle.cs_refusal.specs.declared.refusals.Refusal.TheVariants.{OutOfMemory}
use Rattle.cs_disk.specs.declared.disk.PageDisk.{Ghosts as PageDisk}
use Rattle.cs_core.specs.declared.events.Event.{Event}
use Rattle.cs_core.specs.declared.events.Event.TheVariants as asked
use Rattle.cs_core.specs.declared.events.Reply.{Reply}
use Rattle.cs_core.specs.declared.events.Reply.TheVariants.{NoneLive}
use Rattle.cs_core.specs.Stored.{Stored}
use Rattle.cs_core.specs.Sweepable.{IsUnsweepable}
use Rattle.cs_core.specs.Views.{IsStep, View}
use Rattle.cs_extent.specs.State.{shape as shape_of}
use Rattle.cs_inspect.specs.Choices.{ReadsOn}
use Rattle.cs_inspect.specs.Kinds.{LieApart, LieTogether}
use Rattle.cs_inspect.specs.Past.{is_of_chunk}
use Rattle.cs_node.specs.Choices.{ChoosesPast}
use Rattle.cs_node.specs.Dues.{step_of}
use Rattle.cs_node.specs.Locks.{IsDone, IsRefused, WhileLocked}
use Rattle.cs_node.specs.Starts.{Start}
use Rattle.cs_node.specs.Told.{is_unrecorded}
use Rattle.cs_node.specs.declared.gates.Step.{Step}
use Rattle.cs_node.specs.declared.gates.Step.TheVariants.{Idle}
use Rattle.cs_node.specs.declared.reclaimers.Next.{Next}
use Rattle.cs_node.specs.declared.reclaimers.Next.TheVariants.{Abandon, Begin, BeginAt, Move, Retire}

-- ---- extents by their numbers

-- the least extent from this one on that may be swept
pub record IsLeastFrom (s : Stored) (from e : ℕ) : Type 0 where
  pub from_there : from ≤ e
  pub may : ¬ IsUnsweepable s e
  pub least : (k : ℕ) → from ≤ k → k < e → IsUnsweepable s k

-- none from this one on may be swept
abbrev pub NoneFrom : Stored → ℕ → Type 0
NoneFrom s from = (k : ℕ) → from ≤ k → k < (shape_of s.extents).extents → IsUnsweepable s k

-- some extent may be swept
abbrev pub MaySweep : Stored → Type 0
MaySweep s = (e : ℕ) × ¬ IsUnsweepable s e

-- the extent that is next by the numbers: the least above the one that was begun last that may be swept, else the least
-- of all
abbrev pub IsNextAfter : Stored → (last : Option ℕ) → ℕ → Type 0
IsNextAfter s None e = IsLeastFrom s 0 e
IsNextAfter s (Some last) e = IsLeastFrom s (last + 1) e ⊎ (NoneFrom s (last + 1) × IsLeastFrom s 0 e)

-- ---- a reclaimer

-- a reclaimer: how many sweeps it may still begin, the extent that it began last, the extents that it passes over, at
-- how many events it last found none to sweep, and what comes next
pub record Reclaiming : Type 0 where
  pub left : ℕ
  pub begun : Option ℕ
  pub passed : List ℕ
  pub rested : Option ℕ
  pub next : Next

-- one that began none of its sweeps
abbrev pub unbegun : ℕ → Reclaiming
unbegun n = record { left = n; begun = None; passed = []; rested = None; next = Begin }

-- one that sweeps this extent alone, and didn't begin yet
abbrev pub only_of : ℕ → Reclaiming
only_of e = record { left = 0; begun = None; passed = []; rested = None; next = BeginAt e }

-- no sweep is going on, and one is left to begin
abbrev pub MayBegin : Reclaiming → Type 0
MayBegin w = (w.next ≡ Begin) × (1 ≤ w.left)

-- the event of the sweep that is going on, of the very extent that it began with; or the begin of the one that was
-- asked for
abbrev pub GoesOn : Reclaiming → Event → Type 0
GoesOn w (asked.BeginSweep e) = w.next ≡ BeginAt e
GoesOn w (asked.MoveOne e) = w.next ≡ Move e
GoesOn w (asked.Retire e) = w.next ≡ Retire e
GoesOn w (asked.Abandon e) = w.next ≡ Abandon e
GoesOn w event = ⊥

-- it has done all its sweeps: none is going on, and none is left to begin
abbrev pub HasSwept : Reclaiming → Type 0
HasSwept w = (w.next ≡ Begin) × (w.left ≡ 0)

-- what a move leaves to do: to move on, or to retire the extent where none was live
abbrev pub moved : Reclaiming → ℕ → Reply → Reclaiming
moved w e NoneLive = record w { next = Retire e }
moved w e reply = w

-- the reclaimer after an event with this reply: a sweep that began is one less and is moved, one that was retired or
-- abandoned is over. After a retirement no extent is passed over
abbrev pub after_event : Reclaiming → Event → Reply → Reclaiming
after_event w (asked.BeginSweep e) reply = record w { left = w.left - 1; begun = Some e; next = Move e }
after_event w (asked.MoveOne e) reply = moved w e reply
after_event w (asked.Retire e) reply = record w { passed = []; next = Begin }
after_event w (asked.Abandon e) reply = record w { next = Begin }
after_event w event reply = w

-- how many extents a reclaimer passes over at most
abbrev pub most_passed_over : ℕ
most_passed_over = 16

-- it passes over extent e from now on; one that passes over as many as it may begins no sweep any more
abbrev pub with_passed : Reclaiming → ℕ → Reclaiming
with_passed w e = if nat_lt (length w.passed) most_passed_over then record w { passed = w.passed ++ e ∷ [] } else record w { left = 0 }

-- in format 4 (true) it passes over an extent where a move was refused that tells of its chunk
abbrev pub with_refused : (apart : Bool) → Reclaiming → Event → Refusal → Reclaiming
with_refused apart w (asked.MoveOne e) r = if apart && is_of_chunk r then with_passed w e else w
with_refused apart w event r = w

-- what a refused event leaves to do: a sweep that can't be moved or retired is abandoned. One that can't be begun or
-- abandoned is over, but comes again where no history recorded the refusal
abbrev pub given_up : Reclaiming → Event → Refusal → Reclaiming
given_up w (asked.MoveOne e) r = record w { next = Abandon e }
given_up w (asked.Retire e) r = record w { next = Abandon e }
given_up w event r = if is_unrecorded r then w else record w { next = Begin }

-- the reclaimer after an event that was refused
abbrev pub after_refusal : (apart : Bool) → Reclaiming → Event → Refusal → Reclaiming
after_refusal apart w event r = given_up (with_refused apart w event r) event r

-- ---- what it does under the lock

-- a core where chunks and runs lie apart, as in format 4
abbrev pub IsApart : {D : Type 0} → View D → Type 0
IsApart v = LieApart (shape_of v.store.extents)

-- one where they may lie on one extent, as in formats 1 and 2
abbrev pub IsTogether : {D : Type 0} → View D → Type 0
IsTogether v = LieTogether (shape_of v.store.extents)

-- The extent whose sweep begins. In formats 1 and 2 it is next by the numbers, and nothing is read. In format 4, where
-- some extent may be swept, it is the one that the rule chooses now without those that are passed over.
abbrev pub IsChosen : {D : Type 0} → (disks : PageDisk D) → (old read : View D) → Reclaiming → ℕ → Type 0
IsChosen disks old read w e = (IsTogether old × (read ≡ old) × IsNextAfter old.store w.begun e)
    ⊎ (IsApart old × MaySweep old.store × ReadsOn disks old read × ChoosesPast disks w.passed old read (Some e))

-- one more sweep begins, where one is left, of the extent that is chosen
abbrev pub IsBegin : {D : Type 0} → (disks : PageDisk D) → (old read : View D) → Reclaiming → Event → Type 0
IsBegin disks old read w event = (e : ℕ) × (event ≡ asked.BeginSweep e) × MayBegin w × IsChosen disks old read w e

-- the event that comes next: that of the sweep that is going on, before which nothing is read; or one more begins
abbrev pub IsNextEvent : {D : Type 0} → (disks : PageDisk D) → (old read : View D) → Reclaiming → Event → Type 0
IsNextEvent disks old read w event = (GoesOn w event × (read ≡ old)) ⊎ IsBegin disks old read w event

-- none is left to begin, or no extent may be swept
abbrev pub IsOver : Stored → Reclaiming → Type 0
IsOver s w = (w.left ≡ 0) ⊎ NoneFrom s 0

-- in format 4 nothing was done since it last found none to sweep
abbrev pub IsResting : {D : Type 0} → View D → Reclaiming → Type 0
IsResting v w = IsApart v × (w.rested ≡ Some (length v.history))

-- in format 4 the rule chooses none without those that are passed over
abbrev pub FindsNone : {D : Type 0} → (disks : PageDisk D) → (old : View D) → (was : Reclaiming) → (new : View D) → (is : Reclaiming) → Type 0
FindsNone disks old was new is = IsApart old × ReadsOn disks old new × ChoosesPast disks was.passed old new None
    × (is ≡ record was { rested = Some (length old.history) })

-- no sweep begins
abbrev pub BeginsNone : {D : Type 0} → (disks : PageDisk D) → (old : View D) → (was : Reclaiming) → (new : View D) → (is : Reclaiming) → Type 0
BeginsNone disks old was new is = ((IsOver old.store was ⊎ IsResting old was) × (new ≡ old) × (is ≡ was)) ⊎ FindsNone disks old was new is

-- no event comes next: no sweep is going on, and none begins
abbrev pub IsIdle : {D : Type 0} → (disks : PageDisk D) → (old : View D) → (was : Reclaiming) → (new : View D) → (is : Reclaiming) → Type 0
IsIdle disks old was new is = (was.next ≡ Begin) × BeginsNone disks old was new is

-- in format 4 memory was refused for the choice
abbrev pub LacksMemory : {D : Type 0} → (disks : PageDisk D) → (old : View D) → (was : Reclaiming) → (new : View D) → (is : Reclaiming) → Type 0
LacksMemory disks old was new is = IsApart old × ReadsOn disks old new × (is ≡ was)

-- which extent's sweep begins where one is left to begin, or None
abbrev pub Picks : {D : Type 0} → (disks : PageDisk D) → (old : View D) → (was : Reclaiming) → Option ℕ → (new : View D) → (is : Reclaiming) → Type 0
Picks disks old was None new is = BeginsNone disks old was new is
Picks disks old was (Some e) new is = (1 ≤ was.left) × IsChosen disks old new was e × (is ≡ was)

-- which event comes next, or None
abbrev pub Finds : {D : Type 0} → (disks : PageDisk D) → (old : View D) → (was : Reclaiming) → Option Event → (new : View D) → (is : Reclaiming) → Type 0
Finds disks old was None new is = IsIdle disks old was new is
Finds disks old was (Some event) new is = IsNextEvent disks old new was event × (is ≡ was)

-- one event was done after the reads, which this step names and which came next, and the reclaimer is what it is after
-- it; or none came next
abbrev pub Sweeps : {D : Type 0} → (disks : PageDisk D) → (old : View D) → (was : Reclaiming) → Step → (new : View D) → (is : Reclaiming) → Type 0
Sweeps {D = D} disks old was step new is = ((step ≡ Idle) × IsIdle disks old was new is)
    ⊎ ((read : View D) × (event : Event) × (reply : Reply) × (step ≡ step_of event) × IsNextEvent disks old read was event
    × IsStep disks read event reply new × IsDone reply × (is ≡ after_event was event reply))

-- the event that came next was refused after the reads: it was recorded with its refusal, and no other was; or none
-- was. Or memory was refused for the choice
abbrev pub IsSweepRefused : {D : Type 0} → (disks : PageDisk D) → (old : View D) → (was : Reclaiming) → Refusal → (new : View D) → (is : Reclaiming) → Type 0
IsSweepRefused {D = D} disks old was r new is = ((read : View D) × (event : Event) × IsNextEvent disks old read was event × IsRefused disks read event r new
    × (is ≡ after_refusal (shape_of old.store.extents).apart was event r))
    ⊎ ((r ≡ OutOfMemory) × MayBegin was × LacksMemory disks old was new is)

-- at most one event of a sweep: the one that came next, which was done or refused
abbrev pub IsSweepTurn : {D : Type 0} → (disks : PageDisk D) → (old : View D) → (was : Reclaiming) → Result Step Refusal → (new : View D) → (is : Reclaiming) → Type 0
IsSweepTurn disks old was result new is = MatchResult result (λ step. Sweeps disks old was step new is) (λ r. IsSweepRefused disks old was r new is)

-- what a reclaimer is after a turn on a node of this start
abbrev pub IsAfterTurn : {D : Type 0} → (disks : PageDisk D) → Start → (was is : Reclaiming) → Type 0
IsAfterTurn disks start was is = (result : Result Step Refusal) × WhileLocked disks start (λ old new. IsSweepTurn disks old was result new is)

-- what it is after so many turns
abbrev pub IsAfterTurns : {D : Type 0} → (disks : PageDisk D) → Start → ℕ → (was is : Reclaiming) → Type 0
IsAfterTurns disks start zero was is = is ≡ was
IsAfterTurns disks start (suc n) was is = (before : Reclaiming) × IsAfterTurns disks start n was before × IsAfterTurn disks start before is
