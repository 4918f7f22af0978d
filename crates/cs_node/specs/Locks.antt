-- What a call does to the core while it has the lock.
use Rattle.std.specs.Prelude.{◌≡◌, ◌≢◌, ℕ, ◌≤◌, ◌++◌, ◌∷◌, Bool, List, Result, [], length, MatchBool, MatchResult}
use Rattle.cs_refusal.specs.declared.refusals.Refusal.{Refusal}
use Rattle.cs_refusal.specs.declared.refusals.Refusal.TheVariants.{HistoryFull, OutOfMemory}
use Rattle.cs_disk.specs.declared.disk.PageDisk.{Ghosts as PageDisk}
use Rattle.cs_frame.specs.declared.identifiers.ShardId.{ShardId}
use Rattle.cs_core.specs.declared.events.Event.{Event}
use Rattle.cs_core.specs.declared.events.Event.TheVariants.{Get, Settle}
use Rattle.cs_core.specs.declared.events.Reply.{Reply}
use Rattle.cs_core.specs.declared.events.Reply.TheVariants.{Absent, Found, NotYet, Persistent, Refused}
use Rattle.cs_core.specs.Answered.{IsLimited}
use Rattle.cs_core.specs.Views.{IsUntouched, IsStep, View, kept}
use Rattle.cs_node.specs.declared.nodes.Settled.{Settled}
use Rattle.cs_node.specs.declared.nodes.Settled.TheVariants.{Done as SettleDone, Back as SettleBack}
use Rattle.cs_node.specs.declared.nodes.Why.{Why}
use Rattle.cs_node.specs.declared.nodes.Why.TheVariants.{NotYet as WhyNotYet, HistoryFull as WhyFull, OutOfMemory as WhyMemory}
use Rattle.cs_node.specs.Behind.{IsBehind}
use Rattle.cs_node.specs.Starts.{Start}
use Rattle.cs_node.specs.Told.{Holdings, call, is_unrecorded}

-- There is a core such as lies behind the lock, of this start, and one that it was after the call, of which `goes`
-- holds. Which cores these were isn't told: the first may be an earlier one than the call found.
abbrev pub WhileLocked : {D : Type 0} → (disks : PageDisk D) → Start → (View D → View D → Type 0) → Type 0
WhileLocked {D} disks start goes = (old new : View D) × IsBehind disks start old × goes old new

-- An event that no history records: memory was refused, and nothing but rooms has changed; or, where the disk is
-- honest, it is an event that is refused where as many are kept as may be, which so many were, and nothing has changed.
abbrev pub Declines : {D : Type 0} → (disks : PageDisk D) → (old : View D) → Event → Refusal → (new : View D) → Type 0
Declines disks old event OutOfMemory new = IsUntouched disks old new
Declines disks old event HistoryFull new = disks.honest old.disk → IsLimited event × (old.limit ≤ length (kept old)) × (new ≡ old)
Declines disks old event r new = ⊥

-- the reply of an event that was done, and not refused
abbrev pub IsDone : Reply → Type 0
IsDone reply = (r : Refusal) → reply ≢ Refused r

-- one event was refused: it was recorded with its refusal, and no other was; or none was
abbrev pub IsRefused : {D : Type 0} → (disks : PageDisk D) → (old : View D) → Event → Refusal → (new : View D) → Type 0
IsRefused disks old event r new = MatchBool (is_unrecorded r) (Declines disks old event r new) (IsStep disks old event (Refused r) new)

-- One event for a purse: the core went on by it with this reply, and by no other, and the purse has it with that reply
-- as one call more, at the place that it has in the history.
pub record IsCalled {D : Type 0} (disks : PageDisk D) (old : View D) (purse : Holdings) (event : Event) (reply : Reply) (new : View D) (after : Holdings) : Type 0 where
  pub step : IsStep disks old event reply new
  pub calls : after.calls ≡ purse.calls ++ call (length old.history) event reply ∷ []

-- one event for a purse was refused: it was recorded, and is a call; or neither
abbrev pub IsCallRefused : {D : Type 0} → (disks : PageDisk D) → (old : View D) → Holdings → Event → Refusal → (new : View D) → Holdings → Type 0
IsCallRefused disks old purse event r new after = MatchBool (is_unrecorded r) (Declines disks old event r new) (IsCalled disks old purse event (Refused r) new after)

-- one event for a purse, which was answered by what the reply tells, or refused
abbrev pub IsAnswered : {D A : Type 0} → (disks : PageDisk D) → (old : View D) → Holdings → Event → (reply : A → Reply) → Result A Refusal → (new : View D) → Holdings → Type 0
IsAnswered disks old purse event reply result new after = MatchResult result (λ a. IsCalled disks old purse event (reply a) new after) (λ r. IsCallRefused disks old purse event r new after)

-- a get, which found something or nothing
abbrev pub IsGot : {D : Type 0} → (disks : PageDisk D) → (old : View D) → Holdings → ShardId → Bool → (new : View D) → Holdings → Type 0
IsGot disks old purse id there new after = MatchBool there ((bytes : List ℕ) × IsCalled disks old purse (Get id) (Found bytes) new after) (IsCalled disks old purse (Get id) Absent new after)

-- a settle that gave the ticket n back
abbrev pub IsBackFor : {D : Type 0} → (disks : PageDisk D) → (old : View D) → Holdings → ℕ → Why → (new : View D) → Holdings → Type 0
IsBackFor disks old purse n (WhyNotYet f) new after = IsCalled disks old purse (Settle n) (NotYet f) new after
IsBackFor disks old purse n WhyFull new after = Declines disks old (Settle n) HistoryFull new
IsBackFor disks old purse n WhyMemory new after = Declines disks old (Settle n) OutOfMemory new

-- a settle of the ticket n: one event, whose reply it answers; or none
abbrev pub IsSettledBy : {D : Type 0} → {K : _} → (disks : PageDisk D) → (old : View D) → Holdings → ℕ → Settled K → (new : View D) → Holdings → Type 0
IsSettledBy disks old purse n (SettleDone ack) new after = IsCalled disks old purse (Settle n) Persistent new after
IsSettledBy disks old purse n (SettleBack ticket why) new after = IsBackFor disks old purse n why new after
