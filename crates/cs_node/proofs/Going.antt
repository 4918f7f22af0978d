-- What an event leaves of a core.
use Rattle.std.proofs.Common.{◌≡◌, ◌≢◌, ℕ, Err, IfErr, IfOk, IfSome, IsErrAnd, MatchOption, None, Ok, Option, Result, Some, ⊎_elim, refl, subst, sym}
use Rattle.cs_refusal.specs.declared.refusals.Refusal.{Refusal}
use Rattle.cs_refusal.specs.declared.refusals.Refusal.TheVariants.{HistoryFull}
use Rattle.cs_disk.specs.declared.disk.PageDisk.{Ghosts as PageDisk}
use Rattle.law_machine.specs.Refusal as ground
use Rattle.law_machine.specs.State.{State}
use Rattle.cs_core.specs.law_refinement.Refusals.{refusal_for}
use Rattle.cs_core.specs.Replies.{MayAnswer}
use Rattle.cs_core.specs.declared.events.Event.{Event}
use Rattle.cs_core.specs.declared.events.Event.TheVariants.{Abandon}
use Rattle.cs_core.specs.declared.events.Reply.{Reply}
use Rattle.cs_core.specs.declared.events.Reply.TheVariants.{Abandoned, Refused}
use Rattle.cs_core.specs.Views.{Applies, IsFull, IsIn, IsStep, View}
use Rattle.cs_node.specs.Behind.{IsBehind}
use Rattle.cs_node.specs.Locks.{Declines, IsDone}
use Rattle.cs_node.specs.Starts.{Start}
use Rattle.cs_node.specs.Under.{Under}

-- what a guard holds is behind the lock where what the lock gave is
pub behind_at : {D : Type 0} (disks : PageDisk D) (start : Start) (u v : Under D) → v ≡ u → IsBehind disks start u.engine.core → IsBehind disks start v.engine.core
behind_at disks start u v same behind = subst (λ (w : Under _). IsBehind disks start w.engine.core) (sym same) behind

-- what isn't told to be full was recorded
pub recorded : {D : Type 0} (disks : PageDisk D) (old : View D) (e : Event) (r : Reply) (new : View D)
    → Applies disks old e r new → r ≢ Refused HistoryFull → IsStep disks old e r new
recorded disks old e r new applies other = ⊎_elim (λ (f : IsFull old e r new). absurd (other f.reply_is)) (λ (s : IsStep disks old e r new). s) applies

-- no ground of the machine is a full history
never_full : (f : ground.Refusal) → HistoryFull ≢ refusal_for f
never_full ground.DeviceFault e = cc
never_full ground.InFlight e = cc
never_full ground.BadMagic e = cc
never_full ground.BadDigest e = cc
never_full ground.BadLength e = cc
never_full ground.BadPadding e = cc
never_full ground.BadVersion e = cc
never_full ground.Misplaced e = cc
never_full ground.Full e = cc
never_full ground.TooLarge e = cc
never_full ground.IndexFull e = cc
never_full ground.NotSweepable e = cc
never_full ground.StillLive e = cc
never_full ground.WornOut e = cc
never_full ground.Halted e = cc
never_full ground.NoRound e = cc

-- what is told to be full wasn't recorded, and nothing has changed
pub declined : {D : Type 0} (disks : PageDisk D) (old : View D) (e : Event) (new : View D)
    → (disks.honest old.disk → (s : State) × IsIn disks.state old s) → Applies disks old e (Refused HistoryFull) new → Declines disks old e HistoryFull new
declined disks old e new legal applies is_honest = ⊎_elim
    (λ (f : IsFull old e (Refused HistoryFull) new). (f.limited, f.full, f.same))
    (λ (g : IsStep disks old e (Refused HistoryFull) new). let s = legal is_honest in let m = g.step is_honest s.0 s.1 in absurd (never_full m.2.0 m.2.2))
    applies

-- an Abandon that was done has one reply
pub abandoned : (e : ℕ) (r : Reply) → MayAnswer (Abandon e) r → IsDone r → r ≡ Abandoned
abandoned e Abandoned may done = refl
abandoned e (Refused x) may done = absurd (done x refl)
abandoned e _ may done = absurd may

-- what is so of a value is so of one that is given on
pub if_ok : {T E : Type 0} {P Q : T → Type 0} (result : Result T E) → ((t : T) → P t → Q t) → IfOk result P → IfOk result Q
if_ok (Ok t) gives p = gives t p
if_ok (Err e) gives p = tt

pub if_some : {T : Type 0} {P Q : T → Type 0} (N : Type 0) (o : Option T) → ((t : T) → P t → Q t) → MatchOption o N P → IfSome o Q
if_some N (Some t) gives p = gives t p
if_some N None gives p = tt

-- a refusal that is passed on
pub if_same : {T : Type 0} (result : Result T Refusal) (P : Refusal → Type 0) (r : Refusal) → IsErrAnd result (λ x. x ≡ r) → P r → IfErr result P
if_same (Ok v) P r is p = tt
if_same (Err x) P r is p = subst P (sym is) p
