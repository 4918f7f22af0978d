-- A store answers no 41, and its disk stays sound.
use Rattle.std.proofs.Common.{◌≡◌, ◌≢◌, ◌⊎◌, ◌≤◌, ◌∙◌, Ok, Err, inl, inr, sym, ap, subst, arith}
use Rattle.std.specs.Prelude.{IfOk, MatchResult, Result}
use Rattle.cs_chunk.specs.Reads.{IsReadRefusal}
use Rattle.cs_refusal.specs.declared.refusals.Refusal.{Refusal as Code}
use Rattle.cs_refusal.specs.declared.refusals.Refusal.TheVariants as code
use Rattle.cs_refusal.specs.Refusals.{number_of}
use Rattle.cs_core.specs.declared.events.Event.{Event}
use Rattle.cs_core.specs.declared.events.OutOfMemory.{OutOfMemory}
use Rattle.cs_core.specs.declared.events.Reply.{Reply}
use Rattle.cs_core.specs.declared.events.Reply.TheVariants.{Refused}
use Rattle.cs_core.specs.Replies.{MayRefuse}

-- an event that a full history doesn't refuse is refused otherwise
pub other_than_full : (event : Event) (r : Code) → (MayRefuse event code.HistoryFull → ⊥) → (r ≡ code.OutOfMemory) ⊎ MayRefuse event r → r ≢ code.HistoryFull
other_than_full event r never (inl memory) = λ full. let same : code.OutOfMemory ≡ code.HistoryFull = sym memory ∙ full in cc same
other_than_full event r never (inr may) = λ full. never (subst (λ (k : Code). MayRefuse event k) full may)

-- so is a read
pub read_unlimited : (r : Code) → IsReadRefusal r → r ≢ code.HistoryFull
read_unlimited r (inl (inl fault)) = λ full. let same : code.DeviceFault ≡ code.HistoryFull = sym fault ∙ full in cc same
read_unlimited r (inl (inr want)) = λ full. let same : code.OutOfMemory ≡ code.HistoryFull = sym want ∙ full in cc same
read_unlimited r (inr (inl (low, high))) = λ full. let below : 41 ≤ 24 = subst (λ (k : Code). number_of k ≤ 24) full high in omega (arith, below)
read_unlimited r (inr (inr other)) = λ full. let same : code.Misplaced ≡ code.HistoryFull = sym other ∙ full in cc same

-- the reply is that of a refusal
pub if_refused_unlimited : (r : Code) (result : Result (Reply × Reply) OutOfMemory)
    → MatchResult result (λ x. (x.0 ≡ Refused r) × (x.1 ≡ Refused r) × (r ≢ code.OutOfMemory)) (λ e. r ≡ code.OutOfMemory) → r ≢ code.HistoryFull
    → IfOk result (λ x. x.0 ≢ Refused code.HistoryFull)
if_refused_unlimited r (Ok x) is other = λ full. let both : Refused r ≡ Refused code.HistoryFull = sym is.0 ∙ full in let same : r ≡ code.HistoryFull = cc both in other same
if_refused_unlimited r (Err e) is other = tt

-- a disk stays sound in an Issue, unless its write failed
pub if_refused_sound : (r : Code) (S : Type 0) (result : Result (Reply × Reply) OutOfMemory)
    → MatchResult result (λ x. (x.0 ≡ Refused r) × (x.1 ≡ Refused r) × (r ≢ code.OutOfMemory)) (λ e. r ≡ code.OutOfMemory)
    → (r ≡ code.DeviceFault) ⊎ (r ≡ code.OutOfMemory) ⊎ S → IfOk result (λ x. (x.0 ≡ Refused code.DeviceFault) ⊎ S)
if_refused_sound r S (Ok x) is (inl fault) = inl (is.0 ∙ ap Refused fault)
if_refused_sound r S (Ok x) is (inr (inl memory)) = absurd (is.2 memory)
if_refused_sound r S (Ok x) is (inr (inr sound)) = inr sound
if_refused_sound r S (Err e) is any = tt

-- it stays so, whatever the answer
pub always_sound : (S : Type 0) (result : Result (Reply × Reply) OutOfMemory) → S → IfOk result (λ x. (x.0 ≡ Refused code.DeviceFault) ⊎ S)
always_sound S (Ok x) sound = inr sound
always_sound S (Err e) sound = tt
