-- Why a text isn't drawn.
use Rattle.std.proofs.Common.{◌≡◌, ◌∙◌, ◌⊎◌, ap, sym, inl, inr}
use Rattle.cs_check.specs.Faults.{Blames, refusal_of}
use Rattle.cs_check.specs.declared.faults.CheckFault.{CheckFault}
use Rattle.cs_refusal.specs.declared.refusals.Refusal.{Refusal}
use Rattle.cs_refusal.specs.declared.refusals.Refusal.TheVariants.{BadDocument, OutOfMemory}
use Rattle.cs_advice.specs.declared.outcomes.Outcome.{Outcome}
use Rattle.cs_advice.specs.declared.outcomes.Outcome.TheVariants.{Done, Failed, Refused}

same_refused : (r s : Refusal) → Refused r ≡ Refused s → r ≡ s
same_refused r s e = cc

-- of a fault it is told that there is no document only where there is none
pub told_bad : (fault : CheckFault) (r : Refusal) (P : Type 0) → r ≡ refusal_of fault → Blames fault P → Refused r ≡ Refused BadDocument → ¬ P
told_bad fault r P is (inl memory) told = let clash : OutOfMemory ≡ BadDocument = sym (is ∙ ap refusal_of memory) ∙ same_refused r BadDocument told in absurd (cc clash)
told_bad fault r P is (inr bad) told = bad.1

-- what is told of a fault
pub told_faults : (fault : CheckFault) (r : Refusal) (P : Type 0) → r ≡ refusal_of fault → Blames fault P
    → (Refused r ≡ Done) ⊎ (Refused r ≡ Refused OutOfMemory) ⊎ (Refused r ≡ Refused BadDocument) ⊎ (Refused r ≡ Failed)
told_faults fault r P is (inl memory) = inr (inl (ap (λ (x : Refusal). Refused x) (is ∙ ap refusal_of memory)))
told_faults fault r P is (inr bad) = inr (inr (inl (ap (λ (x : Refusal). Refused x) (is ∙ ap refusal_of bad.0))))

-- who writes out tells of no refusal
pub none_told : {A : Type 0} (o : Outcome) (r : Refusal) (P : Type 0) → ((o ≡ Done) × A) ⊎ (o ≡ Failed) → o ≡ Refused r → P
none_told o r P (inl done) e = let clash : Done ≡ Refused r = sym done.0 ∙ e in absurd (cc clash)
none_told o r P (inr failed) e = let clash : Failed ≡ Refused r = sym failed ∙ e in absurd (cc clash)
