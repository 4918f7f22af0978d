-- What is written out of a shard.
use Rattle.std.proofs.Common.{◌≡◌, ◌∙◌, ◌⊎◌, ℕ, List, Some, None, Ok, Err, refl, sym, subst, inl, inr}
use Rattle.std.specs.Prelude.{◌↔◌, Option, Result}
use Rattle.std.specs.Io.KnownBytes.{Appends}
use Rattle.cs_refusal.specs.declared.refusals.Refusal.{Refusal}
use Rattle.cs_refusal.specs.declared.refusals.Refusal.TheVariants as refusal
use Rattle.law_machine.specs.Element.{Bytes, Content}
use Rattle.cs_store.specs.declared.errors.GetError.{GetError}
use Rattle.cs_store.specs.declared.errors.GetError.TheVariants as get
use Rattle.cs_store.specs.Errors.{get_refusal}
use Rattle.cs_core.specs.Lookups.{AreMeantBytes}
use Rattle.cs_core.specs.Stored.{Stored}
use Rattle.cs_tools.specs.Gets.{Gets, MeansGet}
use Rattle.cs_advice.specs.declared.outcomes.Outcome.{Outcome}
use Rattle.cs_advice.specs.declared.outcomes.Outcome.TheVariants.{Absent, Done, Failed, Unread}

-- its bytes were written, or the writer failed
pub got_out : (content : Option Content) (bytes : List ℕ) (before after : Option (List ℕ)) (o : Outcome) → content ≡ Some (Bytes bytes) → ((o ≡ Done) × Appends before after bytes) ⊎ (o ≡ Failed) → Gets content before after o
got_out content bytes before after o is (inl h) = subst (Gets content before after) (sym h.0) (bytes, is, h.1)
got_out content bytes before after o is (inr h) = subst (Gets content before after) (sym h) tt

-- whatever the disk did
pub meant_out : (v : Stored) (id : ℕ) (bytes : List ℕ) (before after : Option (List ℕ)) (o : Outcome) → AreMeantBytes v id bytes → ((o ≡ Done) × Appends before after bytes) ⊎ (o ≡ Failed) → MeansGet v id before after o
meant_out v id bytes before after o meant (inl h) = subst (MeansGet v id before after) (sym h.0) (bytes, meant, h.1)
meant_out v id bytes before after o meant (inr h) = subst (MeansGet v id before after) (sym h) tt

-- ---- that there is nothing

-- who writes out doesn't tell that
not_absent : {A : Type 0} (o : Outcome) → ((o ≡ Done) × A) ⊎ (o ≡ Failed) → o ≡ Absent → ⊥
not_absent o (inl done) e = let clash : Done ≡ Absent = sym done.0 ∙ e in absurd (cc clash)
not_absent o (inr failed) e = let clash : Failed ≡ Absent = sym failed ∙ e in absurd (cc clash)

-- it is told just where nothing was found, P
pub absent_some : {T E A : Type 0} (r : Result (Option T) E) (found : Option T) (x : T) (o : Outcome) (P : Type 0) → r ≡ Ok found → found ≡ Some x → ((o ≡ Done) × A) ⊎ (o ≡ Failed) → (r ≡ Ok None) ↔ P → (o ≡ Absent) ↔ P
absent_some r found x o P is some ends told = ((λ e. absurd (not_absent o ends e)), (λ p. let none : r ≡ Ok None = told.1 p in absurd (cc none)))

pub absent_none : {T E : Type 0} (r : Result (Option T) E) (found : Option T) (P : Type 0) → r ≡ Ok found → found ≡ None → (r ≡ Ok None) ↔ P → (Absent ≡ Absent) ↔ P
absent_none {T = T} r found P is none told = ((λ e. told.0 (subst (λ (o : Option T). r ≡ Ok o) none is)), (λ p. refl))

pub absent_unread : {T E : Type 0} (r : Result (Option T) E) (error : E) (q : Refusal) (P : Type 0) → r ≡ Err error → (r ≡ Ok None) ↔ P → (Unread q ≡ Absent) ↔ P
absent_unread r error q P is told = ((λ e. absurd (cc e)), (λ p. let none : r ≡ Ok None = told.1 p in absurd (cc none)))

-- ---- causes

-- who writes out doesn't tell of a refusal
pub no_refusal : {A : Type 0} (o : Outcome) (q : Refusal) (P : Type 0) → ((o ≡ Done) × A) ⊎ (o ≡ Failed) → o ≡ Unread q → P
no_refusal o q P (inl done) e = let clash : Done ≡ Unread q = sym done.0 ∙ e in absurd (cc clash)
no_refusal o q P (inr failed) e = let clash : Failed ≡ Unread q = sym failed ∙ e in absurd (cc clash)

same_unread : (p q : Refusal) → Unread p ≡ Unread q → p ≡ q
same_unread p q e = cc

-- the error that is told as 1 is a device's
is_fault : (error : GetError) → get_refusal error ≡ refusal.DeviceFault → error ≡ get.DeviceFault
is_fault get.DeviceFault is = refl
is_fault get.OutOfMemory is = absurd (cc is)
is_fault get.BadMagic is = absurd (cc is)
is_fault get.BadDigest is = absurd (cc is)
is_fault get.BadLength is = absurd (cc is)
is_fault get.BadPadding is = absurd (cc is)
is_fault get.BadVersion is = absurd (cc is)
is_fault get.Misplaced is = absurd (cc is)

pub told_fault : (error : GetError) (q : Refusal) (P : Type 0) → q ≡ get_refusal error → (error ≡ get.DeviceFault → P) → Unread q ≡ Unread refusal.DeviceFault → P
told_fault error q P is caused told = caused (is_fault error (sym is ∙ same_unread q refusal.DeviceFault told))
