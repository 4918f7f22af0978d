-- Whether something is left on an extent, and how a Retire of it is refused.
use Rattle.std.proofs.Common.{◌≡◌, ◌∙◌, ◌⊎◌, ◌==◌, inl, inr, ⊎_elim, ℕ, List, Option, None, Some, Result, Ok, Err, Bool, true, false, refl, sym, arith, eq-eqb}
use Rattle.std.specs.Prelude.{MatchOption, is_some}
use Rattle.std.proofs.lemmas.Bool.Decides.{nat_tests}
use Rattle.cs_refusal.specs.declared.refusals.Refusal.{Refusal}
use Rattle.cs_refusal.specs.declared.refusals.Refusal.TheVariants.{Full, OutOfMemory, StillLive, WornOut}
use Rattle.cs_index.specs.Copies.{FirstBehind, NoneBehind}
use Rattle.cs_index.specs.Staged.{IsExact, IsWhy}
use Rattle.law_machine.specs.Apart.{AllCopied}
use Rattle.law_machine.specs.Element.{Copy, Entry, Locator as Place}
use Rattle.cs_reclaim.specs.Copied.{AllUpTo, AreInOrder, last_of}
use Rattle.cs_reclaim.proofs.Copying.{found_left, left_there, none_left}

module _ (index : List Entry) (copies : List Copy) (e : ℕ) (order : AreInOrder copies) (up_to : AllUpTo index copies e) (last : Option (ℕ × ℕ)) (is : last ≡ last_of copies) {X : Type 0} (id k : X → ℕ) (l : X → Place) where
  abbrev Answer : Option X → Type 0
  Answer o = MatchOption o (NoneBehind index last e) (λ found. FirstBehind index last e (id found) (k found) (l found))

  -- where nothing was found all is copied
  pub all_there : (o : Option X) → Answer o → is_some o ≡ false → AllCopied index copies e
  all_there None none not = none_left index copies e order up_to last is none
  all_there (Some x) found not = absurd (cc not)

  -- where something was it isn't
  pub some_there : (o : Option X) → Answer o → is_some o ≡ true → AllCopied index copies e → ⊥
  some_there None none some all = absurd (cc some)
  some_there (Some x) found some all = left_there index copies e (id x) (k x) (l x) (found_left index copies e order up_to last is (id x) (k x) (l x) found) all

-- ---- how it is refused where all is copied

module _ (No Worn : Type 0) where
  pub exact_not_alive : {T : Type 0} (r : Result T Refusal) → IsExact r No Worn → r ≡ Err StillLive → ⊥
  exact_not_alive (Ok t) exact is = absurd (cc is)
  exact_not_alive (Err Full) exact is = absurd (cc is)
  exact_not_alive (Err WornOut) exact is = absurd (cc is)
  exact_not_alive (Err OutOfMemory) exact is = absurd (cc is)
  exact_not_alive (Err _) exact is = absurd exact

  -- it is one of these
  pub exact_refusals : (f : Refusal) → IsWhy f No Worn → (f ≡ StillLive) ⊎ (f ≡ Full) ⊎ (f ≡ WornOut) ⊎ (f ≡ OutOfMemory)
  exact_refusals Full why = inr (inl refl)
  exact_refusals WornOut why = inr (inr (inl refl))
  exact_refusals OutOfMemory why = inr (inr (inr refl))
  exact_refusals _ why = absurd why

-- the test of the generation and what it tells
pub last_same : (T : Type 0) (r : Result T Refusal) (No Worn : Type 0) (g most : ℕ) (b : Bool) → b ≡ (g == most) → IsExact r No (Worn ⊎ (b ≡ true)) → IsExact r No (Worn ⊎ (g ≡ most))
last_same T r No Worn g most b is exact = by r exact
  where
    to : b ≡ true → g ≡ most
    to on = let test : (g == most) ≡ true = sym is ∙ on in grind (arith, nat_tests)

    back : g ≡ most → b ≡ true
    back same = is ∙ eq-eqb g most same

    worn_to : Worn ⊎ (b ≡ true) → Worn ⊎ (g ≡ most)
    worn_to w = ⊎_elim (λ (v : Worn). inl v) (λ (on : b ≡ true). inr (to on)) w

    worn_back : Worn ⊎ (g ≡ most) → Worn ⊎ (b ≡ true)
    worn_back w = ⊎_elim (λ (v : Worn). inl v) (λ (same : g ≡ most). inr (back same)) w

    by : (r : Result T Refusal) → IsExact r No (Worn ⊎ (b ≡ true)) → IsExact r No (Worn ⊎ (g ≡ most))
    by (Ok t) exact = (exact.0, (λ w. exact.1 (worn_back w)))
    by (Err Full) exact = exact
    by (Err WornOut) exact = (exact.0, worn_to exact.1)
    by (Err OutOfMemory) exact = exact
    by (Err _) exact = absurd exact
