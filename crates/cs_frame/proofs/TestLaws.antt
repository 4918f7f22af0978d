-- Tests that pass and the facts that they test.
use Rattle.std.proofs.Common.{◌≡◌, ℕ, zero, suc, Result, Err, ◌==◌, Bool, true, false, List, [], ◌∷◌, length, Option, Some, None, bytes_eq, refl, sym, ap, ◌∙◌}
use Rattle.std.proofs.lemmas.Bool.{and_from, and_parts, eqb-true}
use Rattle.std.specs.List.{AllByRecursion, list_all}
use Rattle.std.proofs.lemmas.Slice.Eq.{bytes_eq-Decides}
use Rattle.cs_frame.specs.declared.faults.FormatFault.{FormatFault}
use Rattle.cs_frame.specs.declared.faults.FormatFault.TheVariants.{OutOfMemory}
use Rattle.cs_frame.specs.Bytes.{all_zero, zeros}
use Rattle.cs_frame.specs.Faults.{HasFault, first_fault, unless}

-- where no test fails the first passes, and the others do
pub passed : (b : Bool) (f : FormatFault) (tests : List (Option FormatFault)) → first_fault (unless b f ∷ tests) ≡ None → (b ≡ true) × (first_fault tests ≡ None)
passed true f tests h = (refl, h)
passed false f tests h = cc

-- where the first passes and the second doesn't, that one is answered
pub fails_second : (a b : Bool) (f g : FormatFault) (tests : List (Option FormatFault)) → a ≡ true → b ≡ false → first_fault (unless a f ∷ unless b g ∷ tests) ≡ Some g
fails_second true false f g tests p q = refl
fails_second true true f g tests p q = cc
fails_second false b f g tests p q = cc

-- none of the tests fails
pub record Passes (tests : List (Option FormatFault)) : Type 0 where
  pub none : first_fault tests ≡ None

pub no_test : Passes []
no_test = record { none = refl }

-- one test more that passes
pub and_passes : (b : Bool) (f : FormatFault) (tests : List (Option FormatFault)) → b ≡ true → Passes tests → Passes (unless b f ∷ tests)
and_passes true f tests h others = record { none = others.none }
and_passes false f tests h others = cc

-- bytes that pass as equal are
pub same_bytes : (xs ys : List ℕ) → bytes_eq xs ys ≡ true → xs ≡ ys
same_bytes xs ys h = (bytes_eq-Decides xs ys).0 h

pub equal_bytes : (xs ys : List ℕ) → xs ≡ ys → bytes_eq xs ys ≡ true
equal_bytes xs ys h = (bytes_eq-Decides xs ys).1 h

-- bytes that are all 0 are so many zeros
pub all_zeros : (xs : List ℕ) → all_zero xs ≡ true → xs ≡ zeros (length xs)
all_zeros [] h = refl
all_zeros (x ∷ xs) h = let both = and_parts (x == 0) (all_zero xs) h in
    ap (λ (y : ℕ). y ∷ xs) (eqb-true x 0 both.0) ∙ ap (λ (ys : List ℕ). 0 ∷ ys) (all_zeros xs both.1)

pub all_zero-zeros : (n : ℕ) → all_zero (zeros n) ≡ true
all_zero-zeros zero = refl
all_zero-zeros (suc n) = all_zero-zeros n

-- a fault and none
pub some_and_none : {f : FormatFault} {found : Option FormatFault} {P : Type 0} → Some f ≡ found → found ≡ None → P
some_and_none e n = cc

-- a test of each element and what it says of them
pub all_true : {X : Type 0} (test : X → Bool) (P : X → Type 0) → ((x : X) → test x ≡ true → P x) → (xs : List X) → list_all test xs ≡ true → AllByRecursion P xs
all_true test P says [] h = tt
all_true test P says (x ∷ xs) h = let both = and_parts (test x) (list_all test xs) h in (says x both.0, all_true test P says xs both.1)

pub true_all : {X : Type 0} (test : X → Bool) (P : X → Type 0) → ((x : X) → P x → test x ≡ true) → (xs : List X) → AllByRecursion P xs → list_all test xs ≡ true
true_all test P says [] h = refl
true_all test P says (x ∷ xs) h = and_from (test x) (list_all test xs) (says x h.0) (true_all test P says xs h.1)

-- where no test fails the first finds nothing, and the others do not
pub none_rest : (found : Option FormatFault) (tests : List (Option FormatFault)) → first_fault (found ∷ tests) ≡ None → (found ≡ None) × (first_fault tests ≡ None)
none_rest None tests h = (refl, h)
none_rest (Some f) tests h = cc

-- one result has one fault
pub same_fault : {T : Type 0} {r : Result T FormatFault} {x y f : FormatFault} → r ≡ Err x → x ≡ y → r ≡ Err f → Some y ≡ Some f
same_fault a b c = cc

-- memory that ran out is no fault that a test finds
pub no_memory : (b : Bool) (f : FormatFault) (tests : List (Option FormatFault)) → (f ≡ OutOfMemory → ⊥) → (first_fault tests ≡ Some OutOfMemory → ⊥) → first_fault (unless b f ∷ tests) ≡ Some OutOfMemory → ⊥
no_memory true f tests other rest h = rest h
no_memory false f tests other rest h = let same : f ≡ OutOfMemory = cc in other same

-- a result that is refused has the fault that was found
pub refused_has : {T : Type 0} (r : Result T FormatFault) (x y : FormatFault) (found : Option FormatFault) → r ≡ Err x → x ≡ y → found ≡ Some y → HasFault r found
refused_has r x y found is same was fault other = ((λ h. of_result h), (λ h. of_found h))
  where
    of_result : r ≡ Err fault → found ≡ Some fault
    of_result h = let one : x ≡ fault = cc in was ∙ ap (λ (f : FormatFault). Some f) (sym same ∙ one)

    of_found : found ≡ Some fault → r ≡ Err fault
    of_found h = let one : y ≡ fault = cc in is ∙ ap (λ (f : FormatFault). Err f) (same ∙ one)
