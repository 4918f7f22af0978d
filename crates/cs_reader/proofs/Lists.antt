-- What is left of a list, and locators as places.
use Rattle.std.proofs.Common.{◌≡◌, ◌≢◌, ℕ, zero, suc, ◌<◌, ◌==◌, true, false, eqb-true, eq-eqb, List, [], ◌∷◌, Some, length, map, drop, refl, sym, ap, ◌∙◌, arith}
use Rattle.std.specs.Prelude.{slice_get}
use Rattle.cs_frame.specs.declared.locators.Locator.{Locator}
use Rattle.cs_frame.specs.Formats.{as_locator, place_of}

-- what is next of a list
pub drop_some : {A : Type 0} (xs : List A) (k : ℕ) (x : A) → slice_get xs k ≡ Some x → (drop k xs ≡ x ∷ drop (suc k) xs) × (k < length xs)
drop_some [] k x at = absurd (cc at)
drop_some (y ∷ xs) zero x at = let e : y ≡ x = cc at in (ap (λ (z : _). z ∷ xs) e, omega arith)
drop_some (y ∷ xs) (suc k) x at = let rest = drop_some xs k x at in (rest.0, omega (arith, rest.1))

pub drop_all : {A : Type 0} (xs : List A) (k : ℕ) → k ≡ length xs → drop k xs ≡ []
drop_all [] k is = rw is refl
drop_all (x ∷ xs) zero is = absurd (omega (arith, is))
drop_all (x ∷ xs) (suc k) is = drop_all xs k (omega (arith, is))

-- locators as places, and back
pub there_and_back : (ls : List Locator) → map as_locator (map place_of ls) ≡ ls
there_and_back [] = refl
there_and_back (l ∷ ls) = ap (λ (ks : List Locator). l ∷ ks) (there_and_back ls)

-- some locators are some places
pub some_places : (ls : List Locator) → ls ≢ [] → map place_of ls ≢ []
some_places [] some = λ e. some refl
some_places (l ∷ ls) some = λ none. (let e : place_of l ∷ map place_of ls ≡ [] = none in cc)

-- a list whose length is 0, or isn't
pub none_left : (ls : List Locator) → true ≡ (length ls == 0) → map place_of ls ≡ []
none_left [] e = refl
none_left (l ∷ ls) e = let z : length (l ∷ ls) ≡ 0 = eqb-true (length (l ∷ ls)) 0 (sym e) in absurd (omega (arith, z))

pub some_left : (ls : List Locator) → false ≡ (length ls == 0) → ls ≢ []
some_left ls e none = let f : false ≡ true = e ∙ eq-eqb (length ls) 0 (ap length none) in cc f
