-- Sorted entries: what is looked up before a place and behind it.
use Rattle.std.proofs.Common.{◌≡◌, ◌≢◌, ◌⊎◌, inl, inr, ℕ, zero, suc, ◌+◌, add-one, ◌<◌, ◌≤◌, ◌==◌, true, false, List, [], ◌∷◌, ◌++◌, length, take, drop, map, Bool, Some, None, MatchBool, if◌then◌else◌, eq-eqb, ne_eqb, refl, sym, ap, ap₂, subst, ◌∙◌, arith, take-append-drop}
use Rattle.std.specs.Prelude.{get_or, slice_get, slice_set}
use Rattle.std.specs.List.{AllByRecursion, insert}
use Rattle.std.proofs.lemmas.Bool.{cases_eq, cases_lt}
use Rattle.std.proofs.lemmas.List.{map-append, map-set, set_split}
use Rattle.law_machine.proofs.Counting.{ascending_tail, lookup_here, lookup_there}
use Rattle.law_machine.specs.Element.{Entry}
use Rattle.law_machine.specs.Index.{Ascending, lookup}
use Rattle.cs_index.specs.State.{IsShort}
use Rattle.cs_index.specs.Sorted.{IsPlace, IsPut}

-- ---- lists

pub all_append : {X : Type 0} (P : X → Type 0) (xs ys : List X) → AllByRecursion P xs → AllByRecursion P ys → AllByRecursion P (xs ++ ys)
all_append P [] ys some more = more
all_append P (x ∷ xs) ys some more = (some.0, all_append P xs ys some.1 more)

pub all_front : {X : Type 0} (P : X → Type 0) (xs ys : List X) → AllByRecursion P (xs ++ ys) → AllByRecursion P xs
all_front P [] ys all = tt
all_front P (x ∷ xs) ys all = (all.0, all_front P xs ys all.1)

pub all_back : {X : Type 0} (P : X → Type 0) (xs ys : List X) → AllByRecursion P (xs ++ ys) → AllByRecursion P ys
all_back P [] ys all = all
all_back P (x ∷ xs) ys all = all_back P xs ys all.1

pub all_take : {X : Type 0} (P : X → Type 0) (k : ℕ) (xs : List X) → AllByRecursion P xs → AllByRecursion P (take k xs)
all_take P zero xs all = tt
all_take P (suc k) [] all = tt
all_take P (suc k) (x ∷ xs) all = (all.0, all_take P k xs all.1)

pub all_drop : {X : Type 0} (P : X → Type 0) (k : ℕ) (xs : List X) → AllByRecursion P xs → AllByRecursion P (drop k xs)
all_drop P zero xs all = all
all_drop P (suc k) [] all = tt
all_drop P (suc k) (x ∷ xs) all = all_drop P k xs all.1

pub all_at : {X : Type 0} (P : X → Type 0) (xs : List X) (k : ℕ) (x : X) → AllByRecursion P xs → slice_get xs k ≡ Some x → P x
all_at P [] k x all at = absurd (let e : None ≡ Some x = at in cc)
all_at P (y ∷ ys) zero x all at = let e : Some y ≡ Some x = at in let is : y ≡ x = cc in subst P is all.0
all_at P (y ∷ ys) (suc k) x all at = all_at P ys k x all.1 at

pub all_map : {X : Type 0} (P Q : X → Type 0) (xs : List X) → ((x : X) → P x → Q x) → AllByRecursion P xs → AllByRecursion Q xs
all_map P Q [] f all = tt
all_map P Q (x ∷ xs) f all = (f x all.0, all_map P Q xs f all.1)

pub drop_at_get : {X : Type 0} (xs : List X) (k : ℕ) (x : X) → slice_get xs k ≡ Some x → drop k xs ≡ x ∷ drop (suc k) xs
drop_at_get [] k x at = absurd (let e : None ≡ Some x = at in cc)
drop_at_get (y ∷ ys) zero x at = let e : Some y ≡ Some x = at in let is : y ≡ x = cc in ap (λ z. z ∷ ys) is
drop_at_get (y ∷ ys) (suc k) x at = drop_at_get ys k x at

pub take_at_get : {X : Type 0} (xs : List X) (k : ℕ) (x : X) → slice_get xs k ≡ Some x → take (suc k) xs ≡ take k xs ++ x ∷ []
take_at_get [] k x at = absurd (let e : None ≡ Some x = at in cc)
take_at_get (y ∷ ys) zero x at = let e : Some y ≡ Some x = at in let is : y ≡ x = cc in ap (λ z. z ∷ []) is
take_at_get (y ∷ ys) (suc k) x at = ap (λ zs. y ∷ zs) (take_at_get ys k x at)

pub some_at : {X : Type 0} (xs : List X) (k : ℕ) → k < length xs → (x : X) × (slice_get xs k ≡ Some x)
some_at [] k lt = absurd (omega arith)
some_at (x ∷ xs) zero lt = (x, refl)
some_at (x ∷ xs) (suc k) lt = some_at xs k (omega arith)

pub drop_past : {X : Type 0} (xs : List X) (k : ℕ) → length xs ≤ k → drop k xs ≡ []
drop_past [] zero le = refl
drop_past [] (suc k) le = refl
drop_past (x ∷ xs) zero le = absurd (omega arith)
drop_past (x ∷ xs) (suc k) le = drop_past xs k (omega arith)

pub map_take : {X Y : Type 0} (f : X → Y) (k : ℕ) (xs : List X) → map f (take k xs) ≡ take k (map f xs)
map_take f zero xs = refl
map_take f (suc k) [] = refl
map_take f (suc k) (x ∷ xs) = ap (λ ys. f x ∷ ys) (map_take f k xs)

pub map_drop : {X Y : Type 0} (f : X → Y) (k : ℕ) (xs : List X) → map f (drop k xs) ≡ drop k (map f xs)
map_drop f zero xs = refl
map_drop f (suc k) [] = refl
map_drop f (suc k) (x ∷ xs) = map_drop f k xs

pub map_insert : {X Y : Type 0} (f : X → Y) (xs : List X) (k : ℕ) (x : X) → map f (insert xs k x) ≡ insert (map f xs) k (f x)
map_insert f xs k x = map-append f (take k xs) (x ∷ drop k xs) ∙ ap₂ (λ ys zs. ys ++ f x ∷ zs) (map_take f k xs) (map_drop f k xs)

-- ---- sorted entries

abbrev Below : ℕ → List Entry → Type 0
Below id xs = AllByRecursion (λ x. x.id < id) xs

abbrev From : ℕ → List Entry → Type 0
From id xs = AllByRecursion (λ x. id ≤ x.id) xs

abbrev Above : ℕ → List Entry → Type 0
Above id xs = AllByRecursion (λ x. id < x.id) xs

pub above_all : (x : Entry) (xs : List Entry) → Ascending (x ∷ xs) → Above x.id xs
above_all x [] order = tt
above_all x (y ∷ ys) order = (order.0, all_map (λ z. y.id < z.id) (λ z. x.id < z.id) ys (λ z lt. let le : x.id < y.id = order.0 in omega arith) (above_all y ys order.1))

ascending_cons : (x : Entry) (xs : List Entry) → Above x.id xs → Ascending xs → Ascending (x ∷ xs)
ascending_cons x [] above order = tt
ascending_cons x (y ∷ ys) above order = (above.0, order)

pub ascending_drop : (k : ℕ) (xs : List Entry) → Ascending xs → Ascending (drop k xs)
ascending_drop zero xs order = order
ascending_drop (suc k) [] order = tt
ascending_drop (suc k) (x ∷ xs) order = ascending_drop k xs (ascending_tail x xs order)

-- up to one that is below, all are
below_to : (xs : List Entry) (m : ℕ) (x : Entry) (id : ℕ) → Ascending xs → slice_get xs m ≡ Some x → x.id < id → Below id (take (suc m) xs)
below_to [] m x id order at lt = tt
below_to (y ∷ ys) zero x id order at lt = let e : Some y ≡ Some x = at in let is : y ≡ x = cc in (subst (λ (z : Entry). z.id < id) (sym is) lt, tt)
below_to (y ∷ ys) (suc m) x id order at lt =
    let head : y.id < x.id = all_at (λ z. y.id < z.id) ys m x (above_all y ys order) at in
    (omega arith, below_to ys m x id (ascending_tail y ys order) at lt)

-- from one that isn't below, none is
from_on : (xs : List Entry) (m : ℕ) (x : Entry) (id : ℕ) → Ascending xs → slice_get xs m ≡ Some x → id ≤ x.id → From id (drop m xs)
from_on [] zero x id order at le = tt
from_on [] (suc m) x id order at le = tt
from_on (y ∷ ys) zero x id order at le =
    let e : Some y ≡ Some x = at in let is : y ≡ x = cc in
    let here : id ≤ y.id = subst (λ (z : Entry). id ≤ z.id) (sym is) le in
    (here, all_map (λ z. y.id < z.id) (λ z. id ≤ z.id) ys (λ z lt. omega arith) (above_all y ys order))
from_on (y ∷ ys) (suc m) x id order at le = from_on ys m x id (ascending_tail y ys order) at le

-- ---- lookups

pub lookup_front : (id : ℕ) (xs ys : List Entry) → Below id xs → lookup id (xs ++ ys) ≡ lookup id ys
lookup_front id [] ys below = refl
lookup_front id (x ∷ xs) ys below = lookup_there x (xs ++ ys) id (λ is. let lt : x.id < id = below.0 in absurd (omega arith)) ∙ lookup_front id xs ys below.1

lookup_behind : (id : ℕ) (xs : List Entry) → Above id xs → lookup id xs ≡ None
lookup_behind id [] above = refl
lookup_behind id (x ∷ xs) above = lookup_there x xs id (λ is. let lt : id < x.id = above.0 in absurd (omega arith)) ∙ lookup_behind id xs above.1

lookup_place : (id k : ℕ) (xs : List Entry) → Below id (take k xs) → lookup id xs ≡ lookup id (drop k xs)
lookup_place id k xs below = ap (lookup id) (sym (take-append-drop k xs)) ∙ lookup_front id (take k xs) (drop k xs) below

pub lookup_found : (xs : List Entry) (k id : ℕ) (x : Entry) → IsPlace id k xs → slice_get xs k ≡ Some x → x.id ≡ id → lookup id xs ≡ Some x.locators
lookup_found xs k id x place at is =
    lookup_place id k xs place.before ∙ ap (lookup id) (drop_at_get xs k x at) ∙ lookup_here x (drop (suc k) xs) id is

-- all behind a place where another identifier is are above
pub above_place : (xs : List Entry) (k id : ℕ) → Ascending xs → IsPlace id k xs → ((x : Entry) → slice_get xs k ≡ Some x → x.id ≢ id) → Above id (drop k xs)
above_place xs k id order place other = elim (cases_lt k (length xs)) [
  | inl lt ↦ (
      let x : Entry = (some_at xs k lt).0 in
      let at : slice_get xs k ≡ Some x = (some_at xs k lt).1 in
      let tail : drop k xs ≡ x ∷ drop (suc k) xs = drop_at_get xs k x at in
      let from : From id (x ∷ drop (suc k) xs) = subst (From id) tail place.behind in
      let not : x.id ≢ id = other x at in
      let le : id ≤ x.id = from.0 in
      let here : id < x.id = above_of x.id le not in
      let rising : Ascending (x ∷ drop (suc k) xs) = subst Ascending tail (ascending_drop k xs order) in
      subst (Above id) (sym tail) (here, all_map (λ z. x.id < z.id) (λ z. id < z.id) (drop (suc k) xs) (λ z gt. omega arith) (above_all x (drop (suc k) xs) rising)))
  | inr le ↦ subst (Above id) (sym (drop_past xs k le)) tt
]
  where
    above_of : (n : ℕ) → id ≤ n → n ≢ id → id < n
    above_of n le not = elim (cases_lt id n) [ inl lt ↦ lt | inr ge ↦ absurd (not (omega arith)) ]

pub lookup_missed : (xs : List Entry) (k id : ℕ) → Ascending xs → IsPlace id k xs → ((x : Entry) → slice_get xs k ≡ Some x → x.id ≢ id) → lookup id xs ≡ None
lookup_missed xs k id order place other = lookup_place id k xs place.before ∙ lookup_behind id (drop k xs) (above_place xs k id order place other)

-- ---- an entry is put between others

between : (y : Entry) (xs ys : List Entry) (d : ℕ) → Below y.id xs → lookup d (xs ++ y ∷ ys) ≡ (if y.id == d then Some y.locators else lookup d (xs ++ ys))
between y [] ys d below = refl
between y (x ∷ xs) ys d below = elim (cases_eq x.id d) [
  | inl here ↦ (let lt : x.id < y.id = below.0 in
      let other : (y.id == d) ≡ false = ne_eqb y.id d (λ is. absurd (omega arith)) in
      lookup_here x (xs ++ y ∷ ys) d here ∙ sym (lookup_here x (xs ++ ys) d here)
      ∙ sym (ap (λ b. if b then Some y.locators else lookup d (x ∷ (xs ++ ys))) other))
  | inr there ↦ lookup_there x (xs ++ y ∷ ys) d there ∙ between y xs ys d below.1
      ∙ ap (λ o. if y.id == d then Some y.locators else o) (sym (lookup_there x (xs ++ ys) d there))
]

ascending_between : (y : Entry) (xs ys : List Entry) → Ascending (xs ++ ys) → Below y.id xs → Above y.id ys → Ascending (xs ++ y ∷ ys)
ascending_between y [] ys order below above = ascending_cons y ys above order
ascending_between y (x ∷ []) ys order below above = (below.0, ascending_cons y ys above (ascending_tail x ys order))
ascending_between y (x ∷ z ∷ xs) ys order below above = (order.0, ascending_between y (z ∷ xs) ys order.1 below.1 above)

ascending_same : (x y : Entry) (xs ys : List Entry) → x.id ≡ y.id → Ascending (xs ++ x ∷ ys) → Ascending (xs ++ y ∷ ys)
ascending_same x y [] [] is order = tt
ascending_same x y [] (z ∷ ys) is order = (subst (λ (n : ℕ). n < z.id) is order.0, order.1)
ascending_same x y (w ∷ []) ys is order = (subst (λ (n : ℕ). w.id < n) is order.0, ascending_same x y [] ys is order.1)
ascending_same x y (w ∷ v ∷ xs) ys is order = (order.0, ascending_same x y (v ∷ xs) ys is order.1)

-- what was at the place of an entry is no matter
other_same : (x : Entry) (xs ys : List Entry) (d : ℕ) → Below x.id xs → x.id ≢ d → lookup d (xs ++ x ∷ ys) ≡ lookup d (xs ++ ys)
other_same x xs ys d below not =
    between x xs ys d below ∙ ap (λ b. if b then Some x.locators else lookup d (xs ++ ys)) (ne_eqb x.id d not)

short_between : (y : Entry) (xs : List Entry) (k m : ℕ) → AllByRecursion IsShort xs → length y.locators ≤ 8 → AllByRecursion IsShort (take k xs ++ y ∷ drop m xs)
short_between y xs k m all short = all_append IsShort (take k xs) (y ∷ drop m xs) (all_take IsShort k xs all) (short, all_drop IsShort m xs all)

pub put_new : (xs : List Entry) (k : ℕ) (y : Entry) → Ascending xs → IsPlace y.id k xs → ((x : Entry) → slice_get xs k ≡ Some x → x.id ≢ y.id)
    → IsPut xs y.id y.locators (insert xs k y)
put_new xs k y order place other =
    let whole : take k xs ++ drop k xs ≡ xs = take-append-drop k xs in record {
      ascending = ascending_between y (take k xs) (drop k xs) (subst Ascending (sym whole) order) place.before (above_place xs k y.id order place other);
      lookups = λ d. between y (take k xs) (drop k xs) d place.before ∙ ap (λ zs. if y.id == d then Some y.locators else lookup d zs) whole;
      short = λ all few. short_between y xs k k all few;
    }

pub put_old : (xs : List Entry) (k : ℕ) (x y : Entry) → Ascending xs → IsPlace y.id k xs → slice_get xs k ≡ Some x → x.id ≡ y.id
    → IsPut xs y.id y.locators (slice_set xs k y)
put_old xs k x y order place at is =
    let whole : take k xs ++ x ∷ drop (suc k) xs ≡ xs = ap (λ zs. take k xs ++ zs) (sym (drop_at_get xs k x at)) ∙ take-append-drop k xs in
    let set : slice_set xs k y ≡ take k xs ++ y ∷ drop (suc k) xs = set_split xs k y (within xs k x at) in
    subst (IsPut xs y.id y.locators) (sym set) (record {
      ascending = ascending_same x y (take k xs) (drop (suc k) xs) is (subst Ascending (sym whole) order);
      lookups = λ d. between y (take k xs) (drop (suc k) xs) d place.before ∙ by_case d whole (cases_eq y.id d);
      short = λ all few. short_between y xs k (suc k) all few;
    })
  where
    within : (zs : List Entry) (m : ℕ) (z : Entry) → slice_get zs m ≡ Some z → m < length zs
    within [] m z at' = absurd (let e : None ≡ Some z = at' in cc)
    within (w ∷ zs) zero z at' = omega arith
    within (w ∷ zs) (suc m) z at' = let lt : m < length zs = within zs m z at' in omega arith

    by_case : (d : ℕ) → take k xs ++ x ∷ drop (suc k) xs ≡ xs → (y.id ≡ d) ⊎ (y.id ≢ d)
        → (if y.id == d then Some y.locators else lookup d (take k xs ++ drop (suc k) xs)) ≡ (if y.id == d then Some y.locators else lookup d xs)
    by_case d whole (inl here) = let test : (y.id == d) ≡ true = eq-eqb y.id d here in rw test refl
    by_case d whole (inr there) =
        ap (λ o. if y.id == d then Some y.locators else o)
        (sym (other_same x (take k xs) (drop (suc k) xs) d (subst (λ (n : ℕ). Below n (take k xs)) (sym is) place.before) (λ same. there (sym is ∙ same))) ∙ ap (lookup d) whole)

-- ---- what code reads at a place

pub read_at : {X Y : Type 0} (f : X → Y) (xs : List X) (k : ℕ) (d : X) → k < length xs → slice_get (map f xs) k ≡ Some (f (get_or xs k d))
read_at f [] k d lt = absurd (omega arith)
read_at f (y ∷ ys) zero d lt = refl
read_at f (y ∷ ys) (suc k) d lt = read_at f ys k d (omega arith)

pub place_up : (xs : List Entry) (m id : ℕ) (x : Entry) → Ascending xs → slice_get xs m ≡ Some x → x.id < id → Below id (take (m + 1) xs)
place_up xs m id x order at lt = subst (λ (n : ℕ). Below id (take n xs)) (sym (add-one m)) (below_to xs m x id order at lt)

pub place_down : (xs : List Entry) (m id : ℕ) (x : Entry) → Ascending xs → slice_get xs m ≡ Some x → id ≤ x.id → From id (drop m xs)
place_down xs m id x order at le = from_on xs m x id order at le

-- what is at a place has an identifier or not
pub at_is : (xs : List Entry) (k id : ℕ) (x : Entry) (b : Bool) → slice_get xs k ≡ Some x → b ≡ (x.id == id)
    → MatchBool b ((y : Entry) × (slice_get xs k ≡ Some y) × (y.id ≡ id)) ((y : Entry) → slice_get xs k ≡ Some y → y.id ≢ id)
at_is xs k id x b at test = elim (cases_eq x.id id) [
  | inl is ↦ (let e : b ≡ true = test ∙ eq-eqb x.id id is in
      subst (λ c. MatchBool c ((y : Entry) × (slice_get xs k ≡ Some y) × (y.id ≡ id)) ((y : Entry) → slice_get xs k ≡ Some y → y.id ≢ id)) (sym e) (x, at, is))
  | inr not ↦ (let e : b ≡ false = test ∙ ne_eqb x.id id not in
      subst (λ c. MatchBool c ((y : Entry) × (slice_get xs k ≡ Some y) × (y.id ≡ id)) ((y : Entry) → slice_get xs k ≡ Some y → y.id ≢ id)) (sym e)
      (λ y there is. not (let s : Some x ≡ Some y = sym at ∙ there in let same : x ≡ y = cc in ap (λ (z : Entry). z.id) same ∙ is)))
]

pub none_at : {X : Type 0} (xs : List X) (k : ℕ) (x : X) → length xs ≤ k → slice_get xs k ≡ Some x → ⊥
none_at [] k x le at = let e : None ≡ Some x = at in cc
none_at (y ∷ ys) zero x le at = omega arith
none_at (y ∷ ys) (suc k) x le at = none_at ys k x (omega arith) at

pub inside_at : {X : Type 0} (xs : List X) (k : ℕ) (x : X) → slice_get xs k ≡ Some x → k < length xs
inside_at xs k x at = elim (cases_lt k (length xs)) [ inl lt ↦ lt | inr ge ↦ absurd (none_at xs k x ge at) ]

pub one_at : {X : Type 0} (xs : List X) (k : ℕ) (x y : X) → slice_get xs k ≡ Some x → slice_get xs k ≡ Some y → x ≡ y
one_at xs k x y a b = let s : Some x ≡ Some y = sym a ∙ b in cc

-- an entry of the code in place of another with its identifier, or put between others
module _ {X : Type 0} (f : X → Entry) where
  pub put_at : (xs ys : List X) (k : ℕ) (x : Entry) (y : X) → ys ≡ xs → Ascending (map f xs) → IsPlace (f y).id k (map f ys) → slice_get (map f ys) k ≡ Some x → x.id ≡ (f y).id
      → IsPut (map f xs) (f y).id (f y).locators (map f (slice_set xs k y))
  put_at xs ys k x y same order place at is =
      subst (IsPut (map f xs) (f y).id (f y).locators) (sym (map-set f xs k y))
      (put_old (map f xs) k x (f y) order (subst (λ zs. IsPlace (f y).id k (map f zs)) same place) (subst (λ zs. slice_get (map f zs) k ≡ Some x) same at) is)

  pub put_between : (xs ys zs : List X) (k : ℕ) (y : X) → ys ≡ xs → zs ≡ xs → Ascending (map f xs) → IsPlace (f y).id k (map f ys) → ((x : Entry) → slice_get (map f zs) k ≡ Some x → x.id ≢ (f y).id)
      → IsPut (map f xs) (f y).id (f y).locators (map f (insert xs k y))
  put_between xs ys zs k y same same' order place other =
      subst (IsPut (map f xs) (f y).id (f y).locators) (sym (map_insert f xs k y))
      (put_new (map f xs) k (f y) order (subst (λ vs. IsPlace (f y).id k (map f vs)) same place) (subst (λ vs. (x : Entry) → slice_get (map f vs) k ≡ Some x → x.id ≢ (f y).id) same' other))
