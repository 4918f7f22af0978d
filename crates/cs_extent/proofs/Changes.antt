-- What changes of lists do to extents as functions.
use Rattle.std.proofs.Common.{◌≡◌, ◌≢◌, ◌∙◌, ℕ, zero, suc, ◌<◌, ◌≤◌, Bool, true, false, List, [], ◌∷◌, length, set, get_or, replicate, None, ◌+◌, refl, ap, le_trans, ⊎_elim, arith}
use Rattle.std.specs.Prelude.{◌==◌, if◌then◌else◌}
use Rattle.std.specs.List.{AllByRecursion}
use Rattle.std.proofs.lemmas.Bool.Decides.{nat_tests}
use Rattle.std.proofs.lemmas.Bool.{cases_lt}
use Rattle.std.proofs.lemmas.List.{length-map, length-replicate, get_or-set_same, get_or-set_other}
use Rattle.law_machine.specs.Extents.{emptied}
use Rattle.law_machine.specs.Format.{Format}
use Rattle.law_machine.specs.Lists.{with}
use Rattle.cs_frame.specs.Geometries.{IsGeometry}
use Rattle.cs_extent.specs.Frames.{greatest}
use Rattle.cs_extent.specs.State.{State, IsWhole, extents_of, found_at}

pub pointers_at : (pages : ℕ) (xs : List (ℕ × ℕ)) → AllByRecursion (λ x. x.0 ≤ pages) xs → (e : ℕ) → (get_or xs e (0, 0)).0 ≤ pages
pointers_at pages [] all e = omega arith
pointers_at pages (x ∷ xs) all zero = all.0
pointers_at pages (x ∷ xs) all (suc e) = pointers_at pages xs all.1 e

pub zeros_at : (n e : ℕ) → get_or {A = ℕ} (replicate n 0) e 0 ≡ 0
zeros_at zero e = refl
zeros_at (suc n) zero = refl
zeros_at (suc n) (suc e) = zeros_at n e

-- reading a list that was written at one place
pub written_at : {A : Type 0} (xs : List A) (e : ℕ) (v d : A) → e < length xs → (k : ℕ) → get_or (set xs e v) k d ≡ (if k == e then v else get_or xs k d)
written_at xs e v d lt k = split (k == e) refl
  where
    split : (b : Bool) → (k == e) ≡ b → get_or (set xs e v) k d ≡ (if b then v else get_or xs k d)
    split true is = let same : k ≡ e = grind (arith, nat_tests) in ap (λ j. get_or (set xs e v) j d) same ∙ get_or-set_same xs e v d lt
    split false is = let other : k ≢ e = grind (arith, nat_tests) in get_or-set_other xs e k v d other

chosen : {A B : Type 0} (f : A → B) (b : Bool) (x y : A) → f (if b then x else y) ≡ (if b then f x else f y)
chosen f true x y = refl
chosen f false x y = refl

pub reset_extents : (s : State) (e root g : ℕ) → e < length s.written → e < length s.resets → g ≡ suc ((extents_of s).generation e)
    → extents_of (record s { written = set s.written e (0, g); resets = set s.resets e root }) ≡ emptied (extents_of s) e root
reset_extents s e root g lt lr is = λ i. record {
  pointer = λ d. pointers d i;
  generation = λ d. generations d i;
  reset = λ d. written_at s.resets e root 0 lr d i;
  open_extent = s.open_extent;
  swept = λ d. get_or s.swept d false;
  of_runs = λ d. get_or s.of_runs d false;
  found = λ d. get_or s.found d 0;
  fresh = s.fresh;
  last = s.last;
}
  where
    pointers : (d : ℕ) → (get_or (set s.written e (0, g)) d (0, 0)).0 ≡ with (λ k. (get_or s.written k (0, 0)).0) e 0 d
    pointers d = ap (λ (x : ℕ × ℕ). x.0) (written_at s.written e (0, g) (0, 0) lt d) ∙ chosen (λ (x : ℕ × ℕ). x.0) (d == e) (0, g) (get_or s.written d (0, 0))

    generations : (d : ℕ) → (get_or (set s.written e (0, g)) d (0, 0)).1 ≡ with (λ k. (get_or s.written k (0, 0)).1) e (suc ((get_or s.written e (0, 0)).1)) d
    generations d = ap (λ (x : ℕ × ℕ). x.1) (written_at s.written e (0, g) (0, 0) lt d) ∙ chosen (λ (x : ℕ × ℕ). x.1) (d == e) (0, g) (get_or s.written d (0, 0)) ∙ ap (λ m. if d == e then m else (get_or s.written d (0, 0)).1) is

-- the pointer of one extent is moved on
pub advanced_extents : (s : State) (e k : ℕ) (x : ℕ × ℕ) → e < length s.written → x.0 ≡ (extents_of s).pointer e + k → x.1 ≡ (extents_of s).generation e
    → extents_of (record s { written = set s.written e x }) ≡ record (extents_of s) { pointer = with (extents_of s).pointer e ((extents_of s).pointer e + k) }
advanced_extents s e k x lt p g = λ i. record {
  pointer = λ d. pointers d i;
  generation = λ d. generations d i;
  reset = λ d. get_or s.resets d 0;
  open_extent = s.open_extent;
  swept = λ d. get_or s.swept d false;
  of_runs = λ d. get_or s.of_runs d false;
  found = λ d. get_or s.found d 0;
  fresh = s.fresh;
  last = s.last;
}
  where
    pointers : (d : ℕ) → (get_or (set s.written e x) d (0, 0)).0 ≡ with (λ k. (get_or s.written k (0, 0)).0) e ((get_or s.written e (0, 0)).0 + k) d
    pointers d = ap (λ (y : ℕ × ℕ). y.0) (written_at s.written e x (0, 0) lt d) ∙ chosen (λ (y : ℕ × ℕ). y.0) (d == e) x (get_or s.written d (0, 0)) ∙ ap (λ m. if d == e then m else (get_or s.written d (0, 0)).0) p

    kept : (d : ℕ) (b : Bool) → (d == e) ≡ b → (if b then x.1 else (get_or s.written d (0, 0)).1) ≡ (get_or s.written d (0, 0)).1
    kept d true here = let same : e ≡ d = grind (arith, nat_tests) in g ∙ ap (λ j. (get_or s.written j (0, 0)).1) same
    kept d false here = refl

    generations : (d : ℕ) → (get_or (set s.written e x) d (0, 0)).1 ≡ (get_or s.written d (0, 0)).1
    generations d = ap (λ (y : ℕ × ℕ). y.1) (written_at s.written e x (0, 0) lt d) ∙ chosen (λ (y : ℕ × ℕ). y.1) (d == e) x (get_or s.written d (0, 0)) ∙ kept d (d == e) refl

-- the extents that a superblock's sections record
pub whole_new : (format : Format) (pages sections : ℕ) (written : List (ℕ × ℕ)) → IsGeometry format (length written) pages sections → AllByRecursion (λ x. x.0 ≤ pages) written
    → (resets : List ℕ) (swept of_runs : List Bool) (found : List ℕ) → resets ≡ replicate (length written) 0
    → swept ≡ replicate (length written) false → of_runs ≡ replicate (length written) false → length found ≡ length written
    → ((e : ℕ) → get_or found e 0 ≤ (get_or written e (0, 0)).0) → IsWhole (record { format = format; pages = pages; sections = sections; written = written; resets = resets; swept = swept; open_extent = None; of_runs = of_runs; found = found; fresh = None; last = None })
whole_new format pages sections written is all resets swept of_runs found zeros falses kinds founds low = record {
  geometry = is;
  all_resets = ap length zeros ∙ length-replicate (length written) 0;
  all_swept = ap length falses ∙ length-replicate (length written) false;
  all_kinds = ap length kinds ∙ length-replicate (length written) false;
  all_found = founds;
  pointers = pointers_at pages written all;
  found_pages = λ e. le_trans (low e) (pointers_at pages written all e);
  found_given = λ on e. low e;
  roots = λ e. let zero_at : get_or resets e 0 ≡ 0 = ap (λ xs. get_or xs e 0) zeros ∙ zeros_at (length written) e in omega (arith, zero_at);
  open_inside = λ e is. absurd (cc is);
  open_begun = λ e is. absurd (cc is);
}

-- as many are found as there are extents
pub found_length : (apart : Bool) (written : List (ℕ × ℕ)) → length (found_at apart written) ≡ length written
found_length false written = length-replicate (length written) 0
found_length true written = length-map written (λ (row : ℕ × ℕ). row.0)

-- and no more pages of each than are given
pub found_within : (apart : Bool) (written : List (ℕ × ℕ)) (e : ℕ) → get_or (found_at apart written) e 0 ≤ (get_or written e (0, 0)).0
found_within false written e = let none : get_or (replicate (length written) 0) e 0 ≡ 0 = zeros_at (length written) e in omega (arith, none)
found_within true [] e = omega arith
found_within true (x ∷ xs) zero = omega arith
found_within true (x ∷ xs) (suc e) = found_within true xs e

pub all_pointers : (pages : ℕ) (xs : List (ℕ × ℕ)) → ((e : ℕ) → (get_or xs e (0, 0)).0 ≤ pages) → AllByRecursion (λ x. x.0 ≤ pages) xs
all_pointers pages [] each = tt
all_pointers pages (x ∷ xs) each = (each 0, all_pointers pages xs (λ e. each (suc e)))

-- the greatest of numbers

pub greatest_below : (f : ℕ → ℕ) (n bound : ℕ) → ((e : ℕ) → e < n → f e ≤ bound) → greatest f n ≤ bound
greatest_below f zero bound each = omega arith
greatest_below f (suc n) bound each = omega (arith, each n (omega arith), greatest_below f n bound (λ e lt. each e (omega (arith, lt))))

pub greatest_within : (f : ℕ → ℕ) (n bound : ℕ) → ((e : ℕ) → f e ≤ bound) → greatest f n ≤ bound
greatest_within f n bound each = greatest_below f n bound (λ e lt. each e)

pub greatest_is : (f : ℕ → ℕ) (n e : ℕ) → e < n → f e ≤ greatest f n
greatest_is f zero e lt = absurd (omega (arith, lt))
greatest_is f (suc n) e lt = ⊎_elim
    (λ (l : e < n). omega (arith, greatest_is f n e l))
    (λ (l : n ≤ e). let same : e ≡ n = omega (arith, l, lt) in let here : f e ≡ f n = ap f same in omega (arith, here))
    (cases_lt e n)
