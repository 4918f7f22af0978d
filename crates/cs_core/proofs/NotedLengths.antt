-- What is noted of extents.
use Rattle.std.proofs.Common.{◌≡◌, ◌≢◌, ◌∙◌, ◌⊎◌, ap₂, ℕ, zero, suc, ◌<◌, ◌==◌, Bool, true, false, List, [], ◌∷◌, ◌++◌, Option, Some, None, Result, Ok, Err, if◌then◌else◌, length, get_or, slice_set, eq-eqb, ne_eqb, refl, sym, ap, inl, inr, arith}
use Rattle.std.specs.Prelude.{IsOk, is_ok, slice_get}
use Rattle.std.proofs.lemmas.Bool.{cases_eq}
use Rattle.std.proofs.lemmas.Option.{same_Some}
use Rattle.cs_frame.specs.declared.locators.Locator.{Locator}
use Rattle.cs_core.specs.declared.lengths.Frame.{Frame}
use Rattle.cs_core.specs.Lengths.{Row, count_of, frame_on, noted_at, noted_by, noted_in, noted_of, noted_then}

-- where it was ok the first
pub of_ok : {A B X : Type 0} (r : Result A B) (a b : X) → IsOk r → (if is_ok r then a else b) ≡ a
of_ok (Ok x) a b ok = refl
of_ok (Err e) a b ok = absurd (cc ok)

-- ---- one extent

-- what another number than the row's generation finds
of_other : (row : Row) (l : Locator) → row.generation ≢ l.generation → noted_in row l ≡ None
of_other row l not = let test : (row.generation == l.generation) ≡ false = ne_eqb row.generation l.generation not in rw test

of_same : (row : Row) (l : Locator) → row.generation ≡ l.generation → noted_in row l ≡ count_of (frame_on row.frames l.page) l.mark
of_same row l is = let test : (row.generation == l.generation) ≡ true = eq-eqb row.generation l.generation is in rw test

-- the frame of k, which has n bytes
abbrev pub frame_of : Locator → ℕ → Frame
frame_of k n = record { mark = k.mark; count = n; page = k.page }

-- what is left of a row once it is of k's generation
pub record IsLeft (old : Row) (k : Locator) (left : List Frame) : Type 0 where
  pub same : old.generation ≡ k.generation → left ≡ old.frames
  pub other : old.generation ≢ k.generation → left ≡ []

pub noted_now : (old new : Row) (left : List Frame) (k : Locator) (n : ℕ) → new.generation ≡ k.generation → IsLeft old k left
    → ((page : ℕ) → frame_on new.frames page ≡ (if k.page == page then Some (frame_of k n) else frame_on left page))
    → (l : Locator) → noted_in new l ≡ noted_by (noted_in old) k n l
noted_now old new left k n generation is put l = elim (cases_eq k.generation l.generation) [
  | inl same ↦ (let test : (k.generation == l.generation) ≡ true = eq-eqb k.generation l.generation same in
      of_same new l (generation ∙ same) ∙ ap (λ (o : Option Frame). count_of o l.mark) (put l.page) ∙ rw test (on_page same))
  | inr not ↦ (let test : (k.generation == l.generation) ≡ false = ne_eqb k.generation l.generation not in
      of_other new l (λ same. not (sym generation ∙ same)) ∙ rw test refl)
]
  where
    before : k.generation ≡ l.generation → count_of (frame_on left l.page) l.mark ≡ noted_in old l
    before same = elim (cases_eq old.generation k.generation) [
      | inl of_k ↦ ap (λ (fs : List Frame). count_of (frame_on fs l.page) l.mark) (is.same of_k) ∙ sym (of_same old l (of_k ∙ same))
      | inr not ↦ ap (λ (fs : List Frame). count_of (frame_on fs l.page) l.mark) (is.other not) ∙ sym (of_other old l (λ of_l. not (of_l ∙ sym same)))
    ]

    on_page : k.generation ≡ l.generation → count_of (if k.page == l.page then Some (frame_of k n) else frame_on left l.page) l.mark
        ≡ (if k.page == l.page then (if k.mark == l.mark then Some n else None) else noted_in old l)
    on_page same = elim (cases_eq k.page l.page) [
      | inl is_page ↦ (let test : (k.page == l.page) ≡ true = eq-eqb k.page l.page is_page in rw test refl)
      | inr not ↦ (let test : (k.page == l.page) ≡ false = ne_eqb k.page l.page not in rw test (before same))
    ]

-- ---- all extents

abbrev empty_row : Row
empty_row = record { generation = 0; frames = [] }

none_in_empty : (l : Locator) → noted_in empty_row l ≡ None
none_in_empty l = either (0 == l.generation)
  where
    either : (b : Bool) → (if b then count_of None l.mark else None) ≡ None
    either true = refl
    either false = refl

pub one_more_row : (rows : List Row) (l : Locator) (e : ℕ) → noted_of (slice_get (rows ++ record { generation = 0; frames = [] } ∷ []) e) l ≡ noted_of (slice_get rows e) l
one_more_row [] l zero = none_in_empty l
one_more_row [] l (suc e) = refl
one_more_row (row ∷ rows) l zero = refl
one_more_row (row ∷ rows) l (suc e) = one_more_row rows l e

set_there : (rows : List Row) (e : ℕ) (x : Row) → e < length rows → slice_get (slice_set rows e x) e ≡ Some x
set_there [] e x lt = absurd (omega (arith, lt))
set_there (row ∷ rows) zero x lt = refl
set_there (row ∷ rows) (suc e) x lt = set_there rows e x (omega (arith, lt))

set_other : (rows : List Row) (e i : ℕ) (x : Row) → e ≢ i → slice_get (slice_set rows e x) i ≡ slice_get rows i
set_other [] e i x not = refl
set_other (row ∷ rows) zero zero x not = absurd (not refl)
set_other (row ∷ rows) zero (suc i) x not = refl
set_other (row ∷ rows) (suc e) zero x not = refl
set_other (row ∷ rows) (suc e) (suc i) x not = set_other rows e i x (λ same. not (ap suc same))

row_there : (rows : List Row) (e : ℕ) (d : Row) → e < length rows → slice_get rows e ≡ Some (get_or rows e d)
row_there [] e d lt = absurd (omega (arith, lt))
row_there (row ∷ rows) zero d lt = refl
row_there (row ∷ rows) (suc e) d lt = row_there rows e d (omega (arith, lt))

-- what is noted in the row of k's extent is noted
pub noted_row : (rows : List Row) (e : ℕ) (row x : Row) (k : Locator) (n : ℕ) → e < length rows → e ≡ k.extent → row ≡ get_or rows e row
    → ((l : Locator) → noted_in x l ≡ noted_by (noted_in row) k n l) → (l : Locator) → noted_at (slice_set rows e x) l ≡ noted_then (noted_at rows) k n l
noted_row rows e row x k n lt is at noted l = elim (cases_eq k.extent l.extent) [
  | inl same ↦ (
      let test : (k.extent == l.extent) ≡ true = eq-eqb k.extent l.extent same in
      let there : slice_get rows l.extent ≡ Some row = ap (slice_get rows) (sym (is ∙ same)) ∙ row_there rows e row lt ∙ ap (λ (r : Row). Some r) (sym at) in
      ap (λ (i : ℕ). noted_of (slice_get (slice_set rows e x) i) l) (sym (is ∙ same)) ∙ ap (λ (o : Option Row). noted_of o l) (set_there rows e x lt)
      ∙ noted l
      ∙ ap (λ (o : Option ℕ). if k.generation == l.generation then (if k.page == l.page then (if k.mark == l.mark then Some n else None) else o) else None)
      (sym (ap (λ (o : Option Row). noted_of o l) there))
      ∙ rw test refl)
  | inr not ↦ (
      let test : (k.extent == l.extent) ≡ false = ne_eqb k.extent l.extent not in
      ap (λ (o : Option Row). noted_of o l) (set_other rows e l.extent x (λ same. not (sym is ∙ same))) ∙ rw test refl)
]

-- what is noted then of a place depends on what was noted of it alone
pub noted_same : (old other : Locator → Option ℕ) (k : Locator) (n : ℕ) (l : Locator) → other l ≡ old l → noted_then other k n l ≡ noted_then old k n l
noted_same old other k n l same = ap (λ (o : Option ℕ). if k.extent == l.extent
    then (if k.generation == l.generation then (if k.page == l.page then (if k.mark == l.mark then Some n else None) else o) else None) else o) same

-- ---- what is noted anew

pub same_place : (k l : Locator) → k.extent ≡ l.extent → k.page ≡ l.page → k.generation ≡ l.generation → k.mark ≡ l.mark → k ≡ l
same_place k l extent page generation mark =
    ap₂ (λ (e p : ℕ). record { extent = e; page = p; generation = k.generation; mark = k.mark }) extent page
    ∙ ap₂ (λ (g m : ℕ). record { extent = l.extent; page = l.page; generation = g; mark = m }) generation mark

-- a length that is noted is one that was, or the one that was noted last
pub old_or_new : (old : Locator → Option ℕ) (k : Locator) (n : ℕ) (l : Locator) (m : ℕ) → noted_then old k n l ≡ Some m → (old l ≡ Some m) ⊎ ((k ≡ l) × (n ≡ m))
old_or_new old k n l m is = elim (cases_eq k.extent l.extent) [
  | inr not ↦ (
      let test : (k.extent == l.extent) ≡ false = ne_eqb k.extent l.extent not in
      let e : noted_then old k n l ≡ old l = rw test refl in inl (sym e ∙ is))
  | inl extent ↦ elim (cases_eq k.generation l.generation) [
    | inr not ↦ (
        let t : (k.extent == l.extent) ≡ true = eq-eqb k.extent l.extent extent in
        let test : (k.generation == l.generation) ≡ false = ne_eqb k.generation l.generation not in
        let e : noted_then old k n l ≡ None = rw (t, test) refl in absurd (cc (sym e ∙ is)))
    | inl generation ↦ elim (cases_eq k.page l.page) [
      | inr not ↦ (
          let t : (k.extent == l.extent) ≡ true = eq-eqb k.extent l.extent extent in
          let u : (k.generation == l.generation) ≡ true = eq-eqb k.generation l.generation generation in
          let test : (k.page == l.page) ≡ false = ne_eqb k.page l.page not in
          let e : noted_then old k n l ≡ old l = rw (t, u, test) refl in inl (sym e ∙ is))
      | inl page ↦ elim (cases_eq k.mark l.mark) [
        | inr not ↦ (
            let t : (k.extent == l.extent) ≡ true = eq-eqb k.extent l.extent extent in
            let u : (k.generation == l.generation) ≡ true = eq-eqb k.generation l.generation generation in
            let v : (k.page == l.page) ≡ true = eq-eqb k.page l.page page in
            let test : (k.mark == l.mark) ≡ false = ne_eqb k.mark l.mark not in
            let e : noted_then old k n l ≡ None = rw (t, u, v, test) refl in absurd (cc (sym e ∙ is)))
        | inl mark ↦ (
            let t : (k.extent == l.extent) ≡ true = eq-eqb k.extent l.extent extent in
            let u : (k.generation == l.generation) ≡ true = eq-eqb k.generation l.generation generation in
            let v : (k.page == l.page) ≡ true = eq-eqb k.page l.page page in
            let test : (k.mark == l.mark) ≡ true = eq-eqb k.mark l.mark mark in
            let e : noted_then old k n l ≡ Some n = rw (t, u, v, test) refl in
            inr (same_place k l extent page generation mark, same_Some n m (sym e ∙ is)))
      ]
    ]
  ]
]

-- ---- what is noted then

-- the place that was noted last
pub noted_here : (old : Locator → Option ℕ) (k : Locator) (n : ℕ) → noted_then old k n k ≡ Some n
noted_here old k n =
    let t : (k.extent == k.extent) ≡ true = eq-eqb k.extent k.extent refl in
    let u : (k.generation == k.generation) ≡ true = eq-eqb k.generation k.generation refl in
    let v : (k.page == k.page) ≡ true = eq-eqb k.page k.page refl in
    let w : (k.mark == k.mark) ≡ true = eq-eqb k.mark k.mark refl in
    rw (t, u, v, w) refl

-- a place on another page, where both are of one generation of an extent, or on another extent
pub noted_still : (old : Locator → Option ℕ) (k : Locator) (n : ℕ) (l : Locator)
    → (k.extent ≡ l.extent → (k.generation ≡ l.generation) × (k.page ≢ l.page)) → noted_then old k n l ≡ old l
noted_still old k n l apart = elim (cases_eq k.extent l.extent) [
  | inr not ↦ (let test : (k.extent == l.extent) ≡ false = ne_eqb k.extent l.extent not in rw test refl)
  | inl extent ↦ (
      let t : (k.extent == l.extent) ≡ true = eq-eqb k.extent l.extent extent in
      let u : (k.generation == l.generation) ≡ true = eq-eqb k.generation l.generation (apart extent).0 in
      let v : (k.page == l.page) ≡ false = ne_eqb k.page l.page (apart extent).1 in
      rw (t, u, v) refl)
]
