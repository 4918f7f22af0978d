-- Frames that are noted by rising pages: what a search finds, and what is noted once one more is.
use Rattle.std.proofs.Common.{◌≡◌, ◌≢◌, ◌∙◌, ℕ, zero, suc, ◌+◌, ◌<◌, ◌≤◌, ◌==◌, true, false, List, [], ◌∷◌, Option, Some, None, if◌then◌else◌, length, get_or, slice_set, eq-eqb, ne_eqb, refl, sym, ap, subst, inl, inr, ⊎_elim, arith, Ordering, Less, Equal, Greater, is_lt, nat_cmp}
use Rattle.std.proofs.lemmas.Bool.{cases_eq, cases_lt}
use Rattle.std.proofs.lemmas.Cmp.{nat_cmp_total, ranked}
use Rattle.std.proofs.lemmas.List.Sorted.{searchable_from_sorted}
use Rattle.std.specs.Cmp.{nat_cmp_is}
use Rattle.std.specs.List.{AllByRecursion, HoldsAt, insert}
use Rattle.std.specs.List.Sorted.{IsNonDecreasingBy, IsPartitionPoint, IsSortedBy}
use Rattle.std.specs.Ordering.{MatchOrdering, ordering_index}
use Rattle.cs_core.specs.declared.lengths.Frame.{Frame}
use Rattle.cs_core.specs.Lengths.{Rise, frame_on}

-- ---- pages

less_number : (x y : ℕ) → nat_cmp x y ≡ Less → x < y
less_number x y is = subst (λ (o : Ordering). MatchOrdering o (x < y) (x ≡ y) (y < x)) is (ranked x y (nat_cmp x y) refl)

pub same_number : (x y : ℕ) → nat_cmp x y ≡ Equal → x ≡ y
same_number x y is = subst (λ (o : Ordering). MatchOrdering o (x < y) (x ≡ y) (y < x)) is (ranked x y (nat_cmp x y) refl)

more_number : (x y : ℕ) → nat_cmp x y ≡ Greater → y < x
more_number x y is = subst (λ (o : Ordering). MatchOrdering o (x < y) (x ≡ y) (y < x)) is (ranked x y (nat_cmp x y) refl)

later : (p : ℕ) (fs : List Frame) (k : ℕ) (d : Frame) → AllByRecursion (λ g. p < g.page) fs → k < length fs → p < (get_or fs k d).page
later p [] k d all lt = absurd (omega (arith, lt))
later p (g ∷ fs) zero d all lt = all.0
later p (g ∷ fs) (suc k) d all lt = later p fs k d all.1 (omega (arith, lt))

rising : (fs : List Frame) (i j : ℕ) (d : Frame) → Rise fs → i < j → j < length fs → (get_or fs i d).page < (get_or fs j d).page
rising [] i j d rise lt inside = absurd (omega (arith, inside))
rising (f ∷ fs) i zero d rise lt inside = absurd (omega (arith, lt))
rising (f ∷ fs) zero (suc j) d rise lt inside = later f.page fs j d rise.0 (omega (arith, inside))
rising (f ∷ fs) (suc i) (suc j) d rise lt inside = rising fs i j d rise.1 (omega (arith, lt)) (omega (arith, inside))

-- ---- what is on a page

off_page : (f : Frame) (fs : List Frame) (p : ℕ) → f.page ≢ p → frame_on (f ∷ fs) p ≡ frame_on fs p
off_page f fs p not = let test : (f.page == p) ≡ false = ne_eqb f.page p not in rw test

on_page : (f : Frame) (fs : List Frame) (p : ℕ) → f.page ≡ p → frame_on (f ∷ fs) p ≡ Some f
on_page f fs p is = let test : (f.page == p) ≡ true = eq-eqb f.page p is in rw test

absent : (fs : List Frame) (p : ℕ) → ((k : ℕ) (d : Frame) → k < length fs → (get_or fs k d).page ≢ p) → frame_on fs p ≡ None
absent [] p none = refl
absent (f ∷ fs) p none = off_page f fs p (none 0 f (omega arith)) ∙ absent fs p (λ k d lt. none (suc k) d (omega (arith, lt)))

present : (fs : List Frame) (k : ℕ) (d : Frame) (p : ℕ) → Rise fs → k < length fs → (get_or fs k d).page ≡ p → frame_on fs p ≡ Some (get_or fs k d)
present [] k d p rise lt is = absurd (omega (arith, lt))
present (f ∷ fs) zero d p rise lt is = on_page f fs p is
present (f ∷ fs) (suc k) d p rise lt is =
    let before : f.page < (get_or fs k d).page = later f.page fs k d rise.0 (omega (arith, lt)) in
    off_page f fs p (λ same. absurd (omega (arith, before, is, same))) ∙ present fs k d p rise.1 (omega (arith, lt)) is

-- ---- what a search by pages finds

sorted : (fs : List Frame) → Rise fs → IsSortedBy (λ (a b : Frame). is_lt (nat_cmp a.page b.page)) fs
sorted fs rise k d low lt =
    let up : (get_or fs k d).page < (get_or fs (k + 1) d).page = rising fs k (k + 1) d rise (omega arith) lt in
    ap is_lt (sym (nat_cmp_is (get_or fs (k + 1) d).page (get_or fs k d).page Greater up))

searchable : (fs : List Frame) (p : ℕ) → Rise fs → IsNonDecreasingBy (λ (f : Frame). ordering_index (nat_cmp f.page p)) fs
searchable fs p rise = searchable_from_sorted nat_cmp_total (λ (f : Frame). f.page) fs p (sorted fs rise)

pub found : (fs : List Frame) (p k : ℕ) (d : Frame) → Rise fs → k < length fs → HoldsAt (λ (f : Frame). nat_cmp f.page p ≡ Equal) fs k → Some (get_or fs k d) ≡ frame_on fs p
found fs p k d rise lt equal = sym (present fs k d p rise lt (same_number (get_or fs k d).page p (equal d)))

-- a place between earlier and later pages
pub record IsBetween (fs : List Frame) (p k : ℕ) : Type 0 where
  pub inside : k ≤ length fs
  pub before : (j : ℕ) (d : Frame) → j < k → (get_or fs j d).page < p
  pub behind : (j : ℕ) (d : Frame) → k ≤ j → j < length fs → p < (get_or fs j d).page

pub between : (fs : List Frame) (p k : ℕ) → Rise fs → k ≤ length fs
    → (IsNonDecreasingBy (λ (f : Frame). ordering_index (nat_cmp f.page p)) fs
    → IsPartitionPoint (λ (f : Frame). nat_cmp f.page p ≡ Less) (λ (f : Frame). nat_cmp f.page p ≡ Greater) fs k) → IsBetween fs p k
between fs p k rise inside parted = record {
  inside = inside;
  before = λ j d lt. less_number (get_or fs j d).page p ((parted (searchable fs p rise)).0 j d (omega arith) lt);
  behind = λ j d low lt. more_number (get_or fs j d).page p ((parted (searchable fs p rise)).1 j d low lt);
}

pub not_found : (fs : List Frame) (p k : ℕ) → IsBetween fs p k → None ≡ frame_on fs p
not_found fs p k at = sym (absent fs p (λ j d lt. ⊎_elim
    (λ (low : j < k). λ same. absurd (let before : (get_or fs j d).page < p = at.before j d low in omega (arith, before, same)))
    (λ (high : k ≤ j). λ same. absurd (let behind : p < (get_or fs j d).page = at.behind j d high lt in omega (arith, behind, same)))
    (cases_lt j k)))

-- ---- a frame is noted in place of the one on its page

set_later : (p : ℕ) (fs : List Frame) (k : ℕ) (x : Frame) → AllByRecursion (λ g. p < g.page) fs → p < x.page → AllByRecursion (λ g. p < g.page) (slice_set fs k x)
set_later p [] k x all lt = tt
set_later p (f ∷ fs) zero x all lt = (lt, all.1)
set_later p (f ∷ fs) (suc k) x all lt = (all.0, set_later p fs k x all.1 lt)

pub set_rise : (fs : List Frame) (k : ℕ) (x d : Frame) → Rise fs → k < length fs → (get_or fs k d).page ≡ x.page → Rise (slice_set fs k x)
set_rise [] k x d rise lt same = absurd (omega (arith, lt))
set_rise (f ∷ fs) zero x d rise lt same = (subst (λ (n : ℕ). AllByRecursion (λ g. n < g.page) fs) same rise.0, rise.1)
set_rise (f ∷ fs) (suc k) x d rise lt same = (
  set_later f.page fs k x rise.0 (subst (λ (n : ℕ). f.page < n) same (later f.page fs k d rise.0 (omega (arith, lt)))),
  set_rise fs k x d rise.1 (omega (arith, lt)) same,
)

-- one more behind a frame of an earlier page
behind_one : (f x : Frame) (fs gs : List Frame) (p : ℕ) → f.page < x.page → frame_on gs p ≡ (if x.page == p then Some x else frame_on fs p)
    → frame_on (f ∷ gs) p ≡ (if x.page == p then Some x else frame_on (f ∷ fs) p)
behind_one f x fs gs p lt rest = elim (cases_eq f.page p) [
  | inl is ↦ (let test : (x.page == p) ≡ false = ne_eqb x.page p (λ same. absurd (omega (arith, lt, is, same))) in
      on_page f gs p is ∙ rw test (sym (on_page f fs p is)))
  | inr not ↦ off_page f gs p not ∙ rest ∙ ap (λ (o : Option Frame). if x.page == p then Some x else o) (sym (off_page f fs p not))
]

pub set_on : (fs : List Frame) (k : ℕ) (x d : Frame) → Rise fs → k < length fs → (get_or fs k d).page ≡ x.page → (p : ℕ)
    → frame_on (slice_set fs k x) p ≡ (if x.page == p then Some x else frame_on fs p)
set_on [] k x d rise lt same p = absurd (omega (arith, lt))
set_on (f ∷ fs) zero x d rise lt same p = elim (cases_eq x.page p) [
  | inl is ↦ (let test : (x.page == p) ≡ true = eq-eqb x.page p is in rw test refl)
  | inr not ↦ off_page x fs p not ∙ (let test : (x.page == p) ≡ false = ne_eqb x.page p not in rw test (sym (off_page f fs p (λ is. not (sym same ∙ is)))))
]
set_on (f ∷ fs) (suc k) x d rise lt same p =
    behind_one f x fs (slice_set fs k x) p (subst (λ (n : ℕ). f.page < n) same (later f.page fs k d rise.0 (omega (arith, lt))))
    (set_on fs k x d rise.1 (omega (arith, lt)) same p)

-- ---- a frame is noted between others

all_later : (p : ℕ) (fs : List Frame) → ((j : ℕ) (d : Frame) → j < length fs → p < (get_or fs j d).page) → AllByRecursion (λ g. p < g.page) fs
all_later p [] each = tt
all_later p (f ∷ fs) each = (each 0 f (omega arith), all_later p fs (λ j d lt. each (suc j) d (omega (arith, lt))))

insert_later : (p : ℕ) (fs : List Frame) (k : ℕ) (x : Frame) → AllByRecursion (λ g. p < g.page) fs → p < x.page → AllByRecursion (λ g. p < g.page) (insert fs k x)
insert_later p fs zero x all lt = (lt, all)
insert_later p [] (suc k) x all lt = (lt, tt)
insert_later p (f ∷ fs) (suc k) x all lt = (all.0, insert_later p fs k x all.1 lt)

tail_between : (f : Frame) (fs : List Frame) (p k : ℕ) → IsBetween (f ∷ fs) p (suc k) → IsBetween fs p k
tail_between f fs p k at = record {
  inside = omega (arith, at.inside);
  before = λ j d lt. at.before (suc j) d (omega (arith, lt));
  behind = λ j d low lt. at.behind (suc j) d (omega (arith, low)) (omega (arith, lt));
}

pub insert_rise : (fs : List Frame) (k : ℕ) (x : Frame) → Rise fs → IsBetween fs x.page k → Rise (insert fs k x)
insert_rise fs zero x rise at = (all_later x.page fs (λ j d lt. at.behind j d (omega arith) lt), rise)
insert_rise [] (suc k) x rise at = (tt, tt)
insert_rise (f ∷ fs) (suc k) x rise at = (
  insert_later f.page fs k x rise.0 (at.before 0 f (omega arith)),
  insert_rise fs k x rise.1 (tail_between f fs x.page k at),
)

pub insert_on : (fs : List Frame) (k : ℕ) (x : Frame) → IsBetween fs x.page k → (p : ℕ)
    → frame_on (insert fs k x) p ≡ (if x.page == p then Some x else frame_on fs p)
insert_on fs zero x at p = refl
insert_on [] (suc k) x at p = refl
insert_on (f ∷ fs) (suc k) x at p = behind_one f x fs (insert fs k x) p (at.before 0 f (omega arith)) (insert_on fs k x (tail_between f fs x.page k at) p)
