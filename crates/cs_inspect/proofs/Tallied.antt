-- Counting, chunk by chunk.
use Rattle.std.proofs.Common.{◌≡◌, ◌≢◌, ◌∙◌, ◌⊎◌, inl, inr, ⊎_elim, ◌++◌, ◌∷◌, ◌≤◌, ◌<◌, ◌+◌, ◌-◌, ◌^◌, ◌==◌, ℕ, zero, suc, min, true, false, List, [], Option, None, Some, eq-eqb, ne_eqb, refl, sym, ap, subst, arith, length, if◌then◌else◌}
use Rattle.std.specs.Prelude.{slice_get, slice_index, slice_set}
use Rattle.std.proofs.lemmas.Bool.{cases_eq}
use Rattle.std.proofs.lemmas.Grind.{get_or-set_at}
use Rattle.std.proofs.lemmas.List.{get_or-set_other, length-set, length_push}
use Rattle.std.proofs.lemmas.Option.{same_Some, slice_get_within}
use Rattle.cs_disk.specs.Disk.{Rises}
use Rattle.law_machine.specs.Extents.{Extents}
use Rattle.cs_inspect.specs.Brim.{AreSurveyed, greatest_in}
use Rattle.cs_inspect.specs.declared.surveys.ExtentUse.{ExtentUse}
use Rattle.cs_inspect.specs.Uses.{AreBounded, AreCounted, AreCountedAsRead, AreExtents, AreRead, AreReadAs, AreSums, AreTallied, AreUses, Head, IsExtent, lost_in, lost_one, missing_in, pages_in, sum_on}

-- ---- sums

-- what one head adds to a sum
abbrev at_one : (Option ℕ → ℕ) → ℕ → Head → ℕ
at_one count e h = if h.0 == e then count h.1 else 0

at_it : (count : Option ℕ → ℕ) (k e : ℕ) (x : Option ℕ) → k ≡ e → (if k == e then count x else 0) ≡ count x
at_it count k e x is = let test : (k == e) ≡ true = eq-eqb k e is in rw test

at_other : (count : Option ℕ → ℕ) (k e : ℕ) (x : Option ℕ) → k ≢ e → (if k == e then count x else 0) ≡ 0
at_other count k e x not = let test : (k == e) ≡ false = ne_eqb k e not in rw test

sum_last : (count : Option ℕ → ℕ) (e : ℕ) (hs : List Head) (k : ℕ) (x : Option ℕ) → sum_on count e (hs ++ (k, x) ∷ []) ≡ sum_on count e hs + (if k == e then count x else 0)
sum_last count e [] k x = omega arith
sum_last count e (h ∷ hs) k x =
    let more : sum_on count e (hs ++ (k, x) ∷ []) ≡ sum_on count e hs + (if k == e then count x else 0) = sum_last count e hs k x in
    plus (if h.0 == e then count h.1 else 0) _ (sum_on count e hs) _ more
  where
    plus : (a b c d : ℕ) → b ≡ c + d → a + b ≡ a + c + d
    plus a b c d e = omega (arith, e)

capped : (a w : ℕ) → min (min a (2 ^ 64 - 1) + w) (2 ^ 64 - 1) ≡ min (a + w) (2 ^ 64 - 1)
capped a w = go (2 ^ 64 - 1)
  where
    go : (m : ℕ) → min (min a m + w) m ≡ min (a + w) m
    go m = omega arith

module _ (count : Option ℕ → ℕ) (hs : List Head) (sums : List ℕ) (was : AreSums count hs sums) (k : ℕ) (x : Option ℕ) where
  -- a count goes up by what a head says
  pub sums_more : (new : List ℕ) → k < length sums → new ≡ slice_set sums k (min (slice_index sums k + count x) (2 ^ 64 - 1)) → AreSums count (hs ++ (k, x) ∷ []) new
  sums_more new inside is = subst (AreSums count (hs ++ (k, x) ∷ [])) (sym is) (λ e lt. go e (lt_of e lt))
    where
      top : ℕ
      top = min (slice_index sums k + count x) (2 ^ 64 - 1)

      lt_of : (e : ℕ) → e < length (slice_set sums k top) → e < length sums
      lt_of e lt = omega (arith, lt, length-set sums k top)

      go : (e : ℕ) → e < length sums → slice_index (slice_set sums k top) e ≡ min (sum_on count e (hs ++ (k, x) ∷ [])) (2 ^ 64 - 1)
      go e lt = elim (cases_eq k e) [
        | inl here ↦
            get_or-set_at sums k e top 0 (sym here) inside
            ∙ ap (λ (n : ℕ). min (n + count x) (2 ^ 64 - 1)) (was k inside ∙ ap (λ (i : ℕ). min (sum_on count i hs) (2 ^ 64 - 1)) here)
            ∙ capped (sum_on count e hs) (count x)
            ∙ ap (λ (n : ℕ). min n (2 ^ 64 - 1)) (sym (sum_last count e hs k x ∙ ap (λ (n : ℕ). sum_on count e hs + n) (at_it count k e x here)))
        | inr other ↦
            get_or-set_other sums k e top 0 (λ is'. other (sym is')) ∙ was e lt
            ∙ ap (λ (n : ℕ). min n (2 ^ 64 - 1)) (sym (sum_last count e hs k x ∙ nothing (sum_on count e hs) _ (at_other count k e x other)))
      ]
        where
          nothing : (a b : ℕ) → b ≡ 0 → a + b ≡ a
          nothing a b z = omega (arith, z)

  -- and stays where it says nothing
  pub sums_same : count x ≡ 0 → AreSums count (hs ++ (k, x) ∷ []) sums
  sums_same zero_is e lt = was e lt ∙ ap (λ (n : ℕ). min n (2 ^ 64 - 1)) (sym (sum_last count e hs k x ∙ nothing (sum_on count e hs) _ (elim (cases_eq k e) [
    | inl here ↦ at_it count k e x here ∙ zero_is
    | inr other ↦ at_other count k e x other
  ])))
    where
      nothing : (a b : ℕ) → b ≡ 0 → a + b ≡ a
      nothing a b z = omega (arith, z)

pub tallied_some : (hs : List Head) (live unreadable new : List ℕ) (k n : ℕ) → AreTallied hs live unreadable → k < length live
    → new ≡ slice_set live k (min (slice_index live k + n) (2 ^ 64 - 1)) → AreTallied (hs ++ (k, Some n) ∷ []) new unreadable
tallied_some hs live unreadable new k n was inside is = (sums_more pages_in hs live was.0 k (Some n) new inside is, sums_same missing_in hs unreadable was.1 k (Some n) refl)

pub tallied_none : (hs : List Head) (live unreadable new : List ℕ) (k : ℕ) → AreTallied hs live unreadable → k < length unreadable
    → new ≡ slice_set unreadable k (min (slice_index unreadable k + 1) (2 ^ 64 - 1)) → AreTallied (hs ++ (k, None) ∷ []) live new
tallied_none hs live unreadable new k was inside is = (sums_same pages_in hs live was.0 k None refl, sums_more missing_in hs unreadable was.1 k None new inside is)

-- ---- what was read

pub read_exactly : (failed : Type 0) (hs rs : List Head) → (failed → ⊥) → AreReadAs failed hs rs → rs ≡ hs
read_exactly failed [] [] not are = refl
read_exactly failed (h ∷ hs) (r ∷ rs) not are = ⊎_elim
    (λ (is : r ≡ h). ap (λ (x : Head). x ∷ rs) is ∙ ap (λ (xs : List Head). h ∷ xs) (read_exactly failed hs rs not are.1))
    (λ (lost : (r ≡ (h.0, None)) × failed). absurd (not lost.1))
    are.0
read_exactly failed [] (r ∷ rs) not are = absurd are
read_exactly failed (h ∷ hs) [] not are = absurd are

pub read_more : (failed later : Type 0) (hs rs : List Head) (h r : Head) → (failed → later) → AreReadAs failed hs rs → (r ≡ h) ⊎ ((r ≡ (h.0, None)) × later) → AreReadAs later (hs ++ h ∷ []) (rs ++ r ∷ [])
read_more failed later [] [] h r on are here = (here, tt)
read_more failed later (i ∷ hs) (s ∷ rs) h r on are here = (
  ⊎_elim (λ (is : s ≡ i). inl is) (λ (lost : (s ≡ (i.0, None)) × failed). inr (lost.0, on lost.1)) are.0,
  read_more failed later hs rs h r on are.1 here,
)
read_more failed later [] (r' ∷ rs) h r on are here = absurd are
read_more failed later (h' ∷ hs) [] h r on are here = absurd are

-- ---- what was lost

lost_same : (x : Option ℕ) → lost_one x x ≡ 0
lost_same None = refl
lost_same (Some n) = refl

pub lost_none : (x y : Option ℕ) → y ≡ x → lost_one x y ≡ 0
lost_none x y is = ap (λ (z : Option ℕ). lost_one x z) is ∙ lost_same x

pub lost_at_most : (x y : Option ℕ) → lost_one x y ≤ 1
lost_at_most None y = omega arith
lost_at_most (Some n) None = omega arith
lost_at_most (Some n) (Some m) = omega arith

pub lost_more : (failed : Type 0) (hs rs : List Head) (h r : Head) → AreReadAs failed hs rs → lost_in (hs ++ h ∷ []) (rs ++ r ∷ []) ≡ lost_in hs rs + lost_one h.1 r.1
lost_more failed [] [] h r are = omega arith
lost_more failed (i ∷ hs) (s ∷ rs) h r are = plus (lost_one i.1 s.1) (lost_in (hs ++ h ∷ []) (rs ++ r ∷ [])) (lost_in hs rs) (lost_one h.1 r.1) (lost_more failed hs rs h r are.1)
  where
    plus : (a b c d : ℕ) → b ≡ c + d → a + b ≡ a + c + d
    plus a b c d e = omega (arith, e)
lost_more failed [] (s ∷ rs) h r are = absurd are
lost_more failed (i ∷ hs) [] h r are = absurd are

-- ---- what that says of sums

-- how one number stands to another
module _ (count : Option ℕ → ℕ) (R : ℕ → ℕ → Type 0) (same : (n : ℕ) → R n n) (plus : (a b c d : ℕ) → R a b → R c d → R (a + c) (b + d)) (lost : (x : Option ℕ) → R (count None) (count x)) where
  sums_stand : (failed : Type 0) (hs rs : List Head) (e : ℕ) → AreReadAs failed hs rs → R (sum_on count e rs) (sum_on count e hs)
  sums_stand failed [] [] e are = same 0
  sums_stand failed (h ∷ hs) (r ∷ rs) e are = plus _ _ _ _ (one are.0) (sums_stand failed hs rs e are.1)
    where
      one : (r ≡ h) ⊎ ((r ≡ (h.0, None)) × failed) → R (at_one count e r) (at_one count e h)
      one (inl is) = subst (λ (x : Head). R (at_one count e x) (at_one count e h)) (sym is) (same (at_one count e h))
      one (inr gone) = subst (λ (x : Head). R (at_one count e x) (at_one count e h)) (sym gone.0) (elim (cases_eq h.0 e) [
        | inl here ↦ subst (λ (n : ℕ). R n (at_one count e h)) (sym (at_it count h.0 e None here)) (subst (λ (n : ℕ). R (count None) n) (sym (at_it count h.0 e h.1 here)) (lost h.1))
        | inr other ↦ subst (λ (n : ℕ). R n (at_one count e h)) (sym (at_other count h.0 e None other)) (subst (λ (n : ℕ). R 0 n) (sym (at_other count h.0 e h.1 other)) (same 0))
      ])
  sums_stand failed [] (r ∷ rs) e are = absurd are
  sums_stand failed (h ∷ hs) [] e are = absurd are

pub fewer_live : (failed : Type 0) (hs rs : List Head) (e : ℕ) → AreReadAs failed hs rs → sum_on pages_in e rs ≤ sum_on pages_in e hs
fewer_live = sums_stand pages_in (λ a b. a ≤ b) (λ n. omega arith) (λ a b c d p q. omega (arith, p, q)) (λ x. omega arith)

pub more_unreadable : (failed : Type 0) (hs rs : List Head) (e : ℕ) → AreReadAs failed hs rs → sum_on missing_in e hs ≤ sum_on missing_in e rs
more_unreadable = sums_stand missing_in (λ a b. b ≤ a) (λ n. omega arith) (λ a b c d p q. omega (arith, p, q)) most
  where
    most : (x : Option ℕ) → missing_in x ≤ 1
    most None = omega arith
    most (Some n) = omega arith

-- ---- the uses

get_last : {A : Type 0} (xs : List A) (x u : A) (k : ℕ) → slice_get (xs ++ x ∷ []) k ≡ Some u → (slice_get xs k ≡ Some u) ⊎ ((k ≡ length xs) × (u ≡ x))
get_last [] x u zero h = inr (refl, sym (same_Some x u h))
get_last [] x u (suc k) h = absurd (cc h)
get_last (y ∷ ys) x u zero h = inl h
get_last {A} (y ∷ ys) x u (suc k) h = ⊎_elim (λ (a : slice_get ys k ≡ Some u). inl a) (λ (b : (k ≡ length ys) × (u ≡ x)). inr (ap suc b.0, b.1)) (get_last ys x u k h)

pub uses_more : (n : ℕ) (x : Extents) (live unreadable : List ℕ) (uses new : List ExtentUse) (used : ExtentUse) → AreUses n x live unreadable uses
    → IsExtent x n used → used.live ≡ slice_index live n → used.unreadable ≡ slice_index unreadable n → new ≡ uses ++ used ∷ [] → AreUses (n + 1) x live unreadable new
uses_more n x live unreadable uses new used was its is_live is_unreadable is = subst (AreUses (n + 1) x live unreadable) (sym is) (
  length_push uses used ∙ ap (λ (m : ℕ). m + 1) was.0,
  λ e u at. ⊎_elim
      (λ (a : slice_get uses e ≡ Some u). was.1 e u a)
      (λ (b : (e ≡ length uses) × (u ≡ used)).
      let last : n ≡ e = sym (b.0 ∙ was.0) in
      subst (λ (i : ℕ). IsExtent x i u × (u.live ≡ slice_index live i) × (u.unreadable ≡ slice_index unreadable i)) last
      (subst (λ (v : ExtentUse). IsExtent x n v × (v.live ≡ slice_index live n) × (v.unreadable ≡ slice_index unreadable n)) (sym b.1) (its, is_live, is_unreadable)))
      (get_last uses used u e at),
)

-- the uses are those of the extents
pub extents_so : (n : ℕ) (x : Extents) (live unreadable : List ℕ) (uses : List ExtentUse) → AreUses n x live unreadable uses → AreExtents n x uses
extents_so n x live unreadable uses are = (are.0, λ e used at. (are.1 e used at).0)

-- what was read is what is counted
module _ (n : ℕ) (x : Extents) (live unreadable : List ℕ) (uses : List ExtentUse) (before after : ℕ) (heads read : List Head) (are : AreUses n x live unreadable uses)
    (live_size : length live ≡ n) (unreadable_size : length unreadable ≡ n) (tallied : AreTallied read live unreadable) (got : AreRead before after heads read) where
  count_read : AreCounted read uses
  count_read e used at =
      let lt : e < n = omega (arith, slice_get_within uses e used at, are.0) in
      let its = are.1 e used at in
      (its.1 ∙ tallied.0 e (omega (arith, lt, live_size)), its.2 ∙ tallied.1 e (omega (arith, lt, unreadable_size)))

  pub counted_as_read : AreCountedAsRead before after heads uses
  counted_as_read = (read, got, count_read)

  -- with the greatest chunk
  pub surveyed : (greatest : ℕ) → greatest ≡ greatest_in read → AreSurveyed before after heads uses greatest
  surveyed greatest is = (read, got, count_read, is)

module _ (before after : ℕ) (heads : List Head) (uses : List ExtentUse) (are : AreCountedAsRead before after heads uses) where
  -- where no read failed that is what the headers say
  pub counted_then : ¬ Rises before after → AreCounted heads uses
  counted_then not = subst (λ (hs : List Head). AreCounted hs uses) (read_exactly (Rises before after) heads are.0 not are.1.each) are.2

  -- and else no more pages, and no fewer headers that say nothing
  pub bounded_then : AreBounded heads uses
  bounded_then e used at =
      let its = are.2 e used at in (
        below used.live (sum_on pages_in e are.0) (sum_on pages_in e heads) (2 ^ 64 - 1) its.0 (fewer_live (Rises before after) heads are.0 e are.1.each),
        above used.unreadable (sum_on missing_in e are.0) (sum_on missing_in e heads) (2 ^ 64 - 1) its.1 (more_unreadable (Rises before after) heads are.0 e are.1.each),
      )
    where
      below : (u r h m : ℕ) → u ≡ min r m → r ≤ h → u ≤ h
      below u r h m is le = omega (arith, is, le)

      above : (u r h m : ℕ) → u ≡ min r m → h ≤ r → min h m ≤ u
      above u r h m is le = omega (arith, is, le)
