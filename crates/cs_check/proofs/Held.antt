-- How many rounds don't satisfy an element, from the rounds that hold it.
use Rattle.std.proofs.Common.{◌≡◌, ◌∙◌, ℕ, ◌+◌, ◌<◌, ◌≤◌, ◌⊎◌, List, [], length, get_or, min, slice_index, slice_set, Some, slice_get, refl, sym, ap, subst, inl, inr, ⊎_elim, arith, get_or-set_same, get_or-set_other, length-set}
use Rattle.std.specs.Prelude.{Contains}
use Rattle.std.proofs.lemmas.Bool.{cases_lt, cases_eq}
use Rattle.std.proofs.lemmas.Option.{get_or_from_slice_get, slice_get_within, slice_get-get_or, same_Some}
use Rattle.std.proofs.lemmas.List.Elements.{All-contains}
use Rattle.cs_deps.specs.declared.elements.Element.{Element}
use Rattle.cs_deps.specs.declared.elements.Element.TheVariants.{Plain, Version}
use Rattle.cs_deps.specs.Named.{Named, StandsFor}
use Rattle.cs_deps.specs.Pending.{Pending, WaitsAt, Waits, SatisfiedBy}
use Rattle.cs_deps.specs.Schedule.{IsSchedule}
use Rattle.cs_deps.proofs.Sets.{place_of, within}
use Rattle.cs_deps.proofs.Within.{below_next, same_at}
use Rattle.cs_check.specs.Listing.{IsListing}
use Rattle.cs_check.specs.Progress.{AreFirsts, AreHeld, AreSpread, Lowers, Marks, MarksOne}
use Rattle.cs_check.proofs.Counts.{counted_past}
use Rattle.cs_check.proofs.ListingSteps.{listed_once, own}

pub stands_for_itself : (x : Element) → StandsFor x x
stands_for_itself (Plain n) = refl
stands_for_itself (Version f v) = (refl, omega arith)

pub stands_for_earlier : (y : Element) (f v w : ℕ) → v ≤ w → StandsFor y (Version f w) → StandsFor y (Version f v)
stands_for_earlier (Plain n) f v w le s = absurd s
stands_for_earlier (Version g u) f v w le s = (s.0, omega (arith, le, s.1))

-- the first j members of the round have i as their number now, and all else has what it had
pub record MarksTo (g : Pending) (round : List Element) (j i : ℕ) (old new : List ℕ) : Type 0 where
  pub count : length new ≡ length old
  pub each : (k : ℕ) → (slice_index new k ≡ slice_index old k) ⊎ ((slice_index new k ≡ i) × ((x : Element) (d : Named) → WaitsAt g k x d → Contains round x))
  pub members : (m k : ℕ) (x : Element) (d : Named) → m < j → slice_get round m ≡ Some x → WaitsAt g k x d → slice_index new k ≡ i

pub marks_none : (g : Pending) (round : List Element) (i : ℕ) (firsts : List ℕ) → MarksTo g round 0 i firsts firsts
marks_none g round i firsts = record {
  count = refl;
  each = λ k. inl refl;
  members = λ m k x d lt at here. absurd (omega (arith, lt));
}

-- one member more, which waits at place p
pub marks_next : (g : Pending) → IsListing g → (round : List Element) (j i p : ℕ) (x : Element) (d : Named) (old now : List ℕ) → slice_get round j ≡ Some x → WaitsAt g p x d → length old ≡ length g.waiting → MarksTo g round j i old now → MarksTo g round (j + 1) i old (slice_set now p i)
marks_next g listing round j i p x d old now at here count before = record {
  count = length-set now p i ∙ before.count;
  each = λ k. ⊎_elim (λ (s : k ≡ p). inr (is_there k s, λ y e there. subst (λ z. Contains round z) (sym (same_at g.waiting p y x e d (subst (λ n. WaitsAt g n y e) s there) here).0) (j, slice_get_within round j x at, get_or_from_slice_get round j x x at))) (λ (o : k ≡ p → ⊥). each_else k o (before.each k)) (cases_eq k p);
  members = λ m k y e lt there waits. ⊎_elim
      (λ (l : m < j). ⊎_elim (λ (s : k ≡ p). is_there k s) (λ (o : k ≡ p → ⊥). is_else k o ∙ before.members m k y e l there waits) (cases_eq k p))
      (λ (s : m ≡ j).
      let same : y ≡ x = same_Some y x (sym there ∙ ap (λ n. slice_get round n) s ∙ at) in
      is_there k (listed_once g listing k p x e d (subst (λ z. WaitsAt g k z e) same waits) here))
      (below_next m j lt);
}
  where
    is_there : (k : ℕ) → k ≡ p → slice_index (slice_set now p i) k ≡ i
    is_there k s = ap (λ n. slice_index (slice_set now p i) n) s ∙ get_or-set_same now p i 0 (omega (arith, before.count, count, slice_get_within g.waiting p (x, d) here))

    is_else : (k : ℕ) → (k ≡ p → ⊥) → slice_index (slice_set now p i) k ≡ slice_index now k
    is_else k o = get_or-set_other now p k i 0 o

    each_else : (k : ℕ) → (k ≡ p → ⊥) → (slice_index now k ≡ slice_index old k) ⊎ ((slice_index now k ≡ i) × ((y : Element) (e : Named) → WaitsAt g k y e → Contains round y)) → (slice_index (slice_set now p i) k ≡ slice_index old k) ⊎ ((slice_index (slice_set now p i) k ≡ i) × ((y : Element) (e : Named) → WaitsAt g k y e → Contains round y))
    each_else k o (inl s) = inl (is_else k o ∙ s)
    each_else k o (inr m) = inr (is_else k o ∙ m.0, m.1)

-- one member more, which doesn't wait
pub marks_pass : (g : Pending) (round : List Element) (j i : ℕ) (x : Element) (old now : List ℕ) → slice_get round j ≡ Some x → (Waits g x → ⊥) → MarksTo g round j i old now → MarksTo g round (j + 1) i old now
marks_pass g round j i x old now at none before = record {
  count = before.count;
  each = before.each;
  members = λ m k y e lt there waits. ⊎_elim
      (λ (l : m < j). before.members m k y e l there waits)
      (λ (s : m ≡ j).
      let same : y ≡ x = same_Some y x (sym there ∙ ap (λ n. slice_get round n) s ∙ at) in
      absurd (none (k, e, subst (λ z. WaitsAt g k z e) same waits)))
      (below_next m j lt);
}

pub marks_more : (g : Pending) → IsListing g → (round : List Element) (j i : ℕ) (x : Element) (old now new : List ℕ) → slice_get round j ≡ Some x → length old ≡ length g.waiting → MarksOne g x i now new → MarksTo g round j i old now → MarksTo g round (j + 1) i old new
marks_more g listing round j i x old now new at count (inl m) before = subst (λ xs. MarksTo g round (j + 1) i old xs) (sym m.3) (marks_next g listing round j i m.0 x m.1 old now at m.2 count before)
marks_more g listing round j i x old now new at count (inr m) before = subst (λ xs. MarksTo g round (j + 1) i old xs) (sym m.1) (marks_pass g round j i x old now at m.0 before)

pub marks_whole : (g : Pending) (round : List Element) (j i : ℕ) (old new : List ℕ) → length round ≤ j → MarksTo g round j i old new → Marks g round i old new
marks_whole g round j i old new le marks = record {
  count = marks.count;
  each = marks.each;
  members = λ x c k d here. marks.members c.0 k x d (omega (arith, c.1, le)) (slice_get-get_or round c.0 x c.1 ∙ ap Some c.2) here;
}

-- one round more
pub held_next : (g : Pending) (rounds : List (List Element)) (b : ℕ) (round : List Element) (old new : List ℕ) → slice_get rounds b ≡ Some round → AreHeld g rounds (b + 1) old → Marks g round b old new → AreHeld g rounds b new
held_next g rounds b round old new at before marks = record {
  count = marks.count ∙ before.count;
  held = held;
  early = early;
}
  where
    held : (k : ℕ) (x : Element) (d : Named) → WaitsAt g k x d → slice_index new k < length rounds → (r : List Element) × (slice_get rounds (slice_index new k) ≡ Some r) × SatisfiedBy r x
    held k x d here lt =
        ⊎_elim
        (λ (same : slice_index new k ≡ slice_index old k).
        let h = before.held k x d here (omega (arith, lt, same)) in
        (h.0, ap (λ n. slice_get rounds n) same ∙ h.1, h.2))
        (λ (m : (slice_index new k ≡ b) × ((y : Element) (e : Named) → WaitsAt g k y e → Contains round y)).
        (round, ap (λ n. slice_get rounds n) m.0 ∙ at, (x, m.1 x d here, stands_for_itself x)))
        (marks.each k)

    early : (i k : ℕ) (r : List Element) (x : Element) (d : Named) → b ≤ i → slice_get rounds i ≡ Some r → Contains r x → WaitsAt g k x d → slice_index new k ≤ i
    early i k r x d le there c here =
        ⊎_elim
        (λ (e : i ≡ b).
        let same : r ≡ round = same_Some r round (sym there ∙ ap (λ n. slice_get rounds n) e ∙ at) in
        omega (arith, e, marks.members x (subst (λ ys. Contains ys x) same c) k d here))
        (λ (n : i ≡ b → ⊥).
        ⊎_elim
        (λ (same : slice_index new k ≡ slice_index old k).
        let later : b + 1 ≤ i = ⊎_elim (λ (l : b < i). omega (arith, l)) (λ (g' : i ≤ b). absurd (n (omega (arith, g', le)))) (cases_lt b i) in
        omega (arith, same, before.early i k r x d later there c here))
        (λ (m : (slice_index new k ≡ b) × ((y : Element) (e : Named) → WaitsAt g k y e → Contains round y)). omega (arith, m.0, le))
        (marks.each k))
        (cases_eq i b)

-- a later place from k + 1 on, or k
pub from_next : (k j : ℕ) → k ≤ j → (k + 1 ≤ j) ⊎ (j ≡ k)
from_next k j le = ⊎_elim (λ (l : k < j). inl (omega (arith, l))) (λ (m : j ≤ k). inr (omega (arith, m, le))) (cases_lt k j)

-- of two versions the one that stands for the other is listed no earlier
listed_no_later : (g : Pending) → IsListing g → (k p f v w : ℕ) (d e : Named) → WaitsAt g k (Version f v) d → WaitsAt g p (Version f w) e → v ≤ w → k ≤ p
listed_no_later g listing k p f v w d e at there le =
    ⊎_elim
    (λ (l : p < k). absurd (omega (arith, counted_past f g.waiting p k (Version f w) e l there (own f w), (listing k (Version f v) d at).number.2, (listing p (Version f w) e there).number.2, le)))
    (λ (m : k ≤ p). m)
    (cases_lt p k)

listed_in_order : (g : Pending) → IsListing g → (k p f v w : ℕ) (d e : Named) → WaitsAt g k (Version f v) d → WaitsAt g p (Version f w) e → k ≤ p → v ≤ w
listed_in_order g listing k p f v w d e at there le =
    ⊎_elim
    (λ (l : k < p). omega (arith, counted_past f g.waiting k p (Version f v) d l at (own f v), (listing k (Version f v) d at).number.2, (listing p (Version f w) e there).number.2))
    (λ (m : p ≤ k).
    let same : p ≡ k = omega (arith, m, le) in
    let one : Version f w ≡ Version f v = (same_at g.waiting k (Version f w) (Version f v) e d (subst (λ i. WaitsAt g i (Version f w) e) same there) at).0 in
    let number : w ≡ v = cc one in
    omega (arith, number))
    (cases_lt k p)

-- the numbers are what they were but at one place, where the number is no greater
held_less : (g : Pending) (rounds : List (List Element)) (firsts : List ℕ) (k n : ℕ) (x : Element) (d : Named) → AreHeld g rounds 0 firsts → WaitsAt g k x d → n ≤ slice_index firsts k → (n < length rounds → (round : List Element) × (slice_get rounds n ≡ Some round) × SatisfiedBy round x) → AreHeld g rounds 0 (slice_set firsts k n)
held_less g rounds firsts k n x d are at le holds = record {
  count = length-set firsts k n ∙ are.count;
  held = λ j y e here lt. ⊎_elim (λ (s : j ≡ k). held_there j y e here lt s) (λ (o : j ≡ k → ⊥). held_else j y e here lt o) (cases_eq j k);
  early = λ i j round y e b there c here. ⊎_elim
      (λ (s : j ≡ k). omega (arith, le, is_there j s, are.early i k round y e b there c (subst (λ m. WaitsAt g m y e) s here)))
      (λ (o : j ≡ k → ⊥). omega (arith, is_else j o, are.early i j round y e b there c here))
      (cases_eq j k);
}
  where
    is_there : (j : ℕ) → j ≡ k → slice_index (slice_set firsts k n) j ≡ n
    is_there j s = ap (λ i. slice_index (slice_set firsts k n) i) s ∙ get_or-set_same firsts k n 0 (omega (arith, are.count, slice_get_within g.waiting k (x, d) at))

    is_else : (j : ℕ) → (j ≡ k → ⊥) → slice_index (slice_set firsts k n) j ≡ slice_index firsts j
    is_else j o = get_or-set_other firsts k j n 0 o

    held_there : (j : ℕ) (y : Element) (e : Named) → WaitsAt g j y e → slice_index (slice_set firsts k n) j < length rounds → j ≡ k → (round : List Element) × (slice_get rounds (slice_index (slice_set firsts k n) j) ≡ Some round) × SatisfiedBy round y
    held_there j y e here lt s =
        let h = holds (omega (arith, lt, is_there j s)) in
        let same = same_at g.waiting k y x e d (subst (λ i. WaitsAt g i y e) s here) at in
        (h.0, ap (λ m. slice_get rounds m) (is_there j s) ∙ h.1, subst (λ z. SatisfiedBy h.0 z) (sym same.0) h.2)

    held_else : (j : ℕ) (y : Element) (e : Named) → WaitsAt g j y e → slice_index (slice_set firsts k n) j < length rounds → (j ≡ k → ⊥) → (round : List Element) × (slice_get rounds (slice_index (slice_set firsts k n) j) ≡ Some round) × SatisfiedBy round y
    held_else j y e here lt o =
        let h = are.held j y e here (omega (arith, lt, is_else j o)) in
        (h.0, ap (λ m. slice_get rounds m) (is_else j o) ∙ h.1, h.2)

spread_version : (g : Pending) → IsListing g → (rounds : List (List Element)) (k f v : ℕ) (d : Named) (firsts families : List ℕ) (n : ℕ) → WaitsAt g k (Version f v) d → n ≡ min (slice_index firsts k) (slice_index families f)
    → AreSpread g rounds (k + 1) firsts families → AreSpread g rounds k (slice_set firsts k n) (slice_set families f n)
spread_version g listing rounds k f v d firsts families n at is before = record {
  are = held_less g rounds firsts k n (Version f v) d before.are at (omega (arith, is)) holds_here;
  each = length-set families f n ∙ before.each;
  least = least;
  holds = λ c lt less. ⊎_elim (λ (s : c ≡ f). holds_there c less s) (λ (o : c ≡ f → ⊥). holds_else c lt less o) (cases_eq c f);
  rising = rising;
}
  where
    family_in : f < length families
    family_in = omega (arith, before.each, (listing k (Version f v) d at).number.0)

    place_in : k < length firsts
    place_in = omega (arith, before.are.count, slice_get_within g.waiting k (Version f v, d) at)

    number_here : slice_index (slice_set firsts k n) k ≡ n
    number_here = get_or-set_same firsts k n 0 place_in

    number_else : (j : ℕ) → k + 1 ≤ j → slice_index (slice_set firsts k n) j ≡ slice_index firsts j
    number_else j le = get_or-set_other firsts k j n 0 (λ (s : j ≡ k). absurd (omega (arith, s, le)))

    family_here : slice_index (slice_set families f n) f ≡ n
    family_here = get_or-set_same families f n 0 family_in

    family_else : (c : ℕ) → (c ≡ f → ⊥) → slice_index (slice_set families f n) c ≡ slice_index families c
    family_else c o = get_or-set_other families f c n 0 o

    -- the family's later version is satisfied by that round, and so is this one
    of_later : slice_index families f < length rounds → (round : List Element) × (slice_get rounds (slice_index families f) ≡ Some round) × SatisfiedBy round (Version f v)
    of_later lt =
        let h = before.holds f (listing k (Version f v) d at).number.0 lt in
        let w = h.1 in
        let le = listed_in_order g listing k h.0 f v w d h.2 at h.5 (omega (arith, h.4)) in
        let s = h.7 in
        (h.3, h.6, (s.0, s.1, stands_for_earlier s.0 f v w le s.2))

    holds_here : n < length rounds → (round : List Element) × (slice_get rounds n ≡ Some round) × SatisfiedBy round (Version f v)
    holds_here lt = ⊎_elim
        (λ (l : slice_index firsts k < slice_index families f).
        let same : n ≡ slice_index firsts k = omega (arith, is, l) in
        subst (λ m. (round : List Element) × (slice_get rounds m ≡ Some round) × SatisfiedBy round (Version f v)) (sym same) (before.are.held k (Version f v) d at (omega (arith, lt, same))))
        (λ (m : slice_index families f ≤ slice_index firsts k).
        let same : n ≡ slice_index families f = omega (arith, is, m) in
        subst (λ m. (round : List Element) × (slice_get rounds m ≡ Some round) × SatisfiedBy round (Version f v)) (sym same) (of_later (omega (arith, lt, same))))
        (cases_lt (slice_index firsts k) (slice_index families f))

    -- the family of what stands at place k
    family_at : (c w : ℕ) (e : Named) → WaitsAt g k (Version c w) e → c ≡ f
    family_at c w e here = let one : Version c w ≡ Version f v = (same_at g.waiting k (Version c w) (Version f v) e d here at).0 in cc one

    least_after : (j c w : ℕ) (e : Named) → k + 1 ≤ j → WaitsAt g j (Version c w) e → slice_index (slice_set families f n) c ≤ slice_index firsts j
    least_after j c w e le here = ⊎_elim
        (λ (s : c ≡ f). omega (arith, ap (λ i. slice_index (slice_set families f n) i) s, ap (λ i. slice_index families i) s, family_here, is, before.least j c w e le here))
        (λ (o : c ≡ f → ⊥). omega (arith, family_else c o, before.least j c w e le here))
        (cases_eq c f)

    least : (j c w : ℕ) (e : Named) → k ≤ j → WaitsAt g j (Version c w) e → slice_index (slice_set families f n) c ≤ slice_index (slice_set firsts k n) j
    least j c w e le here = ⊎_elim
        (λ (l : k + 1 ≤ j). omega (arith, number_else j l, least_after j c w e l here))
        (λ (s : j ≡ k).
        let family = family_at c w e (subst (λ i. WaitsAt g i (Version c w) e) s here) in
        omega (arith, ap (λ i. slice_index (slice_set families f n) i) family, ap (λ i. slice_index (slice_set firsts k n) i) s, family_here, number_here))
        (from_next k j le)

    holds_there : (c : ℕ) → slice_index (slice_set families f n) c < length rounds → c ≡ f → (j w : ℕ) × (e : Named) × (round : List Element) × (k ≤ j) × WaitsAt g j (Version c w) e × (slice_get rounds (slice_index (slice_set families f n) c) ≡ Some round) × SatisfiedBy round (Version c w)
    holds_there c less s =
        subst (λ i. (j w : ℕ) × (e : Named) × (round : List Element) × (k ≤ j) × WaitsAt g j (Version i w) e × (slice_get rounds (slice_index (slice_set families f n) i) ≡ Some round) × SatisfiedBy round (Version i w)) (sym s)
        (let h = holds_here (omega (arith, less, ap (λ i. slice_index (slice_set families f n) i) s, family_here)) in
        (k, v, d, h.0, omega arith, at, ap (λ m. slice_get rounds m) family_here ∙ h.1, h.2))

    holds_else : (c : ℕ) → c < length g.persistent → slice_index (slice_set families f n) c < length rounds → (c ≡ f → ⊥) → (j w : ℕ) × (e : Named) × (round : List Element) × (k ≤ j) × WaitsAt g j (Version c w) e × (slice_get rounds (slice_index (slice_set families f n) c) ≡ Some round) × SatisfiedBy round (Version c w)
    holds_else c lt less o =
        let h = before.holds c lt (omega (arith, less, family_else c o)) in
        (h.0, h.1, h.2, h.3, omega (arith, h.4), h.5, ap (λ m. slice_get rounds m) (family_else c o) ∙ h.6, h.7)

    rising : (i j c u w : ℕ) (e h : Named) → k ≤ i → i ≤ j → WaitsAt g i (Version c u) e → WaitsAt g j (Version c w) h → slice_index (slice_set firsts k n) i ≤ slice_index (slice_set firsts k n) j
    rising i j c u w e h le more here there = ⊎_elim
        (λ (l : k + 1 ≤ i).
        let m : k + 1 ≤ j = omega (arith, l, more) in
        omega (arith, number_else i l, number_else j m, before.rising i j c u w e h l more here there))
        (λ (s : i ≡ k).
        let number : slice_index (slice_set firsts k n) i ≡ n = ap (λ p. slice_index (slice_set firsts k n) p) s ∙ number_here in
        let family = family_at c u e (subst (λ p. WaitsAt g p (Version c u) e) s here) in
        omega (arith, number, family_here, ap (λ p. slice_index (slice_set families f n) p) family, least j c w h (omega (arith, le, more)) there))
        (from_next k i le)

-- one place more
pub spread_next : (g : Pending) → IsListing g → (rounds : List (List Element)) (k : ℕ) (x : Element) (d : Named) (firsts firsts' families families' : List ℕ) → WaitsAt g k x d → Lowers k x firsts firsts' families families' → AreSpread g rounds (k + 1) firsts families → AreSpread g rounds k firsts' families'
spread_next g listing rounds k (Version f v) d firsts firsts' families families' at lowers before =
    let same = lowers (omega (arith, before.each, (listing k (Version f v) d at).number.0)) (omega (arith, before.are.count, slice_get_within g.waiting k (Version f v, d) at)) in
    subst (λ xs. AreSpread g rounds k xs families') (sym same.0) (subst (λ xs. AreSpread g rounds k (slice_set firsts k (min (slice_index firsts k) (slice_index families f))) xs) (sym same.1)
    (spread_version g listing rounds k f v d firsts families (min (slice_index firsts k) (slice_index families f)) at refl before))
spread_next g listing rounds k (Plain n) d firsts firsts' families families' at lowers before =
    subst (λ xs. AreSpread g rounds k xs families') (sym lowers.0) (subst (λ xs. AreSpread g rounds k firsts xs) (sym lowers.1) record {
      are = before.are;
      each = before.each;
      least = λ j f v e le here. ⊎_elim (λ (l : k + 1 ≤ j). before.least j f v e l here) (λ (s : j ≡ k). none f v e (subst (λ i. WaitsAt g i (Version f v) e) s here)) (from_next k j le);
      holds = λ f lt less. let h = before.holds f lt less in (h.0, h.1, h.2, h.3, omega (arith, h.4), h.5, h.6, h.7);
      rising = λ i j f v w e h le more here there. ⊎_elim (λ (l : k + 1 ≤ i). before.rising i j f v w e h l more here there) (λ (s : i ≡ k). none f v e (subst (λ p. WaitsAt g p (Version f v) e) s here)) (from_next k i le);
    })
  where
    none : {P : Type 0} (f v : ℕ) (e : Named) → WaitsAt g k (Version f v) e → P
    none f v e here = let one : Version f v ≡ Plain n = (same_at g.waiting k (Version f v) (Plain n) e d here at).0 in cc one

-- what a round holds satisfies an element no earlier than its number says
no_earlier : (g : Pending) → IsListing g → (rounds : List (List Element)) (firsts families : List ℕ) → AreSpread g rounds 0 firsts families → (i k p : ℕ) (round : List Element) (x y : Element) (d e : Named) → slice_get rounds i ≡ Some round → Contains round y → WaitsAt g p y e → WaitsAt g k x d → StandsFor y x → slice_index firsts k ≤ i
no_earlier g listing rounds firsts families spread i k p round (Plain n) (Plain m) d e at c there here s =
    let x : Plain m ≡ Plain n = ap Plain s in
    let same : k ≡ p = listed_once g listing k p (Plain n) d e here (subst (λ z. WaitsAt g p z e) x there) in
    omega (arith, ap (λ j. slice_index firsts j) same, spread.are.early i p round (Plain m) e (omega arith) at c there)
no_earlier g listing rounds firsts families spread i k p round (Version f v) (Version h w) d e at c there here s =
    let moved : WaitsAt g p (Version f w) e = subst (λ z. WaitsAt g p (Version z w) e) s.0 there in
    let le = listed_no_later g listing k p f v w d e here moved s.1 in
    omega (arith, spread.rising k p f v w d e (omega arith) le here moved, spread.are.early i p round (Version h w) e (omega arith) at c there)
no_earlier g listing rounds firsts families spread i k p round (Plain n) (Version h w) d e at c there here s = absurd s
no_earlier g listing rounds firsts families spread i k p round (Version f v) (Plain m) d e at c there here s = absurd s

-- all places were looked at
pub firsts_from : (g : Pending) → IsListing g → (rounds : List (List Element)) → IsSchedule g rounds → (firsts families : List ℕ) → AreSpread g rounds 0 firsts families → AreFirsts g rounds firsts
firsts_from g listing rounds schedule firsts families spread = (
  spread.are.count,
  λ k x d here m le. (
    (λ s.
        let at = place_of rounds m s.0 s.1 in
        let i = at.0 in
        let round = get_or rounds i [] in
        let there : slice_get rounds i ≡ Some round = slice_get-get_or rounds i [] at.2 in
        let waits = All-contains (Waits g) round s.0 (schedule i [] at.2) at.3 in
        omega (arith, at.1, no_earlier g listing rounds firsts families spread i k waits.0 round x s.0 d waits.1 there at.3 waits.2 here s.2)),
    (λ lt.
        let h = spread.are.held k x d here (omega (arith, lt, le)) in
        let s = h.2 in
        (s.0, within rounds (slice_index firsts k) m s.0 lt (subst (λ ys. Contains ys s.0) (sym (get_or_from_slice_get rounds (slice_index firsts k) h.0 [] h.1)) s.1), s.2)),
  ),
)
