-- Stores whose opening passed pages over, before these are fenced and after it.
use Rattle.std.proofs.Common.{◌≡◌, ◌≢◌, ◌⊎◌, inl, inr, ◌∙◌, ◌≤◌, ◌||◌, ◌∷◌, [], ℕ, Bool, true, false, not, true≢false, List, Option, Some, None, if◌then◌else◌, length, map, ap, arith, refl, subst, sym}
use Rattle.std.proofs.Math.Logic.{∥∥₁_map}
use Rattle.std.proofs.lemmas.Bool.{or_parts}
use Rattle.std.specs.List.{AllByRecursion, list_any}
use Rattle.cs_disk.proofs.Crashes.{MayLeave-settled, seen_MayLeave}
use Rattle.cs_disk.proofs.Images.{length-applied}
use Rattle.cs_disk.specs.Disk.{Image, LeavesOnly, MayLeave, State, applied, flushed, page, seen}
use Rattle.cs_frame.specs.Geometries.{Dimensions}
use Rattle.cs_mount.proofs.Keeping.{kept_of_store}
use Rattle.cs_mount.proofs.Lying.{lies_in, shown_alike}
use Rattle.cs_mount.specs.OfStores.{IsOfStore, is_allowed}
use Rattle.cs_mount.specs.Showing.{findings_on, shown_by, shown_on}
use Rattle.cs_mount.specs.StorePairs.{dimensions_on, pairs_where, store_pairs, store_version}
use Rattle.cs_twin.proofs.Leaving.{are_on, seen_shown}
use Rattle.cs_twin.specs.declared.findings.Finding.{Finding}
use Rattle.cs_twin.specs.declared.pairs.Pair.{Pair}
use Rattle.cs_twin.specs.Findings.{finding_in, held_of, is_halved, passed_over}
use Rattle.cs_twin.specs.Kept.{AreAllowed}
use Rattle.cs_twin.specs.Pairs.{AreNoOlder, ArePairs, Versions, fence, half, shown, shown_state}
use Rattle.cs_store.specs.Opening.{AgreeBeside, AreFencesIn, NoneIsPassedOver}

-- ---- findings that name no page

none_named : (it : Finding) → is_halved it ≡ false → passed_over it ≡ None
none_named it unnamed = ap (λ (b : Bool). if b then Some (half it.pair (not (held_of it).turned)) else None) unnamed

pub none_passed : (findings : List Finding) → list_any is_halved findings ≡ false → NoneIsPassedOver findings
none_passed [] unnamed = tt
none_passed (it ∷ findings) unnamed =
    let parts = or_parts (is_halved it) (list_any is_halved findings) unnamed in
    (none_named it parts.0, none_passed findings parts.1)

-- and one that does
one_named : (it : Finding) → passed_over it ≡ None → is_halved it ≡ true → ⊥
one_named it none named = by_name (sym (ap (λ (b : Bool). if b then Some (half it.pair (not (held_of it).turned)) else None) named) ∙ none)
  where
    by_name : Some (half it.pair (not (held_of it).turned)) ≡ None → ⊥
    by_name same = cc

pub some_passed : (findings : List Finding) → NoneIsPassedOver findings → list_any is_halved findings ≡ true → ⊥
some_passed [] none named = true≢false (sym named)
some_passed (it ∷ findings) none named = by_test (is_halved it) refl (some_passed findings none.1) named
  where
    by_test : (b : Bool) → is_halved it ≡ b → (list_any is_halved findings ≡ true → ⊥) → (b || list_any is_halved findings) ≡ true → ⊥
    by_test true test others named = one_named it none.0 test
    by_test false test others named = others named

-- what is so of each pair of a list is so of its finding
named_each : (V : Versions) (image : Image) (pairs : List Pair) → AllByRecursion (λ x. passed_over (finding_in V image x) ≡ None) pairs → NoneIsPassedOver (map (finding_in V image) pairs)
named_each V image [] all = tt
named_each V image (x ∷ pairs) all = (all.0, named_each V image pairs all.1)

fences_each : (V : Versions) (image : Image) (pairs : List Pair) (now : Image) → AllByRecursion (λ x. (number : ℕ) → passed_over (finding_in V image x) ≡ Some number → page now number ≡ fence) pairs
    → AreFencesIn (map (finding_in V image) pairs) now
fences_each V image [] now all = tt
fences_each V image (x ∷ pairs) now all = (all.0, fences_each V image pairs now all.1)

pairs_each : (V : Versions) (image : Image) (pairs : List Pair) (number : ℕ) → AllByRecursion (λ it. passed_over it ≢ Some number) (map (finding_in V image) pairs)
    → AllByRecursion (λ x. passed_over (finding_in V image x) ≢ Some number) pairs
pairs_each V image [] number all = tt
pairs_each V image (x ∷ pairs) number all = (all.0, pairs_each V image pairs number all.1)

-- where none is passed over there is no fence to be
no_fences : (findings : List Finding) (now : Image) → NoneIsPassedOver findings → AreFencesIn findings now
no_fences [] now none = tt
no_fences (it ∷ findings) now none = ((λ number is. absurd (let no : None ≡ Some number = sym none.0 ∙ is in cc)), no_fences findings now none.1)

-- ---- what an opening finds after a fence

none_from : {A B : Type 0} (f : A → B) (xs : List A) → map f xs ≡ [] → xs ≡ []
none_from f [] none = refl
none_from f (x ∷ xs) none = cc

-- a disk in pairs shows this, and no write of it waits
abbrev pub IsSettled : Option Dimensions → List Pair → State → Image → Type 0
IsSettled store pairs s image = shown_state (store_version store) pairs s ≡ record { durable = image; volatile = [] }

seen_settled : (s : State) → s.volatile ≡ [] → seen s ≡ s.durable
seen_settled s none = ap (applied s.durable) none

settled_seen : (store : Option Dimensions) (pairs : List Pair) (s : State) (image : Image) → IsSettled store pairs s image → seen s ≡ s.durable
settled_seen store pairs s image shows = seen_settled s (none_from _ s.volatile (ap (λ (z : State). z.volatile) shows))

whole_on : (n : ℕ) (d : Dimensions) (image : Image) → dimensions_on n image ≡ Some d → AllByRecursion (λ x. passed_over (finding_in (store_version (Some d)) image x) ≡ None) (store_pairs d)
    → NoneIsPassedOver (findings_on n image)
whole_on n d image found all =
    subst (λ (o : Option Dimensions). NoneIsPassedOver (map (finding_in (store_version o) image) (pairs_where o))) (sym found) (named_each (store_version (Some d)) image (store_pairs d) all)

module _ (n : ℕ) (s : State) (long : length s.durable ≡ n) where
  pub long_seen : length (seen s) ≡ n
  long_seen = length-applied s.durable s.volatile ∙ long

  pub none_halved : (findings : List Finding) → findings ≡ findings_on n (seen s) → list_any is_halved findings ≡ true → dimensions_on n (seen s) ≡ None → ⊥
  none_halved findings found named is =
      let none : findings ≡ [] = found ∙ ap (λ (o : Option Dimensions). map (finding_in (store_version o) (seen s)) (pairs_where o)) is in
      some_passed [] tt (subst (λ (l : List Finding). list_any is_halved l ≡ true) none named)

  -- where nothing was passed over nothing is written
  pub guarded_still : (findings : List Finding) (now : State) → findings ≡ findings_on n (seen s) → list_any is_halved findings ≡ false → now ≡ flushed s → NoneIsPassedOver (findings_on n (seen now))
  guarded_still findings now found unnamed same =
      let none : NoneIsPassedOver (findings_on n (seen s)) = subst NoneIsPassedOver found (none_passed findings unnamed) in
      subst (λ (z : State). NoneIsPassedOver (findings_on n (seen z))) (sym same) none

  -- and else it was of a store whose pairs are fenced
  pub guarded_again : (findings : List Finding) → findings ≡ findings_on n (seen s) → list_any is_halved findings ≡ true
      → (m : ℕ) (g : Option Dimensions) (ps : List Pair) (b : State) → m ≡ n → ∥ IsOfStore g ps m b.durable ∥₁ → IsSettled g ps b (shown_on n (seen s))
      → (k : ℕ) (h : Option Dimensions) (qs : List Pair) (c : State) → k ≡ n → ∥ IsOfStore h qs k c.durable ∥₁ → IsSettled h qs c (shown_on n (seen s))
      → AllByRecursion (λ x. passed_over (finding_in (store_version g) (seen c) x) ≡ None) ps → NoneIsPassedOver (findings_on n (seen c))
  guarded_again findings found named m g ps b same fits shows k h qs c same_now fits_now shows_now fenced = by_found (dimensions_on n (seen s)) refl
    where
      by_found : (o : Option Dimensions) → dimensions_on n (seen s) ≡ o → NoneIsPassedOver (findings_on n (seen c))
      by_found None is = absurd (none_halved findings found named is)
      by_found (Some d) is =
          let before = lies_in n (seen s) d g ps b.durable long_seen is (subst (λ i. ∥ IsOfStore g ps i b.durable ∥₁) same fits) (ap (λ (z : State). z.durable) shows) in
          let now = lies_in n (seen s) d h qs c.durable long_seen is (subst (λ i. ∥ IsOfStore h qs i c.durable ∥₁) same_now fits_now) (ap (λ (z : State). z.durable) shows_now) in
          let on : dimensions_on n (seen c) ≡ Some d = ap (dimensions_on n) (settled_seen h qs c (shown_on n (seen s)) shows_now) ∙ now.found in
          let all : AllByRecursion (λ x. passed_over (finding_in (store_version (Some d)) (seen c) x) ≡ None) (store_pairs d) =
          subst (λ (l : List Pair). AllByRecursion (λ x. passed_over (finding_in (store_version (Some d)) (seen c) x) ≡ None) l) before.are
          (subst (λ (o : Option Dimensions). AllByRecursion (λ x. passed_over (finding_in (store_version o) (seen c) x) ≡ None) ps) before.its fenced) in
          whole_on n d (seen c) on all

  -- where nothing was passed over there is nothing to fill
  pub filled_still : (findings : List Finding) (now : Image) → findings ≡ findings_on n (seen s) → list_any is_halved findings ≡ false → AreFencesIn (findings_on n (seen s)) now
  filled_still findings now found unnamed = subst (λ (l : List Finding). AreFencesIn l now) found (no_fences findings now (none_passed findings unnamed))

  -- and else each page is filled of a store that is found, and no other
  pub filled_again : (findings : List Finding) → findings ≡ findings_on n (seen s) → list_any is_halved findings ≡ true
      → (m : ℕ) (g : Option Dimensions) (ps : List Pair) (b : State) → m ≡ n → ∥ IsOfStore g ps m b.durable ∥₁ → IsSettled g ps b (shown_on n (seen s)) → seen b ≡ seen s → (now : Image)
      → AllByRecursion (λ x. (number : ℕ) → passed_over (finding_in (store_version g) (seen b) x) ≡ Some number → page now number ≡ fence) ps → AreFencesIn (findings_on n (seen s)) now
  filled_again findings found named m g ps b same fits shows still now filled = by_found (dimensions_on n (seen s)) refl
    where
      by_found : (o : Option Dimensions) → dimensions_on n (seen s) ≡ o → AreFencesIn (findings_on n (seen s)) now
      by_found None is = absurd (none_halved findings found named is)
      by_found (Some d) is =
          let before = lies_in n (seen s) d g ps b.durable long_seen is (subst (λ i. ∥ IsOfStore g ps i b.durable ∥₁) same fits) (ap (λ (z : State). z.durable) shows) in
          subst (λ (o : Option Dimensions). AreFencesIn (map (finding_in (store_version o) (seen s)) (pairs_where o)) now) (sym is) (fences_each (store_version (Some d)) (seen s) (store_pairs d) now
          (subst (λ (image : Image). AllByRecursion (λ x. (number : ℕ) → passed_over (finding_in (store_version (Some d)) image x) ≡ Some number → page now number ≡ fence) (store_pairs d)) still
          (subst (λ (l : List Pair). AllByRecursion (λ x. (number : ℕ) → passed_over (finding_in (store_version (Some d)) (seen b) x) ≡ Some number → page now number ≡ fence) l) before.are
          (subst (λ (o : Option Dimensions). AllByRecursion (λ x. (number : ℕ) → passed_over (finding_in (store_version o) (seen b) x) ≡ Some number → page now number ≡ fence) ps) before.its filled))))

  pub untouched_again : (findings : List Finding) → findings ≡ findings_on n (seen s) → list_any is_halved findings ≡ true
      → (m : ℕ) (g : Option Dimensions) (ps : List Pair) (b : State) → m ≡ n → ∥ IsOfStore g ps m b.durable ∥₁ → IsSettled g ps b (shown_on n (seen s)) → seen b ≡ seen s → (now : Image)
      → ((number : ℕ) → AllByRecursion (λ x. passed_over (finding_in (store_version g) (seen b) x) ≢ Some number) ps → page now number ≡ page (seen b) number) → AgreeBeside (findings_on n (seen s)) (seen s) now
  untouched_again findings found named m g ps b same fits shows still now untouched = by_found (dimensions_on n (seen s)) refl
    where
      by_found : (o : Option Dimensions) → dimensions_on n (seen s) ≡ o → AgreeBeside (findings_on n (seen s)) (seen s) now
      by_found None is = absurd (none_halved findings found named is)
      by_found (Some d) is = λ number none.
          let before = lies_in n (seen s) d g ps b.durable long_seen is (subst (λ i. ∥ IsOfStore g ps i b.durable ∥₁) same fits) (ap (λ (z : State). z.durable) shows) in
          let here : AllByRecursion (λ x. passed_over (finding_in (store_version (Some d)) (seen s) x) ≢ Some number) (store_pairs d) =
          pairs_each (store_version (Some d)) (seen s) (store_pairs d) number (subst (λ (o : Option Dimensions). AllByRecursion (λ it. passed_over it ≢ Some number) (map (finding_in (store_version o) (seen s)) (pairs_where o))) is none) in
          let own : AllByRecursion (λ x. passed_over (finding_in (store_version g) (seen b) x) ≢ Some number) ps =
          subst (λ (o : Option Dimensions). AllByRecursion (λ x. passed_over (finding_in (store_version o) (seen b) x) ≢ Some number) ps) (sym before.its)
          (subst (λ (l : List Pair). AllByRecursion (λ x. passed_over (finding_in (store_version (Some d)) (seen b) x) ≢ Some number) l) (sym before.are)
          (subst (λ (image : Image). AllByRecursion (λ x. passed_over (finding_in (store_version (Some d)) image x) ≢ Some number) (store_pairs d)) (sym still) here)) in
          untouched number own ∙ ap (λ (image : Image). page image number) still

  -- findings that name a page aren't those of a disk of which none is passed over
  pub not_passed : {T : Type 0} (findings : List Finding) → findings ≡ findings_on n (seen s) → list_any is_halved findings ≡ true → NoneIsPassedOver (findings_on n (seen s)) → T
  not_passed findings found named none = absurd (some_passed findings (subst NoneIsPassedOver (sym found) none) named)

-- ---- where a fence is refused, what is left shows as before

pub kept_still : (n : ℕ) (image : Image) → length image ≡ n → dimensions_on n image ≢ None
    → (m : ℕ) (g : Option Dimensions) (pairs : List Pair) (s : State) → m ≡ n → ArePairs pairs m → length s.durable ≡ m → AreNoOlder (store_version g) pairs s → AreAllowed is_allowed pairs s
    → ∥ IsOfStore g pairs m s.durable ∥₁ → seen (shown_state (store_version g) pairs s) ≡ shown_on n image → shown_on n (seen s) ≡ shown_on n image
kept_still n image long some m g pairs s same are size newer allowed fits shows = by_found (dimensions_on n image) refl
  where
    now : shown (store_version g) pairs (seen s) ≡ shown_on n image
    now = sym (seen_shown (store_version g) pairs s (are_on pairs m s.durable are size) newer) ∙ shows

    left : ∥ IsOfStore g pairs n (seen s) ∥₁
    left = subst (λ k. ∥ IsOfStore g pairs k (seen s) ∥₁) same (∥∥₁_map fits (λ durable. kept_of_store g pairs m s (seen s) are size newer allowed durable (seen_MayLeave s)))

    by_found : (o : Option Dimensions) → dimensions_on n image ≡ o → shown_on n (seen s) ≡ shown_on n image
    by_found None is = absurd (some is)
    by_found (Some d) is =
        let lies = lies_in n image d g pairs (seen s) long is left now in
        ap (λ (o : Option Dimensions). shown (store_version o) (pairs_where o) (seen s)) lies.found
        ∙ sym (ap (λ (o : Option Dimensions). shown (store_version o) pairs (seen s)) lies.its ∙ ap (λ (l : List Pair). shown (store_version (Some d)) l (seen s)) lies.are)
        ∙ now

-- and it shows each image as the pairs of the store show it
pub kept_alike : (n : ℕ) (image : Image) → length image ≡ n → dimensions_on n image ≢ None
    → (m : ℕ) (g : Option Dimensions) (pairs : List Pair) (s : State) → m ≡ n → ArePairs pairs m → length s.durable ≡ m → AreNoOlder (store_version g) pairs s → AreAllowed is_allowed pairs s
    → ∥ IsOfStore g pairs m s.durable ∥₁ → seen (shown_state (store_version g) pairs s) ≡ shown_on n image → (left : Image) → shown (store_version g) pairs left ≡ shown_by n image left
kept_alike n image long some m g pairs s same are size newer allowed fits shows left =
    shown_alike n image long some m g pairs (seen s) same (∥∥₁_map fits (λ durable. kept_of_store g pairs m s (seen s) are size newer allowed durable (seen_MayLeave s)))
    (sym (seen_shown (store_version g) pairs s (are_on pairs m s.durable are size) newer) ∙ shows) left

-- what shows of a disk that holds what it held, or that made durable
pub still_shown : (n : ℕ) (now before : State) → (now ≡ before) ⊎ (now ≡ flushed before) → shown_on n (seen now) ≡ shown_on n (seen before)
still_shown n now before (inl same) = ap (λ (s : State). shown_on n (seen s)) same
still_shown n now before (inr flush) = ap (λ (s : State). shown_on n (seen s)) flush

-- ---- two runs of calls, one after the other

pub leaves_then : {D : Type 0} (moment : D → ℕ) (left_since : D → ℕ → Image → Type 0) (old mid new : D) (P Q : Image → Type 0) → ((c : Image) → Q c → P c) → LeavesOnly moment left_since old mid P
    → LeavesOnly moment left_since mid new Q → LeavesOnly moment left_since old new P
leaves_then {D} moment left_since old mid new P Q more first next = record {
  later = omega (arith, first.later, next.later);
  each = λ c left. by_two c (next.before (moment old) c first.later left);
  before = λ t c le left. by_three t c le (next.before t c (omega (arith, le, first.later)) left);
}
  where
    by_two : (c : Image) → left_since mid (moment old) c ⊎ Q c → P c
    by_two c (inl was) = first.each c was
    by_two c (inr now) = more c now

    by_three : (t : ℕ) (c : Image) → t ≤ moment old → left_since mid t c ⊎ Q c → left_since old t c ⊎ P c
    by_three t c le (inl was) = first.before t c le was
    by_three t c le (inr now) = inr (more c now)

pub none_mapped : {A B : Type 0} (f : A → B) (xs : List A) → xs ≡ [] → map f xs ≡ []
none_mapped f xs none = ap (map f) none

-- what a crash leaves of a disk that is settled and shows the same it might have left before
pub same_left : (s now : State) (c : Image) → now.volatile ≡ [] → seen now ≡ seen s → MayLeave now c → MayLeave s c
same_left s now c settled same left =
    let is : c ≡ seen s = MayLeave-settled now c settled left ∙ sym (seen_settled now settled) ∙ same in
    subst (MayLeave s) (sym is) (seen_MayLeave s)
