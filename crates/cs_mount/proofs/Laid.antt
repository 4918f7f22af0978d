-- What the disk holds after each step in which a new store is laid, and what a crash within it leaves.
use Rattle.std.proofs.Common.{◌≡◌, ◌≢◌, ◌⊎◌, inl, inr, ⊎_elim, ◌-◌, ℕ, ◌<◌, ◌≤◌, Bool, true, false, List, [], ◌∷◌, ◌++◌, None, length, slice_set, refl, sym, ◌∙◌, ap, subst, arith}
use Rattle.std.proofs.lemmas.Bool.{cases_eq, cases_lt}
use Rattle.std.proofs.lemmas.Bool.Decides.{nat_tests}
use Rattle.std.proofs.lemmas.List.{get_or_past, length-set}
use Rattle.cs_disk.specs.Disk.{Image, MayLeave, State, Write, kept, latest, page, seen}
use Rattle.cs_disk.proofs.Crashes.{MayLeave-settled, MayLeave-written}
use Rattle.cs_disk.proofs.Images.{length-applied, page-applied, page_other, page_same}
use Rattle.cs_frame.specs.declared.formats.FormatNumber.TheVariants as of_number
use Rattle.law_machine.specs.Geometry.{twins_in}
use Rattle.cs_frame.specs.FirstFormat.{page_zero_fault}
use Rattle.cs_frame.specs.Geometries.{Dimensions, IsGeometry}
use Rattle.cs_frame.specs.Superblocks.{superblock_fault}
use Rattle.cs_twin.specs.Pairs.{half}
use Rattle.cs_twin.proofs.Leaving.{kept_among}
use Rattle.cs_twin.proofs.Shown.{latest_none}
use Rattle.cs_mount.specs.Makings.{IsBlankedFrom, IsCleared, IsTornLaying, after_writes, both_halves, cleared, clearing, half_laid, halves_up_to, laid, new_page, new_section, zero_page}
use Rattle.cs_mount.specs.StorePairs.{pages_of, store_pair}
use Rattle.cs_mount.proofs.Blank.{no_first, no_section}
use Rattle.cs_mount.proofs.Halves.{latest_append, one_place, both_other, both_there, halves_other, halves_there, none_first}
use Rattle.cs_mount.proofs.Laying.{after_both}
use Rattle.cs_mount.proofs.Unpaired.{are_pairs, pair_there}
use Rattle.cs_mount.proofs.Twins.{total_pages}

-- what a disk reads as after some writes more
pub seen_after : (s : State) (writes : List Write) (p : ℕ) → p < length s.durable → page (seen (after_writes s writes)) p ≡ latest writes p (page (seen s) p)
seen_after s writes p lt =
    page-applied s.durable (s.volatile ++ writes) p lt ∙ latest_append s.volatile writes p (page s.durable p) ∙ ap (latest writes p) (sym (page-applied s.durable s.volatile p lt))

pub length-after : (s : State) (writes : List Write) → length (seen (after_writes s writes)) ≡ length s.durable
length-after s writes = length-applied s.durable (s.volatile ++ writes)

-- a page that was set, or that wasn't
set_at : (image : Image) (p q : ℕ) (bytes : List ℕ) → q < length image → (page (slice_set image p bytes) q ≡ page image q) ⊎ ((q ≡ p) × (page (slice_set image p bytes) q ≡ bytes))
set_at image p q bytes lt = ⊎_elim
    (λ (here : q ≡ p). inr (here, subst (λ r. page (slice_set image r bytes) q ≡ bytes) here (page_same image q bytes lt)))
    (λ (other : q ≢ p). inl (page_other image p q bytes other))
    (cases_eq q p)

-- ---- what some of two writes leave

pub record IsOfTwo (s : State) (p q : ℕ) (x y : List ℕ) (c : Image) : Type 0 where
  pub base : Image
  pub left : MayLeave s base
  pub size : length c ≡ length base
  pub each : (r : ℕ) → r < length base → (page c r ≡ page base r) ⊎ ((r ≡ p) × (page c r ≡ x)) ⊎ ((r ≡ q) × (page c r ≡ y))

pub two_writes : (s : State) (p q : ℕ) (x y : List ℕ) (c : Image) → MayLeave (after_writes s ((p, x) ∷ (q, y) ∷ [])) c → IsOfTwo s p q x y c
two_writes s p q x y c left =
    let two = MayLeave-written (after_writes s ((p, x) ∷ [])) q y c (subst (λ (z : State). MayLeave z c) (sym (after_both s ((p, x) ∷ []) ((q, y) ∷ []))) left) in
    let one = MayLeave-written s p x two.0 two.1 in
    record { base = one.0; left = one.1; size = long two.0 c q y two.2 ∙ long one.0 two.0 p x one.2; each = each two.0 one.0 one.2 two.2 }
  where
    long : (b m : Image) (r : ℕ) (z : List ℕ) → (m ≡ b) ⊎ (m ≡ slice_set b r z) → length m ≡ length b
    long b m r z (inl same) = ap length same
    long b m r z (inr is) = ap length is ∙ length-set b r z

    at_page : (b m : Image) (t r : ℕ) (z : List ℕ) → r < length b → (m ≡ b) ⊎ (m ≡ slice_set b t z) → (page m r ≡ page b r) ⊎ ((r ≡ t) × (page m r ≡ z))
    at_page b m t r z lt (inl same) = inl (ap (λ (i : Image). page i r) same)
    at_page b m t r z lt (inr is) = subst (λ (i : Image). (page i r ≡ page b r) ⊎ ((r ≡ t) × (page i r ≡ z))) (sym is) (set_at b t r z lt)

    each : (m b : Image) → (m ≡ b) ⊎ (m ≡ slice_set b p x) → (c ≡ m) ⊎ (c ≡ slice_set m q y) → (r : ℕ) → r < length b → (page c r ≡ page b r) ⊎ ((r ≡ p) × (page c r ≡ x)) ⊎ ((r ≡ q) × (page c r ≡ y))
    each m b first second r lt =
        let size = long b m p x first in
        ⊎_elim
        (λ (same : page c r ≡ page m r). ⊎_elim (λ (was : page m r ≡ page b r). inl (same ∙ was)) (λ (there : (r ≡ p) × (page m r ≡ x)). inr (inl (there.0, same ∙ there.1))) (at_page b m p r x lt first))
        (λ (there : (r ≡ q) × (page c r ≡ y)). inr (inr there))
        (at_page m c q r y (omega (arith, lt, size)) second)

-- the first step: some of the zeros may be there
pub blanked : (pages : ℕ) (s : State) (c : Image) → MayLeave (after_writes s ((0, zero_page) ∷ (pages - 1, zero_page) ∷ [])) c → (b : Image) × MayLeave s b × IsBlankedFrom pages b c
blanked pages s c left =
    let two = two_writes s 0 (pages - 1) zero_page zero_page c left in (
      two.base,
      two.left,
      record {
        size = two.size;
        each = λ p lt. ⊎_elim (λ same. inl same) (λ others. ⊎_elim (λ (first : (p ≡ 0) × (page c p ≡ zero_page)). inr (inl first.0, first.1)) (λ (end : (p ≡ pages - 1) × (page c p ≡ zero_page)). inr (inr end.0, end.1)) others) (two.each p lt);
      },
    )

module _ (d : Dimensions) (g : IsGeometry d.format d.extents d.pages d.sections) (twins : twins_in d.format ≡ true) (s : State) (sized : length s.durable ≡ pages_of d) where
  -- the halves of the first pair
  some_pages : 2 ≤ pages_of d
  some_pages = let total = total_pages d g twins in omega (arith, total)

  inside : (k : ℕ) (twin : Bool) → k ≤ d.sections → half (store_pair d k) twin < pages_of d
  inside k twin le = (are_pairs d g twins).inside k (store_pair d k) twin (pair_there d g twins k le)

  pub size_cleared : length (cleared d s).durable ≡ pages_of d
  size_cleared = length-after s (clearing d) ∙ sized

  pub size_half : length (half_laid d s).durable ≡ pages_of d
  size_half = length-after (cleared d s) (halves_up_to d d.sections) ∙ size_cleared

  pub size_laid : length (laid d s).durable ≡ pages_of d
  size_laid = length-after (half_laid d s) (both_halves d 0) ∙ size_half

  -- ---- after the first step

  pub first_cleared : page (cleared d s).durable 0 ≡ zero_page
  first_cleared = seen_after s (clearing d) 0 (omega (arith, sized, some_pages)) ∙ by_last (pages_of d - 1) zero_page (page (seen s) 0)
    where
      by_last : (q : ℕ) (z bytes : List ℕ) → latest ((0, z) ∷ (q, z) ∷ []) 0 bytes ≡ z
      by_last q z bytes = grind (arith, nat_tests)

  pub last_cleared : page (cleared d s).durable (pages_of d - 1) ≡ zero_page
  last_cleared = seen_after s (clearing d) (pages_of d - 1) (omega (arith, sized, some_pages)) ∙ by_last (pages_of d - 1) zero_page (page (seen s) (pages_of d - 1))
    where
      by_last : (q : ℕ) (z bytes : List ℕ) → latest ((0, z) ∷ (q, z) ∷ []) q bytes ≡ z
      by_last q z bytes = grind (arith, nat_tests)

  pub other_cleared : (p : ℕ) → p < pages_of d → p ≢ 0 → p ≢ pages_of d - 1 → page (cleared d s).durable p ≡ page (seen s) p
  other_cleared p lt not_first not_last = seen_after s (clearing d) p (omega (arith, sized, lt)) ∙ by_last (pages_of d - 1) p zero_page (page (seen s) p) not_first not_last
    where
      by_last : (q p : ℕ) (z bytes : List ℕ) → p ≢ 0 → p ≢ q → latest ((0, z) ∷ (q, z) ∷ []) p bytes ≡ bytes
      by_last q p z bytes none other = grind (arith, nat_tests)

  -- ---- within the second, and after it

  none_kept : (b : Bool) (mask : List Bool) (bytes : List ℕ) → latest (kept mask (halves_up_to d d.sections)) (half (store_pair d 0) b) bytes ≡ bytes
  none_kept b mask bytes = latest_none (kept mask (halves_up_to d d.sections)) (half (store_pair d 0) b) bytes
      (λ i w at goes. let among = kept_among mask (halves_up_to d d.sections) i w at in none_first d g twins d.sections b (omega arith) among.0 w among.1 goes)

  pub still_cleared : (c : Image) → MayLeave (after_writes (cleared d s) (halves_up_to d d.sections)) c → IsCleared (pages_of d) c
  still_cleared c left = (
    ap (λ (i : Image). page i 0) left.2 ∙ page-applied (cleared d s).durable (kept left.0 (halves_up_to d d.sections)) 0 (omega (arith, size_cleared, some_pages)) ∙ none_kept false left.0 (page (cleared d s).durable 0) ∙ first_cleared,
    ap (λ (i : Image). page i (pages_of d - 1)) left.2 ∙ page-applied (cleared d s).durable (kept left.0 (halves_up_to d d.sections)) (pages_of d - 1) (omega (arith, size_cleared, some_pages))
        ∙ none_kept true left.0 (page (cleared d s).durable (pages_of d - 1)) ∙ last_cleared,
  )

  half_clear : (b : Bool) → page (half_laid d s).durable (half (store_pair d 0) b) ≡ page (cleared d s).durable (half (store_pair d 0) b)
  half_clear b =
      let lt = inside 0 b (omega arith) in
      seen_after (cleared d s) (halves_up_to d d.sections) (half (store_pair d 0) b) (omega (arith, lt, size_cleared))
      ∙ latest_none (halves_up_to d d.sections) (half (store_pair d 0) b) (page (cleared d s).durable (half (store_pair d 0) b)) (none_first d g twins d.sections b (omega arith))

  pub there_half : (k : ℕ) (twin : Bool) → 0 < k → k ≤ d.sections → page (half_laid d s).durable (half (store_pair d k) twin) ≡ new_page d k
  there_half k twin some le =
      let lt = inside k twin le in
      seen_after (cleared d s) (halves_up_to d d.sections) (half (store_pair d k) twin) (omega (arith, lt, size_cleared))
      ∙ halves_there d g twins d.sections k twin (page (cleared d s).durable (half (store_pair d k) twin)) (omega arith) some le

  -- ---- within the third, and after it

  pub torn_from : (c : Image) → MayLeave (after_writes (half_laid d s) (both_halves d 0)) c → IsTornLaying d (half_laid d s).durable c
  torn_from c left = record {
    size = two.size ∙ same_size;
    others = λ p not_first not_last. ⊎_elim
        (λ (lt : p < length two.base). ⊎_elim (λ same. same ∙ ap (λ (i : Image). page i p) base)
        (λ others. ⊎_elim (λ (here : (p ≡ 0) × (page c p ≡ new_section d 0)). absurd (not_first here.0)) (λ (here : (p ≡ pages_of d - 1) × (page c p ≡ new_section d 0)). absurd (not_last here.0)) others) (two.each p lt))
        (λ (past : length two.base ≤ p). get_or_past c p [] (omega (arith, past, two.size)) ∙ sym (get_or_past (half_laid d s).durable p [] (omega (arith, past, same_size))))
        (cases_lt p (length two.base));
    first = ⊎_elim (λ same. inr (λ whole. no_first (subst (λ (bytes : List ℕ). page_zero_fault bytes ≡ None) (same ∙ ap (λ (i : Image). page i 0) base ∙ half_clear false ∙ first_cleared) whole)))
        (λ others. ⊎_elim (λ (here : ◌≡◌ {A = ℕ} 0 0 × (page c 0 ≡ new_section d 0)). inl here.1) (λ (here : (0 ≡ pages_of d - 1) × (page c 0 ≡ new_section d 0)). inl here.1) others) (two.each 0 (omega (arith, same_size, size_half, some_pages)));
    last = ⊎_elim (λ same. inr (λ whole. no_section of_number.Four (subst (λ (bytes : List ℕ). superblock_fault of_number.Four bytes ≡ None) (same ∙ ap (λ (i : Image). page i (pages_of d - 1)) base ∙ half_clear true ∙ last_cleared) whole)))
        (λ others. ⊎_elim (λ (here : (pages_of d - 1 ≡ 0) × (page c (pages_of d - 1) ≡ new_section d 0)). inl here.1) (λ (here : (pages_of d - 1 ≡ pages_of d - 1) × (page c (pages_of d - 1) ≡ new_section d 0)). inl here.1) others) (two.each (pages_of d - 1) (omega (arith, same_size, size_half, some_pages)));
  }
    where
      two : IsOfTwo (half_laid d s) 0 (pages_of d - 1) (new_section d 0) (new_section d 0) c
      two = two_writes (half_laid d s) 0 (pages_of d - 1) (new_section d 0) (new_section d 0) c left

      base : two.base ≡ (half_laid d s).durable
      base = MayLeave-settled (half_laid d s) two.base refl two.left

      same_size : length two.base ≡ length (half_laid d s).durable
      same_size = ap length base

  -- page 0 and the last page hold zeros still, or one of them holds the new section
  pub third_is : (c : Image) → MayLeave (after_writes (half_laid d s) (both_halves d 0)) c → IsCleared (pages_of d) c ⊎ (page c 0 ≡ new_section d 0) ⊎ (page c (pages_of d - 1) ≡ new_section d 0)
  third_is c left = by (two.each 0 (omega (arith, same_size, size_half, some_pages))) (two.each (pages_of d - 1) (omega (arith, same_size, size_half, some_pages)))
    where
      two : IsOfTwo (half_laid d s) 0 (pages_of d - 1) (new_section d 0) (new_section d 0) c
      two = two_writes (half_laid d s) 0 (pages_of d - 1) (new_section d 0) (new_section d 0) c left

      base : two.base ≡ (half_laid d s).durable
      base = MayLeave-settled (half_laid d s) two.base refl two.left

      same_size : length two.base ≡ length (half_laid d s).durable
      same_size = ap length base

      by : (page c 0 ≡ page two.base 0) ⊎ (◌≡◌ {A = ℕ} 0 0 × (page c 0 ≡ new_section d 0)) ⊎ ((0 ≡ pages_of d - 1) × (page c 0 ≡ new_section d 0))
          → (page c (pages_of d - 1) ≡ page two.base (pages_of d - 1)) ⊎ ((pages_of d - 1 ≡ 0) × (page c (pages_of d - 1) ≡ new_section d 0)) ⊎ ((pages_of d - 1 ≡ pages_of d - 1) × (page c (pages_of d - 1) ≡ new_section d 0))
          → IsCleared (pages_of d) c ⊎ (page c 0 ≡ new_section d 0) ⊎ (page c (pages_of d - 1) ≡ new_section d 0)
      by (inl own) (inl twin) = inl (
        own ∙ ap (λ (i : Image). page i 0) base ∙ half_clear false ∙ first_cleared,
        twin ∙ ap (λ (i : Image). page i (pages_of d - 1)) base ∙ half_clear true ∙ last_cleared,
      )
      by (inr (inl here)) last = inr (inl here.1)
      by (inr (inr here)) last = inr (inl here.1)
      by (inl own) (inr (inl here)) = inr (inr here.1)
      by (inl own) (inr (inr here)) = inr (inr here.1)

  first_laid : (twin : Bool) → page (laid d s).durable (half (store_pair d 0) twin) ≡ new_page d 0
  first_laid twin =
      let lt = inside 0 twin (omega arith) in
      seen_after (half_laid d s) (both_halves d 0) (half (store_pair d 0) twin) (omega (arith, lt, size_half)) ∙ both_there d g twins 0 twin (page (half_laid d s).durable (half (store_pair d 0) twin)) (omega arith)

  later_laid : (k : ℕ) (twin : Bool) → 0 < k → k ≤ d.sections → page (laid d s).durable (half (store_pair d k) twin) ≡ new_page d k
  later_laid k twin some le =
      let lt = inside k twin le in
      let p = half (store_pair d k) twin in
      seen_after (half_laid d s) (both_halves d 0) p (omega (arith, lt, size_half))
      ∙ both_other d g twins 0 p (page (half_laid d s).durable p) (λ b same. let one = (one_place d g twins 0 k b twin (omega arith) le same).0 in omega (arith, one, some))
      ∙ there_half k twin some le

  -- Each half of each pair holds what a new store has there.
  pub there_laid : (k : ℕ) (twin : Bool) → k ≤ d.sections → page (laid d s).durable (half (store_pair d k) twin) ≡ new_page d k
  there_laid k twin le = ⊎_elim
      (λ (first : k ≡ 0). subst (λ n. page (laid d s).durable (half (store_pair d n) twin) ≡ new_page d n) (sym first) (first_laid twin))
      (λ (later : k ≢ 0). later_laid k twin (omega (arith, later)) le)
      (cases_eq k 0)

  -- and every other page what it held
  pub other_laid : (p : ℕ) → p < pages_of d → ((k : ℕ) (twin : Bool) → k ≤ d.sections → half (store_pair d k) twin ≡ p → ⊥) → page (laid d s).durable p ≡ page (seen s) p
  other_laid p lt none =
      seen_after (half_laid d s) (both_halves d 0) p (omega (arith, lt, size_half)) ∙ both_other d g twins 0 p (page (half_laid d s).durable p) (λ b same. none 0 b (omega arith) same)
      ∙ seen_after (cleared d s) (halves_up_to d d.sections) p (omega (arith, lt, size_cleared)) ∙ halves_other d g twins d.sections p (page (cleared d s).durable p) (λ k b some le same. none k b le same)
      ∙ other_cleared p lt (λ same. none 0 false (omega arith) (sym same)) (λ same. none 0 true (omega arith) (sym same))
