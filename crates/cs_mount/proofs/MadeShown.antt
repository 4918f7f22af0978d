-- What a store shows where sections that are lost are written anew.
use Rattle.std.proofs.Common.{◌≡◌, ◌≢◌, inr, if◌then◌else◌, ◌==◌, ◌&&◌, ◌||◌, ℕ, zero, suc, ◌+◌, ◌-◌, ◌*◌, ◌^◌, ◌<◌, ◌≤◌, Bool, true, false, not, List, length, map, max, nat_le, nat_lt, Option, Some, slice_get, refl, sym, ◌∙◌, ap, subst, arith, true≢false, mul-le-mul_right}
use Rattle.std.proofs.lemmas.Bool.{ne_eqb}
use Rattle.std.proofs.lemmas.Bool.Decides.{nat_tests}
use Rattle.std.specs.List.{AllByRecursion}
use Rattle.cs_disk.specs.Disk.{Image, latest, page}
use Rattle.cs_frame.specs.declared.locators.Locator.{Locator}
use Rattle.cs_frame.specs.FirstFormat.{page_zero_fault}
use Rattle.cs_frame.specs.Geometries.{Dimensions, IsGeometry}
use Rattle.cs_frame.specs.Pointers.{FitsExtent}
use Rattle.cs_frame.specs.Superblocks.{SpellsSuperblock}
use Rattle.std.proofs.lemmas.List.FromFn.{length-map-range_with_len}
use Rattle.std.specs.List.{range_with_len}
use Rattle.cs_twin.specs.declared.pairs.Pair.{Pair}
use Rattle.cs_twin.specs.Pairs.{ArePairs, Versions, half, is_turned, shown, version_at}
use Rattle.cs_twin.proofs.Roles.{IsOwn, shown_page-none, shown_page-own}
use Rattle.cs_twin.proofs.Shown.{page-shown}
use Rattle.law_machine.specs.Device.{Inside}
use Rattle.law_machine.specs.Geometry.{twins_in}
use Rattle.law_machine.specs.Lists.{◌∈◌}
use Rattle.cs_mount.specs.Identities.{IsOfOne, both_said, identity_said}
use Rattle.cs_mount.specs.MadeSections.{all_made, made_row, made_rows, made_section, section_pair}
use Rattle.cs_mount.specs.Makings.{pair_of_section}
use Rattle.cs_mount.specs.Repaged.{repaged}
use Rattle.cs_mount.specs.Showing.{shown_of, shown_on}
use Rattle.cs_mount.specs.StorePairs.{dimensions_on, first_says, pages_of, pairs_where, root_version, section_at, section_version, store_pair, store_pairs, store_shape, store_version, unless_two, zero_or_last}
use Rattle.cs_mount.proofs.Halves.{one_place}
use Rattle.cs_mount.proofs.MadeWrites.{bytes_made, does, holds, made_here, made_other, newer, own, place_below, place_not_root, twin}
use Rattle.cs_mount.proofs.NewPages.{none_fits}
use Rattle.cs_mount.proofs.Repaging.{length-repaged, page-repaged}
use Rattle.cs_mount.proofs.Resections.{row_fits}
use Rattle.cs_mount.proofs.Spelling.{section_read}
use Rattle.cs_mount.proofs.Telling.{SaysIts, ends_its, found_by_zero, its_one, version_its}
use Rattle.cs_mount.proofs.Twins.{frames, made_at as placed, total_pages}
use Rattle.cs_mount.proofs.Unpaired.{are_pairs, listed_pairs, pair_there}

-- ---- a section that is made

-- where a section's pair lies, and which section it is of
pub page_not_root : (F j : ℕ) → 2 ≤ F → (if nat_lt (if j == 0 then 0 else j + 1) 2 then (if j == 0 then 0 else j + 1) else F + (if j == 0 then 0 else j + 1)) ≢ 1
page_not_root F j some = grind (arith, nat_tests)

pub section_there : (F j : ℕ) → (if (if nat_lt (if j == 0 then 0 else j + 1) 2 then (if j == 0 then 0 else j + 1) else F + (if j == 0 then 0 else j + 1)) == 0 then 0
    else (if nat_lt (if j == 0 then 0 else j + 1) 2 then (if j == 0 then 0 else j + 1) else F + (if j == 0 then 0 else j + 1)) - (1 + F)) ≡ j
section_there F j = grind (arith, nat_tests)

pub section_page_is : (F j : ℕ) → (if j == 0 then 0 else 1 + F + j) ≡ (if nat_lt (if j == 0 then 0 else j + 1) 2 then (if j == 0 then 0 else j + 1) else F + (if j == 0 then 0 else j + 1))
section_page_is F j = grind (arith, nat_tests)

rows_fit : (pages : ℕ) (named : List Locator) → ((l : Locator) → l ∈ named → l.generation ≤ 4294967295) → (first count : ℕ)
    → AllByRecursion (FitsExtent pages) (map (made_row pages named) (range_with_len first count))
rows_fit pages named low first zero = tt
rows_fit pages named low first (suc count) = let fit = row_fits pages 4294967295 named low first in (
  record { pointer = fit.0; generation = (let few = fit.1 in omega (arith, few)) },
  rows_fit pages named low (first + 1) count,
)

module _ (d : Dimensions) (g : IsGeometry d.format d.extents d.pages d.sections) (twins : twins_in d.format ≡ true) (named : List Locator) (low : (l : Locator) → l ∈ named → l.generation ≤ 4294967295) where
  pub spells_made : (j version : ℕ) → j < d.sections → 1 ≤ version → version < 2 ^ 63
      → SpellsSuperblock (made_section d named version j) d.format version 0 d.extents d.pages d.sections j (made_rows d named j)
  unfolding made_section
  spells_made j version lt first last = record {
    fits = record {
      first_version = first;
      last_version = last;
      recorded_fits = none_fits d.format;
      geometry = g;
      one_of_them = lt;
      count = length-map-range_with_len (made_row d.pages named) _ _;
      each = rows_fit d.pages named low _ _;
    };
    spelled = refl;
  }

  pub made_version : (j version : ℕ) → j < d.sections → 1 ≤ version → version < 2 ^ 63 → section_version d j (made_section d named version j) ≡ version
  made_version j version lt first last = sym (section_read (made_section d named version j) d d.format version 0 d.extents d.pages d.sections j j (made_rows d named j) (spells_made j version lt first last) refl (refl, refl, refl, refl, refl))

  pub made_at : (j version : ℕ) → j < d.sections → 1 ≤ version → version < 2 ^ 63 → store_version (Some d) (section_pair d j).page (made_section d named version j) ≡ version
  made_at j version lt first last =
      let bytes = made_section d named version j in
      ap (λ (b : Bool). if b then root_version d.format bytes else section_version d (section_at d (section_pair d j).page) bytes) (ne_eqb (section_pair d j).page 1 (page_not_root (d.extents * d.pages) j (frames d g twins)))
      ∙ ap (λ n. section_version d n bytes) (section_there (d.extents * d.pages) j)
      ∙ made_version j version lt first last

-- ---- what shows of an image

module _ (d : Dimensions) (g : IsGeometry d.format d.extents d.pages d.sections) (twins : twins_in d.format ≡ true) where
  -- what shows of a pair
  pub shows_at : (k : ℕ) (some : Image) → k ≤ d.sections → length some ≡ pages_of d
      → page (shown_of d some) (store_pair d k).page ≡ page some (half (store_pair d k) (is_turned (store_version (Some d)) some (store_pair d k)))
  shows_at k some le all =
      page-shown (store_version (Some d)) (store_pairs d) some (store_pair d k).page
      (let lt = (are_pairs d g twins).inside k (store_pair d k) false (pair_there d g twins k le) in omega (arith, lt, all))
      ∙ shown_page-own (store_version (Some d)) some (store_pairs d) (pages_of d) (are_pairs d g twins) k (store_pair d k) (pair_there d g twins k le)

  -- ---- pages of extents

  -- they lie behind the root, and before the other sections
  pub frame_low : (e i : ℕ) → Inside (store_shape d) e i → (store_shape d).address e i < 2 + d.extents * d.pages
  frame_low e i there = let below : (e + 1) * d.pages ≤ d.extents * d.pages = mul-le-mul_right d.pages (let lt : e < d.extents = there.0 in omega arith) in
      let sum : (e + 1) * d.pages ≡ e * d.pages + d.pages = grind arith in
      let lt : i < d.pages = there.1 in
      omega (arith, below, sum, lt)

  pub frame_own : (e i : ℕ) → Inside (store_shape d) e i → IsOwn (store_pairs d) ((store_shape d).address e i)
  frame_own e i there k y b at is =
      let found = made_at_place k y (ap (λ (l : List Pair). slice_get l k) (sym (listed_pairs d g twins)) ∙ at) in
      by b (let lt : k < 1 + d.sections = found.0 in omega (arith, lt)) (is ∙ ap (λ (z : Pair). half z b) (sym found.1))
    where
      made_at_place : (k : ℕ) (y : Pair) → slice_get (map (store_pair d) (range_with_len 0 (1 + d.sections))) k ≡ Some y → (k < 1 + d.sections) × (store_pair d k ≡ y)
      made_at_place k y at = let two = placed (store_pair d) 0 (1 + d.sections) k y at in (two.0, ap (store_pair d) (let same : k ≡ 0 + k = omega arith in same) ∙ two.1)

      first_low : (F k p : ℕ) → p < 2 + F → 2 ≤ p → p ≢ (if nat_lt k 2 then k else F + k)
      first_low F k p lt some same = grind (arith, nat_tests)

      by : (b : Bool) → k ≤ d.sections → (store_shape d).address e i ≡ half (store_pair d k) b → ⊥
      by false le same = first_low (d.extents * d.pages) k ((store_shape d).address e i) (frame_low e i there) (omega arith) same
      by true le same = let total = total_pages d g twins in let lt = frame_low e i there in omega (arith, same, lt, total, le)

  pub frame_shows : (some : Image) → length some ≡ pages_of d → (e i : ℕ) → Inside (store_shape d) e i → page (shown_of d some) ((store_shape d).address e i) ≡ page some ((store_shape d).address e i)
  frame_shows some all e i there =
      let p = (store_shape d).address e i in
      let total = total_pages d g twins in
      let lt = frame_low e i there in
      page-shown (store_version (Some d)) (store_pairs d) some p (omega (arith, lt, total, all)) ∙ shown_page-none (store_version (Some d)) some (store_pairs d) p (frame_own e i there)

-- ---- the halves, and what shows

-- a half that is written where it was none is some
first_some : (old new : ℕ) (served : Bool) → served ≡ false → 1 ≤ new → 0 < (if not served && (old == 0) then new else old)
first_some old new true off many = absurd (true≢false off)
first_some old new false off many = grind (arith, nat_tests)

-- what is found looks at the two ends
found_alike : (n : ℕ) (image other : Image) → page image 0 ≡ page other 0 → page image (n - 1) ≡ page other (n - 1) → dimensions_on n image ≡ dimensions_on n other
found_alike n image other first last =
    ap (λ (z : List ℕ). unless_two (both_said (identity_said z) (identity_said (page image (n - 1)))) (zero_or_last n (page_zero_fault z) z (first_says n (page image (n - 1))))) first
    ∙ ap (λ (z : List ℕ). unless_two (both_said (identity_said (page other 0)) (identity_said z)) (zero_or_last n (page_zero_fault (page other 0)) (page other 0) (first_says n z))) last

-- one is made where a half isn't whole
abbrev pub is_made : (does : Bool) → (own twin : ℕ) → Bool
is_made does own twin = not does && ((own == 0) || (twin == 0))

-- a section that isn't made keeps its halves
kept_half : (does : Bool) (own twin : ℕ) (b : Bool) → is_made does own twin ≡ false → (not does && ((if b then twin else own) == 0)) ≡ false
kept_half does own twin true off = grind (arith, nat_tests)
kept_half does own twin false off = grind (arith, nat_tests)

-- of one that is made the made half is the newest
made_half : (own twin o t new : ℕ) (does : Bool) → is_made does own twin ≡ true → new ≡ 1 + max own twin
    → o ≡ (if not does && (own == 0) then new else own) → t ≡ (if not does && (twin == 0) then new else twin)
    → (not does && ((if nat_le o t then twin else own) == 0)) ≡ true
made_half own twin o t new does on is first second = grind (arith, nat_tests)

module _ (d : Dimensions) (g : IsGeometry d.format d.extents d.pages d.sections) (twins : twins_in d.format ≡ true) (image : Image) (root : ℕ) (named : List Locator)
    (long : length image ≡ pages_of d) (before : dimensions_on (pages_of d) image ≡ Some d)
    (low : (l : Locator) → l ∈ named → l.generation ≤ 4294967295)
    (fit : (j : ℕ) → j < d.sections → does d g twins image root named j ≡ false → newer d g twins image root named j < 2 ^ 63) where
  abbrev V : Versions
  V = store_version (Some d)

  abbrev pub after : Image
  after = repaged (latest (all_made d image root named d.sections)) image

  -- whether a section is made
  abbrev pub made : ℕ → Bool
  made j = is_made (does d g twins image root named j) (own d g twins image root named j) (twin d g twins image root named j)

  abbrev Y : ℕ → Pair
  Y j = section_pair d j

  are : ArePairs (store_pairs d) (pages_of d)
  are = are_pairs d g twins

  inside : (k : ℕ) (b : Bool) → k ≤ d.sections → half (store_pair d k) b < length image
  inside k b le = subst (λ (n : ℕ). half (store_pair d k) b < n) (sym long) (are.inside k (store_pair d k) b (pair_there d g twins k le))

  half_at : (j : ℕ) (b : Bool) → j < d.sections → page after (half (Y j) b) ≡ holds d g twins image root named j b (page image (half (Y j) b))
  half_at j b lt =
      page-repaged (latest (all_made d image root named d.sections)) image (half (Y j) b) (inside (pair_of_section j) b (place_below j d.sections lt))
      ∙ made_here d g twins image root named d.sections j b (page image (half (Y j) b)) (omega arith) lt

  other_at : (p : ℕ) → p < pages_of d → ((j : ℕ) (b : Bool) → j < d.sections → half (Y j) b ≢ p) → page after p ≡ page image p
  other_at p lt none =
      page-repaged (latest (all_made d image root named d.sections)) image p (omega (arith, lt, long)) ∙ made_other d g twins image root named d.sections p (page image p) none

  pub size : length after ≡ pages_of d
  size = length-repaged (latest (all_made d image root named d.sections)) image ∙ long

  -- a pair of which both halves stay shows the same
  stays : (k : ℕ) → k ≤ d.sections → ((b : Bool) → page after (half (store_pair d k) b) ≡ page image (half (store_pair d k) b))
      → page (shown_of d after) (store_pair d k).page ≡ page (shown_of d image) (store_pair d k).page
  stays k le same =
      let y = store_pair d k in
      let turned : is_turned V after y ≡ is_turned V image y = ap (λ (z : List ℕ). nat_le (V y.page z) (version_at V after y true)) (same false) ∙ ap (λ (z : List ℕ). nat_le (version_at V image y false) (V y.page z)) (same true) in
      shows_at d g twins k after le size ∙ ap (λ (b : Bool). page after (half y b)) turned ∙ same (is_turned V image y) ∙ sym (shows_at d g twins k image le long)

  pub root_stays : page (shown_of d after) 1 ≡ page (shown_of d image) 1
  root_stays = stays 1 g.fewest_sections (λ b. other_at (half (store_pair d 1) b) (let lt = inside 1 b g.fewest_sections in omega (arith, lt, long))
      (λ j c lt same. place_not_root j (one_place d g twins (pair_of_section j) 1 c b (place_below j d.sections lt) g.fewest_sections same).0))

  kept : (j : ℕ) → j < d.sections → made j ≡ false → (b : Bool) → page after (half (Y j) b) ≡ page image (half (Y j) b)
  kept j lt off b = half_at j b lt
      ∙ ap (λ (t : Bool). if t then bytes_made d g twins image root named j else page image (half (Y j) b)) (kept_half (does d g twins image root named j) (own d g twins image root named j) (twin d g twins image root named j) b off)

  pub section_stays : (j : ℕ) → j < d.sections → made j ≡ false → page (shown_of d after) ((store_shape d).section_page j) ≡ page (shown_of d image) ((store_shape d).section_page j)
  section_stays j lt off = subst (λ (p : ℕ). page (shown_of d after) p ≡ page (shown_of d image) p) (sym (section_page_is (d.extents * d.pages) j))
      (stays (pair_of_section j) (place_below j d.sections lt) (kept j lt off))

  -- the version of a half then
  half_version : (j : ℕ) (b : Bool) → j < d.sections → does d g twins image root named j ≡ false
      → version_at V after (Y j) b ≡ (if not (does d g twins image root named j) && ((if b then twin d g twins image root named j else own d g twins image root named j) == 0) then newer d g twins image root named j else (if b then twin d g twins image root named j else own d g twins image root named j))
  half_version j b lt off = ap (V (Y j).page) (half_at j b lt) ∙ by (not (does d g twins image root named j) && ((if b then twin d g twins image root named j else own d g twins image root named j) == 0))
      ∙ ap (λ (n : ℕ). if not (does d g twins image root named j) && ((if b then twin d g twins image root named j else own d g twins image root named j) == 0) then newer d g twins image root named j else n) (pick b)
    where
      pick : (c : Bool) → version_at V image (Y j) c ≡ (if c then twin d g twins image root named j else own d g twins image root named j)
      pick true = refl
      pick false = refl

      by : (t : Bool) → V (Y j).page (if t then bytes_made d g twins image root named j else page image (half (Y j) b)) ≡ (if t then newer d g twins image root named j else version_at V image (Y j) b)
      by true = made_at d g twins named low j (newer d g twins image root named j) lt (omega arith) (fit j lt off)
      by false = refl

  unserved : (j : ℕ) → made j ≡ true → does d g twins image root named j ≡ false
  unserved j on = by (does d g twins image root named j) refl
    where
      by : (t : Bool) → does d g twins image root named j ≡ t → does d g twins image root named j ≡ false
      by true is = absurd (true≢false (sym on ∙ ap (λ (b : Bool). is_made b (own d g twins image root named j) (twin d g twins image root named j)) is))
      by false is = is

  pub section_made : (j : ℕ) → j < d.sections → made j ≡ true → page (shown_of d after) ((store_shape d).section_page j) ≡ bytes_made d g twins image root named j
  section_made j lt on =
      let off = unserved j on in
      subst (λ (p : ℕ). page (shown_of d after) p ≡ bytes_made d g twins image root named j) (sym (section_page_is (d.extents * d.pages) j))
      (shows_at d g twins (pair_of_section j) after (place_below j d.sections lt) size ∙ half_at j (is_turned V after (Y j)) lt
      ∙ ap (λ (t : Bool). if t then bytes_made d g twins image root named j else page image (half (Y j) (is_turned V after (Y j))))
      (made_half (own d g twins image root named j) (twin d g twins image root named j) (version_at V after (Y j) false) (version_at V after (Y j) true) (newer d g twins image root named j) (does d g twins image root named j) on refl
      (half_version j false lt off) (half_version j true lt off)))

  pub frame_stays : (e i : ℕ) → Inside (store_shape d) e i → page (shown_of d after) ((store_shape d).address e i) ≡ page (shown_of d image) ((store_shape d).address e i)
  frame_stays e i there =
      let p = (store_shape d).address e i in
      let total = total_pages d g twins in
      let lt = frame_low d g twins e i there in
      let free = frame_own d g twins e i there in
      frame_shows d g twins after size e i there
      ∙ other_at p (omega (arith, lt, total)) (λ j b less same. free (pair_of_section j) (Y j) b (pair_there d g twins (pair_of_section j) (place_below j d.sections less)) (sym same))
      ∙ sym (frame_shows d g twins image long e i there)

  -- ---- the store is found again

  some : 0 < d.sections
  some = g.fewest_sections

  -- each end says the identity of the store, or none
  its : (b : Bool) → SaysIts d (page image (half (Y 0) b)) → SaysIts d (page after (half (Y 0) b))
  its b was = subst (SaysIts d) (sym (half_at 0 b some)) (by (not (does d g twins image root named 0) && ((if b then twin d g twins image root named 0 else own d g twins image root named 0) == 0)) refl)
    where
      no_does : (a c : Bool) → (not a && c) ≡ true → a ≡ false
      no_does true c on = absurd (true≢false (sym on))
      no_does false c on = refl

      by : (t : Bool) → (not (does d g twins image root named 0) && ((if b then twin d g twins image root named 0 else own d g twins image root named 0) == 0)) ≡ t
          → SaysIts d (if t then bytes_made d g twins image root named 0 else page image (half (Y 0) b))
      by true on = inr (version_its d (bytes_made d g twins image root named 0) twins
          (let v = made_version d g twins named low 0 (newer d g twins image root named 0) some (omega arith) (fit 0 some (no_does (does d g twins image root named 0) ((if b then twin d g twins image root named 0 else own d g twins image root named 0) == 0) on)) in omega (arith, v)))
      by false off = was

  one_store : IsOfOne (pages_of d) after
  one_store = let were = ends_its (pages_of d) image d before in its_one (pages_of d) after d (its false were.0) (its true were.1)

  pub found_after : dimensions_on (pages_of d) after ≡ Some d
  found_after = by (made 0) refl
    where
      -- page 0 is whole, where the section is made
      first_whole : made 0 ≡ true → 0 < section_version d 0 (page after 0)
      first_whole on =
          let v = half_version 0 false some (unserved 0 on) in
          let either = first_some (own d g twins image root named 0) (newer d g twins image root named 0) (does d g twins image root named 0) (unserved 0 on) (omega arith) in
          omega (arith, v, either)

      by : (t : Bool) → made 0 ≡ t → dimensions_on (pages_of d) after ≡ Some d
      by true on = found_by_zero d after twins (first_whole on) one_store
      by false off = found_alike (pages_of d) after image (kept 0 some off false) (kept 0 some off true) ∙ before

  -- So an opening shows that.
  pub shown_after : shown_on (pages_of d) after ≡ shown_of d after
  shown_after = ap (λ (o : Option Dimensions). shown (store_version o) (pairs_where o) after) found_after
