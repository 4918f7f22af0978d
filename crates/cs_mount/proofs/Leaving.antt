-- A store that is closed with an extent left out.
use Rattle.std.proofs.Common.{◌≡◌, ◌≢◌, ◌⊎◌, inl, inr, ⊎_elim, ℕ, zero, suc, ◌+◌, ◌*◌, ◌<◌, ◌≤◌, ◌^◌, Bool, true, false, List, [], ◌∷◌, MatchBool, Option, length, if◌then◌else◌, refl, sym, ap, ◌∙◌, subst, arith, ne_eqb}
use Rattle.std.specs.Prelude.{slice_index_or, slice_set}
use Rattle.std.specs.List.{AllByRecursion}
use Rattle.std.proofs.lemmas.Bool.{cases_eq}
use Rattle.std.proofs.lemmas.List.{get_or-set_same, length-set}
use Rattle.cs_core.specs.cs_extent.State.{State as ExtentsState, shape}
use Rattle.cs_core.specs.Views.{IsCore, View}
use Rattle.cs_disk.specs.declared.disk.PageDisk.{Ghosts as PageDisk}
use Rattle.cs_disk.specs.Disk.{Image, LeavesOnly, MayLeave, State, flushed, page, seen}
use Rattle.cs_disk.proofs.Crashes.{MayLeave-settled, MayLeave-written, seen_MayLeave}
use Rattle.cs_disk.proofs.Images.{page_other, page_same}
use Rattle.cs_frame.specs.Formats.{formats_of}
use Rattle.cs_frame.specs.Geometries.{Dimensions, IsGeometry}
use Rattle.cs_frame.specs.Pointers.{FitsExtent}
use Rattle.cs_frame.specs.Superblocks.{SpellsSuperblock, superblock_version}
use Rattle.law_machine.specs.Element.{Map, Run}
use Rattle.law_machine.specs.Geometry.{twins_in}
use Rattle.law_machine.specs.Recovery.{Recovers}
use Rattle.cs_reader.proofs.Readable.{part}
use Rattle.cs_reader.proofs.Superblocks.{section_one}
use Rattle.cs_mount.specs.LeftOut.{IsCrossed, IsCrossing, IsLeftOut, IsRowWorn, LeavesCrossing, NoneDamagedOn, NothingOn, left_out_image, left_out_page, left_out_rows, row_page, row_place}
use Rattle.cs_mount.specs.OfStores.{IsOfStore}
use Rattle.cs_mount.specs.Showing.{shown_on}
use Rattle.cs_mount.specs.StorePairs.{pages_of, section_version, store_shape, store_version}
use Rattle.cs_mount.specs.Torn.{dimensions_of}
use Rattle.cs_twin.specs.declared.pairs.Pair.{Pair}
use Rattle.cs_twin.specs.Pairs.{shown_state}
use Rattle.cs_mount.proofs.Closing.{first_whole, leaves_wider, seen-written, shows_so, still_leaves}
use Rattle.cs_mount.proofs.CrossedImages.{crossed_recovers, own_row, section_there}
use Rattle.cs_mount.proofs.Crossings.{all_set, row_inside as row_inside_section, section_is}
use Rattle.cs_mount.proofs.Respelling.{page_left_out, version_read}
use Rattle.cs_mount.proofs.SealedImages.{some_page, spells_own}
use Rattle.cs_mount.proofs.Spelling.{section_read}

-- the image with the row so
pub crossing_image : (d : Dimensions) (e : ℕ) (lives : Bool) (s t : State) → IsCrossing d e lives s t → seen t ≡ left_out_image d e lives (seen s)
crossing_image d e lives s t is = ap seen is.write ∙ seen-written s (row_page d e) (left_out_page lives (row_place d e) (page (seen s) (row_page d e)))

-- a crash meanwhile, where nothing waited
pub crossing_left : (d : Dimensions) (e : ℕ) (lives : Bool) (s t : State) (c : Image) → t ≡ flushed s → LeavesCrossing d e lives t c → MayLeave s c ⊎ (c ≡ left_out_image d e lives (seen s))
crossing_left d e lives s t c same (inl left) =
    inl (subst (MayLeave s) (sym (MayLeave-settled (flushed s) c refl (subst (λ (z : State). MayLeave z c) same left))) (seen_MayLeave s))
crossing_left d e lives s t c same (inr crossed) =
    let is : IsCrossing d e lives (flushed s) crossed.0 = subst (λ (z : State). IsCrossing d e lives z crossed.0) same crossed.1 in
    let b = left_out_page lives (row_place d e) (page (seen s) (row_page d e)) in
    let from = MayLeave-written (flushed s) (row_page d e) b c (subst (λ (z : State). MayLeave z c) is.write crossed.2) in
    let before : from.0 ≡ seen s = MayLeave-settled (flushed s) from.0 refl from.1 in
    ⊎_elim (λ (here : c ≡ from.0). inl (subst (MayLeave s) (sym (here ∙ before)) (seen_MayLeave s)))
    (λ (set : c ≡ slice_set from.0 (row_page d e) b). inr (set ∙ ap (λ (i : Image). slice_set i (row_page d e) b) before)) from.2

-- one call after another
pub leaves_on : {D : Type 0} (moment : D → ℕ) (left_since : D → ℕ → Image → Type 0) (old mid new : D) (P Q R : Image → Type 0) → LeavesOnly moment left_since old mid P → LeavesOnly moment left_since mid new Q → ((c : Image) → P c → R c) → ((c : Image) → Q c → R c)
    → LeavesOnly moment left_since old new R
leaves_on moment left_since old mid new P Q R first more p q = record {
  later = omega (arith, first.later, more.later);
  each = λ c left. ⊎_elim (λ was. p c (first.each c was)) (λ now. q c now) (more.before (moment old) c first.later left);
  before = λ t c le left. ⊎_elim (λ was. ⊎_elim (λ earlier. inl earlier) (λ has. inr (p c has)) (first.before t c le was)) (λ now. inr (q c now)) (more.before t c (omega (arith, le, first.later)) left);
}

-- a generation that was spelled has its bytes
generation_at : (pages : ℕ) (rows : List (ℕ × ℕ)) → AllByRecursion (FitsExtent pages) rows → (i : ℕ) → (slice_index_or rows i (0, 0)).1 < 2 ^ 32
generation_at pages [] all i = omega arith
generation_at pages (row ∷ rows) all zero = all.0.generation
generation_at pages (row ∷ rows) all (suc i) = generation_at pages rows all.1 i

-- a further section doesn't lie on page 0
not_first : (d : Dimensions) (j : ℕ) → j ≢ 0 → (store_shape d).section_page j ≢ 0
not_first d j ne is = let at : (store_shape d).section_page j ≡ 1 + d.extents * d.pages + j = ap (λ (b : Bool). if b then 0 else 1 + d.extents * d.pages + j) (ne_eqb j 0 ne) in omega (arith, at, is)

module _ (d : Dimensions) (g : IsGeometry d.format d.extents d.pages d.sections) (twins : twins_in d.format ≡ true) (image : Image) (n : ℕ) (m : Map) (r : Recovers (store_shape d) (formats_of (store_shape d)) (page image) n m)
    (e : ℕ) (there : e < d.extents) (lives : Bool) where
  abbrev k : ℕ
  k = (store_shape d).section e

  k_there : k < d.sections
  k_there = section_there d.format d.extents d.pages d.sections g twins image n m r e there lives

  abbrev spells : SpellsSuperblock (page image (row_page d e)) d.format (r.versions k) (r.recorded k) d.extents d.pages d.sections k (part d.format d.extents d.pages d.sections g (page image) n m r k)
  spells = spells_own d.format d.extents d.pages d.sections g twins image n m r k k_there

  -- the section is whole
  pub row_whole : 0 < section_version d k (page image (row_page d e))
  row_whole =
      let read = section_read (page image (row_page d e)) d d.format (r.versions k) (r.recorded k) d.extents d.pages d.sections k k (part d.format d.extents d.pages d.sections g (page image) n m r k) spells refl (refl, refl, refl, refl, refl) in
      let some = spells.fits.first_version in
      omega (arith, read, some)

  row_inside : row_page d e < length image
  row_inside = some_page image (row_page d e) 67 _ spells.spelled

  module _ (low : superblock_version (page image (row_page d e)) + 1 < 2 ^ 63) where
    pub left_out_recovers : MatchBool lives (¬ NothingOn r.runs e) (NothingOn r.runs e) → NoneDamagedOn (store_shape d) (formats_of (store_shape d)) image r.runs r.pointers r.generations e
        → Recovers (store_shape d) (formats_of (store_shape d)) (page (left_out_image d e lives image)) n m
    left_out_recovers either whole = crossed_recovers d.format d.extents d.pages d.sections g twins image n m r e there lives (left_out_image d e lives image) low
        (page_same image (row_page d e) _ row_inside) (λ x ne. page_other image (row_page d e) x _ ne) either whole

    -- and the section is whole then too
    abbrev rows_now : List (ℕ × ℕ)
    rows_now = part d.format d.extents d.pages d.sections g (page image) n m r k

    fits_then : (b : Bool) → (if b then (slice_index_or rows_now (row_place d e) (0, 0)).1 else 4294967295) < 2 ^ 32
    fits_then true = generation_at d.pages rows_now spells.fits.each (row_place d e)
    fits_then false = omega arith

    anew : SpellsSuperblock (left_out_page lives (row_place d e) (page image (row_page d e))) d.format (r.versions k + 1) (r.recorded k) d.extents d.pages d.sections k (left_out_rows d.pages lives (row_place d e) rows_now)
    anew = record {
      fits = record {
        first_version = omega arith;
        last_version = (let version = version_read (page image (row_page d e)) d.format (r.versions k) (r.recorded k) d.extents d.pages d.sections k rows_now twins spells in omega (arith, low, version));
        recorded_fits = spells.fits.recorded_fits;
        geometry = g;
        one_of_them = k_there;
        count = length-set rows_now (row_place d e) _ ∙ spells.fits.count;
        each = all_set (FitsExtent d.pages) rows_now (row_place d e) _ (record { pointer = omega arith; generation = fits_then lives }) spells.fits.each;
      };
      spelled = page_left_out (page image (row_page d e)) d.format (r.versions k) (r.recorded k) d.extents d.pages d.sections k rows_now twins spells lives (row_place d e);
    }

    -- whatever is recovered of it then, the extent is full, with its generation or the greatest
    place_inside : row_place d e < length rows_now
    place_inside =
        let holds = row_inside_section d e k there g (section_is d e there) in
        omega (arith, holds.0, holds.1, spells.fits.count)

    pub left_full : (o : ℕ) (other : Map) (after : Recovers (store_shape d) (formats_of (store_shape d)) (page (left_out_image d e lives image)) o other)
        → (after.pointers e ≡ d.pages) × (after.generations e ≡ (if lives then r.generations e else 4294967295))
    left_full o other after =
        let here : page (left_out_image d e lives image) (row_page d e) ≡ left_out_page lives (row_place d e) (page image (row_page d e)) = page_same image (row_page d e) _ row_inside in
        let theirs = spells_own d.format d.extents d.pages d.sections g twins (left_out_image d e lives image) o other after k k_there in
        let ours = subst (λ (bytes : List ℕ). SpellsSuperblock bytes d.format (r.versions k + 1) (r.recorded k) d.extents d.pages d.sections k (left_out_rows d.pages lives (row_place d e) rows_now)) (sym here) anew in
        let rows = (section_one (page (left_out_image d e lives image) (row_page d e)) d.format (r.versions k + 1) (r.recorded k) d.extents d.pages d.sections k (left_out_rows d.pages lives (row_place d e) rows_now)
        d.format (after.versions k) (after.recorded k) d.extents d.pages d.sections k (part d.format d.extents d.pages d.sections g (page (left_out_image d e lives image)) o other after k) ours theirs).5 in
        let row : (after.pointers e, after.generations e) ≡ (d.pages, if lives then (slice_index_or rows_now (row_place d e) (0, 0)).1 else 4294967295) =
        sym (own_row d.format d.extents d.pages d.sections g twins (left_out_image d e lives image) o other after e there lives)
        ∙ ap (λ (xs : List (ℕ × ℕ)). slice_index_or xs (row_place d e) (0, 0)) (sym rows) ∙ get_or-set_same rows_now (row_place d e) _ (0, 0) place_inside in (
          ap (λ (z : ℕ × ℕ). z.0) row,
          ap (λ (z : ℕ × ℕ). z.1) row ∙ ap (λ (z : ℕ × ℕ). if lives then z.1 else 4294967295) (own_row d.format d.extents d.pages d.sections g twins image n m r e there lives),
        )

    pub first_still : 0 < section_version d 0 (page (left_out_image d e lives image) 0)
    first_still = elim (cases_eq k 0) [
      | inl here ↦ (let at : row_page d e ≡ 0 = ap (store_shape d).section_page here in
          let read = section_read (left_out_page lives (row_place d e) (page image (row_page d e))) d d.format (r.versions k + 1) (r.recorded k) d.extents d.pages d.sections k 0 (left_out_rows d.pages lives (row_place d e) rows_now) anew refl (refl, refl, refl, refl, here) in
          let same : page (left_out_image d e lives image) 0 ≡ left_out_page lives (row_place d e) (page image (row_page d e)) =
          ap (page (left_out_image d e lives image)) (sym at) ∙ page_same image (row_page d e) _ row_inside in
          subst (λ (bytes : List ℕ). 0 < section_version d 0 bytes) (sym same) (omega (arith, read)))
      | inr other ↦ (let away : 0 ≢ row_page d e = (λ is. not_first d k other (sym is)) in
          subst (λ (bytes : List ℕ). 0 < section_version d 0 bytes) (sym (page_other image (row_page d e) 0 _ away)) (first_whole d image n m g twins r))
    ]

-- if nothing lives there, it is the greatest
pub greatest_there : (lives : Bool) (runs : List Run) (e generation last : ℕ) → MatchBool lives (¬ NothingOn runs e) (NothingOn runs e) → NothingOn runs e → generation ≡ (if lives then last else 4294967295) → generation ≡ 4294967295
greatest_there true runs e generation last either none is = absurd (either none)
greatest_there false runs e generation last either none is = is

-- ---- in the words of a core, whose disk q was taken from it

module _ {X : Type 0} (disks : PageDisk X) (v : View X) (core : IsCore disks v) (g : IsGeometry v.store.extents.format (length v.store.extents.written) v.store.extents.pages v.store.extents.sections)
    (twins : twins_in v.store.extents.format ≡ true) (q : X) (at : q ≡ v.disk) where
  abbrev s : State
  s = disks.state v.disk

  abbrev d : Dimensions
  d = dimensions_of v.store.extents

  -- what is said of each store on the disk is said of this one
  pub of_disk : (P : List Run → Type 0) → ((d : Dimensions) → IsGeometry d.format d.extents d.pages d.sections → twins_in d.format ≡ true → disks.page_count q ≡ pages_of d
      → (n : ℕ) (m : Map) (found : Recovers (store_shape d) (formats_of (store_shape d)) (page (seen (disks.state q))) n m) → P found.runs)
      → (n : ℕ) (m : Map) (r : Recovers (shape v.store.extents) (formats_of (shape v.store.extents)) (page (seen s)) n m) → P r.runs
  of_disk P all n m r = subst (λ (z : X). (d : Dimensions) → IsGeometry d.format d.extents d.pages d.sections → twins_in d.format ≡ true → disks.page_count z ≡ pages_of d
      → (n : ℕ) (m : Map) (found : Recovers (store_shape d) (formats_of (store_shape d)) (page (seen (disks.state z))) n m) → P found.runs) at all d g twins core.device n m r

  module _ (mid new : X) (kept : disks.state mid ≡ flushed (disks.state q)) (geometry : Dimensions) (same : geometry ≡ d) (n : ℕ) (m : Map)
      (r : Recovers (shape v.store.extents) (formats_of (shape v.store.extents)) (page (seen s)) n m) (e : ℕ) (there : e < length v.store.extents.written) (lives : Bool) where
    mid_is : disks.state mid ≡ flushed s
    mid_is = kept ∙ ap (λ (z : X). flushed (disks.state z)) at

    its : (t : State) → IsCrossing geometry e lives (disks.state mid) t → IsCrossing d e lives (flushed s) t
    its t is = subst (λ (z : State). IsCrossing d e lives z t) mid_is (subst (λ (z : Dimensions). IsCrossing z e lives (disks.state mid) t) same is)

    -- the section is whole, as it shows
    pub section_whole : 0 < section_version geometry ((store_shape geometry).section e) (page (seen (disks.state mid)) (row_page geometry e))
    section_whole = subst (λ (z : State). 0 < section_version geometry ((store_shape geometry).section e) (page (seen z) (row_page geometry e))) (sym mid_is)
        (subst (λ (z : Dimensions). 0 < section_version z ((store_shape z).section e) (page (seen s) (row_page z e))) (sym same) (row_whole d g twins (seen s) n m r e there lives))

    pub worn_here : IsRowWorn geometry e (seen (disks.state mid)) → IsRowWorn d e (seen s)
    worn_here worn = subst (λ (z : State). IsRowWorn d e (seen z)) mid_is (subst (λ (z : Dimensions). IsRowWorn z e (seen (disks.state mid))) same worn)

    -- and what an opening shows is what shows then, by rules and pairs of the disk
    pub crossed_again : IsCrossed geometry e lives (disks.state mid) (disks.state new) → (store : Option Dimensions) (pairs : List Pair) (below : State) (count : ℕ) → count ≡ disks.page_count v.disk → ∥ IsOfStore store pairs count below.durable ∥₁
        → disks.state new ≡ shown_state (store_version store) pairs below → shown_on (disks.page_count v.disk) (seen below) ≡ seen (disks.state new)
    crossed_again crossed store pairs below count sized fits shows =
        let is = its crossed.0 crossed.1 in
        let image_is = crossing_image d e lives (flushed s) crossed.0 is in
        shows_so d store pairs (disks.page_count v.disk) below (seen crossed.0) twins core.device (subst (λ (k : ℕ). ∥ IsOfStore store pairs k below.durable ∥₁) sized fits)
        (sym shows ∙ crossed.2) (subst (λ (i : Image). 0 < section_version d 0 (page i 0)) (sym image_is) (first_still d g twins (seen s) n m r e there lives is.unworn)) ∙ ap seen (sym crossed.2)

    module _ (either : MatchBool lives (¬ NothingOn r.runs e) (NothingOn r.runs e)) where
      crossed_image : (t : State) → IsCrossing geometry e lives (disks.state mid) t → IsLeftOut d e r.runs (seen s) (seen t)
      crossed_image t is = (lives, either, crossing_image d e lives (flushed s) t (its t is))

      pub crossed_out : IsCrossed geometry e lives (disks.state mid) (disks.state new) → IsLeftOut d e r.runs (seen s) (seen (disks.state new)) × ((disks.state new).volatile ≡ [])
      crossed_out crossed = (
        subst (λ (z : State). IsLeftOut d e r.runs (seen s) (seen z)) (sym crossed.2) (crossed_image crossed.0 crossed.1),
        ap (λ (z : State). z.volatile) crossed.2,
      )

      pub crossed_or_same : (disks.state new ≡ disks.state mid) ⊎ IsCrossing geometry e lives (disks.state mid) (disks.state new) → (seen (disks.state new) ≡ seen s) ⊎ IsLeftOut d e r.runs (seen s) (seen (disks.state new))
      crossed_or_same (inl stays) = inl (ap seen (stays ∙ mid_is))
      crossed_or_same (inr is) = inr (crossed_image (disks.state new) is)

      pub crossed_left : LeavesOnly disks.moment disks.left_since q mid (MayLeave (disks.state q)) → LeavesOnly disks.moment disks.left_since mid new (LeavesCrossing geometry e lives (disks.state mid))
          → LeavesOnly disks.moment disks.left_since v.disk new (λ image. MayLeave s image ⊎ IsLeftOut d e r.runs (seen s) image)
      crossed_left first more = leaves_on disks.moment disks.left_since v.disk mid new (MayLeave s) (LeavesCrossing geometry e lives (disks.state mid)) (λ image. MayLeave s image ⊎ IsLeftOut d e r.runs (seen s) image)
          (subst (λ (z : X). LeavesOnly disks.moment disks.left_since z mid (MayLeave (disks.state z))) at first) more (λ c left. inl left)
          (λ c left. ⊎_elim (λ before. inl before) (λ is. inr (lives, either, is)) (crossing_left d e lives s (disks.state mid) c mid_is (subst (λ (z : Dimensions). LeavesCrossing z e lives (disks.state mid) c) same left)))

      module _ (whole : NoneDamagedOn (shape v.store.extents) (formats_of (shape v.store.extents)) (seen s) r.runs r.pointers r.generations e) where
        abbrev Recovered : Image → Type 0
        Recovered image = Recovers (shape v.store.extents) (formats_of (shape v.store.extents)) (page image) n m

        crossing_recovers : (t : State) → IsCrossing geometry e lives (disks.state mid) t → Recovered (seen t)
        crossing_recovers t is = subst Recovered (sym (crossing_image d e lives (flushed s) t (its t is))) (left_out_recovers d g twins (seen s) n m r e there lives (its t is).unworn either whole)

        pub crossed_recovers_then : IsCrossed geometry e lives (disks.state mid) (disks.state new) → Recovered (seen (disks.state new))
        crossed_recovers_then crossed = subst (λ (z : State). Recovered (seen z)) (sym crossed.2) (crossing_recovers crossed.0 crossed.1)

        -- a crash meanwhile
        crossing_kept : (c : Image) → LeavesCrossing d e lives (disks.state mid) c → MayLeave s c ⊎ Recovered c
        crossing_kept c (inl left) = inl (subst (MayLeave s) (sym (MayLeave-settled (flushed s) c refl (subst (λ (z : State). MayLeave z c) mid_is left))) (seen_MayLeave s))
        crossing_kept c (inr crossed) =
            let low = subst (λ (z : State). superblock_version (page (seen z) (row_page d e)) + 1 < 2 ^ 63) mid_is crossed.1.unworn in
            ⊎_elim (λ (before : MayLeave s c). inl before)
            (λ (is : c ≡ left_out_image d e lives (seen s)). inr (subst Recovered (sym is) (left_out_recovers d g twins (seen s) n m r e there lives low either whole)))
            (crossing_left d e lives s (disks.state mid) c mid_is (inr crossed))

        pub crossed_keeps : LeavesOnly disks.moment disks.left_since q mid (MayLeave (disks.state q)) → LeavesOnly disks.moment disks.left_since mid new (LeavesCrossing geometry e lives (disks.state mid))
            → LeavesOnly disks.moment disks.left_since v.disk new (λ image. MayLeave s image ⊎ Recovered image)
        crossed_keeps first more = leaves_on disks.moment disks.left_since v.disk mid new (MayLeave s) (LeavesCrossing geometry e lives (disks.state mid)) (λ image. MayLeave s image ⊎ Recovered image)
            (subst (λ (z : X). LeavesOnly disks.moment disks.left_since z mid (MayLeave (disks.state z))) at first) more (λ c left. inl left)
            (λ c left. crossing_kept c (subst (λ (z : Dimensions). LeavesCrossing z e lives (disks.state mid) c) same left))

        pub not_crossed_recovers : (disks.state new ≡ disks.state mid) ⊎ IsCrossing geometry e lives (disks.state mid) (disks.state new) → Recovered (seen (disks.state new))
        not_crossed_recovers (inl stays) = subst Recovered (sym (ap seen (stays ∙ mid_is))) r
        not_crossed_recovers (inr is) = crossing_recovers (disks.state new) is

-- a disk that was flushed, or wasn't, reads as before
pub reads_same : (s t : State) → (t ≡ s) ⊎ (t ≡ flushed s) → seen t ≡ seen s
reads_same s t (inl same) = ap seen same
reads_same s t (inr is) = ap seen is

-- the dimensions of a core's extents
pub same_dimensions : (x : ExtentsState) (geometry : Dimensions) → geometry.format ≡ x.format → geometry.extents ≡ length x.written → geometry.pages ≡ x.pages → geometry.sections ≡ x.sections → geometry ≡ dimensions_of x
same_dimensions x geometry format extents pages sections = λ i. record { format = format i; extents = extents i; pages = pages i; sections = sections i }

-- nothing was called
pub still_out : {X : Type 0} (disks : PageDisk X) (v : View X) (core : IsCore disks v) (q : X) (at : q ≡ v.disk) (R : Image → Type 0) → ((c : Image) → disks.left_since v.disk (disks.moment v.disk) c → MayLeave (disks.state v.disk) c)
    → LeavesOnly disks.moment disks.left_since v.disk q (λ image. MayLeave (disks.state v.disk) image ⊎ R image)
still_out {X} disks v core q at R only = subst (λ (z : X). LeavesOnly disks.moment disks.left_since v.disk z (λ image. MayLeave (disks.state v.disk) image ⊎ R image)) (sym at)
    (still_leaves disks.moment disks.left_since v.disk (λ image. MayLeave (disks.state v.disk) image ⊎ R image) (λ c left. inl (only c left)))

-- only the opening was done
pub opened_out : {X : Type 0} (disks : PageDisk X) (v : View X) (core : IsCore disks v) (q mid : X) (at : q ≡ v.disk) (R : Image → Type 0) → LeavesOnly disks.moment disks.left_since q mid (MayLeave (disks.state q))
    → LeavesOnly disks.moment disks.left_since v.disk mid (λ image. MayLeave (disks.state v.disk) image ⊎ R image)
opened_out {X} disks v core q mid at R is = leaves_wider disks.moment disks.left_since v.disk mid (MayLeave (disks.state v.disk)) (λ image. MayLeave (disks.state v.disk) image ⊎ R image) (λ c left. inl left)
    (subst (λ (z : X). LeavesOnly disks.moment disks.left_since z mid (MayLeave (disks.state z))) at is)

-- and reads as before
pub opened_same : {X : Type 0} (disks : PageDisk X) (v : View X) (core : IsCore disks v) (q mid : X) (at : q ≡ v.disk) → (disks.state mid ≡ disks.state q) ⊎ (disks.state mid ≡ flushed (disks.state q)) → seen (disks.state mid) ≡ seen (disks.state v.disk)
opened_same {X} disks v core q mid at is = reads_same (disks.state v.disk) (disks.state mid) (subst (λ (z : X). (disks.state mid ≡ disks.state z) ⊎ (disks.state mid ≡ flushed (disks.state z))) at is)

-- what one call and then two more count
pub calls_in_all : (a q mid new : ℕ) → q ≡ a → mid ≡ q + 1 → new ≡ mid + 2 → new ≡ a + 3
calls_in_all a q mid new at first more = omega (arith, at, first, more)

pub calls_at_most : (a q mid new : ℕ) → q ≡ a → mid ≡ q + 1 → new ≤ mid + 2 → new ≤ a + 3
calls_at_most a q mid new at first more = omega (arith, at, first, more)
