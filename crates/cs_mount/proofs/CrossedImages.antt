-- An image of which an extent is left out recovers what it recovered.
use Rattle.std.proofs.Common.{◌≡◌, ◌≢◌, inl, inr, ℕ, ◌+◌, ◌-◌, ◌/◌, ◌<◌, ◌≤◌, ◌^◌, Bool, true, false, List, MatchBool, Some, None, length, take, drop, if◌then◌else◌, slice_set, refl, sym, ap, ap₂, ◌∙◌, subst, arith, ne_eqb, eq-eqb, lt-ltb, ext_get_or}
use Rattle.std.specs.Prelude.{slice_index_or}
use Rattle.std.proofs.lemmas.Bool.{cases_eq}
use Rattle.std.proofs.lemmas.List.{get_or-drop, get_or-set_other, get_or-set_same, get_or-take, length-drop, length-set, length-take}
use Rattle.cs_disk.specs.Disk.{Image, page}
use Rattle.cs_frame.specs.Formats.{extents_of as listed_extents, formats_of}
use Rattle.cs_frame.specs.Geometries.{Dimensions, IsGeometry, section_length, section_size, section_start}
use Rattle.cs_frame.specs.Superblocks.{SpellsSuperblock, spelled_superblock, superblock_version}
use Rattle.cs_frame.proofs.FormatLaws.{is_format}
use Rattle.cs_frame.proofs.GeometryLaws.{geometry_apart, model_geometry, section_holds, section_inside}
use Rattle.law_machine.proofs.Shapes.{is_shape}
use Rattle.law_machine.specs.Device.{FramePage, Inside, IsShape, RootPage, SectionPage, Shape}
use Rattle.law_machine.specs.Element.{Map}
use Rattle.law_machine.specs.Format.{Format}
use Rattle.law_machine.specs.Geometry.{shape_of, twins_in}
use Rattle.law_machine.specs.Lists.{with}
use Rattle.law_machine.specs.Recovery.{Recovers}
use Rattle.cs_reader.proofs.Readable.{part, rows, rows_at}
use Rattle.cs_reader.proofs.Superblocks.{section_listed}
use Rattle.cs_mount.specs.LeftOut.{NoneDamagedOn, NothingOn, left_out_page, left_out_row, left_out_rows, row_page, row_place}
use Rattle.cs_mount.specs.Resectioned.{KeepDamage, KeepLiving}
use Rattle.cs_mount.proofs.Resectioning.{resectioned, same_damage}
use Rattle.cs_mount.proofs.Respelling.{four_superblock, page_left_out, version_read}
use Rattle.cs_mount.proofs.SealedImages.{length-rows, none_hidden, spells_own}

with_same : (f : ℕ → ℕ) (e v : ℕ) → with f e v e ≡ v
with_same f e v = ap (λ (b : Bool). if b then v else f e) (eq-eqb e e refl)

with_other : (f : ℕ → ℕ) (e v x : ℕ) → x ≢ e → with f e v x ≡ f x
with_other f e v x ne = ap (λ (b : Bool). if b then v else f x) (ne_eqb x e ne)

-- a row that is set shows in the part of the rows in which it lies
set_part : (skip count e : ℕ) (rows : List (ℕ × ℕ)) (row : ℕ × ℕ) → skip ≤ e → e < skip + count → e < length rows
    → take count (drop skip (slice_set rows e row)) ≡ slice_set (take count (drop skip rows)) (e - skip) row
set_part skip count e rows row from to inside = ext_get_or (0, 0) (take count (drop skip (slice_set rows e row))) (slice_set (take count (drop skip rows)) (e - skip) row) same_length each
  where
    part_length : (xs : List (ℕ × ℕ)) → length xs ≡ length rows → length (take count (drop skip xs)) ≡ length (take count (drop skip rows))
    part_length xs same = omega (arith, length-take count (drop skip xs), length-drop skip xs, length-take count (drop skip rows), length-drop skip rows, same)

    same_length : length (take count (drop skip (slice_set rows e row))) ≡ length (slice_set (take count (drop skip rows)) (e - skip) row)
    same_length = part_length (slice_set rows e row) (length-set rows e row) ∙ sym (length-set (take count (drop skip rows)) (e - skip) row)

    low : (i : ℕ) → i < length (take count (drop skip (slice_set rows e row))) → i < count
    low i lt = omega (arith, lt, length-take count (drop skip (slice_set rows e row)))

    each : (i : ℕ) → i < length (take count (drop skip (slice_set rows e row)))
        → slice_index_or (take count (drop skip (slice_set rows e row))) i (0, 0) ≡ slice_index_or (slice_set (take count (drop skip rows)) (e - skip) row) i (0, 0)
    each i lt = elim (cases_eq i (e - skip)) [
      | inl here ↦ (let at : skip + i ≡ e = omega (arith, here, from) in
          let there : e - skip < length (take count (drop skip rows)) = omega (arith, length-take count (drop skip rows), length-drop skip rows, from, to, inside) in
          get_or-take count (drop skip (slice_set rows e row)) i (0, 0) (low i lt) ∙ get_or-drop skip (slice_set rows e row) i (0, 0)
          ∙ ap (λ (k : ℕ). slice_index_or (slice_set rows e row) k (0, 0)) at ∙ get_or-set_same rows e row (0, 0) inside
          ∙ sym (ap (λ (k : ℕ). slice_index_or (slice_set (take count (drop skip rows)) (e - skip) row) k (0, 0)) here ∙ get_or-set_same (take count (drop skip rows)) (e - skip) row (0, 0) there))
      | inr other ↦ (let away : skip + i ≢ e = (λ is. other (omega (arith, is))) in
          get_or-take count (drop skip (slice_set rows e row)) i (0, 0) (low i lt) ∙ get_or-drop skip (slice_set rows e row) i (0, 0)
          ∙ get_or-set_other rows e (skip + i) row (0, 0) away ∙ sym (get_or-drop skip rows i (0, 0)) ∙ sym (get_or-take count (drop skip rows) i (0, 0) (low i lt))
          ∙ sym (get_or-set_other (take count (drop skip rows)) (e - skip) i row (0, 0) other))
    ]

module _ (format : Format) (extents pages sections : ℕ) (g : IsGeometry format extents pages sections) (twins : twins_in format ≡ true) (image : Image) (n : ℕ) (m : Map)
    (r : Recovers (shape_of extents pages sections (section_size extents sections) format) (formats_of (shape_of extents pages sections (section_size extents sections) format)) (page image) n m) (e : ℕ) (there : e < extents) (lives : Bool) where
  abbrev S : Shape
  S = shape_of extents pages sections (section_size extents sections) format

  abbrev d : Dimensions
  d = record { format = format; extents = extents; pages = pages; sections = sections }

  abbrev k : ℕ
  k = S.section e

  abbrev start : ℕ
  start = section_start extents sections k

  shape : IsShape S
  shape = is_shape extents pages sections (section_size extents sections) format (model_geometry format extents pages sections g) (geometry_apart format extents pages sections g)

  -- the section of the extent is there, and the extent in it
  k_is : k ≡ e / section_size extents sections
  k_is = ap (λ (b : Bool). if b then e / section_size extents sections else 0) (lt-ltb e extents there)

  inside : (start ≤ e) × (e < start + section_length extents sections k)
  inside = (section_holds format extents pages sections g e k there).0 (sym k_is)

  pub section_there : k < sections
  section_there = subst (λ (j : ℕ). j < sections) (sym k_is) (section_inside format extents pages sections g e there)

  -- pointers and generations then
  abbrev generation : ℕ
  generation = if lives then r.generations e else 4294967295

  abbrev p : ℕ → ℕ
  p = with r.pointers e pages

  abbrev h : ℕ → ℕ
  h = with r.generations e generation

  abbrev rows_now : List (ℕ × ℕ)
  rows_now = rows format extents pages sections g (page image) n m r

  rows_long : length rows_now ≡ extents
  rows_long = length-rows r.pointers r.generations 0 extents

  row_then : (x : ℕ) → x < extents → (p x, h x) ≡ slice_index_or (slice_set rows_now e (pages, generation)) x (0, 0)
  row_then x lt = elim (cases_eq x e) [
    | inl here ↦ ap₂ (λ (a b : ℕ). (a, b)) (ap p here ∙ with_same r.pointers e pages) (ap h here ∙ with_same r.generations e generation)
        ∙ sym (ap (λ (y : ℕ). slice_index_or (slice_set rows_now e (pages, generation)) y (0, 0)) here ∙ get_or-set_same rows_now e (pages, generation) (0, 0) (omega (arith, there, rows_long)))
    | inr other ↦ ap₂ (λ (a b : ℕ). (a, b)) (with_other r.pointers e pages x other) (with_other r.generations e generation x other)
        ∙ sym (get_or-set_other rows_now e x (pages, generation) (0, 0) other ∙ rows_at format extents pages sections g (page image) n m r x lt)
  ]

  abbrev rows_of : List (ℕ × ℕ)
  rows_of = part format extents pages sections g (page image) n m r k

  pub own_row : slice_index_or rows_of (e - start) (0, 0) ≡ (r.pointers e, r.generations e)
  own_row =
      let at : start + (e - start) ≡ e = omega (arith, inside.0) in
      get_or-take (section_length extents sections k) (drop start rows_now) (e - start) (0, 0) (omega (arith, inside.0, inside.1)) ∙ get_or-drop start rows_now (e - start) (0, 0)
      ∙ ap (λ (x : ℕ). slice_index_or rows_now x (0, 0)) at ∙ rows_at format extents pages sections g (page image) n m r e there

  -- the rows of the section then
  listed_then : listed_extents S.section p h k 0 extents ≡ left_out_rows pages lives (e - start) rows_of
  listed_then =
      section_listed format extents pages sections g (slice_set rows_now e (pages, generation)) (length-set rows_now e (pages, generation) ∙ rows_long) p h row_then k
      ∙ set_part start (section_length extents sections k) e rows_now (pages, generation) inside.0 inside.1 (omega (arith, there, rows_long))
      ∙ ap (λ (row : ℕ × ℕ). slice_set rows_of (e - start) (left_out_row pages lives row)) (sym own_row)

  module _ (other : Image) (low : superblock_version (page image (row_page d e)) + 1 < 2 ^ 63) (row_is : page other (row_page d e) ≡ left_out_page lives (row_place d e) (page image (row_page d e)))
      (rest : (x : ℕ) → x ≢ row_page d e → page other x ≡ page image x) where
    spells : SpellsSuperblock (page image (S.section_page k)) format (r.versions k) (r.recorded k) extents pages sections k rows_of
    spells = spells_own format extents pages sections g twins image n m r k section_there

    section_left_out : page other (S.section_page k) ≡ (formats_of S).superblock (r.formats k) k (r.versions k + 1) (r.recorded k) p h
    section_left_out =
        row_is ∙ page_left_out (page image (S.section_page k)) format (r.versions k) (r.recorded k) extents pages sections k rows_of twins spells lives (row_place d e)
        ∙ ap (spelled_superblock format (r.versions k + 1) (r.recorded k) extents pages sections k) (sym listed_then)
        ∙ sym (four_superblock S (r.formats k) k (r.versions k + 1) (r.recorded k) p h twins)

    other_page : (j : ℕ) → j < sections → j ≢ k → S.section_page j ≢ S.section_page k
    other_page j lt ne same = let kinds : SectionPage j ≡ SectionPage k = sym (shape.section_kind j lt) ∙ ap S.kind same ∙ shape.section_kind k section_there in ne (cc kinds)

    superblocks : (j : ℕ) → j < sections → page other (S.section_page j) ≡ (formats_of S).superblock (r.formats j) j (with r.versions k (r.versions k + 1) j) (r.recorded j) p h
    superblocks j lt = elim (cases_eq j k) [
      | inl here ↦ subst (λ (i : ℕ). page other (S.section_page i) ≡ (formats_of S).superblock (r.formats i) i (with r.versions k (r.versions k + 1) i) (r.recorded i) p h) (sym here)
          (section_left_out ∙ ap (λ (v : ℕ). (formats_of S).superblock (r.formats k) k v (r.recorded k) p h) (sym (with_same r.versions k (r.versions k + 1))))
      | inr ne ↦ rest (S.section_page j) (other_page j lt ne) ∙ r.superblock j lt
          ∙ (is_format format extents pages sections g).section (r.formats j) j (r.versions j) (r.recorded j) r.pointers r.generations p h
          (λ x at. let away : x ≢ e = (λ is. ne (sym at ∙ ap S.section is)) in (sym (with_other r.pointers e pages x away), sym (with_other r.generations e generation x away)))
          ∙ ap (λ (v : ℕ). (formats_of S).superblock (r.formats j) j v (r.recorded j) p h) (sym (with_other r.versions k (r.versions k + 1) j ne))
    ]

    version_is : superblock_version (page image (S.section_page k)) ≡ r.versions k
    version_is = version_read (page image (S.section_page k)) format (r.versions k) (r.recorded k) extents pages sections k rows_of twins spells

    fit : (j : ℕ) → j < sections → (1 ≤ with r.versions k (r.versions k + 1) j) × (with r.versions k (r.versions k + 1) j ≤ S.greatest_number)
    fit j lt = elim (cases_eq j k) [
      | inl here ↦ subst (λ (v : ℕ). (1 ≤ v) × (v ≤ S.greatest_number)) (sym (ap (with r.versions k (r.versions k + 1)) here ∙ with_same r.versions k (r.versions k + 1))) (omega arith, omega (arith, low, version_is))
      | inr ne ↦ subst (λ (v : ℕ). (1 ≤ v) × (v ≤ S.greatest_number)) (sym (with_other r.versions k (r.versions k + 1) j ne)) (r.versions_fit j lt)
    ]

    generation_fits : (b : Bool) → (if b then r.generations e else 4294967295) ≤ S.greatest_generation
    generation_fits true = (r.extents_fit e).1
    generation_fits false = omega arith

    extents_fit : (x : ℕ) → (p x ≤ S.pages) × (h x ≤ S.greatest_generation)
    extents_fit x = elim (cases_eq x e) [
      | inl here ↦ (
        subst (λ (v : ℕ). v ≤ S.pages) (sym (ap p here ∙ with_same r.pointers e pages)) (omega arith),
        subst (λ (v : ℕ). v ≤ S.greatest_generation) (sym (ap h here ∙ with_same r.generations e generation)) (generation_fits lives),
      )
      | inr ne ↦ (
        subst (λ (v : ℕ). v ≤ S.pages) (sym (with_other r.pointers e pages x ne)) (r.extents_fit x).0,
        subst (λ (v : ℕ). v ≤ S.greatest_generation) (sym (with_other r.generations e generation x ne)) (r.extents_fit x).1,
      )
    ]

    not_root : 1 ≢ S.section_page k
    not_root is = let kinds : RootPage ≡ SectionPage k = sym shape.root_kind ∙ ap S.kind is ∙ shape.section_kind k section_there in cc kinds

    not_frame : (x i : ℕ) → Inside S x i → S.address x i ≢ S.section_page k
    not_frame x i in_it is = let kinds : FramePage ≡ SectionPage k = sym (shape.frame_kind x i in_it) ∙ ap S.kind is ∙ shape.section_kind k section_there in cc kinds

    -- what lives on the extent keeps its generation
    kept_generation : (b : Bool) → MatchBool b (¬ NothingOn r.runs e) (NothingOn r.runs e) → (NothingOn r.runs e → ⊥) → (if b then r.generations e else 4294967295) ≡ r.generations e
    kept_generation true either some = refl
    kept_generation false either some = absurd (some either)

    living : MatchBool lives (¬ NothingOn r.runs e) (NothingOn r.runs e) → KeepLiving r.runs r.pointers r.generations p h
    living either l has = elim (cases_eq l.extent e) [
      | inl here ↦ (
        ap h here ∙ with_same r.generations e generation ∙ kept_generation lives either (λ none. none l has here) ∙ ap r.generations (sym here),
        subst (λ (v : ℕ). r.pointers l.extent ≤ v) (sym (ap p here ∙ with_same r.pointers e pages)) (r.extents_fit l.extent).0,
      )
      | inr ne ↦ (
        with_other r.generations e generation l.extent ne,
        subst (λ (v : ℕ). r.pointers l.extent ≤ v) (sym (with_other r.pointers e pages l.extent ne)) (omega arith),
      )
    ]

    damage : NoneDamagedOn S (formats_of S) image r.runs r.pointers r.generations e → KeepDamage S (formats_of S) (page image) r.runs r.pointers r.generations p h
    damage whole id l refusal has is = elim (cases_eq l.extent e) [
      | inl here ↦ absurd (let clash : None ≡ Some refusal = sym (whole id l has here) ∙ is in cc clash)
      | inr ne ↦ same_damage S (formats_of S) (page image) r.pointers r.generations p h l (with_other r.pointers e pages l.extent ne) (with_other r.generations e generation l.extent ne) ∙ is
    ]

    pub crossed_recovers : MatchBool lives (¬ NothingOn r.runs e) (NothingOn r.runs e) → NoneDamagedOn S (formats_of S) image r.runs r.pointers r.generations e → Recovers S (formats_of S) (page other) n m
    crossed_recovers either whole = resectioned S (formats_of S) (page image) (page other) n m r p h (none_hidden format twins)
        (record { root = rest 1 not_root; frames = λ x i in_it. rest (S.address x i) (not_frame x i in_it) })
        (record {
          formats = r.formats;
          versions = with r.versions k (r.versions k + 1);
          recorded = r.recorded;
          superblock = superblocks;
          versions_fit = fit;
          recorded_fit = r.recorded_fit;
          extents_fit = extents_fit;
        })
        (living either) (damage whole)
