-- A store that is sealed isn't read as of an older root.
use Rattle.std.proofs.Common.{◌≡◌, inl, inr, ℕ, zero, suc, ◌+◌, ◌<◌, ◌^◌, Bool, true, false, List, [], ◌∷◌, length, take, drop, if◌then◌else◌, slice_index, slice_set, refl, sym, ap, ◌∙◌, subst, arith, eq-eqb, eqb-true}
use Rattle.std.proofs.lemmas.Bool.{cases_Bool}
use Rattle.cs_disk.specs.Disk.{Image, page}
use Rattle.cs_disk.proofs.Images.{page_other, page_same}
use Rattle.cs_frame.specs.Bytes.{number}
use Rattle.cs_frame.specs.declared.formats.FormatNumber.TheVariants as of_number
use Rattle.cs_frame.specs.Formats.{formats_of}
use Rattle.cs_frame.specs.Geometries.{Dimensions, IsGeometry, device_pages, section_length, section_size, section_start}
use Rattle.cs_frame.specs.Superblocks.{SpellsSuperblock, superblock_record, superblock_version}
use Rattle.cs_frame.proofs.RootLaws as roots
use Rattle.cs_refusal.specs.declared.refusals.Refusal.TheVariants.{RootLost}
use Rattle.law_machine.specs.Element.{Map}
use Rattle.law_machine.specs.Geometry.{shape_of, twins_in}
use Rattle.law_machine.specs.Recovery.{Recovers}
use Rattle.cs_reader.proofs.Readable.{part, rows}
use Rattle.cs_reader.proofs.Superblocks.{of_section}
use Rattle.cs_reader.specs.ImageReads.{AreSectionsRead, SpellsAt}
use Rattle.cs_reader.specs.Openings.{IsWhyNotOpened}
use Rattle.cs_mount.specs.Seals.{HasOlderRoot, is_sealed, root_said, seal_of, sealed_image}
use Rattle.cs_mount.specs.StorePairs.{pages_of, store_shape}
use Rattle.cs_mount.proofs.Respelling.{page_sealed, record_read, version_read}
use Rattle.cs_mount.proofs.SealedImages.{first_there, length-rows, root_is, spells_own}
use Rattle.cs_mount.proofs.Sealings.{root_fits}

-- the first values of a function
abbrev listed : (f : ℕ → ℕ) (first count : ℕ) → List ℕ
listed f first zero = []
listed f first (suc count) = f first ∷ listed f (suc first) count

length-listed : (f : ℕ → ℕ) (first count : ℕ) → length (listed f first count) ≡ count
length-listed f first zero = refl
length-listed f first (suc count) = ap suc (length-listed f (suc first) count)

listed_from : (f : ℕ → ℕ) (first count j : ℕ) → j < count → slice_index (listed f first count) j ≡ f (first + j)
listed_from f first zero j lt = absurd (omega (arith, lt))
listed_from f first (suc count) zero lt = ap f (let same : first ≡ first + 0 = omega arith in same)
listed_from f first (suc count) (suc j) lt = listed_from f (suc first) count j (omega (arith, lt)) ∙ ap f (let same : suc first + j ≡ first + suc j = omega arith in same)

listed_at : (f : ℕ → ℕ) (first count j : ℕ) → j < count → slice_index (listed f 0 count) j ≡ f j
listed_at f first count j lt = listed_from f 0 count j lt ∙ ap f (let same : 0 + j ≡ j = omega arith in same)

module _ (d : Dimensions) (g : IsGeometry d.format d.extents d.pages d.sections) (twins : twins_in d.format ≡ true) (image : Image) (n : ℕ) (m : Map) (r : Recovers (store_shape d) (formats_of (store_shape d)) (page image) n m) where
  abbrev rows_in : ℕ → List (ℕ × ℕ)
  rows_in j = part d.format d.extents d.pages d.sections g (page image) n m r j

  abbrev spelled : (j : ℕ) → j < d.sections → SpellsSuperblock (page image ((store_shape d).section_page j)) d.format (r.versions j) (r.recorded j) d.extents d.pages d.sections j (rows_in j)
  spelled j lt = spells_own d.format d.extents d.pages d.sections g twins image n m r j lt

  root_here : root_said image ≡ r.version
  root_here = root_is d.format d.extents d.pages d.sections g twins image n m r

  -- section 0 written anew spells what is sealed
  anew : superblock_version (page image 0) + 1 < 2 ^ 63 → superblock_record of_number.Four (seal_of image) ≡ root_said image
  anew low =
      let was = spelled 0 g.fewest_sections in
      let version = roots_version in
      record_read (seal_of image) d.format (r.versions 0 + 1) (root_said image) d.extents d.pages d.sections 0 (rows_in 0) twins
      (record {
        fits = record {
          first_version = omega arith;
          last_version = omega (arith, low, version);
          recorded_fits = root_fits d.format (root_said image) twins (let high = r.bounds.version_fits in omega (arith, root_here, high));
          geometry = was.fits.geometry;
          one_of_them = was.fits.one_of_them;
          count = was.fits.count;
          each = was.fits.each;
        };
        spelled = page_sealed (page image 0) d.format (r.versions 0) (r.recorded 0) d.extents d.pages d.sections 0 (rows_in 0) twins was (root_said image);
      })
    where
      roots_version : superblock_version (page image 0) ≡ r.versions 0
      roots_version = version_read (page image 0) d.format (r.versions 0) (r.recorded 0) d.extents d.pages d.sections 0 (rows_in 0) twins (spelled 0 g.fewest_sections)

  pub is_sealed_then : (is_sealed image ≡ false → superblock_version (page image 0) + 1 < 2 ^ 63) → is_sealed (sealed_image image) ≡ true
  is_sealed_then low = elim (cases_Bool (is_sealed image)) [
    | inl on ↦ ap is_sealed (ap (λ (b : Bool). if b then image else slice_set image 0 (seal_of image)) on) ∙ on
    | inr off ↦ ap is_sealed (ap (λ (b : Bool). if b then image else slice_set image 0 (seal_of image)) off)
        ∙ eq-eqb (superblock_record of_number.Four (page (slice_set image 0 (seal_of image)) 0)) (root_said (slice_set image 0 (seal_of image)))
        (ap (superblock_record of_number.Four) (page_same image 0 (seal_of image) (first_there d.format d.extents d.pages d.sections g twins image n m r)) ∙ anew (low off)
        ∙ sym (ap (λ (bytes : List ℕ). number 4 12 bytes) (page_other image 0 1 (seal_of image) (λ e. cc e))))
  ]

  module _ (on : is_sealed image ≡ true) (other : Image) (older : HasOlderRoot d image other) where
    recorded_is : r.recorded 0 ≡ root_said image
    recorded_is =
        sym (record_read (page image 0) d.format (r.versions 0) (r.recorded 0) d.extents d.pages d.sections 0 (rows_in 0) twins (spelled 0 g.fewest_sections))
        ∙ eqb-true (superblock_record of_number.Four (page image 0)) (root_said image) on

    -- nothing is recovered then
    pub none_recovered : (k : ℕ) (o : Map) → Recovers (store_shape d) (formats_of (store_shape d)) (page other) k o → ⊥
    none_recovered k o f =
        let there = record_read (page other 0) d.format (f.versions 0) (f.recorded 0) d.extents d.pages d.sections 0 (part d.format d.extents d.pages d.sections g (page other) k o f 0) twins (spells_own d.format d.extents d.pages d.sections g twins other k o f 0 g.fewest_sections) in
        let same : page other 0 ≡ page image 0 = older.sections 0 g.fewest_sections in
        let its : superblock_record of_number.Four (page other 0) ≡ root_said image = ap (superblock_record of_number.Four) same ∙ eqb-true (superblock_record of_number.Four (page image 0)) (root_said image) on in
        let version = root_is d.format d.extents d.pages d.sections g twins other k o f in
        let spells = (roots.one_root (page other 1) _ older.version older.commands older.places older.root).of_version in
        let low = f.recorded_fit 0 g.fewest_sections in
        let less = older.older in
        omega (arith, there, its, version, spells, low, less)

    abbrev versions : List ℕ
    versions = listed r.versions 0 d.sections

    abbrev records : List ℕ
    records = listed r.recorded 0 d.sections

    abbrev written : List (ℕ × ℕ)
    written = rows d.format d.extents d.pages d.sections g (page image) n m r

    abbrev rows_of : (extents sections j : ℕ) → List (ℕ × ℕ)
    rows_of extents sections j = take (section_length extents sections j) (drop (section_start extents sections j) written)

    read : (j : ℕ) → j < d.sections → SpellsAt j (page other ((store_shape d).section_page j)) d.format (slice_index versions j) (slice_index records j) d.extents d.pages d.sections (rows_of d.extents d.sections j)
    read j lt = of_section j (page other ((store_shape d).section_page j)) d.format (slice_index versions j) (slice_index records j) d.extents d.pages d.sections (rows_of d.extents d.sections j)
        (subst (λ (bytes : List ℕ). SpellsSuperblock bytes d.format (slice_index versions j) (slice_index records j) d.extents d.pages d.sections j (rows_of d.extents d.sections j)) (sym (older.sections j lt))
        (subst (λ (v : ℕ). SpellsSuperblock (page image ((store_shape d).section_page j)) d.format v (slice_index records j) d.extents d.pages d.sections j (rows_of d.extents d.sections j)) (sym (listed_at r.versions 0 d.sections j lt))
        (subst (λ (v : ℕ). SpellsSuperblock (page image ((store_shape d).section_page j)) d.format (r.versions j) v d.extents d.pages d.sections j (rows_of d.extents d.sections j)) (sym (listed_at r.recorded 0 d.sections j lt)) (spelled j lt))))

    all_extents : length written ≡ d.extents
    all_extents = length-rows r.pointers r.generations 0 d.extents

    all_sections : length versions ≡ d.sections
    all_sections = length-listed r.versions 0 d.sections

    -- all that is there of the sections
    sections_read : AreSectionsRead (page other) d.format versions records d.pages written
    sections_read = record {
      geometry = subst (λ (e : ℕ). IsGeometry d.format e d.pages (length versions)) (sym all_extents) (subst (λ (k : ℕ). IsGeometry d.format d.extents d.pages k) (sym all_sections) g);
      each = λ j lt. subst (λ (e : ℕ). SpellsAt j (page other ((shape_of e d.pages (length versions) (section_size e (length versions)) d.format).section_page j)) d.format (slice_index versions j) (slice_index records j) e d.pages (length versions) (rows_of e (length versions) j)) (sym all_extents)
          (subst (λ (k : ℕ). SpellsAt j (page other ((shape_of d.extents d.pages k (section_size d.extents k) d.format).section_page j)) d.format (slice_index versions j) (slice_index records j) d.extents d.pages k (rows_of d.extents k j)) (sym all_sections)
          (read j (omega (arith, lt, all_sections))));
    }

    pub root_lost : IsWhyNotOpened (pages_of d) (page other) RootLost
    root_lost = inr (inr (inr (inr (inr (inr (inr (inl (record {
      format = d.format;
      versions = versions;
      records = records;
      pages = d.pages;
      written = written;
      places = older.places;
      root = record {
        extents = record {
          sections = sections_read;
          sized = sym (ap (λ (e : ℕ). device_pages d.format e d.pages (length versions)) all_extents ∙ ap (device_pages d.format d.extents d.pages) all_sections);
        };
        version = older.version;
        commands = older.commands;
        root = older.root;
      };
      section = 0;
      one_of_them = (let some = g.fewest_sections in omega (arith, some, all_sections));
      later = (let first = listed_at r.recorded 0 d.sections 0 g.fewest_sections in let less = older.older in omega (arith, first, less, recorded_is));
      refusal = refl;
    }))))))))
