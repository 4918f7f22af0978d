-- An image that is sealed recovers what it recovered.
use Rattle.std.proofs.Common.{◌≡◌, ◌≢◌, inl, inr, ℕ, zero, suc, ◌+◌, ◌*◌, ◌<◌, ◌≤◌, ◌^◌, Bool, true, false, List, [], ◌∷◌, length, if◌then◌else◌, slice_set, refl, sym, ap, ◌∙◌, subst, arith, ne_eqb}
use Rattle.std.proofs.lemmas.Bool.{cases_Bool}
use Rattle.cs_disk.specs.Disk.{Image, page}
use Rattle.cs_disk.proofs.Images.{page_other, page_same}
use Rattle.cs_frame.specs.Formats.{extents_of as listed_extents, formats_of}
use Rattle.cs_frame.specs.Geometries.{IsGeometry, section_size}
use Rattle.cs_frame.specs.Superblocks.{SpellsSuperblock, record_in, spelled_superblock, superblock_version}
use Rattle.cs_frame.proofs.RootLaws as roots
use Rattle.law_machine.specs.Device.{Shape}
use Rattle.law_machine.specs.Element.{Map}
use Rattle.law_machine.specs.Format.{Format, Four, Two}
use Rattle.law_machine.specs.Geometry.{hidden_stand_in, shape_of, twins_in}
use Rattle.law_machine.specs.Recovery.{Recovers}
use Rattle.cs_reader.proofs.Readable.{part, root_spelled, rows, rows_at, rows_from, section_spelled}
use Rattle.cs_reader.proofs.Superblocks.{at_fits, section_listed}
use Rattle.cs_mount.specs.Seals.{is_sealed, root_said, seal_of, sealed_image, sealed_page}
use Rattle.cs_mount.proofs.Resectioning.{damage_kept, resectioned}
use Rattle.cs_mount.proofs.Respelling.{as_section, four_superblock, page_sealed, version_read}

pub length-rows : (p g : ℕ → ℕ) (first count : ℕ) → length (rows_from p g first count) ≡ count
length-rows p g first zero = refl
length-rows p g first (suc count) = ap suc (length-rows p g (suc first) count)

-- no page of an image without pages is whole
pub some_page : (image : Image) (p : ℕ) (b : ℕ) (bytes : List ℕ) → page image p ≡ b ∷ bytes → p < length image
some_page [] zero b bytes is = absurd (let clash : [] ≡ b ∷ bytes = is in cc clash)
some_page [] (suc p) b bytes is = absurd (let clash : [] ≡ b ∷ bytes = is in cc clash)
some_page (x ∷ image) zero b bytes is = omega arith
some_page (x ∷ image) (suc p) b bytes is = let lt = some_page image p b bytes is in omega (arith, lt)

-- this number first, and then those of f
abbrev first_else : (first : ℕ) (f : ℕ → ℕ) → ℕ → ℕ
first_else first f zero = first
first_else first f (suc j) = f (suc j)

-- a further section lies after the extents
later_page : (format : Format) (extents pages sections j : ℕ) → (shape_of extents pages sections (section_size extents sections) format).section_page (suc j) ≡ 1 + extents * pages + suc j
later_page format extents pages sections j = ap (λ (b : Bool). if b then 0 else 1 + extents * pages + suc j) (ne_eqb (suc j) 0 (λ e. omega (arith, e)))

-- where extents are filled up a hidden entry needn't stand
pub none_hidden : (format : Format) → twins_in format ≡ true → hidden_stand_in format ≡ false
none_hidden Two twins = absurd (let clash : false ≡ true = twins in cc clash)
none_hidden (Four store device) twins = refl

-- what is recorded in a format with twins is what was given
own_record : (format : Format) (recorded : ℕ) → twins_in format ≡ true → record_in format recorded ≡ recorded
own_record Two recorded twins = absurd (let clash : false ≡ true = twins in cc clash)
own_record (Four store device) recorded twins = refl

module _ (format : Format) (extents pages sections : ℕ) (g : IsGeometry format extents pages sections) (twins : twins_in format ≡ true) (image : Image) (n : ℕ) (m : Map)
    (r : Recovers (shape_of extents pages sections (section_size extents sections) format) (formats_of (shape_of extents pages sections (section_size extents sections) format)) (page image) n m) where
  abbrev S : Shape
  S = shape_of extents pages sections (section_size extents sections) format

  abbrev rows_of : ℕ → List (ℕ × ℕ)
  rows_of j = part format extents pages sections g (page image) n m r j

  pub listed_part : (j : ℕ) → listed_extents S.section r.pointers r.generations j 0 extents ≡ rows_of j
  listed_part j = section_listed format extents pages sections g (rows format extents pages sections g (page image) n m r) (length-rows r.pointers r.generations 0 extents) r.pointers r.generations
      (λ k lt. sym (rows_at format extents pages sections g (page image) n m r k lt)) j

  -- the page of each section spells it
  pub spells_own : (j : ℕ) → j < sections → SpellsSuperblock (page image (S.section_page j)) format (r.versions j) (r.recorded j) extents pages sections j (rows_of j)
  spells_own j lt =
      let at = section_spelled format extents pages sections g (page image) n m r j lt in
      let fits = at_fits j (page image (S.section_page j)) format (r.versions j) _ extents pages sections (rows_of j) at in
      subst (λ (k : ℕ). SpellsSuperblock (page image (S.section_page j)) format (r.versions j) k extents pages sections j (rows_of j)) (own_record format (r.recorded j) twins)
      (as_section j (page image (S.section_page j)) format (r.versions j) _ extents pages sections (rows_of j) twins at)

  pub root_is : root_said image ≡ r.version
  root_is = (roots.one_root (page image 1) _ r.version n _ (root_spelled format extents pages sections g (page image) n m r)).of_version

  pub first_there : 0 < length image
  first_there = some_page image 0 67 _ (spells_own 0 g.fewest_sections).spelled

  -- the sections, of which that of number 0 is sealed
  module _ (other : Image) (low : superblock_version (page image 0) + 1 < 2 ^ 63) (zero_is : page other 0 ≡ seal_of image) (rest : (p : ℕ) → p ≢ 0 → page other p ≡ page image p) where
    version_is : superblock_version (page image 0) ≡ r.versions 0
    version_is = version_read (page image 0) format (r.versions 0) (r.recorded 0) extents pages sections 0 (rows_of 0) twins (spells_own 0 g.fewest_sections)

    first_sealed : page other 0 ≡ (formats_of S).superblock (r.formats 0) 0 (r.versions 0 + 1) r.version r.pointers r.generations
    first_sealed =
        zero_is ∙ ap (λ (k : ℕ). sealed_page k (page image 0)) root_is
        ∙ page_sealed (page image 0) format (r.versions 0) (r.recorded 0) extents pages sections 0 (rows_of 0) twins (spells_own 0 g.fewest_sections) r.version
        ∙ ap (spelled_superblock format (r.versions 0 + 1) r.version extents pages sections 0) (sym (listed_part 0))
        ∙ sym (four_superblock S (r.formats 0) 0 (r.versions 0 + 1) r.version r.pointers r.generations twins)

    superblocks : (j : ℕ) → j < sections → page other (S.section_page j) ≡ (formats_of S).superblock (r.formats j) j (first_else (r.versions 0 + 1) r.versions j) (first_else r.version r.recorded j) r.pointers r.generations
    superblocks zero lt = first_sealed
    superblocks (suc j) lt = rest (S.section_page (suc j)) (λ e. let at = later_page format extents pages sections j in omega (arith, e, at)) ∙ r.superblock (suc j) lt

    fit : (j : ℕ) → j < sections → (1 ≤ first_else (r.versions 0 + 1) r.versions j) × (first_else (r.versions 0 + 1) r.versions j ≤ S.greatest_number)
    fit zero lt = (omega arith, omega (arith, low, version_is))
    fit (suc j) lt = r.versions_fit (suc j) lt

    low_records : (j : ℕ) → j < sections → first_else r.version r.recorded j ≤ r.version
    low_records zero lt = omega arith
    low_records (suc j) lt = r.recorded_fit (suc j) lt

    pub sealed_recovers : Recovers S (formats_of S) (page other) n m
    sealed_recovers = resectioned S (formats_of S) (page image) (page other) n m r r.pointers r.generations (none_hidden format twins)
        (record { root = rest 1 (λ e. cc e); frames = λ e i inside. rest (S.address e i) (λ is. omega (arith, is)) })
        (record {
          formats = r.formats;
          versions = first_else (r.versions 0 + 1) r.versions;
          recorded = first_else r.version r.recorded;
          superblock = superblocks;
          versions_fit = fit;
          recorded_fit = low_records;
          extents_fit = r.extents_fit;
        })
        (λ l lives. (refl, omega arith))
        (damage_kept S (formats_of S) (page image) r.runs r.pointers r.generations r.pointers r.generations (λ l lives. (refl, refl)))

  -- so does the image that is sealed, where its section may have a later version
  pub seal_recovers : (is_sealed image ≡ false → superblock_version (page image 0) + 1 < 2 ^ 63) → Recovers S (formats_of S) (page (sealed_image image)) n m
  seal_recovers low = elim (cases_Bool (is_sealed image)) [
    | inl already ↦ subst (λ (b : Bool). Recovers S (formats_of S) (page (if b then image else slice_set image 0 (seal_of image))) n m) (sym already) r
    | inr not_yet ↦ subst (λ (b : Bool). Recovers S (formats_of S) (page (if b then image else slice_set image 0 (seal_of image))) n m) (sym not_yet)
        (sealed_recovers (slice_set image 0 (seal_of image)) (low not_yet) (page_same image 0 (seal_of image) first_there) (λ p ne. page_other image 0 p (seal_of image) ne))
  ]
