-- What the tests of a store's dimensions and of its sections say.
use Rattle.std.proofs.Common.{◌≡◌, refl, ℕ, zero, suc, ◌+◌, ◌-◌, ◌*◌, ◌/◌, ◌%◌, ◌<◌, ◌≤◌, min, true, arith, ◌&&◌, nat_le, nat_lt, sym, ap, ◌∙◌}
use Rattle.std.specs.Prelude.{◌↔◌}
use Rattle.std.proofs.Math.Nat.{mod-lt, mul_comm}
use Rattle.std.proofs.lemmas.Nat.{div-add-mod', div-mul-add, div_below}
use Rattle.law_machine.proofs.LocalRecovery.{lies_below}
use Rattle.law_machine.specs.Geometry.{HasExtentsApart, IsGeometry as IsModelGeometry, most_run_extents, shape_of}
use Rattle.law_machine.specs.Local.{LiesBelow}
use Rattle.std.proofs.lemmas.Bool.Decides.{nat_tests}
use Rattle.std.proofs.lemmas.Bool.{and_parts, and_from, leb-true, ltb-true, le-leb, lt-ltb}
use Rattle.law_machine.specs.Format.{Format, Four, Two}
use Rattle.cs_frame.specs.Geometries.{FitsDevice, FitsFormat, IsGeometry, device_pages, greatest_extents, greatest_pages, greatest_section_extents, greatest_sections, has_device, in_bounds, is_divided, least_extents, least_pages, lengths_below, section_length, section_size, section_start}

-- the dimensions are in bounds
pub record IsWithin (format : Format) (greatest extents pages : ℕ) : Type 0 where
  pub fewest_extents : least_extents format ≤ extents
  pub most_extents : extents ≤ greatest
  pub fewest_pages : least_pages ≤ pages
  pub most_pages : pages ≤ greatest_pages format

pub within : (format : Format) (greatest extents pages : ℕ) → in_bounds format greatest extents pages ≡ true → IsWithin format greatest extents pages
within format greatest extents pages h =
    let three = and_parts (nat_le (least_extents format) extents && nat_le extents greatest && nat_le least_pages pages) (nat_le pages (greatest_pages format)) h in
    let two = and_parts (nat_le (least_extents format) extents && nat_le extents greatest) (nat_le least_pages pages) three.0 in
    let one = and_parts (nat_le (least_extents format) extents) (nat_le extents greatest) two.0 in
    record {
      fewest_extents = leb-true _ _ one.0;
      most_extents = leb-true _ _ one.1;
      fewest_pages = leb-true _ _ two.1;
      most_pages = leb-true _ _ three.1;
    }

pub in_bounds-within : (format : Format) (greatest extents pages : ℕ) → IsWithin format greatest extents pages → in_bounds format greatest extents pages ≡ true
in_bounds-within format greatest extents pages w =
    and_from _ _ (and_from _ _ (and_from _ _ (le-leb (least_extents format) extents w.fewest_extents) (le-leb extents greatest w.most_extents)) (le-leb least_pages pages w.fewest_pages)) (le-leb pages (greatest_pages format) w.most_pages)

-- what the bounds of a store say in any format
pub record Bounds (extents pages sections : ℕ) : Type 0 where
  pub fewest_extents : 4 ≤ extents
  pub most_extents : extents ≤ 7680
  pub fewest_pages : 2 ≤ pages
  pub most_pages : pages ≤ 65535
  pub most_sections : sections ≤ 15

pub bounds : (format : Format) (extents pages sections : ℕ) → IsGeometry format extents pages sections → Bounds extents pages sections
bounds Two extents pages sections g = record {
  fewest_extents = omega (arith, g.fewest_extents);
  most_extents = omega (arith, g.most_extents);
  fewest_pages = g.fewest_pages;
  most_pages = omega (arith, g.most_pages);
  most_sections = omega (arith, g.most_sections);
}
bounds (Four store device) extents pages sections g = record {
  fewest_extents = omega (arith, g.fewest_extents);
  most_extents = omega (arith, g.most_extents);
  fewest_pages = g.fewest_pages;
  most_pages = omega (arith, g.most_pages);
  most_sections = omega (arith, g.most_sections);
}

-- the device has room where the test says so, and where it has the test passes
pub device_tested : (format : Format) (extents pages sections : ℕ) → has_device format extents pages sections ≡ true → FitsDevice format extents pages sections
device_tested Two extents pages sections h = tt
device_tested (Four store device) extents pages sections h = leb-true _ _ h

pub has_device-fits : (format : Format) (extents pages sections : ℕ) → FitsDevice format extents pages sections → has_device format extents pages sections ≡ true
has_device-fits Two extents pages sections h = refl
has_device-fits (Four store device) extents pages sections h = le-leb _ _ h

-- the tests of a geometry pass for it alone
pub geometry_tested : (format : Format) (extents pages sections : ℕ) → FitsFormat format → in_bounds format (greatest_extents format) extents pages ≡ true → is_divided format extents sections ≡ true
    → has_device format extents pages sections ≡ true → IsGeometry format extents pages sections
geometry_tested format extents pages sections known bounds h device =
    let w = within format (greatest_extents format) extents pages bounds in
    let size : ℕ = section_size extents sections in
    let last : ℕ = section_start extents sections (sections - 1) in
    let three = and_parts (nat_le 1 sections && nat_le sections (greatest_sections format) && nat_le size greatest_section_extents) (nat_lt last extents) h in
    let two = and_parts (nat_le 1 sections && nat_le sections (greatest_sections format)) (nat_le size greatest_section_extents) three.0 in
    let one = and_parts (nat_le 1 sections) (nat_le sections (greatest_sections format)) two.0 in
    record {
      fits_format = known;
      fewest_extents = w.fewest_extents;
      most_extents = w.most_extents;
      fewest_pages = w.fewest_pages;
      most_pages = w.most_pages;
      fewest_sections = leb-true _ _ one.0;
      most_sections = leb-true _ _ one.1;
      section_fits = leb-true _ _ two.1;
      none_empty = ltb-true _ _ three.1;
      fits_device = device_tested format extents pages sections device;
    }

pub in_bounds-geometry : (format : Format) (extents pages sections : ℕ) → IsGeometry format extents pages sections → in_bounds format (greatest_extents format) extents pages ≡ true
in_bounds-geometry format extents pages sections s =
    in_bounds-within format (greatest_extents format) extents pages (record { fewest_extents = s.fewest_extents; most_extents = s.most_extents; fewest_pages = s.fewest_pages; most_pages = s.most_pages })

pub is_divided-geometry : (format : Format) (extents pages sections : ℕ) → IsGeometry format extents pages sections → is_divided format extents sections ≡ true
is_divided-geometry format extents pages sections s =
    and_from _ _ (and_from _ _ (and_from _ _ (le-leb 1 sections s.fewest_sections) (le-leb sections (greatest_sections format) s.most_sections)) (le-leb (section_size extents sections) greatest_section_extents s.section_fits)) (lt-ltb (section_start extents sections (sections - 1)) extents s.none_empty)

-- no section has more extents than the first
pub section_length-le : (extents sections section : ℕ) → section_length extents sections section ≤ section_size extents sections
section_length-le extents sections section = at_most (section_size extents sections) (extents - section_start extents sections section)
  where
    at_most : (a b : ℕ) → min a b ≤ a
    at_most a b = omega arith

-- ---- which extents a section has

module _ (format : Format) (extents pages sections : ℕ) (g : IsGeometry format extents pages sections) where
  abbrev size : ℕ
  size = section_size extents sections

  -- all sections but the last have as many extents, and the first has some
  parts : size * sections + (extents + (sections - 1)) % sections ≡ extents + (sections - 1)
  parts = div-add-mod' (extents + (sections - 1)) sections

  rest : (extents + (sections - 1)) % sections < sections
  rest = mod-lt (extents + (sections - 1)) g.fewest_sections

  pub all_covered : extents ≤ sections * section_size extents sections
  all_covered = omega (arith, parts, rest, mul_comm sections size, g.fewest_sections)

  pub some_in_each : 0 < section_size extents sections
  some_in_each = some size all_covered (bounds format extents pages sections g).fewest_extents
    where
      some : (n : ℕ) → extents ≤ sections * n → 4 ≤ extents → 0 < n
      some zero le least = absurd (omega (arith, le, least))
      some (suc n) le least = omega arith

  -- an extent's section is one of them
  pub section_inside : (e : ℕ) → e < extents → e / section_size extents sections < sections
  section_inside e lt = div_below e size sections some_in_each (omega (arith, lt, all_covered))

  -- it has the extent, and no other has it
  pub section_holds : (e j : ℕ) → e < extents → (e / section_size extents sections ≡ j)
      ↔ ((section_start extents sections j ≤ e) × (e < section_start extents sections j + section_length extents sections j))
  section_holds e j lt = (
    (λ is.
        let whole : (e / size) * size + e % size ≡ e = div-add-mod' e size in
        let below : e % size < size = mod-lt e some_in_each in
        let at : j * size + e % size ≡ e = ap (λ (n : ℕ). n * size + e % size) (sym is) ∙ whole in
        (omega (arith, at), omega (arith, at, below, lt))),
    (λ h.
        let near : e - j * size < size = omega (arith, h.0, h.1) in
        let there : j * size + (e - j * size) ≡ e = omega (arith, h.0) in
        ap (λ (n : ℕ). n / size) (sym there) ∙ div-mul-add j size (e - j * size) near),
  )

  -- the sections before one have together what lies before its first extent
  lengths_are : (j : ℕ) → lengths_below extents sections j ≡ min extents (section_start extents sections j)
  lengths_are zero = omega arith
  lengths_are (suc j) =
      let before = lengths_are j in
      let next : suc j * size ≡ j * size + size = omega arith in
      omega (arith, before, next)

  pub lengths_sum : lengths_below extents sections sections ≡ extents
  lengths_sum = omega (arith, lengths_are sections, all_covered)

  -- the same in the words of the machine's model
  pub model_geometry : IsModelGeometry extents pages sections (section_size extents sections)
  model_geometry = record {
    some_page = omega (arith, g.fewest_pages);
    some_section = g.fewest_sections;
    some_extent = some_in_each;
    all = all_covered;
  }

-- four extents are two beside those that may hold runs, and so are sixteen
extents_left : (extents : ℕ) → 4 ≤ extents → most_run_extents extents + 2 ≤ extents
extents_left extents many = grind (arith, nat_tests)

-- where chunks and runs lie apart there are extents enough
pub geometry_apart : (format : Format) (extents pages sections : ℕ) → IsGeometry format extents pages sections → HasExtentsApart extents format
geometry_apart format extents pages sections g on = extents_left extents (bounds format extents pages sections g).fewest_extents

-- the pages of a store up to its sections, each once, are on its device
pub pages_on_device : (format : Format) (extents pages sections : ℕ) → IsGeometry format extents pages sections
    → 1 + extents * pages + sections ≤ device_pages format extents pages sections
pages_on_device Two extents pages sections g = omega arith
pages_on_device (Four store device) extents pages sections g = omega (arith, g.fits_device)

-- all that a store looks at lies on its device
pub lies_in_device : (format : Format) (extents pages sections : ℕ) → IsGeometry format extents pages sections
    → LiesBelow (shape_of extents pages sections (section_size extents sections) format) (device_pages format extents pages sections)
lies_in_device format extents pages sections g =
    let below = lies_below extents pages sections (section_size extents sections) format (model_geometry format extents pages sections g) in
    let on = pages_on_device format extents pages sections g in
    record {
      root = omega (arith, below.root, on);
      sections = λ j lt. omega (arith, below.sections j lt, on);
      frames = λ e i inside. omega (arith, below.frames e i inside, on);
    }
