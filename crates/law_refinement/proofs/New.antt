-- A new store is recovered as an empty one.
use Rattle.std.proofs.Common.{◌≡◌, ℕ, ◌-◌, ◌<◌, ◌≤◌, List, [], None, length, take, refl, sym, ap, ◌∙◌, subst, arith}
use Rattle.std.specs.Prelude.{replicate, slice_index}
use Rattle.std.proofs.lemmas.List.{drop-replicate, get_or-replicate, length-replicate, take-replicate}
use Rattle.cs_extent.proofs.Sections.{part_inside}
use Rattle.cs_extent.specs.State.{IsWhole, State as ExtentsState, extents_at, section_rows, shape}
use Rattle.cs_frame.proofs.FormatLaws.{root_fits_from}
use Rattle.cs_frame.specs.Formats.{extents_of as listed_extents, formats_of}
use Rattle.cs_frame.specs.Geometries.{IsGeometry, section_length, section_start}
use Rattle.cs_frame.specs.Roots.{SpellsRoot, identity_in}
use Rattle.cs_frame.specs.Superblocks.{spelled_superblock}
use Rattle.law_machine.specs.Format.{Format}
use Rattle.law_machine.specs.Recovery.{IsNew, Recovers}
use Rattle.law_refinement.specs.Images.{AreNewSections, IsFoundAs}
use Rattle.cs_reader.specs.ImageReads.{AreSectionsRead, IsStoreRead, SpellsAt}
use Rattle.law_refinement.proofs.Found.{found_as}
use Rattle.cs_reader.proofs.Listed.{all_default}
use Rattle.cs_reader.proofs.Superblocks.{empty_extents_are, of_section, own_format, read_whole, section_listed}

module _ (view : ℕ → List ℕ) (format : Format) (extents pages sections : ℕ) (is : IsGeometry format extents pages sections) (pages_are : AreNewSections view format extents pages sections)
    (root : SpellsRoot (view 1) (identity_in format) 1 0 []) where
  abbrev written : List (ℕ × ℕ)
  written = replicate extents (0, 0)

  abbrev fresh : ExtentsState
  fresh = extents_at format pages sections (replicate extents (0, 0))

  count : extents ≡ length written
  count = sym (length-replicate {A = ℕ × ℕ} extents (0, 0))

  pub new_geometry : IsGeometry format (length written) pages sections
  new_geometry = subst (λ (n : ℕ). IsGeometry format n pages sections) count is

  sections_are : AreNewSections view format (length written) pages sections
  sections_are = subst (λ (n : ℕ). AreNewSections view format n pages sections) count pages_are

  -- a section's part of the empty extents
  part_is : (j : ℕ) → section_rows fresh j ≡ replicate (section_length (length written) sections j) (0, 0)
  part_is j =
      let start : ℕ = section_start (length written) sections j in
      let long : ℕ = section_length (length written) sections j in
      let inside : long ≤ length written - start = part_inside (length written) sections j in
      ap (take long) (drop-replicate {X = ℕ × ℕ} start extents (0, 0)) ∙ take-replicate {X = ℕ × ℕ} long (extents - start) (0, 0) (omega (arith, inside, count))

  listed_is : (j : ℕ) → listed_extents (shape fresh).section (λ e. 0) (λ e. 0) j 0 (length written) ≡ replicate (section_length (length written) sections j) (0, 0)
  listed_is j = section_listed format (length written) pages sections new_geometry written refl (λ e. 0) (λ e. 0) (λ k lt. sym (all_default extents k (0, 0))) j ∙ part_is j

  pub is_new : IsNew (shape fresh) (formats_of (shape fresh)) view
  is_new = record {
    superblock = λ j lt. (sections_are j lt).spelled ∙ ap (spelled_superblock format 1 0 (length written) pages sections j) (sym (listed_is j))
        ∙ sym (own_format (shape fresh) (λ e. 0) (λ e. 0) j 1 0);
    root = root.spelled;
    root_fits = root_fits_from format 1 0 [] root.fits;
    some_number = omega arith;
  }

  -- as many versions are read, which are all 1, and record none
  module _ (versions records : List ℕ) (first : (j : ℕ) → j < length versions → slice_index versions j ≡ 1) (none : (j : ℕ) → slice_index records j ≡ 0) (many : sections ≡ length versions) where
    abbrev read_extents : ExtentsState
    read_extents = extents_at format pages (length versions) (replicate extents (0, 0))

    at : (j : ℕ) → j < length versions → SpellsAt j (view ((shape read_extents).section_page j)) format (slice_index versions j) (slice_index records j) (length written) pages (length versions) (section_rows read_extents j)
    at j lt =
        let there : j < sections = omega (arith, lt, many) in
        subst (λ (r : ℕ). SpellsAt j (view ((shape read_extents).section_page j)) format (slice_index versions j) r (length written) pages (length versions) (section_rows read_extents j)) (sym (none j))
        (subst (λ (v : ℕ). SpellsAt j (view ((shape read_extents).section_page j)) format v 0 (length written) pages (length versions) (section_rows read_extents j)) (sym (first j lt))
        (subst (λ (n : ℕ). SpellsAt j (view ((shape (extents_at format pages n (replicate extents (0, 0)))).section_page j)) format 1 0 (length written) pages n (section_rows (extents_at format pages n (replicate extents (0, 0))) j)) many
        (subst (λ (rows : List (ℕ × ℕ)). SpellsAt j (view ((shape fresh).section_page j)) format 1 0 (length written) pages sections rows) (sym (part_is j))
        (of_section j (view ((shape fresh).section_page j)) format 1 0 (length written) pages sections (replicate (section_length (length written) sections j) (0, 0)) (sections_are j there)))))

    sections_read : AreSectionsRead view format versions records pages (replicate extents (0, 0))
    sections_read = record { geometry = subst (λ (n : ℕ). IsGeometry format (length written) pages n) many new_geometry; each = at }

    read : IsStoreRead view format versions records pages (replicate extents (0, 0)) 1 0 []
    read = record { sections = sections_read; recorded_fit = λ j lt. omega (arith, none j); root_page = root; runs_read = tt; located = tt; weight_fits = omega arith }

    found_read : (found : Recovers (shape read_extents) (formats_of (shape read_extents)) view 0 (λ id. None))
        × IsFoundAs (shape read_extents) (formats_of (shape read_extents)) view 0 (λ id. None) found read_extents versions 1 []
    found_read = found_as view format versions records pages (replicate extents (0, 0)) 1 0 [] read (empty_extents_are format pages (length versions) extents) (λ id. None) (record {
      runs_read = λ run none. absurd none;
      table_passes = λ id. tt;
      visible_pass = λ id. tt;
      runs_pass = λ stand run none. absurd none;
      holds = λ id l none. absurd none;
      values = λ id. refl;
    })

  many_first : length {A = ℕ} (replicate sections 1) ≡ sections
  many_first = length-replicate {A = ℕ} sections 1

  all_first : (j : ℕ) → j < length {A = ℕ} (replicate sections 1) → slice_index (replicate sections 1) j ≡ 1
  all_first j lt = get_or-replicate sections j 1 0 (omega (arith, lt, many_first))

  none_recorded : (j : ℕ) → slice_index (replicate sections 0) j ≡ 0
  none_recorded j = all_default sections j 0

  -- the sections of an empty store, as they are read
  pub new_sections_read : AreSectionsRead view format (replicate sections 1) (replicate sections 0) pages (replicate extents (0, 0))
  new_sections_read = sections_read (replicate sections 1) (replicate sections 0) all_first none_recorded (sym many_first)

  pub new_whole : IsWhole fresh
  new_whole = subst (λ (n : ℕ). IsWhole (extents_at format pages n (replicate extents (0, 0)))) many_first
      (read_whole view format (replicate sections 1) (replicate sections 0) pages (replicate extents (0, 0)) new_sections_read)

  pub new_found : (found : Recovers (shape fresh) (formats_of (shape fresh)) view 0 (λ id. None))
      × IsFoundAs (shape fresh) (formats_of (shape fresh)) view 0 (λ id. None) found fresh (replicate sections 1) 1 []
  new_found = subst
      (λ (n : ℕ). (found : Recovers (shape (extents_at format pages n (replicate extents (0, 0)))) (formats_of (shape (extents_at format pages n (replicate extents (0, 0))))) view 0 (λ id. None))
      × IsFoundAs (shape (extents_at format pages n (replicate extents (0, 0)))) (formats_of (shape (extents_at format pages n (replicate extents (0, 0))))) view 0 (λ id. None) found
      (extents_at format pages n (replicate extents (0, 0))) (replicate sections 1) 1 [])
      many_first
      (found_read (replicate sections 1) (replicate sections 0) all_first none_recorded (sym many_first))
