-- What a new store shows, where it is laid whole or a crash tore its first section.
use Rattle.std.proofs.Common.{◌≡◌, ◌≢◌, ◌⊎◌, inl, inr, ⊎_elim, if◌then◌else◌, ◌==◌, ◌-◌, ℕ, ◌+◌, ◌*◌, ◌<◌, ◌≤◌, Bool, true, false, List, [], Option, Some, None, length, nat_lt, replicate, refl, sym, ◌∙◌, ap, subst, arith}
use Rattle.std.proofs.lemmas.Bool.{cases_eq}
use Rattle.std.proofs.lemmas.Bool.Decides.{nat_tests}
use Rattle.cs_disk.specs.Disk.{Image, page}
use Rattle.cs_frame.specs.Bytes.{number}
use Rattle.cs_frame.specs.declared.faults.FormatFault.{FormatFault}
use Rattle.cs_frame.specs.declared.formats.FormatNumber.{FormatNumber}
use Rattle.cs_frame.specs.declared.formats.FormatNumber.TheVariants as of_number
use Rattle.cs_frame.specs.FormatNumbers.{number_in}
use Rattle.law_machine.specs.Geometry.{twins_in}
use Rattle.cs_frame.specs.FirstFormat.{page_zero_fault}
use Rattle.cs_frame.specs.Geometries.{Dimensions, IsGeometry, section_length}
use Rattle.cs_frame.specs.Roots.{SpellsRoot, identity_in}
use Rattle.cs_frame.specs.Superblocks.{SpellsSuperblock, superblock_fault}
use Rattle.cs_frame.proofs.FirstFormatLaws as frames
use Rattle.cs_core.specs.law_refinement.Images.{AreNewSections}
use Rattle.cs_twin.specs.declared.pairs.Pair.{Pair}
use Rattle.cs_twin.specs.Pairs.{ArePairs, Versions, half, is_turned, shown}
use Rattle.cs_twin.proofs.Roles.{shown_page-own}
use Rattle.cs_twin.proofs.Shown.{by_halves, page-shown, turns}
use Rattle.cs_mount.specs.Makings.{IsTornLaying, new_page, new_root, new_section}
use Rattle.cs_mount.specs.StorePairs.{dimensions_on, is_section, last_says, pages_of, section_version, store_pair, store_pairs, store_version, without_fault, zero_or_last}
use Rattle.cs_mount.proofs.Halves.{one_place}
use Rattle.cs_mount.proofs.NewPages.{first_section, spells_root, spells_section}
use Rattle.cs_mount.specs.Identities.{IsOfOne}
use Rattle.cs_mount.proofs.Ones.{damaged_unsaid, faulty_unsaid, unsaid_none}
use Rattle.cs_mount.proofs.Telling.{found_by_last, found_by_zero, number_four, its_one, version_its}
use Rattle.cs_mount.proofs.Unpaired.{are_pairs, pair_there}

-- bytes with a fault have no version
faulty_version : (d : Dimensions) (j : ℕ) (bytes : List ℕ) → twins_in d.format ≡ true → superblock_fault of_number.Four bytes ≢ None → section_version d j bytes ≡ 0
faulty_version d j bytes twins damaged = by_test (is_section d j bytes) (superblock_fault (number_in d.format) bytes) (λ whole. damaged (ap (λ (n : FormatNumber). superblock_fault n bytes) (sym (number_four d.format twins)) ∙ whole))
  where
    by_test : (t : Bool) (o : Option FormatFault) → o ≢ None → (if t then without_fault o (number 4 12 bytes) else 0) ≡ 0
    by_test true None some = absurd (some refl)
    by_test true (Some f) some = refl
    by_test false o some = refl

-- what is whole in no format isn't in format 4
third_faulty : (bytes : List ℕ) → page_zero_fault bytes ≢ None → superblock_fault of_number.Four bytes ≢ None
third_faulty bytes damaged whole = damaged (frames.zero_of_section of_number.Four bytes whole)

-- the page of each pair holds what a new store has there
abbrev pub ShowsFirst : Dimensions → Image → Type 0
ShowsFirst d image = (k : ℕ) → k ≤ d.sections → page image (store_pair d k).page ≡ new_page d k

-- the page of a section is that of its pair
page_of_pair : (F j : ℕ) → (if nat_lt (if j == 0 then 0 else j + 1) 2 then (if j == 0 then 0 else j + 1) else F + (if j == 0 then 0 else j + 1)) ≡ (if j == 0 then 0 else 1 + F + j)
page_of_pair F j = grind (arith, nat_tests)

section_not_root : {A : Type 0} (j : ℕ) (x y : A) → (if (if j == 0 then 0 else j + 1) == 1 then x else y) ≡ y
section_not_root j x y = grind (arith, nat_tests)

section_of : (j : ℕ) → (if (if j == 0 then 0 else j + 1) == 0 then 0 else (if j == 0 then 0 else j + 1) - 1) ≡ j
section_of j = grind (arith, nat_tests)

place_below : (j sections : ℕ) → j < sections → (if j == 0 then 0 else j + 1) ≤ sections
place_below j sections lt = grind (arith, nat_tests)

module _ (d : Dimensions) (g : IsGeometry d.format d.extents d.pages d.sections) (twins : twins_in d.format ≡ true) where
  are : ArePairs (store_pairs d) (pages_of d)
  are = are_pairs d g twins

  -- So its sections are those of a new store, and its root too.
  pub shows_sections : (image : Image) → ShowsFirst d image → AreNewSections (page image) d.format d.extents d.pages d.sections
  shows_sections image shows j lt =
      let k = if j == 0 then 0 else j + 1 in
      let F = d.extents * d.pages in
      subst (λ (bytes : List ℕ). SpellsSuperblock bytes d.format 1 0 d.extents d.pages d.sections j (replicate (section_length d.extents d.sections j) (0, 0)))
      (sym (ap (page image) (sym (page_of_pair F j)) ∙ shows k (place_below j d.sections lt) ∙ section_not_root j (new_root d) (new_section d (if k == 0 then 0 else k - 1)) ∙ ap (new_section d) (section_of j)))
      (spells_section d g j lt)

  pub shows_root : (image : Image) → ShowsFirst d image → SpellsRoot (page image 1) (identity_in d.format) 1 0 []
  shows_root image shows = subst (λ (bytes : List ℕ). SpellsRoot bytes (identity_in d.format) 1 0 []) (sym (shows 1 g.fewest_sections)) (spells_root d g)

  -- ---- a torn one

  module _ (before c : Image) (long : length before ≡ pages_of d) (there : (k : ℕ) (twin : Bool) → 0 < k → k ≤ d.sections → page before (half (store_pair d k) twin) ≡ new_page d k) (torn : IsTornLaying d before c) where
    abbrev V : Versions
    V = store_version (Some d)

    abbrev x : Pair
    x = store_pair d 0

    other_halves : (k : ℕ) (twin : Bool) → 0 < k → k ≤ d.sections → page c (half (store_pair d k) twin) ≡ new_page d k
    other_halves k twin some le =
        torn.others (half (store_pair d k) twin)
        (λ same. (let one = (one_place d g twins k 0 twin false le (omega arith) same).0 in omega (arith, one, some)))
        (λ same. (let one = (one_place d g twins k 0 twin true le (omega arith) same).0 in omega (arith, one, some)))
        ∙ there k twin some le

    -- the first section is on one of its two pages at least
    abbrev IsThere : Type 0
    IsThere = (page c 0 ≡ new_section d 0) ⊎ (page c (pages_of d - 1) ≡ new_section d 0)

    there_version : (bytes : List ℕ) → bytes ≡ new_section d 0 → section_version d 0 bytes ≡ 1
    there_version bytes is = ap (section_version d 0) is ∙ first_section d g

    -- no other store is on the other one
    one_new : IsOfOne (pages_of d) c
    one_new = its_one (pages_of d) c d
        (⊎_elim
        (λ (own : page c 0 ≡ new_section d 0). let v = there_version (page c 0) own in inr (version_its d (page c 0) twins (omega (arith, v))))
        (λ (damaged : page_zero_fault (page c 0) ≢ None). inl (damaged_unsaid (page c 0) damaged))
        torn.first)
        (⊎_elim
        (λ (twin : page c (pages_of d - 1) ≡ new_section d 0). let v = there_version (page c (pages_of d - 1)) twin in inr (version_its d (page c (pages_of d - 1)) twins (omega (arith, v))))
        (λ (damaged : superblock_fault of_number.Four (page c (pages_of d - 1)) ≢ None). inl (faulty_unsaid (page c (pages_of d - 1)) damaged))
        torn.last)

    -- so it is found
    pub found_new : IsThere → dimensions_on (pages_of d) c ≡ Some d
    found_new one = ⊎_elim
        (λ (own : page c 0 ≡ new_section d 0). let v = there_version (page c 0) own in found_by_zero d c twins (omega (arith, v)) one_new)
        (λ (damaged : page_zero_fault (page c 0) ≢ None). ⊎_elim
        (λ (own : page c 0 ≡ new_section d 0). let v = there_version (page c 0) own in found_by_zero d c twins (omega (arith, v)) one_new)
        (λ (twin : page c (pages_of d - 1) ≡ new_section d 0). let v = there_version (page c (pages_of d - 1)) twin in found_by_last d c twins damaged (omega (arith, v)))
        one)
        torn.first

    -- and nothing else is
    pub found_none : page_zero_fault (page c 0) ≢ None → superblock_fault of_number.Four (page c (pages_of d - 1)) ≢ None → dimensions_on (pages_of d) c ≡ None
    found_none zero_damaged last_damaged =
        unsaid_none (pages_of d) c (by_faults (page_zero_fault (page c 0)) (superblock_fault of_number.Four (page c (pages_of d - 1))) zero_damaged last_damaged)
      where
        by_faults : (o p : Option FormatFault) → o ≢ None → p ≢ None → zero_or_last (pages_of d) o (page c 0) (last_says (pages_of d) p (page c (pages_of d - 1))) ≡ None
        by_faults None p not_one not_two = absurd (not_one refl)
        by_faults (Some f) None not_one not_two = absurd (not_two refl)
        by_faults (Some f) (Some h) not_one not_two = refl

    -- the newest half of the first pair is it
    newest : IsThere → page c (half x (is_turned V c x)) ≡ new_section d 0
    newest one = by torn.first torn.last
      where
        by : (page c 0 ≡ new_section d 0) ⊎ (page_zero_fault (page c 0) ≢ None) → (page c (pages_of d - 1) ≡ new_section d 0) ⊎ (superblock_fault of_number.Four (page c (pages_of d - 1)) ≢ None)
            → page c (half x (is_turned V c x)) ≡ new_section d 0
        by (inl own) (inl twin) = by_halves true (λ b. page c (half x b) ≡ new_section d 0) twin own (is_turned V c x)
        by (inl own) (inr damaged) =
            let v = there_version (page c 0) own in
            let w = faulty_version d 0 (page c (pages_of d - 1)) twins damaged in
            let turned : is_turned V c x ≡ false = turns V c x true (omega (arith, v, w)) in
            ap (λ (b : Bool). page c (half x b)) turned ∙ own
        by (inr damaged) (inl twin) =
            let v = there_version (page c (pages_of d - 1)) twin in
            let w = faulty_version d 0 (page c 0) twins (third_faulty (page c 0) damaged) in
            let turned : is_turned V c x ≡ true = turns V c x false (omega (arith, v, w)) in
            ap (λ (b : Bool). page c (half x b)) turned ∙ twin
        by (inr damaged) (inr broken) = ⊎_elim
            (λ (own : page c 0 ≡ new_section d 0). let v = there_version (page c 0) own in let w = faulty_version d 0 (page c 0) twins (third_faulty (page c 0) damaged) in absurd (omega (arith, v, w)))
            (λ (twin : page c (pages_of d - 1) ≡ new_section d 0). let v = there_version (page c (pages_of d - 1)) twin in let w = faulty_version d 0 (page c (pages_of d - 1)) twins broken in absurd (omega (arith, v, w)))
            one

    pub torn_shows_first : IsThere → ShowsFirst d (shown V (store_pairs d) c)
    torn_shows_first one k le =
        let inside = are.inside k (store_pair d k) false (pair_there d g twins k le) in
        page-shown V (store_pairs d) c (store_pair d k).page (let size = torn.size in omega (arith, inside, size, long))
        ∙ shown_page-own V c (store_pairs d) (pages_of d) are k (store_pair d k) (pair_there d g twins k le)
        ∙ ⊎_elim
        (λ (first : k ≡ 0). subst (λ n. page c (half (store_pair d n) (is_turned V c (store_pair d n))) ≡ new_page d n) (sym first) (newest one))
        (λ (later : k ≢ 0). other_halves k (is_turned V c (store_pair d k)) (omega (arith, later)) le)
        (cases_eq k 0)
