-- What a core has left to write to a page of its superblock or its root is newer than what the page reads as.
use Rattle.std.proofs.Common.{◌≡◌, ◌≢◌, inl, inr, if◌then◌else◌, ◌==◌, ◌&&◌, ◌-◌, ◌*◌, ℕ, zero, suc, ◌+◌, ◌<◌, ◌≤◌, Bool, true, false, List, [], ◌∷◌, ◌++◌, Some, length, nat_le, slice_get, refl, sym, ◌∙◌, ap, arith, eq-eqb, le-leb, leb-true, le_of_eq}
use Rattle.std.proofs.lemmas.Bool.Decides.{nat_tests}
use Rattle.std.proofs.lemmas.Option.{slice_get_within}
use Rattle.cs_disk.specs.Disk.{State as DiskState, Write, latest, page, seen}
use Rattle.cs_disk.proofs.Images.{page-applied}
use Rattle.cs_frame.specs.Formats.{formats_of}
use Rattle.cs_frame.specs.Geometries.{Dimensions, IsGeometry, section_size}
use Rattle.cs_frame.proofs.FormatLaws.{is_format}
use Rattle.cs_frame.proofs.GeometryLaws.{geometry_apart, model_geometry}
use Rattle.law_machine.specs.Device.{FramePage, IsShape, PageKind, Shape}
use Rattle.law_machine.specs.Disk.{page_write, page_writes}
use Rattle.law_machine.specs.Element.{A_root, A_superblock, A_write, Element, Root, RootBefore, Superblock, SuperblockBefore, log_of, roots_of, superblocks_of}
use Rattle.law_machine.specs.Events.{Does, issued_one}
use Rattle.law_machine.specs.Formats.{Formats, image_at, places}
use Rattle.law_machine.specs.Frames.{IsFormat}
use Rattle.law_machine.specs.Geometry.{twins_in}
use Rattle.law_machine.specs.Lists.{◌∈◌}
use Rattle.law_machine.specs.Sound.{Sound}
use Rattle.law_machine.specs.State.{Issue, Issued, State}
use Rattle.law_machine.proofs.Carries.{and_true, found, no_later}
use Rattle.law_machine.proofs.Device.{writes_more}
use Rattle.law_machine.proofs.KeptRounds.{keeps_issue}
use Rattle.law_machine.proofs.Recorded.{sound_records}
use Rattle.law_machine.proofs.Shapes.{is_shape}
use Rattle.cs_core.specs.law_refinement.Devices.{IsDiskOf, persistent_image}
use Rattle.cs_twin.proofs.Shown.{latest_none}
use Rattle.cs_mount.specs.StorePairs.{root_version, section_at, section_version, store_shape, store_version}
use Rattle.cs_mount.proofs.Once.{written_below, written_once}
use Rattle.cs_mount.proofs.Twins.{frames}
use Rattle.cs_mount.proofs.Versioned.{CanSpell, root_has, section_has}

-- ---- lists

-- a member of a list stands between two parts of it
pub split_at : {A : Type 0} (xs : List A) (x : A) → x ∈ xs → (before : List A) × (behind : List A) × (xs ≡ before ++ x ∷ behind)
split_at [] x none = absurd none
split_at (y ∷ xs) x (inl is) = ([], xs, ap (λ z. z ∷ xs) (sym is))
split_at (y ∷ xs) x (inr has) = let more = split_at xs x has in (y ∷ more.0, more.1, ap (λ l. y ∷ l) more.2)

-- an element of the front of a list, and the one after it
front_at : {A : Type 0} (xs ys : List A) (i : ℕ) (x : A) → slice_get xs i ≡ Some x → slice_get (xs ++ ys) i ≡ Some x
front_at [] ys i x at = cc
front_at (z ∷ xs) ys zero x at = at
front_at (z ∷ xs) ys (suc i) x at = front_at xs ys i x at

seam_at : {A : Type 0} (xs ys : List A) (y : A) → slice_get (xs ++ y ∷ ys) (length xs) ≡ Some y
seam_at [] ys y = refl
seam_at (x ∷ xs) ys y = seam_at xs ys y

-- ---- pages

not_root : (frames j : ℕ) → 2 ≤ frames → ((if j == 0 then 0 else 1 + frames + j) == 1) ≡ false
not_root frames j many = grind (arith, nat_tests)

its_section : (frames j : ℕ) → (if (if j == 0 then 0 else 1 + frames + j) == 0 then 0 else (if j == 0 then 0 else 1 + frames + j) - (1 + frames)) ≡ j
its_section frames j = grind (arith, nat_tests)

module _ (d : Dimensions) (g : IsGeometry d.format d.extents d.pages d.sections) where
  abbrev S : Shape
  S = store_shape d

  abbrev F : Formats
  F = formats_of (store_shape d)

  shape : IsShape (store_shape d)
  shape = is_shape d.extents d.pages d.sections (section_size d.extents d.sections) d.format (model_geometry d.format d.extents d.pages d.sections g) (geometry_apart d.format d.extents d.pages d.sections g)

  format : IsFormat (store_shape d) (formats_of (store_shape d))
  format = is_format d.format d.extents d.pages d.sections g

  module _ (s : State) (sound : Sound (store_shape d) (formats_of (store_shape d)) s) where
    -- what is persistent of a section, and of the root
    pub held_section : (j : ℕ) → j < d.sections → persistent_image S F s (S.section_page j) ≡ (page_write S F (A_superblock (sound.safe.exact.superblock j))).1
    held_section j lt =
        let v = sound.safe.exact.superblock j in
        let is = sound.safe.exact.superblocks j lt in
        ap (λ (k : PageKind). image_at S F k s.world.persistent s.opened (log_of s.world.elements) (S.section_page j)) (shape.section_kind j lt)
        ∙ found SuperblockBefore (λ u. (u.section == j) && nat_le u.version (s.world.persistent.superblocks j)) (λ u. F.superblock u.format j u.version u.recorded u.pointers u.generations) (s.opened (S.section_page j))
        (superblocks_of s.world.elements) v sound.safe.superblocks_order is.0
        (and_true _ _ (eq-eqb _ _ is.1) (le-leb _ _ (le_of_eq is.2)))
        (λ y has passes before. no_later v y j (s.world.persistent.superblocks j) is.1 is.2 passes before)
        ∙ ap (λ (i : ℕ). F.superblock v.format i v.version v.recorded v.pointers v.generations) (sym is.1)

    held_root : persistent_image S F s 1 ≡ (page_write S F (A_root sound.safe.exact.root.0)).1
    held_root =
        let r = sound.safe.exact.root in
        found RootBefore (λ q. nat_le q.version s.world.persistent.root) (λ q. F.root q.version q.commands (places q.runs)) (s.opened 1)
        (roots_of s.world.elements) r.0 sound.safe.roots_order r.1 (le-leb _ _ (le_of_eq r.2))
        (λ y has passes before. (let low : y.version ≤ s.world.persistent.root = leb-true y.version s.world.persistent.root passes in let same = r.2 in omega (arith, low, same, before)))

    module _ (twins : twins_in d.format ≡ true) where
      -- the version that bytes spell as a section
      as_section : (j : ℕ) (bytes : List ℕ) → store_version (Some d) (S.section_page j) bytes ≡ section_version d j bytes
      as_section j bytes =
          ap (λ (b : Bool). if b then root_version d.format bytes else section_version d (section_at d (S.section_page j)) bytes) (not_root (d.extents * d.pages) j (frames d g twins))
          ∙ ap (λ (i : ℕ). section_version d i bytes) (its_section (d.extents * d.pages) j)

      spellable : (u : Superblock) → u ∈ superblocks_of s.world.elements → CanSpell (store_shape d) u
      spellable u has =
          let small = sound.safe.superblocks_fit u has in
          record {
            inside = sound.safe.sections_there u has;
            some_version = small.0;
            version_fits = small.1;
            recorded_fits = (sound_records S F s sound u has).1;
            extents_fit = small.2;
          }

      -- a version of a section, and one of the root, is what its page spells
      section_is : (u : Superblock) → u ∈ superblocks_of s.world.elements → store_version (Some d) (S.section_page u.section) (page_write S F (A_superblock u)).1 ≡ u.version
      section_is u has = as_section u.section (page_write S F (A_superblock u)).1 ∙ section_has d g twins u (spellable u has)

      root_is : (r : Root) → r ∈ roots_of s.world.elements → store_version (Some d) 1 (page_write S F (A_root r)).1 ≡ r.version
      root_is r has = let good = sound.safe.good r has in root_has d g r good.1 good.3

      -- which versions are persistent
      held_version : (j : ℕ) → j < d.sections → section_version d j (persistent_image S F s (S.section_page j)) ≡ s.world.persistent.superblocks j
      held_version j lt =
          let v = sound.safe.exact.superblock j in
          let is = sound.safe.exact.superblocks j lt in
          ap (section_version d j) (held_section j lt) ∙ ap (λ (i : ℕ). section_version d i (page_write S F (A_superblock v)).1) (sym is.1) ∙ section_has d g twins v (spellable v is.0) ∙ is.2

      held_root_version : store_version (Some d) 1 (persistent_image S F s 1) ≡ s.world.persistent.root
      held_root_version = let r = sound.safe.exact.root in ap (store_version (Some d) 1) held_root ∙ root_is r.0 r.1 ∙ r.2

      -- that of each section is from 1 on
      pub some_section : (j : ℕ) → j < d.sections → 0 < section_version d j (persistent_image S F s (S.section_page j))
      some_section j lt =
          let is = sound.safe.exact.superblocks j lt in
          let low = (sound.safe.superblocks_fit (sound.safe.exact.superblock j) is.0).0 in
          let same = held_version j lt in
          let held = is.2 in
          omega (arith, same, held, low)

      -- So what is left to write is newer than what is persistent.
      pub newer_left : (m : Element) → m ∈ s.left → S.kind (page_write S F m).0 ≢ FramePage
          → store_version (Some d) (page_write S F m).0 (persistent_image S F s (page_write S F m).0) < store_version (Some d) (page_write S F m).0 (page_write S F m).1
      newer_left (A_write x) has other = absurd (other (sound.safe.frames x (sound.left (A_write x) has).0))
      newer_left (A_superblock u) has other =
          let is = sound.left (A_superblock u) has in
          let new = section_is u is.0 in
          let old = as_section u.section (persistent_image S F s (S.section_page u.section)) ∙ held_version u.section (sound.safe.sections_there u is.0) in
          let above = is.2 in
          omega (arith, new, old, above)
      newer_left (A_root r) has other =
          let is = sound.left (A_root r) has in
          let new = root_is r is.0 in
          let old = held_root_version in
          let above = is.2 in
          omega (arith, new, old, above)

      module _ (m : Element) (has : m ∈ s.left) where
        abbrev split : (before : List Element) × (behind : List Element) × (s.left ≡ before ++ m ∷ behind)
        split = split_at s.left m has

        -- the state after it was written
        abbrev next : State
        next = issued_one S F s split.0 m split.1

        abbrev issues : Does S F s Issue (Issued m) next
        issues = (split.0, split.1, split.2, refl)

        next_sound : Sound (store_shape d) (formats_of (store_shape d)) next
        next_sound = keeps_issue S F shape format s next m sound issues

        abbrev last : ℕ
        last = length (page_writes S F s.issued)

        last_at : slice_get (page_writes S F next.issued) last ≡ Some (page_write S F m)
        last_at = ap (λ (l : List Write). slice_get l last) (writes_more S F s.issued m) ∙ seam_at (page_writes S F s.issued) [] (page_write S F m)

        -- it goes to no page after those of the sections
        pub left_below : (page_write S F m).0 ≤ d.extents * d.pages + d.sections
        left_below = written_below d (frames d g twins) next next_sound g.fewest_sections last (page_write S F m) last_at

        -- and no member that was issued went to its page
        none_issued : S.kind (page_write S F m).0 ≢ FramePage → (i : ℕ) (w : Write) → slice_get (page_writes S F s.issued) i ≡ Some w → w.0 ≡ (page_write S F m).0 → ⊥
        none_issued other i w at same =
            let there = ap (λ (l : List Write). slice_get l i) (writes_more S F s.issued m) ∙ front_at (page_writes S F s.issued) (page_write S F m ∷ []) i w at in
            let one = written_once d (frames d g twins) next next_sound i last w (page_write S F m) there last_at same (λ frame. other (ap S.kind (sym same) ∙ frame)) in
            let before = slice_get_within (page_writes S F s.issued) i w at in
            omega (arith, one, before)

        -- So the page reads as what is persistent.
        pub reads_held : (disk : DiskState) → IsDiskOf S F s disk → (page_write S F m).0 < length disk.durable → S.kind (page_write S F m).0 ≢ FramePage
            → page (seen disk) (page_write S F m).0 ≡ persistent_image S F s (page_write S F m).0
        reads_held disk on lt other =
            let p = (page_write S F m).0 in
            page-applied disk.durable disk.volatile p lt
            ∙ ap (λ (l : List Write). latest l p (page disk.durable p)) on.volatile
            ∙ latest_none (page_writes S F s.issued) p (page disk.durable p) (none_issued other)
            ∙ on.durable p lt
