-- What is opened on what a crash left has the shape of the store that it left it of, whatever is damaged there.
use Rattle.std.proofs.Common.{◌≡◌, ℕ, ◌<◌, ◌≤◌, ◌==◌, true, false, List, [], None, inl, inr, length, slice_index, if◌then◌else◌, eq-eqb, ne_eqb, refl, sym, ap, ◌∙◌, subst, arith}
use Rattle.std.proofs.lemmas.Bool.{cases_Bool}
use Rattle.cs_disk.specs.declared.disk.PageDisk.{Ghosts as PageDisk}
use Rattle.cs_disk.specs.Disk.{Image, MayLeave, page}
use Rattle.cs_extent.specs.State.{extents_at, section_rows, shape}
use Rattle.cs_frame.proofs.FormatLaws.{root_fits_from}
use Rattle.cs_frame.proofs.GeometryLaws.{pages_on_device}
use Rattle.cs_frame.proofs.RootLaws.{identity_of_format}
use Rattle.cs_frame.specs.Formats.{formats_of}
use Rattle.cs_frame.specs.FirstFormat.{SpellsPageZero}
use Rattle.cs_frame.specs.Geometries.{section_size}
use Rattle.cs_core.proofs.cs_reader.Readable.{zero_same}
use Rattle.cs_core.specs.cs_reader.ImageReads.{AreSectionsRead, page_total}
use Rattle.law_machine.specs.Format.{Format}
use Rattle.law_machine.proofs.Crash.{leaves_prefix}
use Rattle.law_machine.specs.Device.{IsShape, Page, RootPage, SectionPage, Shape}
use Rattle.law_machine.specs.Element.{Map, Opening}
use Rattle.law_machine.specs.Formats.{Formats}
use Rattle.law_machine.specs.Geometry.{shape_of}
use Rattle.law_machine.specs.Recovery.{Recovers, RecoversBut}
use Rattle.law_machine.specs.Sound.{crashed}
use Rattle.law_refinement.proofs.CrashesLeft.{same_size}
use Rattle.law_refinement.proofs.Disks.{crash}
use Rattle.law_refinement.proofs.Shapes.{shape_of_store}
use Rattle.cs_core.specs.Openings.{IsOpened}
use Rattle.cs_core.specs.Stored.{Stored}
use Rattle.cs_core.specs.Views.{View}
use Rattle.law_room_in_store.proofs.HavingRoom.{format_is}
use Rattle.law_room_in_store.specs.Images.{HasGeometry}
use Rattle.law_room_in_store.specs.Roomy.{IsRoomyCore}

-- an image of which the sections are known reads as a store without runs, once its root is one of none
module _ (S : Shape) (F : Formats) (shape : IsShape S) (opening : (pointers generations : ℕ → ℕ) → Opening) (img : ℕ → Page)
    (n : ℕ) (m : Map) (but : RecoversBut S F opening img n m) (fits : F.fits_root but.version 0 [] ≡ true) where
  abbrev pub rooted : ℕ → Page
  rooted p = if p == S.root_page then F.root but.version 0 [] else img p

  other : (p : ℕ) → (p == S.root_page) ≡ false → rooted p ≡ img p
  other p off = rw off refl

  apart : (j : ℕ) → j < S.sections → (S.section_page j == S.root_page) ≡ false
  apart j lt = ne_eqb (S.section_page j) S.root_page (λ same. (let no : SectionPage j ≡ RootPage =
      sym (shape.section_kind j lt) ∙ ap S.kind same ∙ shape.root_kind in cc))

  pub emptied : Recovers S F rooted 0 (λ id. None)
  emptied = record {
    formats = but.formats;
    versions = but.versions;
    recorded = but.recorded;
    pointers = but.pointers;
    generations = but.generations;
    superblock = λ j lt. other (S.section_page j) (apart j lt) ∙ but.superblock j lt;
    versions_fit = but.versions_fit;
    extents_fit = but.extents_fit;
    version = but.version;
    recorded_fit = but.recorded_fit;
    runs = [];
    root = rw (eq-eqb S.root_page S.root_page refl) refl;
    root_fits = fits;
    runs_fit = λ run none. absurd none;
    bounds = record {
      some_version = but.bounds.some_version;
      version_fits = but.bounds.version_fits;
      commands_fit = omega arith;
      few_runs = omega arith;
      weight_fits = omega arith;
      chunks_fit = λ id. omega arith;
    };
    gives = record {
      runs_read = λ run none. absurd none;
      table_passes = λ id. tt;
      visible_pass = λ id. tt;
      runs_pass = λ stand run none. absurd none;
      holds = λ id l none. absurd none;
      values = λ id. refl;
    };
  }

-- an opened store's sections were read
opened_sections : (honest : Type 0) (image : Image) (found : ℕ × ℕ) (store : Stored) (is : IsOpened honest image found store) → honest
    → AreSectionsRead (page image) is.format is.versions is.records is.pages is.written
opened_sections honest image found store is there =
    elim (cases_Bool (shape (extents_at is.format is.pages (length is.versions) is.written)).hidden_stand) [
      | inl stand ↦ ((is.read there).whole stand).sections
      | inr gone ↦ ((is.read there).visible gone).sections
    ]

module _ {D : Type 0} (disks : PageDisk D) where
  pub shape_left : (v : View D) → IsRoomyCore disks v → length (disks.state v.disk).durable ≡ disks.page_count v.disk
      → (image : Image) → MayLeave (disks.state v.disk) image → (honest : Type 0) (found : ℕ × ℕ) (store : Stored)
      → IsOpened honest image found store → honest → shape store.extents ≡ shape v.store.extents
  shape_left v roomy long image may honest found store is there =
      let s = roomy.core.legal roomy.honest in
      let left = crash (shape v.store.extents) (formats_of (shape v.store.extents)) s.0 (disks.state v.disk) s.1.disk image may in
      let size : length image ≡ page_total (shape v.store.extents) =
      same_size (disks.state v.disk) image may ∙ long ∙ roomy.core.device in
      let some : 1 ≤ v.store.extents.sections = roomy.geometry.fewest_sections in
      let on = pages_on_device v.store.extents.format (length v.store.extents.written) v.store.extents.pages v.store.extents.sections roomy.geometry in
      let but = (leaves_prefix (shape v.store.extents) (formats_of (shape v.store.extents)) (shape_of_store v.store.extents roomy.geometry)
      (format_is v.store.extents roomy.geometry) s.0 s.1.store.sound left.0).1.2 in
      by v roomy.geometry (crashed (shape v.store.extents) (formats_of (shape v.store.extents)) s.0 left.0) image
      (sym (left.1 0 (omega (arith, size, some, on)))) (λ p g. s.0.opening) _ _ but honest found store is there
    where
      by : (v : View D) (geometry : HasGeometry v.store.extents) (img : ℕ → Page) (image : Image) → img 0 ≡ page image 0
          → (opening : (pointers generations : ℕ → ℕ) → Opening) (n : ℕ) (m : Map)
          → RecoversBut (shape v.store.extents) (formats_of (shape v.store.extents)) opening img n m
          → (honest : Type 0) (found : ℕ × ℕ) (store : Stored) → IsOpened honest image found store → honest
          → shape store.extents ≡ shape v.store.extents
      by v geometry img image zero opening n m but honest found store is there =
          let format : Format = v.store.extents.format in
          let extents : ℕ = length v.store.extents.written in
          let pages : ℕ = v.store.extents.pages in
          let last : but.version ≤ 9223372036854775807 = but.bounds.version_fits in
          let fits : (formats_of (shape v.store.extents)).fits_root but.version 0 [] ≡ true =
          root_fits_from v.store.extents.format but.version 0 [] (record {
            identity = identity_of_format v.store.extents.format geometry.fits_format;
            first_version = but.bounds.some_version;
            last_version = omega (arith, last);
            last_command = omega arith;
            count = omega arith;
            each = tt;
          }) in
          let sections = opened_sections honest image found store is there in
          let spelled : SpellsPageZero (page image 0) is.format (slice_index is.versions 0) (slice_index is.records 0) (length is.written)
          is.pages (length is.versions) 0 (section_rows (extents_at is.format is.pages (length is.versions) is.written) 0) =
          sections.each 0 sections.geometry.fewest_sections in
          let same = zero_same v.store.extents.format (length v.store.extents.written) v.store.extents.pages v.store.extents.sections
          geometry
          (rooted (shape v.store.extents) (formats_of (shape v.store.extents)) (shape_of_store v.store.extents geometry) opening img n m
          but fits) 0 (λ id. None)
          (emptied (shape v.store.extents) (formats_of (shape v.store.extents)) (shape_of_store v.store.extents geometry) opening img n m
          but fits) is.format (slice_index is.versions 0) (slice_index is.records 0) (length is.written) is.pages (length is.versions) 0
          (section_rows (extents_at is.format is.pages (length is.versions) is.written) 0)
          (subst (λ (bytes : List ℕ). SpellsPageZero bytes is.format (slice_index is.versions 0) (slice_index is.records 0) (length is.written)
          is.pages (length is.versions) 0 (section_rows (extents_at is.format is.pages (length is.versions) is.written) 0)) (sym zero) spelled) in
          ap (λ (u : Stored). shape u.extents) is.made ∙ is.opened.same_shape
          ∙ ap (λ (k : Format). shape_of (length is.written) is.pages (length is.versions) (section_size (length is.written)
          (length is.versions)) k) same.0
          ∙ ap (λ (k : ℕ). shape_of k is.pages (length is.versions) (section_size k (length is.versions)) format) same.1
          ∙ ap (λ (q : ℕ). shape_of extents q (length is.versions) (section_size extents (length is.versions)) format) same.2
          ∙ ap (λ (k : ℕ). shape_of extents pages k (section_size extents k) format) same.3
