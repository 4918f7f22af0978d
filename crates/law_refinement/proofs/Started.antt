-- The state in which a store starts.
use Rattle.std.proofs.Common.{◌≡◌, inl, ℕ, zero, suc, ◌+◌, ◌<◌, ◌≤◌, Bool, true, false, nat_le, ◌==◌, ◌&&◌, if◌then◌else◌, List, [], length, le_refl, le-leb, eqb-true, refl, sym, ap, ◌∙◌, subst, arith}
use Rattle.cs_disk.proofs.Images.{length-applied}
use Rattle.cs_disk.proofs.Whole.{BytePages, Pages, left_whole, seen_whole}
use Rattle.cs_disk.specs.Disk.{Image, IsWhole as IsWholeDisk, MayLeave, State as DiskState, page, seen}
use Rattle.cs_extent.specs.State.{IsWhole, State as ExtentsState, extents_at, shape}
use Rattle.cs_frame.specs.Formats.{formats_of}
use Rattle.cs_frame.specs.Geometries.{device_pages}
use Rattle.law_refinement.proofs.Found.{read_recovers}
use Rattle.cs_reader.proofs.Superblocks.{read_whole}
use Rattle.law_refinement.specs.Images.{IsFoundAs}
use Rattle.cs_reader.specs.Loads.{by_family, graph_at, index_at}
use Rattle.cs_reader.specs.ImageReads.{ArePages, IsStoreRead}
use Rattle.cs_index.specs.declared.stored_runs.StoredRun.{StoredRun}
use Rattle.cs_index.specs.State.{newest_first}
use Rattle.law_machine.proofs.Opens.{opens_bounded, opens_sound}
use Rattle.law_machine.specs.Apart.{freed}
use Rattle.law_machine.specs.Cut.{page_in}
use Rattle.law_machine.specs.Device.{FramePage, IsShape, Page, PageKind, RootPage, SectionPage}
use Rattle.law_machine.specs.Element.{Map, Root, Run, Superblock, Write, log_of, roots_of, superblocks_of, writes_of}
use Rattle.law_machine.specs.Format.{Format}
use Rattle.law_machine.specs.Formats.{Formats, image_at, places}
use Rattle.law_machine.specs.Lists.{latest as newest}
use Rattle.law_machine.specs.Machine.{World}
use Rattle.law_machine.specs.Open.{extents_read, opened_state, opened_world, state_read, superblocks_read}
use Rattle.law_machine.specs.Recovery.{Recovers}
use Rattle.law_machine.proofs.Carries.{and_left}
use Rattle.law_machine.specs.State.{State}
use Rattle.law_refinement.specs.Devices.{persistent_image}
use Rattle.law_refinement.specs.Openings.{IsStartOf}
use Rattle.law_refinement.specs.Stores.{IsWorldOf}
use Rattle.law_refinement.proofs.CrashesLeft.{same_size}
use Rattle.law_refinement.proofs.Opening.{opened}
use Rattle.law_refinement.proofs.Shapes.{some_sections, store_shape}

-- a test that is passed, and one that may fail
pick : (b : Bool) (a o : Page) → b ≡ true → (if b then a else o) ≡ a
pick true a o is = refl
pick false a o is = cc

either : (b : Bool) (a o : Page) → (b ≡ true → a ≡ o) → (if b then a else o) ≡ o
either true a o same = same refl
either false a o same = refl

module _ (x : ExtentsState) (F : Formats) (img : ℕ → Page) (n : ℕ) (m : Map) (found : Recovers (shape x) F img n m) (is : IsShape (shape x)) where
  abbrev start : State
  start = opened_state (shape x) F img n m found

  -- a page of section j, by the versions of the sections below k that were read
  abbrev page_by : (p j k : ℕ) → Page
  page_by p j k = newest (λ (u : Superblock). (u.section == j) && nat_le u.version (found.versions j)) (λ (u : Superblock). F.superblock u.format j u.version u.recorded u.pointers u.generations)
      (img p) (superblocks_of (superblocks_read (shape x) F img n m found k))

  section : (p k j : ℕ) → k < (shape x).sections → (shape x).kind p ≡ SectionPage j → ((k == j) && nat_le (found.versions k) (found.versions j)) ≡ true
      → F.superblock (found.formats k) j (found.versions k) (found.recorded k) found.pointers found.generations ≡ img p
  section p k j there kind test =
      let same : k ≡ j = eqb-true k j (and_left (k == j) (nat_le (found.versions k) (found.versions j)) test) in
      subst (λ (i : ℕ). (shape x).kind p ≡ SectionPage i → F.superblock (found.formats k) i (found.versions k) (found.recorded k) found.pointers found.generations ≡ img p) same
      (λ at. sym (found.superblock k there) ∙ ap img (sym (is.section_only p k at))) kind

  section_as_read : (p j : ℕ) → (shape x).kind p ≡ SectionPage j → (k : ℕ) → k ≤ (shape x).sections → page_by p j k ≡ img p
  section_as_read p j kind zero le = refl
  section_as_read p j kind (suc k) le =
      let rest : page_by p j k ≡ img p = section_as_read p j kind k (let lt : suc k ≤ (shape x).sections = le in omega arith) in
      either ((k == j) && nat_le (found.versions k) (found.versions j)) (F.superblock (found.formats k) j (found.versions k) (found.recorded k) found.pointers found.generations) (page_by p j k)
      (λ test. section p k j le kind test ∙ sym rest) ∙ rest

  no_writes : (k : ℕ) → writes_of (superblocks_read (shape x) F img n m found k) ≡ []
  no_writes zero = refl
  no_writes (suc k) = no_writes k

  by_kind : (p : ℕ) (k : PageKind) → (shape x).kind p ≡ k → image_at (shape x) F k start.world.persistent img (log_of start.world.elements) p ≡ img p
  by_kind p RootPage kind =
      pick (nat_le found.version found.version) (F.root found.version n (places found.runs))
      (newest (λ (r : Root). nat_le r.version found.version) (λ (r : Root). F.root r.version r.commands (places r.runs)) (img p) (roots_of (superblocks_read (shape x) F img n m found (shape x).sections)))
      (le-leb _ _ (le_refl _))
      ∙ sym found.root ∙ ap img (sym (is.root_only p kind))
  by_kind p (SectionPage j) kind = section_as_read p j kind (shape x).sections (le_refl _)
  by_kind p FramePage kind = ap (λ (ws : List Write). page_in start.world.persistent img ws p) (no_writes (shape x).sections)

  -- what is persistent at open is what is there
  pub persistent_as_read : (p : ℕ) → persistent_image (shape x) F start p ≡ img p
  persistent_as_read p = by_kind p ((shape x).kind p) refl

module _ (x : ExtentsState) (image : Image) (versions : List ℕ) (root : ℕ) (format : Format) (limit n : ℕ) (runs : List Run) (m : Map)
    (found : Recovers (shape x) (formats_of (shape x)) (page image) n m) (whole : IsWhole x)
    (as_found : IsFoundAs (shape x) (formats_of (shape x)) (page image) n m found x versions root runs) (together : (shape x).apart ≡ false) where
  -- nothing is reset as the store is opened
  as_opened : opened_world (shape x) (formats_of (shape x)) (page image) n m found ≡ (opened_state (shape x) (formats_of (shape x)) (page image) n m found).world
  as_opened = ap (λ (b : Bool). record (opened_world (shape x) (formats_of (shape x)) (page image) n m found) {
    extents = if b then (freed (shape x) (state_read (shape x) (formats_of (shape x)) (page image) n m found)).world.extents
        else extents_read (shape x) (formats_of (shape x)) (page image) n m found;
  }) (sym together)

  pub started : IsStartOf x (graph_at versions root) (index_at runs format limit) image (opened_state (shape x) (formats_of (shape x)) (page image) n m found)
  started = record {
    sound = opens_sound (shape x) (formats_of (shape x)) (store_shape x whole) (page image) n m found;
    bounded = opens_bounded (shape x) (formats_of (shape x)) (store_shape x whole) (page image) n m found;
    parts = record {
      world = subst (λ (w : World). IsWorldOf x (graph_at versions root) w) as_opened
          (opened x (graph_at versions root) (formats_of (shape x)) (page image) n m found versions (some_sections x whole) as_found.all_sections as_found.versions as_found.extents
          (ap (λ (v : ℕ). record { pending = record { persistent = by_family versions v; waiting = [] }; staged = 0; latest = by_family versions v }) (sym as_found.root_version)));
      index = record { lookups = λ id. refl; same_runs = sym as_found.same_runs };
    };
    disk = record { durable = λ p inside. sym (persistent_as_read x (formats_of (shape x)) (page image) n m found (store_shape x whole) p); volatile = refl };
    frontier = (_, inl refl, refl, (let same : n ≡ n + 0 = omega arith in same));
  }

-- what is read as a store is opened
module _ (image : Image) (format : Format) (versions records : List ℕ) (pages : ℕ) (written : List (ℕ × ℕ)) (root commands limit : ℕ) (runs : List StoredRun)
    (are : ArePages (device_pages format (length written) pages (length versions)) (page image)) (read : IsStoreRead (page image) format versions records pages written root commands runs) where
  abbrev read_extents : ExtentsState
  read_extents = extents_at format pages (length versions) written

  pub read_started : (shape read_extents).apart ≡ false → (m : Map) × (found : Recovers (shape read_extents) (formats_of (shape read_extents)) (page image) commands m)
      × IsStartOf read_extents (graph_at versions root) (index_at (newest_first runs) format limit) image (opened_state (shape read_extents) (formats_of (shape read_extents)) (page image) commands m found)
  read_started together = let f = read_recovers (page image) format versions records pages written root commands runs read together are in
      (f.0, f.1, started read_extents image versions root format limit commands (newest_first runs) f.0 f.1 (read_whole (page image) format versions records pages written read.sections) f.2 together)

-- ---- the pages of a disk

are_pages : (image : Image) (count : ℕ) → count ≤ length image → Pages 4096 image → BytePages image → ArePages count (page image)
are_pages image count enough sizes bytes p inside = record { size = sizes p [] (omega arith); bytes = bytes p [] (omega arith) }

pub seen_pages : (disk : DiskState) (count : ℕ) → IsWholeDisk disk → count ≤ length disk.durable → ArePages count (page (seen disk))
seen_pages disk count whole enough = let both = seen_whole disk whole in
    are_pages (seen disk) count (omega (arith, enough, length-applied disk.durable disk.volatile)) both.0 both.1

pub left_pages : (disk : DiskState) (image : Image) (count : ℕ) → IsWholeDisk disk → MayLeave disk image → count ≤ length disk.durable → ArePages count (page image)
left_pages disk image count whole may enough = let both = left_whole disk image whole may in
    are_pages image count (omega (arith, enough, same_size disk image may)) both.0 both.1
