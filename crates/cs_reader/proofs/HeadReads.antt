-- How the head of a store is read, from one part to the next.
use Rattle.std.proofs.Common.{◌≡◌, ◌≢◌, ◌∙◌, ◌⊎◌, inl, inr, ⊎_elim, ℕ, ◌+◌, ◌*◌, ◌<◌, ◌≤◌, Bool, List, Some, None, Result, Ok, Err, IfErr, IfOk, MatchBool, length, map, refl, sym, ap, subst, arith}
use Rattle.std.specs.Prelude.{slice_index}
use Rattle.std.specs.List.{AllByRecursion}
use Rattle.std.proofs.lemmas.List.{length-map}
use Rattle.cs_chunk.specs.Reads.{IsNoAnswer, IsOfFault}
use Rattle.cs_refusal.specs.declared.refusals.Refusal.{Refusal}
use Rattle.cs_refusal.specs.declared.refusals.Refusal.TheVariants.{NotAStore}
use Rattle.cs_deps.specs.State.{NoneOn, State as GraphState}
use Rattle.cs_disk.specs.Disk.{Image, State as DiskState, page, seen}
use Rattle.cs_extent.proofs.Sections.{geometry_is, rows_are_all}
use Rattle.cs_extent.specs.Sections.{AreSections, format_of, pages_of, rows_of}
use Rattle.cs_extent.specs.State.{State as ExtentsState, extents_at, shape}
use Rattle.cs_frame.proofs.GeometryLaws.{pages_on_device}
use Rattle.cs_frame.proofs.RootLaws.{most_runs, runs_of_format}
use Rattle.cs_frame.specs.declared.roots.Root.{Root}
use Rattle.cs_frame.specs.declared.superblocks.Superblock.{Superblock}
use Rattle.cs_frame.specs.FirstFormat.{SpellsPageZero}
use Rattle.cs_frame.specs.Geometries.{IsGeometry, device_pages}
use Rattle.cs_frame.specs.Locators.{FitsLocator}
use Rattle.cs_frame.specs.FormatNumbers.{number_in}
use Rattle.cs_frame.specs.Roots.{SpellsRoot, identity_in, identity_of, root_fault, root_number}
use Rattle.cs_reader.specs.Loads.{graph_at}
use Rattle.cs_reader.specs.ImageReads.{AreSectionsRead}
use Rattle.law_machine.specs.Format.{Format}
use Rattle.law_machine.specs.Geometry.{marks_in}
use Rattle.cs_reader.specs.declared.heads.Head.{Head}
use Rattle.cs_reader.specs.Heads.{IsHeadRead, IsWhyNoHead}
use Rattle.cs_reader.specs.Openings.{AreRecordedBy, IsWhyNoFirst, IsWhyNoRoot, IsWhyNoSections, SpellsFirst}

-- the versions of these sections
abbrev pub versions_of : List Superblock → List ℕ
versions_of sections = map (λ (it : Superblock). it.version) sections

-- and what they record
abbrev pub records_of : List Superblock → List ℕ
records_of sections = map (λ (it : Superblock). it.recorded) sections

-- ---- the head

module _ (honest : Type 0) (count : ℕ) (view : ℕ → List ℕ) (sections : List Superblock) (are : AreSections sections)
    (sized : count ≡ device_pages (format_of sections) (length (rows_of sections)) (pages_of sections) (length sections))
    (there : honest → AreSectionsRead view (format_of sections) (versions_of sections) (records_of sections) (pages_of sections) (rows_of sections)) where
  as_many : length (versions_of sections) ≡ length sections
  as_many = length-map sections (λ (it : Superblock). it.version)

  geometry : IsGeometry (format_of sections) (length (rows_of sections)) (pages_of sections) (length sections)
  geometry = subst (λ (n : ℕ). IsGeometry (format_of sections) n (pages_of sections) (length sections)) (sym (rows_are_all sections are)) (geometry_is sections are)

  sized_by : count ≡ device_pages (format_of sections) (length (rows_of sections)) (pages_of sections) (length (versions_of sections))
  sized_by = sized ∙ ap (device_pages (format_of sections) (length (rows_of sections)) (pages_of sections)) (sym as_many)

  abbrev Lost : Bool → ℕ → ℕ → Type 0
  Lost lost n root = MatchBool lost ((j : ℕ) × (j < n) × (root < slice_index (records_of sections) j)) (AreRecordedBy n (records_of sections) root)

  pub head_read : (head : Head)
      → head.extents ≡ extents_at (format_of sections) (pages_of sections) (length sections) (rows_of sections)
      → head.graph ≡ graph_at (versions_of sections) head.root.version
      → Lost head.root_lost (length sections) head.root.version
      → (bytes : List ℕ) × SpellsRoot bytes (identity_in (format_of sections)) head.root.version head.root.commands head.root.runs.items
      → (honest → SpellsRoot (view 1) (identity_in (format_of sections)) head.root.version head.root.commands head.root.runs.items)
      → IsHeadRead honest count view head
  head_read head extents graph lost some spelled = record {
    format = format_of sections;
    versions = versions_of sections;
    records = records_of sections;
    pages = pages_of sections;
    written = rows_of sections;
    sized = sized_by;
    geometry = subst (λ (n : ℕ). IsGeometry (format_of sections) (length (rows_of sections)) (pages_of sections) n) (sym as_many) geometry;
    extents = extents ∙ ap (λ (n : ℕ). extents_at (format_of sections) (pages_of sections) n (rows_of sections)) (sym as_many);
    graph = graph;
    some_root = some;
    lost = subst (λ (n : ℕ). Lost head.root_lost n head.root.version) (sym as_many) lost;
    sections = there;
    root = spelled;
  }

  -- no root is read
  pub no_root : honest → (r : Refusal) → IsNoAnswer r ⊎ IsWhyNoRoot (format_of sections) (view 1) r → IsNoAnswer r ⊎ IsWhyNoHead count view r
  no_root h r (inl none) = inl none
  no_root h r (inr (inl damaged)) = inr (inr (inr (inr (inr (inl (record {
    format = format_of sections;
    versions = versions_of sections;
    records = records_of sections;
    pages = pages_of sections;
    written = rows_of sections;
    extents = record { sections = there h; sized = sized_by };
    fault = damaged;
  }))))))
  no_root h r (inr (inr other)) = inr (inr (inr (inr (inr (inr (record {
    format = format_of sections;
    versions = versions_of sections;
    records = records_of sections;
    pages = pages_of sections;
    written = rows_of sections;
    extents = record { sections = there h; sized = sized_by };
    spelled = other;
  }))))))

-- what was read later was there before
module _ (old mid : DiskState) (before now : Type 0) (later : before → now) (same : before → seen mid ≡ seen old) (count after : ℕ) (size : after ≡ count) where
  pub still_head : (head : Head) → IsHeadRead now after (page (seen mid)) head → IsHeadRead before count (page (seen old)) head
  still_head head is = record {
    format = is.format;
    versions = is.versions;
    records = is.records;
    pages = is.pages;
    written = is.written;
    sized = sym size ∙ is.sized;
    geometry = is.geometry;
    extents = is.extents;
    graph = is.graph;
    some_root = is.some_root;
    lost = is.lost;
    sections = λ h. subst (λ (i : Image). AreSectionsRead (page i) is.format is.versions is.records is.pages is.written) (same h) (is.sections (later h));
    root = λ h. subst (λ (i : Image). SpellsRoot (page i 1) (identity_in is.format) head.root.version head.root.commands head.root.runs.items) (same h) (is.root (later h));
  }

  pub head_before : (result : Result Head Refusal) → IfOk result (IsHeadRead now after (page (seen mid))) → IfOk result (IsHeadRead before count (page (seen old)))
  head_before (Ok head) is = still_head head is
  head_before (Err r) is = tt

  pub why_before : (result : Result Head Refusal) → (now → IfErr result (λ r. IsNoAnswer r ⊎ IsWhyNoHead after (page (seen mid)) r)) → before → IfErr result (λ r. IsNoAnswer r ⊎ IsWhyNoHead count (page (seen old)) r)
  why_before result why h =
      subst (λ (n : ℕ). IfErr result (λ r. IsNoAnswer r ⊎ IsWhyNoHead n (page (seen old)) r)) size
      (subst (λ (i : Image). IfErr result (λ r. IsNoAnswer r ⊎ IsWhyNoHead after (page i) r)) (same h) (why (later h)))

-- ---- what it is to those that read on

module _ (honest : Type 0) (count : ℕ) (view : ℕ → List ℕ) (head : Head) (is : IsHeadRead honest count view head) where
  -- root and extents have their pages
  pub room_for : 2 + (shape head.extents).extents * (shape head.extents).pages ≤ count
  room_for =
      let some : 1 ≤ length is.versions = is.geometry.fewest_sections in
      let on = pages_on_device is.format (length is.written) is.pages (length is.versions) is.geometry in
      let there : 2 + length is.written * is.pages ≤ count = omega (arith, some, on, is.sized) in
      subst (λ (y : ExtentsState). 2 + (shape y).extents * (shape y).pages ≤ count) (sym is.extents) there

  -- nothing waits
  pub none_waits : (p : ℕ) → NoneOn head.graph p
  none_waits p = subst (λ (g : GraphState). NoneOn g p) (sym is.graph) (λ n w waits kept. let clash : None ≡ Some w = kept in absurd (cc clash))

  pub few_runs : length head.root.runs.items ≤ 24
  few_runs = omega (arith, is.some_root.1.fits.count, most_runs (root_number (identity_in is.format)))

  pub places_fit : AllByRecursion (FitsLocator (marks_in head.extents.format)) head.root.runs.items
  places_fit = subst (λ (f : Format). AllByRecursion (FitsLocator (marks_in f)) head.root.runs.items) (sym (ap (λ (y : ExtentsState). y.format) is.extents))
      (runs_of_format is.format head.root.version head.root.commands head.root.runs.items is.some_root.1.fits).1

-- ---- why none is read

-- page 1 has a fault, or the root of another store
pub damaged_root : (format : Format) (bytes : List ℕ) (r : Refusal) → IsNoAnswer r ⊎ IsOfFault (root_fault (number_in format) bytes) r
    → IsNoAnswer r ⊎ IsWhyNoRoot format bytes r
damaged_root format bytes r why = ⊎_elim (λ n. inl n) (λ f. inr (inl f)) why

pub other_root : (format : Format) (bytes : List ℕ) (root : Root) → root_number (identity_of root) ≡ number_in format → identity_of root ≢ identity_in format
    → SpellsRoot bytes (identity_of root) root.version root.commands root.runs.items → IsNoAnswer NotAStore ⊎ IsWhyNoRoot format bytes NotAStore
other_root format bytes root same other spelled = inr (inr (record {
  store = identity_of root;
  version = root.version;
  commands = root.commands;
  places = root.runs.items;
  number = same;
  root = spelled;
  other = other;
  refusal = refl;
}))

pub first_damaged : (count : ℕ) (view : ℕ → List ℕ) (r : Refusal) → 10 ≤ count → IsNoAnswer r ⊎ IsWhyNoFirst (view 0) r
    → IsNoAnswer r ⊎ IsWhyNoHead count view r
first_damaged count view r enough (inl none) = inl none
first_damaged count view r enough (inr (inl fault)) = inr (inl (record { enough = enough; fault = fault }))
first_damaged count view r enough (inr (inr other)) = inr (inr (inl (record { enough = enough; spelled = other })))

-- another device
pub other_device : (count : ℕ) (view : ℕ → List ℕ) (it : Superblock) → 10 ≤ count → it.section ≡ 0
    → SpellsFirst (view 0) it → (count ≡ device_pages it.format it.extent_count it.pages it.sections → ⊥)
    → IsNoAnswer NotAStore ⊎ IsWhyNoHead count view NotAStore
other_device count view it enough first spelled other = inr (inr (inr (inl (record {
  enough = enough;
  format = it.format;
  version = it.version;
  recorded = it.recorded;
  extents = it.extent_count;
  pages = it.pages;
  sections = it.sections;
  rows = it.extents.items;
  superblock = subst (λ (n : ℕ). SpellsPageZero (view 0) it.format it.version it.recorded it.extent_count it.pages it.sections n it.extents.items) first spelled;
  other = other;
  refusal = refl;
}))))

-- a further section isn't read
pub section_damaged : (count : ℕ) (view : ℕ → List ℕ) (it : Superblock) (r : Refusal) → it.section ≡ 0
    → SpellsFirst (view 0) it → count ≡ device_pages it.format it.extent_count it.pages it.sections
    → IsNoAnswer r ⊎ IsWhyNoSections view it.format it.extent_count it.pages it.sections r → IsNoAnswer r ⊎ IsWhyNoHead count view r
section_damaged count view it r first spelled sized why = ⊎_elim (λ n. inl n)
    (λ (w : IsWhyNoSections view it.format it.extent_count it.pages it.sections r). inr (inr (inr (inr (inl (record {
      format = it.format;
      extents = it.extent_count;
      pages = it.pages;
      sections = it.sections;
      first = record {
        version = it.version;
        recorded = it.recorded;
        rows = it.extents.items;
        superblock = subst (λ (n : ℕ). SpellsPageZero (view 0) it.format it.version it.recorded it.extent_count it.pages it.sections n it.extents.items) first spelled;
        sized = sized;
      };
      why = w;
    }))))))
    why
