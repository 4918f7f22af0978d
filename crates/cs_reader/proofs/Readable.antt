-- What an image recovers can be read.
use Rattle.std.proofs.Common.{◌≡◌, inl, inr, ℕ, zero, suc, ◌+◌, ◌/◌, ◌<◌, ◌≤◌, List, [], ◌∷◌, ◌++◌, length, map, take, drop, Option, Some, None, Bool, true, le_of_eq, le_trans, refl, sym, ap, ◌∙◌, subst, arith}
use Rattle.std.specs.Prelude.{reverse, slice_index, slice_index_or}
use Rattle.std.specs.List.{AllByRecursion}
use Rattle.std.proofs.lemmas.Grind.{reverse_onto}
use Rattle.std.proofs.lemmas.List.{length-drop, length-map, length-reverse, length-take}
use Rattle.cs_chunk.specs.Chunks.{end_in}
use Rattle.cs_extent.proofs.Sections.{all_in_part, part_inside}
use Rattle.cs_extent.specs.State.{State as ExtentsState, extents_at, section_rows, shape}
use Rattle.cs_frame.proofs.Fields.{IsBytes-field}
use Rattle.cs_frame.proofs.FrameLaws.{payload_is_read, stands}
use Rattle.cs_frame.proofs.Pieces.{AllByRecursion-map, length-first_chunks}
use Rattle.cs_frame.proofs.GeometryLaws.{bounds}
use Rattle.cs_frame.proofs.RootLaws as roots
use Rattle.cs_frame.proofs.SuperblockLaws.{recorded_below_root, recorded_fits_in}
use Rattle.cs_frame.specs.declared.identifiers.ShardId.{ShardId}
use Rattle.cs_frame.specs.declared.locators.Locator.{Locator}
use Rattle.cs_frame.specs.Bytes.{IsBytes, IsPage}
use Rattle.cs_frame.specs.FirstFormat.{SpellsPageZero}
use Rattle.cs_frame.specs.Formats.{as_entry, as_locator, extents_of as listed_extents, formats_of, place_of}
use Rattle.cs_frame.specs.Frames.{bytes_in, first_page, frame_bytes, frame_count, page_count, payload_length, spelled_frame}
use Rattle.cs_frame.specs.Geometries.{IsGeometry, device_pages, section_length, section_size, section_start}
use Rattle.cs_frame.specs.FormatRuns.{spelled_run}
use Rattle.cs_frame.specs.Locators.{FitsLocator, most_mark}
use Rattle.cs_frame.specs.Pointers.{FitsExtent as FitsPair}
use Rattle.cs_frame.specs.FormatNumbers.{greatest_runs, is_marked, number_in}
use Rattle.cs_frame.specs.Roots.{SpellsRoot, identity_in, root_number}
use Rattle.cs_frame.specs.Superblocks.{FitsSuperblock, SpellsSuperblock, record_in}
use Rattle.cs_frame.specs.Places.{Listed}
use Rattle.cs_index.proofs.Newest.{all_oldest}
use Rattle.cs_index.proofs.Sorted.{all_append, all_take}
use Rattle.cs_index.specs.declared.stored_runs.StoredRun.{StoredRun}
use Rattle.cs_index.specs.State.{named_entry, newest_first, run_of}
use Rattle.law_machine.proofs.Counting.{ascending_lookup}
use Rattle.law_machine.specs.Device.{Page, Shape}
use Rattle.law_machine.specs.Element.{Entry, Locator as Place, Map, Run}
use Rattle.law_machine.specs.Format.{Format, Four, Two}
use Rattle.law_machine.specs.Formats.{Stand, limit_in, places}
use Rattle.law_machine.specs.Geometry.{greatest_mark_in, marks_in, most_runs_in, shape_of, weigh_in}
use Rattle.law_machine.specs.Index.{AllPass, Passes, entries_of, live, live_at, lookup, named_weight}
use Rattle.law_machine.specs.Lists.{◌∈◌}
use Rattle.law_machine.specs.Recovery.{Recovers}
use Rattle.cs_reader.specs.ImageReads.{AreLocated, ArePages, AreSectionsRead, HasRunAt, IsLocated, IsReadable, IsRunRead, IsStoreRead, IsVisibleStoreRead, SpellsAt}
use Rattle.cs_reader.proofs.Entries.{ids_in_run, named_fit, tests_of}
use Rattle.cs_reader.proofs.Listed.{bytes_joined, to_all}
use Rattle.cs_reader.proofs.Reaches.{end_is_limit}
use Rattle.cs_reader.proofs.Runs.{StandsAt, all_stand, same_listed, same_runs}
use Rattle.cs_reader.proofs.Superblocks.{at_one, from_formats, read_below, read_format, read_found, read_whole, rows_agree, section_listed, section_one, zero_one}

-- ---- pointer and generation of each extent

module _ (p g : ℕ → ℕ) where
  abbrev pub rows_from : (first count : ℕ) → List (ℕ × ℕ)
  rows_from first zero = []
  rows_from first (suc count) = (p first, g first) ∷ rows_from (suc first) count

  length-rows : (first count : ℕ) → length (rows_from first count) ≡ count
  length-rows first zero = refl
  length-rows first (suc count) = ap suc (length-rows (suc first) count)

  row_in : (first count k : ℕ) → k < count → slice_index_or (rows_from first count) k (0, 0) ≡ (p (first + k), g (first + k))
  row_in first zero k lt = absurd (omega (arith, lt))
  row_in first (suc count) zero lt = ap (λ (n : ℕ). (p n, g n)) (let same : first ≡ first + 0 = omega arith in same)
  row_in first (suc count) (suc k) lt = row_in (suc first) count k (omega (arith, lt))
      ∙ ap (λ (n : ℕ). (p n, g n)) (let same : suc first + k ≡ first + suc k = omega arith in same)

  all_rows : (P : ℕ × ℕ → Type 0) → ((e : ℕ) → P (p e, g e)) → (first count : ℕ) → AllByRecursion P (rows_from first count)
  all_rows P each first zero = tt
  all_rows P each first (suc count) = (each first, all_rows P each (suc first) count)

-- ---- lists

all_reverse : {X : Type 0} (P : X → Type 0) (xs : List X) → AllByRecursion P xs → AllByRecursion P (reverse xs)
all_reverse P [] all = tt
all_reverse P (x ∷ xs) all = subst (AllByRecursion P) (sym (reverse_onto xs x [])) (all_append P (reverse xs) (x ∷ []) (all_reverse P xs all.1) (all.0, tt))

all_places : (P : Place → Type 0) (runs : List Run) → ((run : Run) → run ∈ runs → P run.place) → AllByRecursion P (places runs)
all_places P [] each = tt
all_places P (run ∷ runs) each = (each run (inl refl), all_places P runs (λ r has. each r (inr has)))

length-places : (runs : List Run) → length (places runs) ≡ length runs
length-places [] = refl
length-places (run ∷ runs) = ap suc (length-places runs)

-- ---- superblock and root

module _ (format : Format) (extents pages sections : ℕ) (is : IsGeometry format extents pages sections) (view : ℕ → List ℕ) (n : ℕ) (m : Map)
    (r : Recovers (shape_of extents pages sections (section_size extents sections) format) (formats_of (shape_of extents pages sections (section_size extents sections) format)) view n m) where
  abbrev S : Shape
  S = shape_of extents pages sections (section_size extents sections) format

  abbrev pub rows : List (ℕ × ℕ)
  rows = rows_from r.pointers r.generations 0 extents

  -- the rows of a section
  abbrev pub part : ℕ → List (ℕ × ℕ)
  part j = take (section_length extents sections j) (drop (section_start extents sections j) rows)

  pub fits_located : (l : Place) → Passes S (formats_of S) view r.pointers r.generations l → FitsLocator (marks_in format) (as_locator l)
  fits_located l passes = record {
    extent = (let few : extents ≤ 7680 = (bounds format extents pages sections is).most_extents in let lt : l.extent < extents = passes.inside.0 in omega (arith, lt));
    page = (let few : pages ≤ 65535 = (bounds format extents pages sections is).most_pages in let lt : l.page < pages = passes.inside.1 in omega (arith, lt));
    generation = (let low : r.generations l.extent ≤ 4294967295 = (r.extents_fit l.extent).1 in let same : r.generations l.extent ≡ l.generation = passes.generation in omega (arith, low, same));
    mark = by format passes.mark;
  }
    where
      by : (f : Format) → l.mark ≤ greatest_mark_in f → l.mark ≤ most_mark (marks_in f)
      by Two low = low
      by (Four store device) low = low

  rows_length : length rows ≡ extents
  rows_length = length-rows r.pointers r.generations 0 extents

  pub rows_at : (e : ℕ) → e < extents → slice_index_or rows e (0, 0) ≡ (r.pointers e, r.generations e)
  rows_at e lt = row_in r.pointers r.generations 0 extents e lt
      ∙ ap (λ (k : ℕ). (r.pointers k, r.generations k)) (let same : 0 + e ≡ e = omega arith in same)

  rows_listed : (j : ℕ) → listed_extents S.section r.pointers r.generations j 0 extents ≡ part j
  rows_listed j = section_listed format extents pages sections is rows rows_length r.pointers r.generations (λ k lt. sym (rows_at k lt)) j

  part_fits : (j : ℕ) → j < sections → FitsSuperblock format (r.versions j) (record_in format (r.recorded j)) extents pages sections j (part j)
  part_fits j lt = record {
    first_version = (r.versions_fit j lt).0;
    last_version = (let high : r.versions j ≤ 9223372036854775807 = (r.versions_fit j lt).1 in omega (arith, high));
    recorded_fits = recorded_fits_in format (r.recorded j) (let low = r.recorded_fit j lt in let high = r.bounds.version_fits in omega (arith, low, high));
    geometry = is;
    one_of_them = lt;
    count = omega (
      arith,
      length-take (section_length extents sections j) (drop (section_start extents sections j) rows),
      length-drop (section_start extents sections j) rows,
      rows_length,
      part_inside extents sections j,
    );
    each = all_in_part (FitsPair pages) (section_start extents sections j) (section_length extents sections j) rows
        (all_rows r.pointers r.generations (FitsPair pages)
        (λ e. record { pointer = (r.extents_fit e).0; generation = (let low : r.generations e ≤ 4294967295 = (r.extents_fit e).1 in omega (arith, low)) }) 0 extents);
  }

  -- the page of each section spells it
  pub section_spelled : (j : ℕ) → j < sections → SpellsAt j (view (S.section_page j)) format (r.versions j) (record_in format (r.recorded j)) extents pages sections (part j)
  section_spelled j lt = subst (λ (rs : List (ℕ × ℕ)). SpellsAt j (view (S.section_page j)) format (r.versions j) (record_in format (r.recorded j)) extents pages sections rs) (rows_listed j)
      (from_formats S r.pointers r.generations (r.formats j) j (r.versions j) (r.recorded j) (view (S.section_page j)) (r.superblock j lt)
      (subst (λ (rs : List (ℕ × ℕ)). FitsSuperblock format (r.versions j) (record_in format (r.recorded j)) extents pages sections j rs) (sym (rows_listed j)) (part_fits j lt)))

  -- another reading of page 0 has the same numbers
  pub zero_same : (f : Format) (version recorded e p s j : ℕ) (written : List (ℕ × ℕ)) → SpellsPageZero (view 0) f version recorded e p s j written
      → (f ≡ format) × (e ≡ extents) × (p ≡ pages) × (s ≡ sections) × (j ≡ 0)
  zero_same f version recorded e p s j written spelled =
      let one = zero_one (view 0) f version recorded e p s j written format (r.versions 0) (record_in format (r.recorded 0)) extents pages sections 0 (part 0) spelled (section_spelled 0 is.fewest_sections) in
      (one.0, one.1, one.2, one.3, one.4)

  -- and another reading of a further section's page
  pub section_same : (k : ℕ) (f : Format) (version recorded e p s j : ℕ) (written : List (ℕ × ℕ)) → 0 < k → k < sections → SpellsSuperblock (view (S.section_page k)) f version recorded e p s j written
      → (f ≡ format) × (e ≡ extents) × (p ≡ pages) × (s ≡ sections) × (j ≡ k)
  section_same zero f version recorded e p s j written some lt spelled = absurd (omega (arith, some))
  section_same (suc k) f version recorded e p s j written some lt spelled =
      let one = section_one (view (S.section_page (suc k))) f version recorded e p s j written format (r.versions (suc k)) (record_in format (r.recorded (suc k))) extents pages sections (suc k) (part (suc k)) spelled (section_spelled (suc k) lt) in
      (one.0, one.1, one.2, one.3, one.4)

  -- a root of the format has as many runs as may be, and marks where the format has them
  most_here : greatest_runs (root_number (identity_in format)) ≡ most_runs_in format
  most_here = ap greatest_runs (roots.number_of_identity format) ∙ roots.most_by_number format

  marks_here : is_marked (root_number (identity_in format)) ≡ marks_in format
  marks_here = ap is_marked (roots.number_of_identity format) ∙ roots.marked_by_number format

  pub root_spelled : SpellsRoot (view 1) (identity_in format) r.version n (map as_locator (reverse (places r.runs)))
  root_spelled = record {
    fits = record {
      identity = roots.identity_of_format format is.fits_format;
      first_version = r.bounds.some_version;
      last_version = (let high = r.bounds.version_fits in omega (arith, high));
      last_command = (let high = r.bounds.commands_fit in omega (arith, high));
      count = (let few = r.bounds.few_runs in omega (arith, few, most_here, length-map (reverse (places r.runs)) as_locator, length-reverse (places r.runs), length-places r.runs));
      each = subst (λ (b : Bool). AllByRecursion (FitsLocator b) (map as_locator (reverse (places r.runs)))) (sym marks_here)
          (AllByRecursion-map (FitsLocator (marks_in format)) as_locator (reverse (places r.runs)) (all_reverse (λ (l : Place). FitsLocator (marks_in format) (as_locator l)) (places r.runs)
          (all_places (λ (l : Place). FitsLocator (marks_in format) (as_locator l)) r.runs (λ run has. fits_located run.place (r.gives.runs_read run has).passes))));
    };
    spelled = r.root;
  }

-- ---- runs

module _ (view : ℕ → List ℕ) (format : Format) (versions records : List ℕ) (pages : ℕ) (written : List (ℕ × ℕ)) (superblock : AreSectionsRead view format versions records pages written)
    (n : ℕ) (m : Map) (r : Recovers (shape (extents_at format pages (length versions) written)) (formats_of (shape (extents_at format pages (length versions) written))) view n m) where
  -- a section's page spells one section
  sections_one : (j : ℕ) → j < length versions
      → (section_rows (extents_at format pages (length versions) written) j ≡ part format (length written) pages (length versions) superblock.geometry view n m r j)
      × (slice_index records j ≡ record_in format (r.recorded j))
  sections_one j lt = at_one j (view ((shape (extents_at format pages (length versions) written)).section_page j)) format (slice_index versions j) (slice_index records j) (length written) pages (length versions)
      (section_rows (extents_at format pages (length versions) written) j)
      format (r.versions j) (record_in format (r.recorded j)) (length written) pages (length versions) (part format (length written) pages (length versions) superblock.geometry view n m r j)
      (superblock.each j lt) (section_spelled format (length written) pages (length versions) superblock.geometry view n m r j lt)

  -- so none of them records a later root than the one of the root's page
  pub records_low : (root commands : ℕ) (listed : List Locator) → SpellsRoot (view 1) (identity_in format) root commands listed
      → (j : ℕ) → j < length versions → slice_index records j ≤ root
  records_low root commands listed root_page j lt =
      let one = (sections_one j lt).1 in
      let fits = r.recorded_fit j lt in
      let low : record_in format (r.recorded j) ≤ r.recorded j = recorded_below_root format (r.recorded j) in
      let same : r.version ≡ root = sym (roots.one_root (view 1) (identity_in format) r.version n (map as_locator (reverse (places r.runs))) (root_spelled format (length written) pages (length versions) superblock.geometry view n m r)).of_version
      ∙ (roots.one_root (view 1) (identity_in format) root commands listed root_page).of_version in
      omega (arith, one, low, fits, same)

module _ (view : ℕ → List ℕ) (format : Format) (versions records : List ℕ) (pages : ℕ) (written : List (ℕ × ℕ)) (superblock : AreSectionsRead view format versions records pages written)
    (are : ArePages (device_pages format (length written) pages (length versions)) view) (n : ℕ) (m : Map)
    (r : Recovers (shape (extents_at format pages (length versions) written)) (formats_of (shape (extents_at format pages (length versions) written))) view n m) where
  abbrev x : ExtentsState
  x = extents_at format pages (length versions) written

  abbrev Located : Place → Type 0
  Located = Passes (shape (extents_at format pages (length versions) written)) (formats_of (shape (extents_at format pages (length versions) written))) view r.pointers r.generations

  sizes : IsGeometry format (length written) pages (length versions)
  sizes = superblock.geometry

  rows_are : (j : ℕ) → j < length versions → section_rows x j ≡ part format (length written) pages (length versions) sizes view n m r j
  rows_are j lt = (sections_one view format versions records pages written superblock n m r j lt).0

  at : (e : ℕ) → e < length written → slice_index_or written e (0, 0) ≡ (r.pointers e, r.generations e)
  at e lt = rows_agree format (length written) pages (length versions) sizes written (rows format (length written) pages (length versions) sizes view n m r) rows_are e lt
      ∙ rows_at format (length written) pages (length versions) sizes view n m r e lt

  pub located : (l : Place) → Located l → IsLocated x (as_locator l)
  located l passes = record {
    extent = passes.inside.0;
    generation = ap (λ (row : ℕ × ℕ). row.1) (at l.extent passes.inside.0) ∙ passes.generation;
    page = subst (λ (k : ℕ). l.page < k) (sym (ap (λ (row : ℕ × ℕ). row.0) (at l.extent passes.inside.0))) passes.below;
  }

  -- how far a frame may reach
  end_there : (l : Place) → Located l → end_in x (as_locator l) ≡ limit_in (shape x) (formats_of (shape x)) r.pointers r.generations l
  end_there l passes = end_is_limit x view r.pointers r.generations l
      (λ on. read_found view format versions records pages written superblock on l.extent ∙ ap (λ (row : ℕ × ℕ). row.0) (at l.extent passes.inside.0)) passes

  pages_stand : (e i : ℕ) (bs : List Page) → e < length written → i + length bs ≤ pages
      → Stand (shape x) (formats_of (shape x)) view e i bs → AllByRecursion IsPage bs
  pages_stand e i [] there fits stand = tt
  pages_stand e i (b ∷ bs) there fits stand = (
    subst IsPage stand.0 (are ((shape x).address e i) ((read_below view format versions records pages written superblock).frames e i (there, omega (arith, fits)))),
    pages_stand e (suc i) bs there (omega (arith, fits)) stand.1,
  )

  payload_bytes : (e i : ℕ) (payload : List ℕ) → e < length written → i + length (spelled_frame (number_in format) 1 payload) ≤ pages
      → Stand (shape x) (formats_of (shape x)) view e i (spelled_frame (number_in format) 1 payload) → IsBytes payload
  payload_bytes e i payload there fits stand =
      let size : length (spelled_frame (number_in format) 1 payload) ≡ page_count (length payload) = length-first_chunks 4096 (page_count (length payload)) (frame_bytes (number_in format) 1 payload) in
      let most : pages ≤ 65535 = (bounds format (length written) pages (length versions) sizes).most_pages in
      let few : (41 + length payload + 4095) / 4096 ≤ 65535 = omega (arith, size, fits, most) in
      let all : AllByRecursion IsPage (spelled_frame (number_in format) 1 payload ++ []) = all_append IsPage (spelled_frame (number_in format) 1 payload) [] (pages_stand e i (spelled_frame (number_in format) 1 payload) there fits stand) tt in
      let whole : IsBytes (bytes_in (spelled_frame (number_in format) 1 payload ++ [])) = bytes_joined (take (frame_count (spelled_frame (number_in format) 1 payload ++ [])) (spelled_frame (number_in format) 1 payload ++ []))
      (all_take IsPage (frame_count (spelled_frame (number_in format) 1 payload ++ [])) (spelled_frame (number_in format) 1 payload ++ []) all) in
      subst IsBytes (payload_is_read (number_in format) 1 (spelled_frame (number_in format) 1 payload ++ []) payload (stands (number_in format) 1 payload [] (omega (arith, few))))
      (IsBytes-field (bytes_in (spelled_frame (number_in format) 1 payload ++ [])) 41 (41 + payload_length (first_page (spelled_frame (number_in format) 1 payload ++ []))) whole)

  entry_located : (shape x).hidden_stand ≡ true → (run : Run) → run ∈ r.runs → (e : Entry) → e ∈ run.entries → (l : Place) → l ∈ e.locators → Located l
  entry_located stand run has e there = subst (AllPass (shape x) (formats_of (shape x)) view r.pointers r.generations)
      (ascending_lookup run.entries e (tests_of (marks_in format) run.entries (r.runs_fit run has)).ascending there) (r.gives.runs_pass stand run has e.id)

  pub has_run : (run : Run) → run ∈ r.runs → HasRunAt x view (as_locator run.place) (map as_entry run.entries)
  has_run run has =
      let reads = r.gives.runs_read run has in
      record {
        located = located run.place reads.passes;
        payload = spelled_run format (map as_entry run.entries);
        frame = (le_trans reads.within (le_of_eq (sym (end_there run.place reads.passes))), reads.stand, reads.marked, reads.long);
        spelled = record {
          fits = named_fit (marks_in format) run.entries (tests_of (marks_in format) run.entries (r.runs_fit run has))
              (ids_in_run format run.entries
              (payload_bytes run.place.extent run.place.page (spelled_run format (map as_entry run.entries)) reads.passes.inside.0 reads.inside reads.stand));
          spelled = refl;
        };
      }

  module _ (root commands : ℕ) (listed : List Locator) (root_page : SpellsRoot (view 1) (identity_in format) root commands listed) where
    pub same_commands : commands ≡ n
    same_commands = sym (roots.one_root (view 1) (identity_in format) root commands listed root_page).of_commands
        ∙ (roots.one_root (view 1) (identity_in format) r.version n (map as_locator (reverse (places r.runs))) (root_spelled format (length written) pages (length versions) sizes view n m r)).of_commands

    pub same_places : map as_locator (reverse (places r.runs)) ≡ listed
    same_places = sym (roots.one_root (view 1) (identity_in format) r.version n (map as_locator (reverse (places r.runs))) (root_spelled format (length written) pages (length versions) sizes view n m r)).of_runs
        ∙ (roots.one_root (view 1) (identity_in format) root commands listed root_page).of_runs

    pub all_readable : AllByRecursion (λ place. IsReadable x view place) listed
    all_readable = subst (AllByRecursion (λ place. IsReadable x view place)) same_places
        (AllByRecursion-map (λ place. IsReadable x view place) as_locator (reverse (places r.runs)) (all_reverse (λ (l : Place). IsReadable x view (as_locator l)) (places r.runs)
        (all_places (λ (l : Place). IsReadable x view (as_locator l)) r.runs (λ run has. (map as_entry run.entries, has_run run has)))))

  module _ (root commands : ℕ) (runs : List StoredRun) (root_page : SpellsRoot (view 1) (identity_in format) root commands (map (λ run. run.place) runs))
      (read : AllByRecursion (IsRunRead (extents_at format pages (length versions) written) view) runs) where
    -- the runs that were read are those that are recovered
    runs_are : newest_first runs ≡ r.runs
    runs_are = same_runs (shape x) view (read_format view format versions records pages written superblock) (newest_first runs) r.runs
        (same_listed r.runs runs (same_places root commands (map (λ run. run.place) runs) root_page))
        (all_stand x sizes.fits_format (read_whole view format versions records pages written superblock).found_pages view runs read)
        (to_all (StandsAt (shape x) view) r.runs (λ run has. record { fits = r.runs_fit run has; inside = (r.gives.runs_read run has).inside; stand = (r.gives.runs_read run has).stand }))

    -- what an entry has passes where the entry does
    each_passes : (o : Option (List Place)) → AllPass (shape x) (formats_of (shape x)) view r.pointers r.generations o → (l : Place) → l ∈ live o → Located l
    each_passes None pass l none = absurd none
    each_passes (Some ls) pass l has = pass l has

    pub visible_store_read : IsVisibleStoreRead view format versions records pages written root commands runs
    visible_store_read = record {
      sections = superblock;
      recorded_fit = records_low view format versions records pages written superblock n m r root commands (map (λ run. run.place) runs) root_page;
      root_page = root_page;
      runs_read = read;
      located = λ id l has. located l (each_passes (lookup id (entries_of r.runs)) (r.gives.visible_pass id) l
          (subst (λ (rs : List Run). l ∈ live_at (entries_of rs) id) runs_are has));
      weight_fits = subst (λ (rs : List Run). named_weight (weigh_in format) (entries_of rs) ≤ (shape x).most_weight) (sym runs_are) r.bounds.weight_fits;
    }

    abbrev EntryLocated : Entry → Type 0
    EntryLocated e = (l : Place) → l ∈ e.locators → Located l

    entries_located : (shape x).hidden_stand ≡ true → AllByRecursion (λ run. AllByRecursion EntryLocated run.entries) (newest_first runs)
    entries_located stand = subst (AllByRecursion (λ (run : Run). AllByRecursion EntryLocated run.entries)) (sym runs_are)
        (to_all (λ (run : Run). AllByRecursion EntryLocated run.entries) r.runs (λ run has. to_all EntryLocated run.entries (entry_located stand run has)))

    from_places : (ls : List Locator) → ((l : Place) → l ∈ map place_of ls → Located l) → AllByRecursion (IsLocated x) ls
    from_places [] each = tt
    from_places (l ∷ ls) each = (located (place_of l) (each (place_of l) (inl refl)), from_places ls (λ k has. each k (inr has)))

    from_entries : (xs : List (ShardId × Listed)) → AllByRecursion EntryLocated (map named_entry xs) → AllByRecursion (λ entry. AllByRecursion (IsLocated x) entry.1.items) xs
    from_entries [] all = tt
    from_entries (e ∷ xs) all = (from_places e.1.items all.0, from_entries xs all.1)

    -- where hidden entries stand
    pub store_read : (shape x).hidden_stand ≡ true → IsStoreRead view format versions records pages written root commands runs
    store_read stand = record {
      sections = superblock;
      recorded_fit = records_low view format versions records pages written superblock n m r root commands (map (λ run. run.place) runs) root_page;
      root_page = root_page;
      runs_read = read;
      located = go runs (all_oldest (λ (run : Run). AllByRecursion EntryLocated run.entries) runs (entries_located stand));
      weight_fits = subst (λ (rs : List Run). named_weight (weigh_in format) (entries_of rs) ≤ (shape x).most_weight) (sym runs_are) r.bounds.weight_fits;
    }
      where
        go : (xs : List StoredRun) → AllByRecursion (λ run. AllByRecursion EntryLocated (run_of run).entries) xs → AreLocated x xs
        go [] all = tt
        go (run ∷ xs) all = (from_entries run.entries.items all.0, go xs all.1)
