-- What is read of an image is what it recovers.
use Rattle.std.proofs.Common.{◌≡◌, ◌⊎◌, inl, inr, ⊎_elim, ℕ, zero, suc, ◌+◌, ◌-◌, ◌<◌, ◌≤◌, Bool, true, false, ◌==◌, List, [], ◌∷◌, length, map, Option, Some, None, if◌then◌else◌, le_of_eq, le_trans, refl, sym, ap, ◌∙◌, subst, arith}
use Rattle.std.specs.Prelude.{slice_index}
use Rattle.std.specs.List.{AllByRecursion}
use Rattle.std.proofs.lemmas.List.{length-map}
use Rattle.cs_reclaim.specs.cs_chunk.Chunks.{end_in}
use Rattle.cs_extent.specs.State.{State as ExtentsState, extents_at, extents_of, section_rows, shape}
use Rattle.cs_frame.specs.declared.locators.Locator.{Locator}
use Rattle.cs_frame.proofs.FormatLaws.{root_fits_from}
use Rattle.cs_frame.proofs.RootLaws.{runs_of_format}
use Rattle.cs_frame.specs.Formats.{as_locator, formats_of, place_of}
use Rattle.cs_frame.specs.Geometries.{device_pages}
use Rattle.cs_frame.specs.Locators.{FitsLocator, most_mark}
use Rattle.cs_frame.specs.Runs.{FitsEntry, entries_of as spelled_entries}
use Rattle.cs_frame.specs.Roots.{FitsRoot, identity_in, spelled_root}
use Rattle.cs_index.proofs.Newest.{all_newest, all_oldest}
use Rattle.cs_index.proofs.Whole.{length-newest}
use Rattle.cs_index.specs.declared.stored_runs.StoredRun.{StoredRun}
use Rattle.cs_index.specs.State.{IsStored, named_entry, newest_first, run_of}
use Rattle.law_machine.proofs.Filled.{damage_here, limit_here, limit_low, reach_off, reads_own}
use Rattle.law_machine.specs.Apart.{any_run_on}
use Rattle.law_machine.specs.Device.{Page, is_meant}
use Rattle.law_machine.specs.Element.{Bytes, Content, Damaged, Entry, Locator as Place, Map, Opening, Run}
use Rattle.law_machine.specs.Extents.{Extents}
use Rattle.law_machine.specs.Format.{Format, Four, Two}
use Rattle.law_machine.specs.Geometry.{greatest_mark_in, marks_in, most_runs_in}
use Rattle.law_machine.specs.Formats.{ChunkFrame, RunFrame, Stand, fault_for, is_long_frame, limit_in, opening_in, pages_from, places}
use Rattle.law_machine.specs.Index.{AllPass, Gives, Holds, InBounds, Passes, Reads, ReadsAs, Value, after, entries_of, live, lookup}
use Rattle.law_machine.specs.Lists.{◌∈◌}
use Rattle.law_machine.specs.Recovery.{Recovers}
use Rattle.law_machine.specs.Refusal.{Refusal}
use Rattle.law_refinement.specs.Images.{IsFoundAs, AreExtentsNoted}
use Rattle.cs_reader.specs.ImageReads.{AreLocated, ArePages, IsLocated, IsRunRead, IsStoreRead, IsVisibleStoreRead}
use Rattle.law_refinement.proofs.Chunks.{chunk_or_fault}
use Rattle.cs_reader.proofs.Listed.{found_in, in_all, in_entries, oldest_places}
use Rattle.cs_reader.proofs.Reaches.{end_is_limit}
use Rattle.cs_reader.proofs.Runs.{Stored, stands_long, stands_meant, stands_reach, stands_read, stored_read}
use Rattle.cs_reader.proofs.Superblocks.{extents_are, extents_fit, extents_with, read_as, read_below, read_fits, read_found, read_listed, read_whole, section_formats, zero_formats}
use Rattle.cs_reader.proofs.Located.{visible_of}

module _ (view : ℕ → List ℕ) (format : Format) (versions records : List ℕ) (pages : ℕ) (written : List (ℕ × ℕ)) (root commands : ℕ) (runs : List StoredRun)
    (read : IsVisibleStoreRead view format versions records pages written root commands runs)
    (hidden : (shape (extents_at format pages (length versions) written)).hidden_stand ≡ true → AreLocated (extents_at format pages (length versions) written) runs) where
  abbrev x : ExtentsState
  x = extents_at format pages (length versions) written

  abbrev p : ℕ → ℕ
  p = (extents_of (extents_at format pages (length versions) written)).pointer

  abbrev g : ℕ → ℕ
  g = (extents_of (extents_at format pages (length versions) written)).generation

  abbrev opening : Opening
  opening = opening_in (shape x) (formats_of (shape x)) view p g

  abbrev Located : Place → Type 0
  Located = Passes (shape x) (formats_of (shape x)) view p g

  fit : (e : ℕ) → (p e ≤ pages) × (g e ≤ 4294967295)
  fit = extents_fit view format versions records pages written read.sections

  -- the mark of a locator that can be spelled is one that can be
  abbrev Marked : Place → Type 0
  Marked l = l.mark ≤ greatest_mark_in format

  fits_mark : (l : Locator) → FitsLocator (marks_in format) l → Marked (place_of l)
  fits_mark l fits = by format fits.mark
    where
      by : (f : Format) → l.mark ≤ most_mark (marks_in f) → l.mark ≤ greatest_mark_in f
      by Two low = low
      by (Four store device) low = low

  passes : (l : Locator) → IsLocated x l → Marked (place_of l) → Located (place_of l)
  passes l is can = record {
    generation = is.generation;
    below = is.page;
    inside = (is.extent, (let low : p l.extent ≤ pages = (fit l.extent).0 in let lt : l.page < p l.extent = is.page in omega arith));
    mark = can;
  }

  -- how far a frame may reach
  end_there : (l : Place) → Located l → end_in x (as_locator l) ≡ limit_in (shape x) (formats_of (shape x)) p g l
  end_there l is = end_is_limit x view p g l (λ on. read_found view format versions records pages written read.sections on l.extent) is

  -- a frame that reaches no further is read
  reads_so : (l : Place) (bs : List Page) → Located l → l.page + length bs ≤ limit_in (shape x) (formats_of (shape x)) p g l
      → Stand (shape x) (formats_of (shape x)) view l.extent l.page bs → is_meant (shape x) l.mark bs ≡ true
      → is_long_frame (formats_of (shape x)) bs ≡ true → Reads (shape x) (formats_of (shape x)) opening view p g l bs
  reads_so l bs is end stand meant long = reads_own (shape x) (formats_of (shape x)) view p g l bs is
      (λ on. le_trans end (le_of_eq (limit_here (shape x) (formats_of (shape x)) view p g l is on)))
      (le_trans end (limit_low (shape x) (formats_of (shape x)) p g (λ e. (fit e).0) l)) stand meant long

  -- ---- runs

  abbrev EntryShort : Entry → Type 0
  EntryShort e = length e.locators ≤ 8

  record RunIn (run : Run) : Type 0 where
    reads : Reads (shape x) (formats_of (shape x)) opening view p g run.place ((formats_of (shape x)).frame RunFrame ((formats_of (shape x)).run run.entries))
    fits : (formats_of (shape x)).fits_run run.entries ≡ true
    short : AllByRecursion EntryShort run.entries

  run_in : (run : StoredRun) → IsRunRead x view run → IsStored (run_of run) → FitsLocator (marks_in format) run.place → RunIn (run_of run)
  run_in run is stored placed =
      let there : Located (place_of run.place) = passes run.place is.located (fits_mark run.place placed) in
      let stands = stands_read x read.sections.geometry.fits_format (read_whole view format versions records pages written read.sections).found_pages view run is stored in
      record {
        reads = reads_so (place_of run.place) _ there (le_trans (stands_reach x read.sections.geometry.fits_format view run is) (le_of_eq (end_there (place_of run.place) there))) stands.stand (stands_meant x read.sections.geometry.fits_format view run is) (stands_long x read.sections.geometry.fits_format view run is);
        fits = stands.fits;
        short = stored.2;
      }

  runs_in : AllByRecursion RunIn (newest_first runs)
  runs_in = all_newest RunIn runs (go runs read.runs_read (all_oldest IsStored runs (stored_read x view runs read.runs_read))
      (runs_of_format format root commands (map (λ run. run.place) runs) read.root_page.fits).1)
    where
      go : (xs : List StoredRun) → AllByRecursion (IsRunRead x view) xs → AllByRecursion (λ run. IsStored (run_of run)) xs → AllByRecursion (FitsLocator (marks_in format)) (map (λ run. run.place) xs)
          → AllByRecursion (λ run. RunIn (run_of run)) xs
      go [] a b c = tt
      go (run ∷ xs) a b c = (run_in run a.0 b.0 c.0, go xs a.1 b.1 c.1)

  all_short : AllByRecursion EntryShort (entries_of (newest_first runs))
  all_short = in_entries EntryShort (newest_first runs) (go (newest_first runs) runs_in)
    where
      go : (rs : List Run) → AllByRecursion RunIn rs → AllByRecursion (λ run. AllByRecursion EntryShort run.entries) rs
      go [] all = tt
      go (run ∷ rs) all = (all.0.short, go rs all.1)

  few_chunks : (id : ℕ) → length (live (lookup id (entries_of (newest_first runs)))) ≤ 8
  few_chunks = found_in EntryShort (λ (o : Option (List Place)). length (live o) ≤ 8) (omega arith) (λ e is. is) (entries_of (newest_first runs)) all_short

  -- ---- the marks of what was read can be

  abbrev EntryMarked : Entry → Type 0
  EntryMarked e = (l : Place) → l ∈ e.locators → Marked l

  marked_places : (ls : List Locator) → AllByRecursion (FitsLocator (marks_in format)) ls → (l : Place) → l ∈ map place_of ls → Marked l
  marked_places [] all l none = absurd none
  marked_places (k ∷ ls) all l (inl is) = subst Marked (sym is) (fits_mark k all.0)
  marked_places (k ∷ ls) all l (inr has) = marked_places ls all.1 l has

  marked_entries : (xs : Stored) → AllByRecursion (FitsEntry (marks_in format)) (spelled_entries xs) → AllByRecursion EntryMarked (map named_entry xs)
  marked_entries [] all = tt
  marked_entries (e ∷ xs) all = (marked_places e.1.items all.0.each, marked_entries xs all.1)

  marked_runs : (xs : List StoredRun) → AllByRecursion (IsRunRead x view) xs → AllByRecursion (λ run. AllByRecursion EntryMarked (run_of run).entries) xs
  marked_runs [] all = tt
  marked_runs (run ∷ xs) all = (marked_entries run.entries.items all.0.spelled.fits.each, marked_runs xs all.1)

  live_marked : (id : ℕ) (l : Place) → l ∈ live (lookup id (entries_of (newest_first runs))) → Marked l
  live_marked id = found_in EntryMarked (λ (o : Option (List Place)). (l : Place) → l ∈ live o → Marked l) (λ l none. absurd none) (λ e is. is) (entries_of (newest_first runs))
      (in_entries EntryMarked (newest_first runs) (all_newest (λ run. AllByRecursion EntryMarked run.entries) runs (marked_runs runs read.runs_read))) id

  -- ---- what is located

  live_pass : (id : ℕ) (l : Place) → l ∈ live (lookup id (entries_of (newest_first runs))) → Located l
  live_pass id l has = passes (as_locator l) (read.located id l has) (live_marked id l has)

  visible : (id : ℕ) → AllPass (shape x) (formats_of (shape x)) view p g (lookup id (entries_of (newest_first runs)))
  visible id = go (lookup id (entries_of (newest_first runs))) (live_pass id)
    where
      go : (o : Option (List Place)) → ((l : Place) → l ∈ live o → Located l) → AllPass (shape x) (formats_of (shape x)) view p g o
      go None pass = tt
      go (Some ls) pass = pass

  -- where each entry is to name what is there
  abbrev EntryLocated : Entry → Type 0
  EntryLocated e = (l : Place) → l ∈ e.locators → Located l

  located_in : (ls : List Locator) → AllByRecursion (IsLocated x) ls → ((l : Place) → l ∈ map place_of ls → Marked l) → (l : Place) → l ∈ map place_of ls → Located l
  located_in [] all can l none = absurd none
  located_in (k ∷ ls) all can l (inl is) = subst Located (sym is) (passes k all.0 (can (place_of k) (inl refl)))
  located_in (k ∷ ls) all can l (inr has) = located_in ls all.1 (λ j at. can j (inr at)) l has

  entries_in : (xs : Stored) → AllByRecursion (λ entry. AllByRecursion (IsLocated x) entry.1.items) xs → AllByRecursion EntryMarked (map named_entry xs) → AllByRecursion EntryLocated (map named_entry xs)
  entries_in [] all can = tt
  entries_in (e ∷ xs) all can = (located_in e.1.items all.0 can.0, entries_in xs all.1 can.1)

  located_runs : AreLocated x runs → AllByRecursion (λ run. AllByRecursion EntryLocated run.entries) (newest_first runs)
  located_runs located = all_newest (λ run. AllByRecursion EntryLocated run.entries) runs (go runs located (marked_runs runs read.runs_read))
    where
      go : (xs : List StoredRun) → AreLocated x xs → AllByRecursion (λ run. AllByRecursion EntryMarked (run_of run).entries) xs → AllByRecursion (λ run. AllByRecursion EntryLocated (run_of run).entries) xs
      go [] all can = tt
      go (run ∷ xs) all can = (entries_in run.entries.items all.0 can.0, go xs all.1 can.1)

  hidden_pass : (shape x).hidden_stand ≡ true → (run : Run) → run ∈ newest_first runs → (id : ℕ) → AllPass (shape x) (formats_of (shape x)) view p g (lookup id run.entries)
  hidden_pass stand run has id = found_in EntryLocated (AllPass (shape x) (formats_of (shape x)) view p g) tt (λ e is. is) run.entries
      (in_all (λ (run : Run). AllByRecursion EntryLocated run.entries) (newest_first runs) (located_runs (hidden stand)) run has) id

  -- ---- what is found

  few_runs : length (newest_first runs) ≤ most_runs_in format
  few_runs = let few : length (map (λ run. run.place) runs) ≤ most_runs_in format = (runs_of_format format root commands (map (λ run. run.place) runs) read.root_page.fits).0 in
      omega (arith, few, length-newest runs, length-map runs (λ run. run.place))

  bounds : InBounds (shape x) root commands (length (newest_first runs)) (entries_of (newest_first runs))
  bounds = record {
    some_version = read.root_page.fits.first_version;
    version_fits = (let lt = read.root_page.fits.last_version in omega (arith, lt));
    commands_fit = (let lt = read.root_page.fits.last_command in omega (arith, lt));
    few_runs = few_runs;
    weight_fits = read.weight_fits;
    chunks_fit = few_chunks;
  }

  -- the format of page 0, which with one section may be the first, is as good as any for the others
  zero_format : 0 < length versions → (number : ℕ) × (view 0 ≡ (formats_of (shape x)).superblock number 0 (slice_index versions 0) (slice_index records 0) p g)
  zero_format some = zero_formats (shape x) p g (slice_index versions 0) (slice_index records 0) (view 0) (section_rows x 0) (read_listed view format versions records pages written read.sections 0) (read.sections.each 0 some)

  abbrev first_written : ℕ
  first_written = (zero_format read.sections.geometry.fewest_sections).0

  section_there : (j : ℕ) → j < length versions → view ((shape x).section_page j) ≡ (formats_of (shape x)).superblock first_written j (slice_index versions j) (slice_index records j) p g
  section_there zero lt = (zero_format read.sections.geometry.fewest_sections).1
  section_there (suc j) lt = section_formats (shape x) p g first_written j (slice_index versions (suc j)) (slice_index records (suc j)) (view ((shape x).section_page (suc j))) (section_rows x (suc j))
      (read_listed view format versions records pages written read.sections (suc j)) lt (read.sections.each (suc j) lt)

  -- the extents as they are read
  abbrev pub as_read : Extents
  as_read = read_as (shape x).apart x (newest_first runs)

  module _ (m : Map) (gives : Gives (shape x) (formats_of (shape x)) opening view p g [] (newest_first runs) m) where
    abbrev found : Recovers (shape x) (formats_of (shape x)) view commands m
    found = record {
      formats = λ j. first_written;
      versions = λ j. slice_index versions j;
      recorded = λ j. slice_index records j;
      pointers = p;
      generations = g;
      superblock = section_there;
      versions_fit = λ j lt. let fits = read_fits view format versions records pages written read.sections j lt in (fits.first_version, (let last = fits.last_version in omega (arith, last)));
      extents_fit = fit;
      version = root;
      recorded_fit = read.recorded_fit;
      runs = newest_first runs;
      root = read.root_page.spelled ∙ ap (spelled_root (identity_in format) root commands) (sym (oldest_places runs));
      root_fits = root_fits_from format root commands (places (newest_first runs))
          (subst (λ (ls : List Locator). FitsRoot (identity_in format) root commands ls) (sym (oldest_places runs)) read.root_page.fits);
      runs_fit = λ run has. (in_all RunIn (newest_first runs) runs_in run has).fits;
      bounds = bounds;
      gives = gives;
    }

    -- the extents as they were read, or by another value
    pub found_by : (noted : ExtentsState) → extents_of noted ≡ as_read
        → (found : Recovers (shape x) (formats_of (shape x)) view commands m)
        × IsFoundAs (shape x) (formats_of (shape x)) view commands m found noted versions root (newest_first runs)
    found_by noted extents = (found, record { extents = extents; all_sections = refl; versions = λ j lt. refl; root_version = refl; same_runs = refl })

  -- ---- what the entries give

  module _ (are : ArePages (device_pages format (length written) pages (length versions)) view) where
    chunk : (l : Place) → Located l
        → ((payload : List ℕ) × Reads (shape x) (formats_of (shape x)) opening view p g l ((formats_of (shape x)).frame ChunkFrame payload))
        ⊎ ((f : Refusal) × (opening.damage l ≡ Some f))
    chunk l is = ⊎_elim
        (λ (c : (payload : List ℕ) × (l.page + length ((formats_of (shape x)).frame ChunkFrame payload) ≤ end_of l)
        × Stand (shape x) (formats_of (shape x)) view l.extent l.page ((formats_of (shape x)).frame ChunkFrame payload)
        × (is_meant (shape x) l.mark ((formats_of (shape x)).frame ChunkFrame payload) ≡ true)
        × (is_long_frame (formats_of (shape x)) ((formats_of (shape x)).frame ChunkFrame payload) ≡ true)).
        inl (c.0, reads_so l ((formats_of (shape x)).frame ChunkFrame c.0) is c.1 c.2 c.3 c.4))
        (λ (b : (f : Refusal) × (fault_for (shape x) (formats_of (shape x)) ChunkFrame l.mark (pages_from (shape x) (formats_of (shape x)) view l.extent l.page (end_of l - l.page)) ≡ Some f)).
        inr (b.0, damage_here (shape x) (formats_of (shape x)) view p g l is ∙ b.1))
        (chunk_or_fault (shape x) view (device_pages format (length written) pages (length versions)) (read_below view format versions records pages written read.sections) are l.extent l.page (end_of l) l.mark
        is.inside.0 (end_above l is (shape x).fills refl) (limit_low (shape x) (formats_of (shape x)) p g (λ e. (fit e).0) l))
      where
        end_of : Place → ℕ
        end_of k = limit_in (shape x) (formats_of (shape x)) p g k

        end_above : (k : Place) → Located k → (b : Bool) → (shape x).fills ≡ b → k.page < limit_in (shape x) (formats_of (shape x)) p g k
        end_above k is true on = subst (λ (n : ℕ). k.page < n) (sym (limit_here (shape x) (formats_of (shape x)) view p g k is on)) is.below
        end_above k is false off = subst (λ (n : ℕ). k.page < n)
            (sym (reach_off (shape x) (if g k.extent == k.generation then p k.extent else 0) k.page off)) is.inside.1

    content : (ls : List Place) → ((l : Place) → l ∈ ls → Located l)
        → (c : Content) × ReadsAs (shape x) (formats_of (shape x)) opening view p g ls c
    content [] pass = (Bytes [], refl)
    content (l ∷ ls) pass = ⊎_elim
        (λ (c : (payload : List ℕ) × Reads (shape x) (formats_of (shape x)) opening view p g l ((formats_of (shape x)).frame ChunkFrame payload)).
        let rest = content ls (λ k has. pass k (inr has)) in (after ((formats_of (shape x)).body c.0) rest.0, inl (c.0, rest.0, c.1, rest.1, refl)))
        (λ (b : (f : Refusal) × (opening.damage l ≡ Some f)). (Damaged b.0, inr (b.0, b.1, refl)))
        (chunk l (pass l (inl refl)))

    value : (o : Option (List Place)) → ((l : Place) → l ∈ live o → Located l)
        → (v : Option Content) × Value (shape x) (formats_of (shape x)) opening view p g o v
    value None pass = (None, refl)
    value (Some []) pass = (None, refl)
    value (Some (l ∷ ls)) pass = let c = content (l ∷ ls) pass in (Some c.0, (c.0, c.1, refl))

    holds : (l : Place) → Located l → Holds (shape x) (formats_of (shape x)) opening view p g l
    holds l is = ⊎_elim (λ c. inr c) (λ b. inl b) (chunk l is)

    abbrev map_read : Map
    map_read = λ id. (value (lookup id (entries_of (newest_first runs))) (live_pass id)).0

    gives : Gives (shape x) (formats_of (shape x)) opening view p g [] (newest_first runs) map_read
    gives = record {
      runs_read = λ run has. (in_all RunIn (newest_first runs) runs_in run has).reads;
      table_passes = λ id. tt;
      visible_pass = visible;
      runs_pass = hidden_pass;
      holds = λ id l has. holds l (live_pass id l has);
      values = λ id. (value (lookup id (entries_of (newest_first runs))) (live_pass id)).1;
    }

    pub recovers_by : (noted : ExtentsState) → extents_of noted ≡ as_read
        → (m : Map) × (found : Recovers (shape x) (formats_of (shape x)) view commands m)
        × IsFoundAs (shape x) (formats_of (shape x)) view commands m found noted versions root (newest_first runs)
    recovers_by noted extents = let f = found_by map_read gives noted extents in (map_read, f.0, f.1)

    -- where chunks and runs lie apart it is noted on which extents the runs lie
    noted_so : (noted : ExtentsState) → (shape x).apart ≡ true → AreExtentsNoted x (newest_first runs) noted → extents_of noted ≡ as_read
    noted_so noted on is = is.extents
        ∙ ap (λ (b : Bool). record (extents_of x) { of_runs = if b then any_run_on (newest_first runs) else λ e. false; found = if b then p else λ e. 0 }) (sym on)
        ∙ extents_with format pages (length versions) written
        (if (shape x).apart then any_run_on (newest_first runs) else λ e. false) (if (shape x).apart then p else λ e. 0)

    pub noted_recovers : (noted : ExtentsState) → (shape x).apart ≡ true → AreExtentsNoted x (newest_first runs) noted
        → (m : Map) × (found : Recovers (shape x) (formats_of (shape x)) view commands m)
        × IsFoundAs (shape x) (formats_of (shape x)) view commands m found noted versions root (newest_first runs)
    noted_recovers noted on is = recovers_by noted (noted_so noted on is)

module _ (view : ℕ → List ℕ) (format : Format) (versions records : List ℕ) (pages : ℕ) (written : List (ℕ × ℕ)) (root commands : ℕ) (runs : List StoredRun)
    (read : IsStoreRead view format versions records pages written root commands runs) where
  abbrev there : ExtentsState
  there = extents_at format pages (length versions) written

  pub visible_read : IsVisibleStoreRead view format versions records pages written root commands runs
  visible_read = record {
    sections = read.sections;
    recorded_fit = read.recorded_fit;
    root_page = read.root_page;
    runs_read = read.runs_read;
    located = visible_of there runs read.located;
    weight_fits = read.weight_fits;
  }

  pub found_as : extents_of there ≡ read_as (shape there).apart there (newest_first runs) → (m : Map) → Gives (shape there) (formats_of (shape there))
      (opening_in (shape there) (formats_of (shape there)) view (extents_of there).pointer (extents_of there).generation) view (extents_of there).pointer (extents_of there).generation [] (newest_first runs) m
      → (found : Recovers (shape there) (formats_of (shape there)) view commands m)
      × IsFoundAs (shape there) (formats_of (shape there)) view commands m found there versions root (newest_first runs)
  found_as extents m gives = found_by view format versions records pages written root commands runs visible_read (λ stand. read.located) m gives there extents

  -- where chunks and runs may lie on one extent
  pub read_recovers : (shape there).apart ≡ false → ArePages (device_pages format (length written) pages (length versions)) view → (m : Map) × (found : Recovers (shape there) (formats_of (shape there)) view commands m)
      × IsFoundAs (shape there) (formats_of (shape there)) view commands m found there versions root (newest_first runs)
  read_recovers not are = recovers_by view format versions records pages written root commands runs visible_read (λ stand. read.located) are there
      (extents_are format pages (length versions) written (newest_first runs) not)
