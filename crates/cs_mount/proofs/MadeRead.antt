-- Runs that a root names are read by its places alone, where an image with other sections recovers them.
use Rattle.std.proofs.Common.{◌≡◌, inl, inr, ⊎_elim, ◌∙◌, ℕ, zero, suc, ◌+◌, ◌-◌, ◌/◌, ◌<◌, ◌≤◌, List, [], ◌∷◌, ◌++◌, Bool, true, false, None, Option, Some, length, map, take, le_of_eq, le_trans, refl, sym, ap, subst, arith, true≢false, if◌then◌else◌, nat_lt}
use Rattle.std.specs.Prelude.{reverse, slice_get, slice_index, slice_index_or}
use Rattle.std.specs.List.{AllByRecursion}
use Rattle.std.proofs.lemmas.Bool.{cases_lt}
use Rattle.std.proofs.lemmas.Grind.{reverse_onto}
use Rattle.std.proofs.lemmas.List.{get_or-append_right, get_or_append_left}
use Rattle.std.proofs.lemmas.List.FromFn.{get_or-map-range_with_len, length-map-range_with_len}
use Rattle.cs_chunk.proofs.Framed.{no_fault_there, one_frame}
use Rattle.cs_chunk.specs.Reads.{IsOfFault, fault_in}
use Rattle.cs_extent.proofs.Sections.{end_inside}
use Rattle.cs_extent.specs.Sections.{format_of, pages_of as section_pages, rows_of}
use Rattle.cs_extent.specs.State.{IsWhole, State as ExtentsState, extents_at, found_at, shape}
use Rattle.cs_frame.proofs.Fields.{IsBytes-field}
use Rattle.cs_frame.proofs.FormatRunLaws.{fault-spelled}
use Rattle.cs_frame.proofs.FrameLaws.{payload_is_read, stands}
use Rattle.cs_frame.proofs.GeometryLaws.{bounds, lengths_sum, lies_in_device}
use Rattle.cs_frame.proofs.Pieces.{AllByRecursion-map, length-first_chunks}
use Rattle.cs_frame.specs.Bytes.{IsBytes, IsPage}
use Rattle.cs_frame.specs.declared.faults.FormatFault.{FormatFault}
use Rattle.cs_frame.specs.declared.frames.FrameKind.TheVariants as frame_kind
use Rattle.cs_frame.specs.declared.locators.Locator.{Locator}
use Rattle.cs_frame.specs.declared.superblocks.Superblock.{Superblock}
use Rattle.cs_frame.specs.FormatNumbers.{number_in}
use Rattle.cs_frame.specs.FormatRuns.{run_fault, spelled_run}
use Rattle.cs_frame.specs.Formats.{as_entry, as_locator, formats_of}
use Rattle.cs_frame.specs.Frames.{bytes_in, first_page, frame_bytes, frame_count, page_count, payload_length, spelled_frame}
use Rattle.cs_frame.specs.Geometries.{Dimensions, IsGeometry, device_pages, lengths_below, section_length, section_size, section_start}
use Rattle.cs_index.proofs.Sorted.{all_append, all_at, all_take}
use Rattle.cs_refusal.specs.declared.refusals.Refusal.{Refusal}
use Rattle.cs_reader.proofs.Entries.{ids_in_run, named_fit, tests_of}
use Rattle.cs_reader.proofs.Listed.{bytes_joined, in_all}
use Rattle.cs_reader.proofs.OneByOne.{place_inside}
use Rattle.cs_reader.proofs.Superblocks.{found_all}
use Rattle.cs_reader.specs.ImageReads.{ArePages, IsReadable}
use Rattle.cs_reader.specs.Openings.{IsWhyNoRuns, IsWhyNotRead}
use Rattle.law_machine.specs.Device.{Inside, Page}
use Rattle.law_machine.specs.Element.{Locator as Place, Map, Run}
use Rattle.law_machine.specs.Extents.{reach}
use Rattle.law_machine.specs.Format.{Format, Four, Two}
use Rattle.law_machine.specs.Formats.{RunFrame, Stand, places}
use Rattle.law_machine.specs.Geometry.{apart_in, marks_in, shape_of, twins_in}
use Rattle.law_machine.specs.Lists.{◌∈◌}
use Rattle.law_machine.specs.Recovery.{Recovers}
use Rattle.cs_mount.specs.MadeSections.{AreMadeFrom, listed_places, made_row, made_rows}
use Rattle.cs_mount.specs.StorePairs.{pages_of, store_shape}
use Rattle.cs_mount.proofs.MadeLaw.{in_first, in_last, stands_too}
use Rattle.cs_mount.proofs.MadeRuns.{extents_are, rows_long}
use Rattle.cs_mount.proofs.Resections.{row_there}

-- ---- the places of runs, oldest first

all_reverse : {X : Type 0} (P : X → Type 0) (xs : List X) → AllByRecursion P xs → AllByRecursion P (reverse xs)
all_reverse P [] all = tt
all_reverse P (x ∷ xs) all = subst (AllByRecursion P) (sym (reverse_onto xs x [])) (all_append P (reverse xs) (x ∷ []) (all_reverse P xs all.1) (all.0, tt))

all_places : (P : Place → Type 0) (runs : List Run) → ((run : Run) → run ∈ runs → P run.place) → AllByRecursion P (places runs)
all_places P [] each = tt
all_places P (run ∷ runs) each = (each run (inl refl), all_places P runs (λ r has. each r (inr has)))

-- what each place of a run has they have
all_listed : (P : Locator → Type 0) (runs : List Run) → ((run : Run) → run ∈ runs → P (as_locator run.place)) → AllByRecursion P (listed_places runs)
all_listed P runs each = AllByRecursion-map P as_locator (reverse (places runs)) (all_reverse (λ (l : Place). P (as_locator l)) (places runs) (all_places (λ (l : Place). P (as_locator l)) runs each))

in_reverse : (xs : List Place) (x : Place) → x ∈ xs → x ∈ reverse xs
in_reverse [] x none = absurd none
in_reverse (y ∷ ys) x (inl is) = subst (λ (zs : List Place). x ∈ zs) (sym (reverse_onto ys y [])) (in_last (reverse ys) (y ∷ []) x (inl is))
in_reverse (y ∷ ys) x (inr has) = subst (λ (zs : List Place). x ∈ zs) (sym (reverse_onto ys y [])) (in_first (reverse ys) (y ∷ []) x (in_reverse ys x has))

in_map : {X Y : Type 0} (f : X → Y) (xs : List X) (x : X) → x ∈ xs → f x ∈ map f xs
in_map f [] x none = absurd none
in_map f (y ∷ ys) x (inl is) = inl (ap f is)
in_map f (y ∷ ys) x (inr has) = inr (in_map f ys x has)

in_places : (runs : List Run) (run : Run) → run ∈ runs → run.place ∈ places runs
in_places [] run none = absurd none
in_places (r ∷ runs) run (inl is) = inl (ap (λ (z : Run). z.place) is)
in_places (r ∷ runs) run (inr has) = inr (in_places runs run has)

is_listed : (runs : List Run) (run : Run) → run ∈ runs → as_locator run.place ∈ listed_places runs
is_listed runs run has = in_map as_locator (reverse (places runs)) run.place (in_reverse (places runs) run.place (in_places runs run has))

-- ---- a run that can be read

no_fault : (found : Option FormatFault) (q : Refusal) → found ≡ None → IsOfFault found q → ⊥
no_fault found q none fault = let clash : None ≡ Some fault.0 = sym none ∙ fault.1 in cc clash

read_there : (x : ExtentsState) (whole : IsWhole x) (view : ℕ → List ℕ) (place : Locator) (q : Refusal) → IsReadable x view place → IsWhyNotRead x view place q → ⊥
read_there x whole view place q has (inl away) = away.0 has.1.located
read_there x whole view place q has (inr (inl broken)) =
    no_fault (fault_in x view frame_kind.Run place) q (no_fault_there x whole view frame_kind.Run place (place_inside x place whole has.1.located).1 has.1.payload has.1.frame) broken.1
read_there x whole view place q has (inr (inr spoiled)) =
    let same : has.1.payload ≡ spoiled.1.0 = one_frame x whole view frame_kind.Run place (place_inside x place whole has.1.located).1 has.1.payload spoiled.1.0 has.1.frame spoiled.1.1 in
    no_fault (run_fault x.format spoiled.1.0) q (ap (run_fault x.format) (sym same) ∙ fault-spelled x.format has.1.payload has.0 whole.geometry.fits_format has.1.spelled) spoiled.1.2

-- ---- a run in extents that are full where runs lie

module _ (format : Format) (twins : twins_in format ≡ true) (pages sections : ℕ) (written : List (ℕ × ℕ)) (sizes : IsGeometry format (length written) pages sections) (view other : ℕ → Page) (n : ℕ) (m : Map)
    (r : Recovers (shape_of (length written) pages sections (section_size (length written) sections) format) (formats_of (shape_of (length written) pages sections (section_size (length written) sections) format)) view n m)
    (frames : (e i : ℕ) → Inside (shape_of (length written) pages sections (section_size (length written) sections) format) e i
    → other ((shape_of (length written) pages sections (section_size (length written) sections) format).address e i) ≡ view ((shape_of (length written) pages sections (section_size (length written) sections) format).address e i))
    (are : ArePages (device_pages format (length written) pages sections) other)
    (rows : (run : Run) → run ∈ r.runs → slice_index_or written run.place.extent (0, 0) ≡ (pages, run.place.generation)) where
  abbrev x : ExtentsState
  x = extents_at format pages sections written

  pages_stand : (e i : ℕ) (bs : List Page) → e < length written → i + length bs ≤ pages → Stand (shape x) (formats_of (shape x)) other e i bs → AllByRecursion IsPage bs
  pages_stand e i [] there fits stand = tt
  pages_stand e i (b ∷ bs) there fits stand = (
    subst IsPage stand.0 (are ((shape x).address e i) ((lies_in_device format (length written) pages sections sizes).frames e i (there, omega (arith, fits)))),
    pages_stand e (suc i) bs there (omega (arith, fits)) stand.1,
  )

  payload_bytes : (e i : ℕ) (payload : List ℕ) → e < length written → i + length (spelled_frame (number_in format) 1 payload) ≤ pages
      → Stand (shape x) (formats_of (shape x)) other e i (spelled_frame (number_in format) 1 payload) → IsBytes payload
  payload_bytes e i payload there fits stand =
      let size : length (spelled_frame (number_in format) 1 payload) ≡ page_count (length payload) = length-first_chunks 4096 (page_count (length payload)) (frame_bytes (number_in format) 1 payload) in
      let most : pages ≤ 65535 = (bounds format (length written) pages sections sizes).most_pages in
      let few : (41 + length payload + 4095) / 4096 ≤ 65535 = omega (arith, size, fits, most) in
      let all : AllByRecursion IsPage (spelled_frame (number_in format) 1 payload ++ []) = all_append IsPage (spelled_frame (number_in format) 1 payload) [] (pages_stand e i (spelled_frame (number_in format) 1 payload) there fits stand) tt in
      let whole : IsBytes (bytes_in (spelled_frame (number_in format) 1 payload ++ [])) = bytes_joined (take (frame_count (spelled_frame (number_in format) 1 payload ++ [])) (spelled_frame (number_in format) 1 payload ++ []))
      (all_take IsPage (frame_count (spelled_frame (number_in format) 1 payload ++ [])) (spelled_frame (number_in format) 1 payload ++ []) all) in
      subst IsBytes (payload_is_read (number_in format) 1 (spelled_frame (number_in format) 1 payload ++ []) payload (stands (number_in format) 1 payload [] (omega (arith, few))))
      (IsBytes-field (bytes_in (spelled_frame (number_in format) 1 payload ++ [])) 41 (41 + payload_length (first_page (spelled_frame (number_in format) 1 payload ++ []))) whole)

  -- a frame may reach to the end of a full extent
  reaches : (e i g : ℕ) → slice_index_or written e (0, 0) ≡ (pages, g) → i < pages → reach (shape x) (slice_index (found_at (apart_in format) written) e) i ≡ pages
  reaches e i g row lt = by (shape x).fills (nat_lt i (slice_index (found_at (apart_in format) written) e)) (found format twins)
    where
      found : (f : Format) → twins_in f ≡ true → slice_index (found_at (apart_in f) written) e ≡ pages
      found Two on = absurd (true≢false (sym on))
      found (Four store device) on = found_all written e ∙ ap (λ (z : ℕ × ℕ). z.0) row

      by : (a b : Bool) → slice_index (found_at (apart_in format) written) e ≡ pages → (if a then (if b then slice_index (found_at (apart_in format) written) e else pages) else pages) ≡ pages
      by true true is = is
      by true false is = refl
      by false b is = refl

  readable : (run : Run) → run ∈ r.runs → IsReadable x other (as_locator run.place)
  readable run has =
      let reads = r.gives.runs_read run has in
      let row = rows run has in
      let stand = stands_too (shape x) (formats_of (shape x)) view other frames run.place.extent run.place.page ((formats_of (shape x)).frame RunFrame ((formats_of (shape x)).run run.entries)) reads.passes.inside.0 reads.inside reads.stand in (
        map as_entry run.entries,
        record {
          located = record {
            extent = reads.passes.inside.0;
            generation = ap (λ (z : ℕ × ℕ). z.1) row;
            page = subst (λ (k : ℕ). run.place.page < k) (sym (ap (λ (z : ℕ × ℕ). z.0) row)) reads.passes.inside.1;
          };
          payload = spelled_run format (map as_entry run.entries);
          frame = (le_trans reads.inside (le_of_eq (sym (reaches run.place.extent run.place.page run.place.generation row reads.passes.inside.1))), stand, reads.marked, reads.long);
          spelled = record {
            fits = named_fit (marks_in format) run.entries (tests_of (marks_in format) run.entries (r.runs_fit run has))
                (ids_in_run format run.entries (payload_bytes run.place.extent run.place.page (spelled_run format (map as_entry run.entries)) reads.passes.inside.0 reads.inside stand));
            spelled = refl;
          };
        },
      )

  pub none_fails : (q : Refusal) → IsWhole x → IsWhyNoRuns x other (listed_places r.runs) q → ⊥
  none_fails q whole why = read_there x whole other why.place q
      (all_at (λ place. IsReadable x other place) (listed_places r.runs) (length why.runs) why.place (all_listed (λ place. IsReadable x other place) r.runs readable) why.next) why.why

-- ---- the rows of sections that are made

module _ (d : Dimensions) (g : IsGeometry d.format d.extents d.pages d.sections) (named : List Locator) where
  abbrev below : ℕ → ℕ
  below k = lengths_below d.extents d.sections k

  -- the sections before one end where it starts
  starts : (k : ℕ) → k < d.sections → below k ≡ section_start d.extents d.sections k
  starts zero lt = omega arith
  starts (suc k) lt =
      let before = starts k (omega (arith, lt)) in
      let here = end_inside d.format d.extents d.pages d.sections k g (omega (arith, lt)) in
      let next : section_start d.extents d.sections (suc k) ≡ section_start d.extents d.sections k + section_size d.extents d.sections = omega arith in
      let past = end_inside d.format d.extents d.pages d.sections (suc k) g lt in
      omega (arith, before, here, next, past)

  rows_made : (k : ℕ) (xs : List Superblock) → ((i : ℕ) (it : Superblock) → slice_get xs i ≡ Some it → it.extents.items ≡ made_rows d named (k + i)) → k + length xs ≤ d.sections
      → (e : ℕ) → below k ≤ e → e < below (k + length xs) → slice_index_or (rows_of xs) (e - below k) (0, 0) ≡ made_row d.pages named e
  rows_made k [] each fits e le lt = let same : k + 0 ≡ k = omega arith in absurd (omega (arith, le, lt, ap below same))
  rows_made k (it ∷ xs) each fits e le lt =
      let start : below k ≡ section_start d.extents d.sections k = starts k (omega (arith, fits)) in
      let here : it.extents.items ≡ made_rows d named k = each 0 it refl ∙ ap (made_rows d named) (let same : k + 0 ≡ k = omega arith in same) in
      let size : length it.extents.items ≡ section_length d.extents d.sections k = ap (λ (rs : List (ℕ × ℕ)). length rs) here ∙ length-map-range_with_len (made_row d.pages named) _ _ in
      ⊎_elim
      (λ (inside : e < below k + section_length d.extents d.sections k).
      get_or_append_left it.extents.items (rows_of xs) (0, 0) (e - below k) (omega (arith, inside, size, le))
      ∙ ap (λ (rs : List (ℕ × ℕ)). slice_index_or rs (e - below k) (0, 0)) here
      ∙ get_or-map-range_with_len (made_row d.pages named) (section_start d.extents d.sections k) (section_length d.extents d.sections k) (e - below k) e (0, 0) (omega (arith, inside, le)) (omega (arith, start, le)))
      (λ (past : below k + section_length d.extents d.sections k ≤ e).
      get_or-append_right it.extents.items (rows_of xs) (section_length d.extents d.sections k) (e - below k) (0, 0) size (omega (arith, past))
      ∙ ap (λ (i : ℕ). slice_index_or (rows_of xs) i (0, 0)) (let same : e - below k - section_length d.extents d.sections k ≡ e - below (suc k) = omega (arith, past) in same)
      ∙ rows_made (suc k) xs (λ i other at. each (suc i) other at ∙ ap (made_rows d named) (let same : k + suc i ≡ suc k + i = omega arith in same)) (omega (arith, fits)) e (omega (arith, past))
      (subst (λ (i : ℕ). e < below i) (let same : k + suc (length xs) ≡ suc k + length xs = omega arith in same) lt))
      (cases_lt e (below k + section_length d.extents d.sections k))

  module _ (twins : twins_in d.format ≡ true) (sections : List Superblock) (are : AreMadeFrom d named d.sections sections) where
    row_is : (e : ℕ) → e < d.extents → slice_index_or (rows_of sections) e (0, 0) ≡ made_row d.pages named e
    row_is e lt = ap (λ (i : ℕ). slice_index_or (rows_of sections) i (0, 0)) (let same : e ≡ e - below 0 = omega arith in same)
        ∙ rows_made 0 sections (λ i it at. (are.each i it at).rows ∙ ap (made_rows d named) (let same : i ≡ 0 + i = omega arith in same)) (omega (arith, are.size)) e (omega arith)
        (subst (λ (k : ℕ). e < below k) (let same : d.sections ≡ 0 + length sections = omega (arith, are.size) in same) (subst (λ (k : ℕ). e < k) (sym (lengths_sum d.format d.extents d.pages d.sections g)) lt))

    -- no runs fail of a store with so many extents
    abbrev Fails : (view other : ℕ → Page) (n : ℕ) (m : Map) → (extents : ℕ) → Type 0
    Fails view other n m k = IsGeometry d.format k d.pages d.sections
        → (there : Recovers (shape_of k d.pages d.sections (section_size k d.sections) d.format) (formats_of (shape_of k d.pages d.sections (section_size k d.sections) d.format)) view n m)
        → ((e i : ℕ) → Inside (shape_of k d.pages d.sections (section_size k d.sections) d.format) e i
        → other ((shape_of k d.pages d.sections (section_size k d.sections) d.format).address e i) ≡ view ((shape_of k d.pages d.sections (section_size k d.sections) d.format).address e i))
        → ArePages (device_pages d.format k d.pages d.sections) other
        → ((run : Run) → run ∈ there.runs → slice_index_or (rows_of sections) run.place.extent (0, 0) ≡ (d.pages, run.place.generation))
        → listed_places there.runs ≡ named → ⊥

    -- what an image with other sections recovers has its runs read
    pub runs_there : (x : ExtentsState) → x ≡ extents_at (format_of sections) (section_pages sections) (length sections) (rows_of sections) → IsWhole x → (view other : ℕ → Page) → ArePages (pages_of d) other → (n : ℕ) (m : Map)
        → (r : Recovers (store_shape d) (formats_of (store_shape d)) view n m) → ((e i : ℕ) → Inside (store_shape d) e i → other ((store_shape d).address e i) ≡ view ((store_shape d).address e i))
        → listed_places r.runs ≡ named → (q : Refusal) → IsWhyNoRuns x other named q → ⊥
    runs_there x is whole view other pages n m r frames listed q why =
        let same = is ∙ extents_are d g named sections are in
        subst (Fails view other n m) (rows_long d g named sections are)
        (λ sizes there alike known rows its. none_fails d.format twins d.pages d.sections (rows_of sections) sizes view other n m there alike known rows q
        (subst IsWhole same whole) (subst (λ (ls : List Locator). IsWhyNoRuns (extents_at d.format d.pages d.sections (rows_of sections)) other ls q) (sym its) (subst (λ (y : ExtentsState). IsWhyNoRuns y other named q) same why)))
        g r frames pages each listed
      where
        -- what is named is in its extent's generation
        its : (l : Locator) → l ∈ named → r.generations l.extent ≡ l.generation
        its l has = in_all (λ (k : Locator). r.generations k.extent ≡ k.generation) (listed_places r.runs)
            (all_listed (λ (k : Locator). r.generations k.extent ≡ k.generation) r.runs (λ run among. (r.gives.runs_read run among).passes.generation)) l (subst (λ (ls : List Locator). l ∈ ls) (sym listed) has)

        each : (run : Run) → run ∈ r.runs → slice_index_or (rows_of sections) run.place.extent (0, 0) ≡ (d.pages, run.place.generation)
        each run has =
            let among : as_locator run.place ∈ named = subst (λ (ls : List Locator). as_locator run.place ∈ ls) listed (is_listed r.runs run has) in
            row_is run.place.extent (r.gives.runs_read run has).passes.inside.0
            ∙ row_there d.pages named (as_locator run.place) among (λ k one alike. sym (its k one) ∙ ap r.generations alike ∙ its (as_locator run.place) among)
