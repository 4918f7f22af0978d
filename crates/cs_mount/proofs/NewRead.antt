-- What is read of the image of a new store.
use Rattle.std.proofs.Common.{◌≡◌, inl, inr, if◌then◌else◌, ◌==◌, ◌&&◌, ◌||◌, not, ◌-◌, ◌/◌, ◌*◌, ℕ, zero, suc, ◌+◌, ◌<◌, Bool, true, false, List, [], None, Option, length, map, nat_le, nat_lt, replicate, slice_index, slice_index_or, refl, sym, ◌∙◌, ap, subst}
use Rattle.std.proofs.lemmas.Bool.{cases_Bool}
use Rattle.std.proofs.lemmas.List.{ext_get_or, get_or-replicate, length-map, length-replicate, nil_from_length}
use Rattle.cs_core.specs.cs_extent.State.{IsWhole, State as ExtentsState, extents_at, extents_of, found_at, section_rows, shape}
use Rattle.cs_frame.specs.declared.locators.Locator.{Locator}
use Rattle.cs_frame.specs.Geometries.{IsGeometry, section_length, section_size, section_start}
use Rattle.cs_frame.specs.FormatNumbers.{number_in}
use Rattle.cs_frame.specs.Roots.{SpellsRoot, identity_in, root_number, runs_in}
use Rattle.law_machine.specs.Format.{Format}
use Rattle.cs_frame.specs.Superblocks.{SpellsSuperblock}
use Rattle.cs_frame.proofs.FirstFormatLaws as zeros
use Rattle.cs_frame.proofs.GeometryLaws.{section_inside}
use Rattle.cs_frame.proofs.RootLaws as roots
use Rattle.cs_frame.proofs.SuperblockLaws as superblocks
use Rattle.cs_reader.proofs.Listed.{all_default}
use Rattle.cs_reader.proofs.Superblocks.{at_one, found_all, of_section, row_at, zero_one}
use Rattle.cs_reader.specs.ImageReads.{AreSectionsRead, SpellsAt}
use Rattle.cs_reader.specs.Openings.{IsStoreReadBy}
use Rattle.cs_core.specs.cs_index.declared.stored_runs.StoredRun.{StoredRun}
use Rattle.law_machine.specs.Apart.{any_run_on, is_blank_by, is_held_by, reset_all}
use Rattle.law_machine.specs.Device.{Shape}
use Rattle.law_machine.specs.Element.{Entry, Run}
use Rattle.law_machine.specs.Extents.{Extents, emptied, forgotten}
use Rattle.law_machine.specs.Geometry.{apart_in}
use Rattle.law_machine.specs.Tally.{lives_on}
use Rattle.cs_core.specs.law_refinement.Images.{AreExtentsNoted, AreNewSections}
use Rattle.cs_core.specs.cs_reclaim.Rooted.{lying_apart}

-- the version of a section, by two spellings of its page
at_version : (j : ℕ) (page : List ℕ) (f : Format) (v r e p s : ℕ) (rows : List (ℕ × ℕ)) (format : Format) (w n extents pages sections : ℕ) (others : List (ℕ × ℕ)) → SpellsAt j page f v r e p s rows → SpellsSuperblock page format w n extents pages sections j others → v ≡ w
at_version zero page f v r e p s rows format w n extents pages sections others (inl a) b =
    sym (superblocks.one_section page f v r e p s 0 rows a).of_version ∙ (superblocks.one_section page format w n extents pages sections 0 others b).of_version
at_version zero page f v r e p s rows format w n extents pages sections others (inr a) b =
    absurd (zeros.apart (number_in format) page (zeros.spelled_has_none page v p rows a.spells) (superblocks.spelled_has_none page format w n extents pages sections 0 others b))
at_version (suc j) page f v r e p s rows format w n extents pages sections others a b =
    sym (superblocks.one_section page f v r e p s (suc j) rows a).of_version ∙ (superblocks.one_section page format w n extents pages sections (suc j) others b).of_version

-- The numbers of what is read are those of the new store.
pub record IsNewRead (format : Format) (extents pages sections : ℕ) (f : Format) (versions : List ℕ) (p : ℕ) (written : List (ℕ × ℕ)) (root commands : ℕ) (runs : List StoredRun) : Type 0 where
  pub of_format : f ≡ format
  pub of_versions : versions ≡ replicate sections 1
  pub of_pages : p ≡ pages
  pub of_written : written ≡ replicate extents (0, 0)
  pub of_root : root ≡ 1
  pub of_commands : commands ≡ 0
  pub of_runs : runs ≡ []

module _ (view : ℕ → List ℕ) (format : Format) (extents pages sections : ℕ) (g : IsGeometry format extents pages sections) (new_ones : AreNewSections view format extents pages sections) (new_root : SpellsRoot (view 1) (identity_in format) 1 0 [])
    (f : Format) (versions records : List ℕ) (p : ℕ) (written : List (ℕ × ℕ)) (root commands : ℕ) (runs : List StoredRun)
    (read : AreSectionsRead view f versions records p written) (root_is : SpellsRoot (view 1) (identity_in f) root commands (map (λ (run : StoredRun). run.place) runs)) where
  abbrev x : ExtentsState
  x = extents_at f p (length versions) written

  numbers : (f ≡ format) × (length written ≡ extents) × (p ≡ pages) × (length versions ≡ sections)
  numbers =
      let one = zero_one (view 0) f (slice_index versions 0) (slice_index records 0) (length written) p (length versions) 0 (section_rows x 0) format 1 0 extents pages sections 0 (replicate (section_length extents sections 0) (0, 0))
      (read.each 0 read.geometry.fewest_sections) (inl (new_ones 0 g.fewest_sections)) in
      (one.0, one.1, one.2, one.3)

  abbrev place : (e q j : ℕ) → ℕ
  place e q j = if j == 0 then 0 else 1 + e * q + j

  -- each section, by both
  there : (j : ℕ) → j < length versions → SpellsSuperblock (view (place (length written) p j)) format 1 0 extents pages sections j (replicate (section_length extents sections j) (0, 0))
  there j lt =
      subst (λ (e : ℕ). SpellsSuperblock (view (place e p j)) format 1 0 extents pages sections j (replicate (section_length extents sections j) (0, 0))) (sym numbers.1)
      (subst (λ (q : ℕ). SpellsSuperblock (view (place extents q j)) format 1 0 extents pages sections j (replicate (section_length extents sections j) (0, 0))) (sym numbers.2) (new_ones j (subst (λ n. j < n) numbers.3 lt)))

  first_version : (j : ℕ) → j < length versions → slice_index versions j ≡ 1
  first_version j lt =
      at_version j (view (place (length written) p j)) f (slice_index versions j) (slice_index records j) (length written) p (length versions) (section_rows x j) format 1 0 extents pages sections (replicate (section_length extents sections j) (0, 0))
      (read.each j lt) (there j lt)

  rows : (j : ℕ) → j < length versions → section_rows x j ≡ replicate (section_length extents sections j) (0, 0)
  rows j lt =
      (at_one j (view (place (length written) p j)) f (slice_index versions j) (slice_index records j) (length written) p (length versions) (section_rows x j) format 1 0 extents pages sections (replicate (section_length extents sections j) (0, 0))
      (read.each j lt) (of_section j (view (place (length written) p j)) format 1 0 extents pages sections (replicate (section_length extents sections j) (0, 0)) (there j lt))).0

  empty_at : (e : ℕ) → e < length written → slice_index_or written e (0, 0) ≡ (0, 0)
  empty_at e lt =
      let j = e / section_size (length written) (length versions) in
      let inside : j < length versions = section_inside f (length written) p (length versions) read.geometry e lt in
      sym (row_at f (length written) p (length versions) read.geometry written e j lt refl)
      ∙ ap (λ (l : List (ℕ × ℕ)). slice_index_or l (e - section_start (length written) (length versions) j) (0, 0)) (rows j inside)
      ∙ all_default (section_length extents sections j) (e - section_start (length written) (length versions) j) (0, 0)

  written_is : written ≡ replicate extents (0, 0)
  written_is =
      let many = length-replicate {A = ℕ × ℕ} extents (0, 0) in
      ext_get_or (0, 0) written (replicate extents (0, 0)) (numbers.1 ∙ sym many)
      (λ e lt. empty_at e lt ∙ sym (all_default extents e (0, 0)))

  versions_are : versions ≡ replicate sections 1
  versions_are =
      let many = length-replicate {A = ℕ} sections 1 in
      ext_get_or 0 versions (replicate sections 1) (numbers.3 ∙ sym many)
      (λ j lt. first_version j lt ∙ sym (get_or-replicate sections j 1 0 (subst (λ n. j < n) numbers.3 lt)))

  no_runs : runs ≡ []
  no_runs =
      let a = roots.one_root (view 1) (identity_in f) root commands (map (λ (run : StoredRun). run.place) runs) root_is in
      let b = roots.one_root (view 1) (identity_in format) 1 0 [] new_root in
      let places : map (λ (run : StoredRun). run.place) runs ≡ [] = sym a.of_runs ∙ ap (λ (h : Format). runs_in (root_number (identity_in h)) (view 1)) numbers.0 ∙ b.of_runs in
      let none : length runs ≡ 0 = sym (length-map runs (λ (run : StoredRun). run.place)) ∙ ap (λ (l : List Locator). length l) places in
      nil_from_length runs none

  pub new_is_read : IsNewRead format extents pages sections f versions p written root commands runs
  new_is_read =
      let a = roots.one_root (view 1) (identity_in f) root commands (map (λ (run : StoredRun). run.place) runs) root_is in
      let b = roots.one_root (view 1) (identity_in format) 1 0 [] new_root in
      record {
        of_format = numbers.0;
        of_versions = versions_are;
        of_pages = numbers.2;
        of_written = written_is;
        of_root = sym a.of_version ∙ b.of_version;
        of_commands = sym a.of_commands ∙ b.of_commands;
        of_runs = no_runs;
      }

-- by either rule
pub new_store_is_read : (view : ℕ → List ℕ) (format : Format) (extents pages sections : ℕ) → IsGeometry format extents pages sections → AreNewSections view format extents pages sections → SpellsRoot (view 1) (identity_in format) 1 0 []
    → (f : Format) (versions records : List ℕ) (p : ℕ) (written : List (ℕ × ℕ)) (root commands : ℕ) (runs : List StoredRun) → IsStoreReadBy view f versions records p written root commands runs
    → IsNewRead format extents pages sections f versions p written root commands runs
new_store_is_read view format extents pages sections g new_ones new_root f versions records p written root commands runs read = elim (cases_Bool (shape (extents_at f p (length versions) written)).hidden_stand) [
  | inl stand ↦ (let whole = read.whole stand in new_is_read view format extents pages sections g new_ones new_root f versions records p written root commands runs whole.sections whole.root_page)
  | inr gone ↦ (let visible = read.visible gone in new_is_read view format extents pages sections g new_ones new_root f versions records p written root commands runs visible.sections visible.root_page)
]

-- ---- extents that are all empty

-- where none is blank none is emptied
none_blank : (S : Shape) (x : Extents) (root : ℕ) (test : ℕ → Bool) → ((e : ℕ) → test e ≡ false) → (k : ℕ) → reset_all S x root test k ≡ x
none_blank S x root test none zero = refl
none_blank S x root test none (suc k) = by (test k) (none k) (forgotten S.apart (emptied (reset_all S x root test k) k root) k) ∙ none_blank S x root test none k
  where
    by : (b : Bool) → b ≡ false → (other : Extents) → (if b then other else reset_all S x root test k) ≡ reset_all S x root test k
    by true is other = cc
    by false is other = refl

not_blank : (S : Shape) (x : Extents) (index : List Entry) (runs : List Run) → ((e : ℕ) → x.pointer e ≡ 0) → (e : ℕ) → is_blank_by S x index runs [] e ≡ false
not_blank S x index runs none e =
    ap (λ (n : ℕ). (nat_lt 0 n && nat_le (lives_on e index) 0) && (not (any_run_on runs e || is_held_by S x [] e) && nat_lt (x.generation e) S.greatest_generation)) (none e)

pair_of : (row : ℕ × ℕ) → row.0 ≡ 0 → row.1 ≡ 0 → row ≡ (0, 0)
pair_of row first second = ap (λ (n : ℕ). (n, row.1)) first ∙ ap (λ (n : ℕ). (0, n)) second

module _ (format : Format) (pages sections extents : ℕ) (apart : apart_in format ≡ true) (y : ExtentsState) (whole : IsWhole y) (z : Extents) (same_shape : shape y ≡ shape (extents_at format pages sections (replicate extents (0, 0))))
    (of_y : extents_of y ≡ z) (noted : z ≡ record (extents_of (extents_at format pages sections (replicate extents (0, 0)))) { of_runs = any_run_on []; found = (extents_of (extents_at format pages sections (replicate extents (0, 0)))).pointer }) where
  abbrev fresh : ExtentsState
  fresh = extents_at format pages sections (replicate extents (0, 0))

  are : extents_of y ≡ record (extents_of fresh) { of_runs = any_run_on []; found = (extents_of fresh).pointer }
  are = of_y ∙ noted

  abbrev empty_rows : List (ℕ × ℕ)
  empty_rows = replicate extents (0, 0)

  many : length y.written ≡ length empty_rows
  many = ap (λ (S : Shape). S.extents) same_shape

  written_same : y.written ≡ empty_rows
  written_same = ext_get_or (0, 0) y.written empty_rows many
      (λ e lt.
      pair_of (slice_index_or y.written e (0, 0))
      (ap (λ (w : Extents). w.pointer e) are ∙ ap (λ (r : ℕ × ℕ). r.0) (all_default extents e (0, 0)))
      (ap (λ (w : Extents). w.generation e) are ∙ ap (λ (r : ℕ × ℕ). r.1) (all_default extents e (0, 0)))
      ∙ sym (all_default extents e (0, 0)))

  resets_same : y.resets ≡ replicate (length empty_rows) 0
  resets_same = let size = length-replicate {A = ℕ} (length empty_rows) 0 in
      ext_get_or 0 y.resets (replicate (length empty_rows) 0) (whole.all_resets ∙ many ∙ sym size) (λ e lt. ap (λ (w : Extents). w.reset e) are)

  swept_same : y.swept ≡ replicate (length empty_rows) false
  swept_same = let size = length-replicate {A = Bool} (length empty_rows) false in
      ext_get_or false y.swept (replicate (length empty_rows) false) (whole.all_swept ∙ many ∙ sym size) (λ e lt. ap (λ (w : Extents). w.swept e) are)

  runs_same : y.of_runs ≡ replicate (length empty_rows) false
  runs_same = let size = length-replicate {A = Bool} (length empty_rows) false in
      ext_get_or false y.of_runs (replicate (length empty_rows) false) (whole.all_kinds ∙ many ∙ sym size) (λ e lt. ap (λ (w : Extents). w.of_runs e) are ∙ sym (all_default (length empty_rows) e false))

  found_same : y.found ≡ found_at (apart_in format) empty_rows
  found_same =
      let by_rule : found_at (apart_in format) empty_rows ≡ found_at true empty_rows = ap (λ (b : Bool). found_at b empty_rows) apart in
      let size = length-map empty_rows (λ (row : ℕ × ℕ). row.0) in
      ext_get_or 0 y.found (found_at true empty_rows) (whole.all_found ∙ many ∙ sym size) (λ e lt. ap (λ (w : Extents). w.found e) are ∙ sym (found_all empty_rows e)) ∙ sym by_rule

  -- So they are those of a new store.
  pub empty_same : y ≡ fresh
  empty_same =
      let f = ap (λ (S : Shape). S.format) same_shape in
      let p = ap (λ (S : Shape). S.pages) same_shape in
      let s = ap (λ (S : Shape). S.sections) same_shape in
      let open_is = ap (λ (w : Extents). w.open_extent) are in
      let fresh_is = ap (λ (w : Extents). w.fresh) are in
      let last_is = ap (λ (w : Extents). w.last) are in
      by y.format y.pages y.sections y.written y.resets y.swept y.open_extent y.of_runs y.found y.fresh y.last f p s written_same resets_same swept_same open_is runs_same found_same fresh_is last_is
    where
      by : (a : Format) (b c : ℕ) (w : List (ℕ × ℕ)) (r : List ℕ) (t : List Bool) (o : Option ℕ) (k : List Bool) (n : List ℕ) (h l : Option ℕ) → a ≡ format → b ≡ pages → c ≡ sections → w ≡ empty_rows → r ≡ replicate (length empty_rows) 0
          → t ≡ replicate (length empty_rows) false → o ≡ None → k ≡ replicate (length empty_rows) false → n ≡ found_at (apart_in format) empty_rows → h ≡ None → l ≡ None
          → ◌≡◌ {A = ExtentsState} (record { format = a; pages = b; sections = c; written = w; resets = r; swept = t; open_extent = o; of_runs = k; found = n; fresh = h; last = l }) fresh
      by a b c w r t o k n h l e1 e2 e3 e4 e5 e6 e7 e8 e9 e10 e11 = cc

-- Of extents that are all empty none is emptied as they are opened.
pub opened_empty : (format : Format) (pages sections extents root : ℕ) (index : List Entry) → apart_in format ≡ true → (y noted : ExtentsState) → IsWhole y → shape y ≡ shape (extents_at format pages sections (replicate extents (0, 0)))
    → AreExtentsNoted (extents_at format pages sections (replicate extents (0, 0))) [] noted
    → extents_of y ≡ reset_all (lying_apart (shape noted)) (extents_of noted) root (is_blank_by (shape noted) (extents_of noted) index [] []) (shape noted).extents
    → y ≡ extents_at format pages sections (replicate extents (0, 0))
opened_empty format pages sections extents root index apart y noted whole same_shape are opened =
    let none : (e : ℕ) → (extents_of noted).pointer e ≡ 0 = λ e. ap (λ (w : Extents). w.pointer e) are.extents ∙ ap (λ (r : ℕ × ℕ). r.0) (all_default extents e (0, 0)) in
    empty_same format pages sections extents apart y whole (extents_of noted) same_shape
    (opened ∙ none_blank (lying_apart (shape noted)) (extents_of noted) root (is_blank_by (shape noted) (extents_of noted) index [] []) (not_blank (shape noted) (extents_of noted) index [] none) (shape noted).extents)
    are.extents
