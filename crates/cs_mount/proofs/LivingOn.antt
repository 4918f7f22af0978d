-- What lives on an extent of a store that is opened for that.
use Rattle.std.proofs.Common.{◌≡◌, ◌≢◌, inl, inr, ◌||◌, ℕ, ◌<◌, Bool, true, false, List, [], ◌∷◌, MatchBool, length, map, true≢false, refl, sym, ap, ◌∙◌, subst, arith, ne_eqb, le_of_eq, lt-ltb, nat_lt}
use Rattle.std.specs.List.{AllByRecursion}
use Rattle.std.proofs.lemmas.Bool.{cases_Bool, cases_lt}
use Rattle.std.proofs.lemmas.Bool.Decides.{nat_tests}
use Rattle.cs_core.proofs.law_refinement.Started.{seen_pages}
use Rattle.cs_core.specs.cs_extent.State.{extents_at, shape}
use Rattle.cs_core.specs.cs_index.declared.stored_runs.StoredRun.{StoredRun}
use Rattle.cs_core.specs.cs_index.State.{newest_first}
use Rattle.cs_core.specs.Openings.{IsOpened}
use Rattle.cs_core.specs.Stored.{Stored}
use Rattle.cs_disk.specs.Disk.{Image, IsWhole as IsWholeDisk, State, page, seen}
use Rattle.cs_frame.specs.Formats.{formats_of}
use Rattle.cs_frame.specs.Geometries.{Dimensions, IsGeometry, device_pages, section_size}
use Rattle.cs_frame.specs.Roots.{SpellsRoot, identity_in}
use Rattle.law_machine.proofs.ApartResets.{run_there}
use Rattle.law_machine.proofs.Tallies.{lives_none}
use Rattle.law_machine.specs.Apart.{any_run_on}
use Rattle.law_machine.specs.Element.{Locator, Map, Run}
use Rattle.law_machine.specs.Format.{Format}
use Rattle.law_machine.specs.Geometry.{hidden_stand_in, shape_of, twins_in}
use Rattle.law_machine.specs.Index.{entries_of}
use Rattle.law_machine.specs.Lists.{◌∈◌}
use Rattle.law_machine.specs.Recovery.{Recovers}
use Rattle.law_machine.specs.Tally.{lives_on}
use Rattle.cs_reader.proofs.Exactly.{same_numbers}
use Rattle.cs_reader.proofs.Listed.{to_all}
use Rattle.cs_reader.proofs.Readable.{same_places}
use Rattle.cs_reader.proofs.Runs.{StandsAt, all_stand, same_listed, same_runs}
use Rattle.cs_reader.proofs.Superblocks.{read_format, read_whole}
use Rattle.cs_reader.specs.ImageReads.{ArePages, AreSectionsRead, IsRunRead}
use Rattle.cs_reader.specs.Openings.{IsStoreReadBy}
use Rattle.cs_mount.specs.LeftOut.{NothingOn}
use Rattle.cs_mount.specs.StorePairs.{pages_of, store_shape}

none_on : (runs : List Run) (e : ℕ) → ((run : Run) → run ∈ runs → run.place.extent ≢ e) → any_run_on runs e ≡ false
none_on [] e each = refl
none_on (run ∷ runs) e each = ap (λ (b : Bool). b || any_run_on runs e) (ne_eqb run.place.extent e (each run (inl refl))) ∙ none_on runs e (λ x has. each x (inr has))

-- what is tested of it
pub run_on : (runs : List Run) (e : ℕ) → any_run_on runs e ≡ true → NothingOn runs e → ⊥
run_on runs e some none = true≢false (sym some ∙ none_on runs e (λ run has. none run.place (inl (run, has, refl))))

pub chunk_on : (runs : List Run) (e : ℕ) → 0 < lives_on e (entries_of runs) → NothingOn runs e → ⊥
chunk_on runs e some none = let zero = (lives_none (entries_of runs) e).1 (λ id l has. none l (inr (id, has))) in omega (arith, some, zero)

pub nothing_on : (runs : List Run) (e : ℕ) → any_run_on runs e ≡ false → lives_on e (entries_of runs) ≡ 0 → NothingOn runs e
nothing_on runs e no_run no_chunk l (inl lives) on = true≢false (sym (run_there runs lives.0 lives.1) ∙ ap (any_run_on runs) (ap (λ (k : Locator). k.extent) (sym lives.2) ∙ on) ∙ no_run)
nothing_on runs e no_run no_chunk l (inr lives) on = (lives_none (entries_of runs) e).0 no_chunk lives.0 l lives.1 on

-- the runs that were read are those that are recovered
module _ (view : ℕ → List ℕ) (format : Format) (versions records : List ℕ) (pages : ℕ) (written : List (ℕ × ℕ)) (sections : AreSectionsRead view format versions records pages written)
    (are : ArePages (device_pages format (length written) pages (length versions)) view) (n : ℕ) (m : Map)
    (r : Recovers (shape (extents_at format pages (length versions) written)) (formats_of (shape (extents_at format pages (length versions) written))) view n m)
    (root commands : ℕ) (runs : List StoredRun) (root_page : SpellsRoot (view 1) (identity_in format) root commands (map (λ run. run.place) runs))
    (read : AllByRecursion (IsRunRead (extents_at format pages (length versions) written) view) runs) where
  same_here : newest_first runs ≡ r.runs
  same_here = same_runs (shape (extents_at format pages (length versions) written)) view (read_format view format versions records pages written sections) (newest_first runs) r.runs
      (same_listed r.runs runs (same_places view format versions records pages written sections are n m r root commands (map (λ run. run.place) runs) root_page))
      (all_stand (extents_at format pages (length versions) written) sections.geometry.fits_format (read_whole view format versions records pages written sections).found_pages view runs read)
      (to_all (StandsAt (shape (extents_at format pages (length versions) written)) view) r.runs
      (λ run has. record { fits = r.runs_fit run has; inside = (r.gives.runs_read run has).inside; stand = (r.gives.runs_read run has).stand }))

-- of a store that was read in whichever way
module _ (view : ℕ → List ℕ) (d : Dimensions) (g : IsGeometry d.format d.extents d.pages d.sections) (twins : twins_in d.format ≡ true) (are : ArePages (pages_of d) view) (n : ℕ) (m : Map)
    (format : Format) (versions records : List ℕ) (pages : ℕ) (written : List (ℕ × ℕ)) (root commands : ℕ) (runs : List StoredRun) (is : IsStoreReadBy view format versions records pages written root commands runs) where
  abbrev Read : Type 0
  Read = AreSectionsRead view format versions records pages written × SpellsRoot (view 1) (identity_in format) root commands (map (λ run. run.place) runs)
      × AllByRecursion (IsRunRead (extents_at format pages (length versions) written) view) runs

  is_read : Read
  is_read = elim (cases_Bool (hidden_stand_in format)) [
    | inl on ↦ (let w = is.whole on in (w.sections, w.root_page, w.runs_read))
    | inr off ↦ (let w = is.visible off in (w.sections, w.root_page, w.runs_read))
  ]

  pub same_runs_read : (r : Recovers (store_shape d) (formats_of (store_shape d)) view n m) → newest_first runs ≡ r.runs
  same_runs_read r =
      let same = same_numbers (pages_of d) view d.format d.extents d.pages d.sections g refl are n m r format versions records pages written is_read.0 in
      moved same.0 same.1 same.2 same.3 r
    where
      moved : format ≡ d.format → length written ≡ d.extents → pages ≡ d.pages → length versions ≡ d.sections → (r : Recovers (store_shape d) (formats_of (store_shape d)) view n m) → newest_first runs ≡ r.runs
      moved a b c e =
          let there : ArePages (device_pages format (length written) pages (length versions)) view =
          subst (λ (k : ℕ). ArePages k view) (sym (ap (λ (f : Format). device_pages f (length written) pages (length versions)) a ∙ ap (λ (k : ℕ). device_pages d.format k pages (length versions)) b
          ∙ ap (λ (k : ℕ). device_pages d.format d.extents k (length versions)) c ∙ ap (device_pages d.format d.extents d.pages) e)) are in
          subst (λ (f : Format). (r : Recovers (shape_of d.extents d.pages d.sections (section_size d.extents d.sections) f) (formats_of (shape_of d.extents d.pages d.sections (section_size d.extents d.sections) f)) view n m) → newest_first runs ≡ r.runs) a
          (subst (λ (k : ℕ). (r : Recovers (shape_of k d.pages d.sections (section_size k d.sections) format) (formats_of (shape_of k d.pages d.sections (section_size k d.sections) format)) view n m) → newest_first runs ≡ r.runs) b
          (subst (λ (k : ℕ). (r : Recovers (shape_of (length written) k d.sections (section_size (length written) d.sections) format) (formats_of (shape_of (length written) k d.sections (section_size (length written) d.sections) format)) view n m) → newest_first runs ≡ r.runs) c
          (subst (λ (k : ℕ). (r : Recovers (shape_of (length written) pages k (section_size (length written) k) format) (formats_of (shape_of (length written) pages k (section_size (length written) k) format)) view n m) → newest_first runs ≡ r.runs) e
          (λ r. same_here view format versions records pages written is_read.0 there n m r root commands runs is_read.1 is_read.2))))

-- whether something lives on an extent of an index of these runs
pub tells_living : (index_runs runs : List Run) (e : ℕ) (on_run : Bool) → index_runs ≡ runs → on_run ≡ any_run_on index_runs e → on_run ≡ true → NothingOn runs e → ⊥
tells_living index_runs runs e on_run same is on = run_on runs e (ap (λ (rs : List Run). any_run_on rs e) (sym same) ∙ sym is ∙ on)

pub tells_lt : (index_runs runs : List Run) (e count : ℕ) (on_run : Bool) → index_runs ≡ runs → on_run ≡ any_run_on index_runs e → on_run ≡ false → count ≡ lives_on e (entries_of runs)
    → MatchBool (nat_lt 0 count) (NothingOn runs e → ⊥) (NothingOn runs e)
tells_lt index_runs runs e count on_run same is off counted = elim (cases_lt 0 count) [
  | inl some ↦ subst (λ (b : Bool). MatchBool b (NothingOn runs e → ⊥) (NothingOn runs e)) (sym (lt-ltb 0 count some)) (chunk_on runs e (omega (arith, some, counted)))
  | inr none ↦ subst (λ (b : Bool). MatchBool b (NothingOn runs e → ⊥) (NothingOn runs e)) (sym (let test : nat_lt 0 count ≡ false = grind (arith, nat_tests) in test))
      (nothing_on runs e (ap (λ (rs : List Run). any_run_on rs e) (sym same) ∙ sym is ∙ off) (let zero : lives_on e (entries_of runs) ≡ 0 = omega (arith, none, counted) in zero))
]

-- of the store that was opened on a disk
module _ (image : Image) (found : ℕ × ℕ) (store : Stored) (honest : Type 0) (h : honest) (is : IsOpened honest image found store) (d : Dimensions) (g : IsGeometry d.format d.extents d.pages d.sections) (twins : twins_in d.format ≡ true)
    (are : ArePages (pages_of d) (page image)) (n : ℕ) (m : Map) (r : Recovers (store_shape d) (formats_of (store_shape d)) (page image) n m) where
  -- its index has the runs that are recovered, and no table
  pub index_runs : store.index.runs ≡ r.runs
  index_runs = ap (λ (s : Stored). s.index.runs) is.made
      ∙ same_runs_read (page image) d g twins are n m is.format is.versions is.records is.pages is.written is.root found.0 is.runs (is.read h) r

  pub index_table : store.index.table ≡ []
  index_table = ap (λ (s : Stored). s.index.table) is.made

-- the pages of a disk
pub disk_pages : (s : State) (count : ℕ) → IsWholeDisk s → length s.durable ≡ count → ArePages count (page (seen s))
disk_pages s count whole long = seen_pages s count whole (le_of_eq (sym long))
