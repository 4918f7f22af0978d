-- Runs that were read.
use Rattle.std.proofs.Common.{◌≡◌, ℕ, ◌+◌, ◌≤◌, Bool, false, true, List, [], ◌∷◌, length, map, le_trans, refl, sym, ap, ap₂, ◌∙◌, subst, arith}
use Rattle.std.specs.Prelude.{reverse}
use Rattle.std.specs.List.{AllByRecursion}
use Rattle.std.proofs.lemmas.List.{length-map, reverse-reverse}
use Rattle.cs_chunk.specs.Chunks.{end_in}
use Rattle.cs_extent.specs.State.{State as ExtentsState, extents_of, shape}
use Rattle.cs_frame.proofs.RootLaws.{runs_of_format}
use Rattle.cs_frame.specs.declared.identifiers.ShardId.{ShardId}
use Rattle.cs_frame.specs.Formats.{as_locator, formats_of, place_of}
use Rattle.cs_frame.specs.Frames.{spelled_frame}
use Rattle.cs_frame.specs.Geometries.{FitsFormat}
use Rattle.cs_frame.specs.FormatNumbers.{number_in}
use Rattle.cs_frame.specs.Roots.{SpellsRoot, identity_in}
use Rattle.cs_frame.specs.declared.locators.Locator.{Locator}
use Rattle.cs_frame.specs.FormatRuns.{SpellsRun}
use Rattle.cs_frame.specs.Locators.{FitsLocator, KeepFormat}
use Rattle.cs_frame.specs.Runs.{FitsEntry, IsRun, entries_of as spelled_entries, entry_of}
use Rattle.cs_frame.specs.Places.{Listed}
use Rattle.cs_index.proofs.Newest.{all_newest, all_oldest}
use Rattle.cs_index.proofs.Spelled.{payload_frame}
use Rattle.cs_index.proofs.Whole.{stored_runs}
use Rattle.cs_index.specs.declared.stored_runs.StoredRun.{StoredRun}
use Rattle.cs_index.specs.Staged.{run_frame}
use Rattle.cs_index.specs.State.{IsId, IsStored, named_entry, newest_first, run_of}
use Rattle.law_machine.proofs.Filled.{reach_low}
use Rattle.law_machine.specs.Device.{Page, Shape, is_meant}
use Rattle.law_machine.specs.Element.{Locator as Place, Run}
use Rattle.law_machine.specs.Format.{Format}
use Rattle.law_machine.specs.Formats.{RunFrame, Stand, is_long_frame, places}
use Rattle.law_machine.specs.Geometry.{marks_in}
use Rattle.law_machine.specs.Frames.{IsFormat}
use Rattle.cs_reader.specs.ImageReads.{IsRunRead}
use Rattle.cs_reader.proofs.Entries.{spelled_fit}
use Rattle.cs_reader.proofs.Listed.{oldest_places}

abbrev pub Stored : Type 0
Stored = List (ShardId × Listed)

-- ---- a run that is spelled can be held by an index

ids_of : (marked : Bool) (xs : Stored) → AllByRecursion (FitsEntry marked) (spelled_entries xs) → AllByRecursion (λ entry. IsId entry.0) xs
ids_of marked [] all = tt
ids_of marked (x ∷ xs) all = (record { bytes = all.0.bytes; size = all.0.size }, ids_of marked xs all.1)

counts_of : (marked : Bool) (xs : Stored) → AllByRecursion (FitsEntry marked) (spelled_entries xs) → AllByRecursion (λ entry. length entry.1.items ≤ 8) xs
counts_of marked [] all = tt
counts_of marked (x ∷ xs) all = (all.0.count, counts_of marked xs all.1)

unmarked : (ls : List Locator) → AllByRecursion (FitsLocator false) ls → AllByRecursion (λ l. l.mark ≡ 0) ls
unmarked [] all = tt
unmarked (l ∷ ls) all = ((let low : l.mark ≤ 0 = all.0.mark in omega arith), unmarked ls all.1)

-- locators that have a spelling keep to the format
fits_keep : (format : Format) (ls : List Locator) → AllByRecursion (FitsLocator (marks_in format)) ls → KeepFormat format ls
fits_keep format ls all = λ off. unmarked ls (subst (λ (b : Bool). AllByRecursion (FitsLocator b) ls) off all)

pub places_keep : (page : List ℕ) (format : Format) (version commands : ℕ) (ls : List Locator) → SpellsRoot page (identity_in format) version commands ls → KeepFormat format ls
places_keep page format version commands ls is = fits_keep format ls (runs_of_format format version commands ls is.fits).1

marks_of : (format : Format) (xs : Stored) → AllByRecursion (FitsEntry (marks_in format)) (spelled_entries xs) → AllByRecursion (λ entry. KeepFormat format entry.1.items) xs
marks_of format [] all = tt
marks_of format (x ∷ xs) all = (fits_keep format x.1.items all.0.each, marks_of format xs all.1)

is_run : (format : Format) (run : StoredRun) (payload : List ℕ) → SpellsRun payload format (spelled_entries run.entries.items) → IsRun format (record { entries = run.entries })
is_run format run payload is = record {
  some = (let e : length (spelled_entries run.entries.items) ≡ length run.entries.items = length-map run.entries.items entry_of in let some : 1 ≤ length (spelled_entries run.entries.items) = is.fits.some in omega arith);
  most = (let e : length (spelled_entries run.entries.items) ≡ length run.entries.items = length-map run.entries.items entry_of in omega (arith, is.fits.most, e));
  counts = counts_of (marks_in format) run.entries.items is.fits.each;
  rising = is.fits.rising;
  marks = marks_of format run.entries.items is.fits.each;
}

pub are_runs : (x : ExtentsState) (view : ℕ → List ℕ) (runs : List StoredRun) → AllByRecursion (IsRunRead x view) runs
    → AllByRecursion (λ run. IsRun x.format (record { entries = run.entries })) runs
are_runs x view [] all = tt
are_runs x view (run ∷ runs) all = (is_run x.format run all.0.payload all.0.spelled, are_runs x view runs all.1)

are_ids : (x : ExtentsState) (view : ℕ → List ℕ) (runs : List StoredRun) → AllByRecursion (IsRunRead x view) runs
    → AllByRecursion (λ run. AllByRecursion (λ entry. IsId entry.0) run.entries.items) runs
are_ids x view [] all = tt
are_ids x view (run ∷ runs) all = (ids_of (marks_in x.format) run.entries.items all.0.spelled.fits.each, are_ids x view runs all.1)

pub stored_read : (x : ExtentsState) (view : ℕ → List ℕ) (runs : List StoredRun) → AllByRecursion (IsRunRead x view) runs
    → AllByRecursion IsStored (newest_first runs)
stored_read x view runs read = stored_runs x.format runs (are_ids x view runs read) (are_runs x view runs read)

-- ---- a run stands where its place says

pub record StandsAt (S : Shape) (view : ℕ → List ℕ) (run : Run) : Type 0 where
  pub fits : (formats_of S).fits_run run.entries ≡ true
  pub inside : run.place.page + length ((formats_of S).frame RunFrame ((formats_of S).run run.entries)) ≤ S.pages
  pub stand : Stand S (formats_of S) view run.place.extent run.place.page ((formats_of S).frame RunFrame ((formats_of S).run run.entries))

-- it reaches no further than it may
pub stands_reach : (x : ExtentsState) → FitsFormat x.format → (view : ℕ → List ℕ) (run : StoredRun) → IsRunRead x view run
    → run.place.page + length ((formats_of (shape x)).frame RunFrame ((formats_of (shape x)).run (run_of run).entries)) ≤ end_in x run.place
unfolding run_frame
stands_reach x fits view run is = subst (λ (bs : List Page). run.place.page + length bs ≤ end_in x run.place)
    (payload_frame x.format fits run.entries.items is.payload is.payload refl is.spelled (number_in x.format) refl x refl) is.frame.0

-- and it is the one that its place means
pub stands_meant : (x : ExtentsState) → FitsFormat x.format → (view : ℕ → List ℕ) (run : StoredRun) → IsRunRead x view run
    → is_meant (shape x) run.place.mark ((formats_of (shape x)).frame RunFrame ((formats_of (shape x)).run (run_of run).entries)) ≡ true
unfolding run_frame
stands_meant x fits view run is = subst (λ (bs : List Page). is_meant (shape x) run.place.mark bs ≡ true)
    (payload_frame x.format fits run.entries.items is.payload is.payload refl is.spelled (number_in x.format) refl x refl) is.frame.2

-- and it is long enough for what it holds
pub stands_long : (x : ExtentsState) → FitsFormat x.format → (view : ℕ → List ℕ) (run : StoredRun) → IsRunRead x view run
    → is_long_frame (formats_of (shape x)) ((formats_of (shape x)).frame RunFrame ((formats_of (shape x)).run (run_of run).entries)) ≡ true
unfolding run_frame
stands_long x fits view run is = subst (λ (bs : List Page). is_long_frame (formats_of (shape x)) bs ≡ true)
    (payload_frame x.format fits run.entries.items is.payload is.payload refl is.spelled (number_in x.format) refl x refl) is.frame.3

pub stands_read : (x : ExtentsState) → FitsFormat x.format → ((e : ℕ) → (extents_of x).found e ≤ (shape x).pages) → (view : ℕ → List ℕ) (run : StoredRun)
    → IsRunRead x view run → IsStored (run_of run) → StandsAt (shape x) view (run_of run)
unfolding run_frame
stands_read x fits low view run is stored =
    let frame : spelled_frame (number_in x.format) 1 is.payload ≡ run_frame x (map named_entry run.entries.items) = payload_frame x.format fits run.entries.items is.payload is.payload refl is.spelled (number_in x.format) refl x refl in
    record {
      fits = spelled_fit (marks_in x.format) run.entries.items is.spelled.fits stored.0;
      inside = le_trans (stands_reach x fits view run is)
          (reach_low (shape x) ((extents_of x).found run.place.extent) run.place.page (low run.place.extent));
      stand = subst (λ (bs : List Page). Stand (shape x) (formats_of (shape x)) view run.place.extent run.place.page bs) frame is.frame.1;
    }

pub all_stand : (x : ExtentsState) → FitsFormat x.format → ((e : ℕ) → (extents_of x).found e ≤ (shape x).pages) → (view : ℕ → List ℕ) (runs : List StoredRun) → AllByRecursion (IsRunRead x view) runs
    → AllByRecursion (StandsAt (shape x) view) (newest_first runs)
all_stand x fits low view runs read = all_newest (StandsAt (shape x) view) runs (go runs read (all_oldest IsStored runs (stored_read x view runs read)))
  where
    go : (xs : List StoredRun) → AllByRecursion (IsRunRead x view) xs → AllByRecursion (λ run. IsStored (run_of run)) xs → AllByRecursion (λ run. StandsAt (shape x) view (run_of run)) xs
    go [] a b = tt
    go (run ∷ xs) a b = (stands_read x fits low view run a.0 b.0, go xs a.1 b.1)

-- runs that stand at the same places are the same
pub same_runs : (S : Shape) (view : ℕ → List ℕ) → IsFormat S (formats_of S) → (xs ys : List Run) → places xs ≡ places ys
    → AllByRecursion (StandsAt S view) xs → AllByRecursion (StandsAt S view) ys → xs ≡ ys
same_runs S view format [] [] same a b = refl
same_runs S view format [] (y ∷ ys) same a b = absurd (let e : [] ≡ y.place ∷ places ys = same in cc)
same_runs S view format (x ∷ xs) [] same a b = absurd (let e : x.place ∷ places xs ≡ [] = same in cc)
same_runs S view format (x ∷ xs) (y ∷ ys) same a b =
    let here : x.place ≡ y.place = (let e : x.place ∷ places xs ≡ y.place ∷ places ys = same in cc) in
    let rest : places xs ≡ places ys = (let e : x.place ∷ places xs ≡ y.place ∷ places ys = same in cc) in
    let moved : Stand S (formats_of S) view y.place.extent y.place.page ((formats_of S).frame RunFrame ((formats_of S).run x.entries)) =
    subst (λ (l : Place). Stand S (formats_of S) view l.extent l.page ((formats_of S).frame RunFrame ((formats_of S).run x.entries))) here a.0.stand in
    let payload : (formats_of S).run x.entries ≡ (formats_of S).run y.entries = format.one_payload view y.place.extent y.place.page RunFrame
    ((formats_of S).run x.entries) ((formats_of S).run y.entries) (let i = a.0.inside in omega arith) (let i = b.0.inside in omega arith) moved b.0.stand in
    let entries : x.entries ≡ y.entries = format.one_run x.entries y.entries a.0.fits b.0.fits payload in
    ap₂ (λ (r : Run) (rs : List Run). r ∷ rs) (λ i. record { place = here i; entries = entries i }) (same_runs S view format xs ys rest a.1 b.1)

places_back : (ls : List Place) → map place_of (map as_locator ls) ≡ ls
places_back [] = refl
places_back (l ∷ ls) = ap (λ (ms : List Place). l ∷ ms) (places_back ls)

-- places that are listed alike, oldest first, are the same
pub same_listed : (rs : List Run) (runs : List StoredRun) → map as_locator (reverse (places rs)) ≡ map (λ run. run.place) runs
    → places (newest_first runs) ≡ places rs
same_listed rs runs same =
    let listed : map as_locator (reverse (places (newest_first runs))) ≡ map as_locator (reverse (places rs)) = oldest_places runs ∙ sym same in
    let reversed : reverse (places (newest_first runs)) ≡ reverse (places rs) =
    sym (places_back (reverse (places (newest_first runs)))) ∙ ap (map place_of) listed ∙ places_back (reverse (places rs)) in
    sym (reverse-reverse (places (newest_first runs))) ∙ ap (λ (ls : List Place). reverse ls) reversed ∙ reverse-reverse (places rs)
