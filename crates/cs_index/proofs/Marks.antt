-- Places that keep to a format.
use Rattle.std.proofs.Common.{◌≡◌, ◌==◌, inl, inr, ℕ, ◌<◌, Bool, true, false, List, [], ◌∷◌, ◌++◌, map, drop, Option, Some, None, refl, sym, ap, subst, ◌∙◌, if◌then◌else◌}
use Rattle.std.specs.List.{AllByRecursion}
use Rattle.std.proofs.lemmas.Bool.{cases_eq}
use Rattle.cs_deps.specs.State.{State as GraphState}
use Rattle.cs_extent.specs.Frames.{next_place}
use Rattle.cs_extent.specs.State.{State as ExtentsState, extents_of, shape}
use Rattle.cs_frame.specs.declared.identifiers.ShardId.{ShardId}
use Rattle.cs_frame.specs.declared.locators.Locator.{Locator}
use Rattle.cs_frame.specs.Formats.{as_locator, place_of}
use Rattle.cs_frame.specs.Locators.{KeepFormat}
use Rattle.cs_frame.specs.Places.{Listed}
use Rattle.cs_frame.specs.Runs.{IsRun}
use Rattle.cs_index.specs.declared.stored_runs.StoredRun.{StoredRun}
use Rattle.cs_index.specs.Staged.{IsRunAppendedBy, run_frame}
use Rattle.cs_index.specs.State.{KeepTo, RunsKeepTo, named_entry, newest_first, run_of}
use Rattle.cs_index.proofs.Merged.{live_left}
use Rattle.cs_index.proofs.Newest.{all_newest, all_oldest, lookup_above, lookup_first}
use Rattle.cs_index.proofs.Sorted.{above_all, all_append, all_drop}
use Rattle.law_machine.specs.Format.{Format, Four, Two}
use Rattle.law_machine.proofs.Counting.{ascending_tail, lookup_here, lookup_there}
use Rattle.law_machine.specs.Device.{mark_of}
use Rattle.law_machine.specs.Element.{Entry, Locator as Place, Run}
use Rattle.law_machine.specs.Extents.{Purpose as Reason}
use Rattle.law_machine.specs.Geometry.{mark_in, marks_in}
use Rattle.law_machine.specs.Index.{Ascending, entries_of, live, live_at, lookup}
use Rattle.law_machine.specs.Merges.{IsRunOf}

-- ---- where locators have marks

pub keep_marked : (format : Format) (ls : List Locator) → marks_in format ≡ true → KeepFormat format ls
keep_marked format ls on = λ off. absurd (let wrong : true ≡ false = sym on ∙ off in cc)

pub none_keep : (format : Format) (ls : List Locator) → ls ≡ [] → KeepFormat format ls
none_keep format ls none = subst (λ (ms : List Locator). KeepFormat format ms) (sym none) (λ off. tt)

-- ---- the code's locators are the machine's places

unmarked_places : (ls : List Locator) → AllByRecursion (λ l. l.mark ≡ 0) ls → AllByRecursion (λ (p : Place). p.mark ≡ 0) (map place_of ls)
unmarked_places [] all = tt
unmarked_places (l ∷ ls) all = (all.0, unmarked_places ls all.1)

unmarked_locators : (ls : List Locator) → AllByRecursion (λ (p : Place). p.mark ≡ 0) (map place_of ls) → AllByRecursion (λ l. l.mark ≡ 0) ls
unmarked_locators [] all = tt
unmarked_locators (l ∷ ls) all = (all.0, unmarked_locators ls all.1)

pub keep_places : (format : Format) (ls : List Locator) → KeepFormat format ls → KeepTo format (map place_of ls)
keep_places format ls keep = λ off. unmarked_places ls (keep off)

pub keep_locators : (format : Format) (ls : List Locator) → KeepTo format (map place_of ls) → KeepFormat format ls
keep_locators format ls keep = λ off. unmarked_locators ls (keep off)

pub keep_entries : (format : Format) (xs : List (ShardId × Listed)) → AllByRecursion (λ x. KeepTo format x.locators) (map named_entry xs) → AllByRecursion (λ entry. KeepFormat format entry.1.items) xs
keep_entries format [] all = tt
keep_entries format (x ∷ xs) all = (keep_locators format x.1.items all.0, keep_entries format xs all.1)

named_keep : (format : Format) (xs : List (ShardId × Listed)) → AllByRecursion (λ entry. KeepFormat format entry.1.items) xs → AllByRecursion (λ x. KeepTo format x.locators) (map named_entry xs)
named_keep format [] all = tt
named_keep format (x ∷ xs) all = (keep_places format x.1.items all.0, named_keep format xs all.1)

-- ---- what is looked up

-- what entries have is what is looked up of them
found_keep : (format : Format) (xs : List Entry) (id : ℕ) → AllByRecursion (λ x. KeepTo format x.locators) xs → KeepTo format (live_at xs id)
found_keep format [] id all = λ off. tt
found_keep format (x ∷ xs) id all = elim (cases_eq x.id id) [
  | inl here ↦ subst (λ (o : Option (List Place)). KeepTo format (live o)) (sym (lookup_here x xs id here)) all.0
  | inr there ↦ subst (λ (o : Option (List Place)). KeepTo format (live o)) (sym (lookup_there x xs id there)) (found_keep format xs id all.1)
]

-- and the other way round, where the identifiers rise
pub each_keep : (format : Format) (xs : List Entry) → Ascending xs → ((id : ℕ) → KeepTo format (live_at xs id)) → AllByRecursion (λ x. KeepTo format x.locators) xs
each_keep format [] order keep = tt
each_keep format (x ∷ xs) order keep = (
  subst (λ (o : Option (List Place)). KeepTo format (live o)) (lookup_here x xs x.id refl) (keep x.id),
  each_keep format xs (ascending_tail x xs order) behind,
)
  where
    behind : (id : ℕ) → KeepTo format (live_at xs id)
    behind id = elim (cases_eq x.id id) [
      | inl here ↦ subst (λ (o : Option (List Place)). KeepTo format (live o)) (sym (lookup_above id xs (subst (λ (n : ℕ). AllByRecursion (λ (y : Entry). n < y.id) xs) here (above_all x xs order)))) (λ off. tt)
      | inr there ↦ subst (λ (o : Option (List Place)). KeepTo format (live o)) (lookup_there x xs id there) (keep id)
    ]

-- what is found first in more entries
front_keep : (format : Format) (xs ys : List Entry) (id : ℕ) → KeepTo format (live_at (xs ++ ys) id) → KeepTo format (live_at xs id)
front_keep format xs ys id keep = by (lookup id xs) refl
  where
    by : (o : Option (List Place)) → lookup id xs ≡ o → KeepTo format (live o)
    by None at = λ off. tt
    by (Some ls) at = subst (λ (o : Option (List Place)). KeepTo format (live o)) (lookup_first id xs ys ls at) keep

-- the entries of a run of these entries and of more
pub run_keeps : (format : Format) (go : Bool) (index more entries : List Entry) → IsRunOf go index entries → ((id : ℕ) → KeepTo format (live_at (index ++ more) id))
    → AllByRecursion (λ x. KeepTo format x.locators) entries
run_keeps format go index more entries run keep = each_keep format entries run.0 (λ id.
    subst (λ (ls : List Place). KeepTo format ls) (sym (ap live (run.1 id) ∙ live_left go (lookup id index))) (front_keep format index more id (keep id)))

-- an identifier has other locators
pub set_keeps : (format : Format) (id : ℕ) (ls : List Place) (old new : List Entry) → ((d : ℕ) → lookup d new ≡ (if id == d then Some ls else lookup d old)) → KeepTo format ls
    → ((d : ℕ) → KeepTo format (live_at old d)) → (d : ℕ) → KeepTo format (live_at new d)
set_keeps format id ls old new is here keep d = subst (λ (o : Option (List Place)). KeepTo format (live o)) (sym (is d)) (by (id == d))
  where
    by : (b : Bool) → KeepTo format (live (if b then Some ls else lookup d old))
    by true = here
    by false = keep d

-- ---- runs

runs_found : (format : Format) (runs : List Run) → AllByRecursion (λ (run : Run). AllByRecursion (λ x. KeepTo format x.locators) run.entries) runs → AllByRecursion (λ x. KeepTo format x.locators) (entries_of runs)
runs_found format [] all = tt
runs_found format (run ∷ runs) all = all_append (λ (x : Entry). KeepTo format x.locators) run.entries (entries_of runs) all.0 (runs_found format runs all.1)

stored_keep : (format : Format) (runs : List StoredRun) → AllByRecursion (λ run. IsRun format (record { entries = run.entries })) runs
    → AllByRecursion (λ (run : StoredRun). AllByRecursion (λ x. KeepTo format x.locators) (run_of run).entries) runs
stored_keep format [] all = tt
stored_keep format (run ∷ runs) all = (named_keep format run.entries.items all.0.marks, stored_keep format runs all.1)

-- what is looked up in runs that can be spelled
pub loaded_keep : (format : Format) (runs : List StoredRun) → AllByRecursion (λ run. IsRun format (record { entries = run.entries })) runs
    → (id : ℕ) → KeepTo format (live_at (entries_of (newest_first runs)) id)
loaded_keep format runs all id =
    found_keep format (entries_of (newest_first runs)) id
    (runs_found format (newest_first runs) (all_newest (λ (run : Run). AllByRecursion (λ x. KeepTo format x.locators) run.entries) runs (stored_keep format runs all)))

unmarked_runs : (runs : List StoredRun) → AllByRecursion (λ l. l.mark ≡ 0) (map (λ run. run.place) runs) → AllByRecursion (λ (run : StoredRun). run.place.mark ≡ 0) runs
unmarked_runs [] all = tt
unmarked_runs (run ∷ runs) all = (all.0, unmarked_runs runs all.1)

unmarked_of : (runs : List StoredRun) → AllByRecursion (λ (run : StoredRun). run.place.mark ≡ 0) runs → AllByRecursion (λ l. l.mark ≡ 0) (map (λ run. run.place) runs)
unmarked_of [] all = tt
unmarked_of (run ∷ runs) all = (all.0, unmarked_of runs all.1)

pub runs_keep : (format : Format) (runs : List StoredRun) → KeepFormat format (map (λ run. run.place) runs) → RunsKeepTo format (newest_first runs)
runs_keep format runs keep = λ off. all_newest (λ (run : Run). run.place.mark ≡ 0) runs (unmarked_runs runs (keep off))

pub places_keep : (format : Format) (runs : List StoredRun) → RunsKeepTo format (newest_first runs) → KeepFormat format (map (λ run. run.place) runs)
places_keep format runs keep = λ off. unmarked_of runs (all_oldest (λ (run : Run). run.place.mark ≡ 0) runs (keep off))

-- those behind the newest k, and one more in front of them
pub left_keep : (format : Format) (k : ℕ) (runs : List Run) → RunsKeepTo format runs → RunsKeepTo format (drop k runs)
left_keep format k runs keep = λ off. all_drop (λ (run : Run). run.place.mark ≡ 0) k runs (keep off)

pub newer_keep : (format : Format) (run : Run) (runs : List Run) → KeepTo format (run.place ∷ []) → RunsKeepTo format runs → RunsKeepTo format (run ∷ runs)
newer_keep format run runs here keep = λ off. ((here off).0, keep off)

-- ---- a frame that is appended

unmarked_page : (format : Format) (page : List ℕ) → marks_in format ≡ false → mark_in format page ≡ 0
unmarked_page Two page off = refl
unmarked_page (Four store device) page off = absurd (let wrong : true ≡ false = off in cc)

unmarked_frame : (x : ExtentsState) (frame : List (List ℕ)) → marks_in x.format ≡ false → mark_of (shape x) frame ≡ 0
unmarked_frame x [] off = refl
unmarked_frame x (page ∷ pages) off = unmarked_page x.format page off

pub placed_keeps : (x : ExtentsState) (frame : List (List ℕ)) (l : Locator) → l ≡ next_place (extents_of x) l.extent (mark_of (shape x) frame) → KeepFormat x.format (l ∷ [])
placed_keeps x frame l is = λ off. (ap (λ (m : Locator). m.mark) is ∙ unmarked_frame x frame off, tt)

-- so the place of a run
pub run_placed : (apart : Bool) (x : ExtentsState) (g : GraphState) (reason : Reason) (E : List Entry) (place : Place) (y : ExtentsState) (h : GraphState) → IsRunAppendedBy apart x g reason E place y h → KeepTo x.format (place ∷ [])
run_placed apart x g reason E place y h appended = keep_places x.format (as_locator place ∷ []) (placed_keeps x (run_frame x E) (as_locator place) appended.place)

-- a place more
pub more_keep : (format : Format) (ls : List Locator) (l : Locator) → KeepFormat format ls → KeepFormat format (l ∷ []) → KeepFormat format (ls ++ l ∷ [])
more_keep format ls l keep here = λ off. all_append (λ (m : Locator). m.mark ≡ 0) ls (l ∷ []) (keep off) (here off)
