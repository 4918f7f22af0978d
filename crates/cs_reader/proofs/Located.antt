-- Extents as they are read, and by which rule places are located.
use Rattle.std.proofs.Common.{◌≡◌, inl, inr, ◌∙◌, ℕ, ◌<◌, true, false, List, [], ◌∷◌, length, true≢false, refl, sym, ap, subst, map, Option}
use Rattle.std.specs.List.{AllByRecursion}
use Rattle.std.proofs.lemmas.Bool.{cases_Bool}
use Rattle.cs_extent.specs.State.{State as ExtentsState, extents_at, shape}
use Rattle.cs_reader.proofs.Listed.{found_in, in_entries}
use Rattle.cs_reader.specs.Loads.{index_at}
use Rattle.cs_reader.specs.ImageReads.{AreLocated, AreVisibleLocated, IsLocated}
use Rattle.cs_index.proofs.Newest.{all_newest}
use Rattle.cs_index.specs.declared.stored_runs.StoredRun.{StoredRun}
use Rattle.cs_index.specs.State.{State as IndexState, index_of, newest_first, run_of, named_entry}
use Rattle.law_machine.specs.Element.{Run, Entry, Locator as Place}
use Rattle.cs_reader.specs.Openings.{AreLiveLocated, AreLocatedBy}
use Rattle.cs_frame.specs.declared.locators.Locator.{Locator}
use Rattle.cs_frame.specs.Formats.{as_locator, place_of}
use Rattle.law_machine.specs.Format.{Format, Four, Two}
use Rattle.law_machine.specs.Geometry.{apart_in, hidden_stand_in}
use Rattle.law_machine.specs.Index.{entries_of, live}
use Rattle.law_machine.specs.Lists.{◌∈◌}
use Rattle.cs_reader.proofs.Runs.{Stored}

-- ---- as they are read

-- extents are read of so many sections
pub extents_again : (x : ExtentsState) (format : Format) (pages sections : ℕ) (written : List (ℕ × ℕ)) → x ≡ extents_at format pages sections written → x ≡ extents_at x.format x.pages x.sections x.written
extents_again x format pages sections written is = is ∙ ap (λ (y : ExtentsState). extents_at y.format y.pages y.sections y.written) (sym is)

-- as many as there are versions
pub extents_by : (x : ExtentsState) (format : Format) (pages sections : ℕ) (written : List (ℕ × ℕ)) (versions : List ℕ) → x ≡ extents_at format pages sections written → length versions ≡ sections
    → x ≡ extents_at format pages (length versions) written
extents_by x format pages sections written versions is many = is ∙ ap (λ (n : ℕ). extents_at format pages n written) (sym many)

-- ---- which rule

-- each locator of an entry is located
abbrev IsEntryLocated : ExtentsState → Entry → Type 0
IsEntryLocated x e = (k : Place) → k ∈ e.locators → IsLocated x (as_locator k)

places_located : (x : ExtentsState) (ls : List Locator) → AllByRecursion (IsLocated x) ls → (k : Place) → k ∈ map place_of ls → IsLocated x (as_locator k)
places_located x [] each k none = absurd none
places_located x (j ∷ ls) each k (inl is) = subst (λ (q : Place). IsLocated x (as_locator q)) (sym is) each.0
places_located x (j ∷ ls) each k (inr has) = places_located x ls each.1 k has

entries_located : (x : ExtentsState) (xs : Stored) → AllByRecursion (λ entry. AllByRecursion (IsLocated x) entry.1.items) xs → AllByRecursion (IsEntryLocated x) (map named_entry xs)
entries_located x [] each = tt
entries_located x (e ∷ xs) each = (places_located x e.1.items each.0, entries_located x xs each.1)

runs_located : (x : ExtentsState) (xs : List StoredRun) → AreLocated x xs → AllByRecursion (λ run. AllByRecursion (IsEntryLocated x) (run_of run).entries) xs
runs_located x [] each = tt
runs_located x (run ∷ xs) each = (entries_located x run.entries.items each.0, runs_located x xs each.1)

-- what is located of all entries is of those that are visible
pub visible_of : (x : ExtentsState) (runs : List StoredRun) → AreLocated x runs → AreVisibleLocated x runs
visible_of x runs all id = found_in (IsEntryLocated x) (λ (o : Option (List Place)). (k : Place) → k ∈ live o → IsLocated x (as_locator k)) (λ k none. absurd none) (λ e is. is)
    (entries_of (newest_first runs))
    (in_entries (IsEntryLocated x) (newest_first runs) (all_newest (λ run. AllByRecursion (IsEntryLocated x) run.entries) runs (runs_located x runs all))) id

-- hidden entries stand where chunks and runs may lie on one extent, and where they lie apart they don't
pub hidden_stand : (x : ExtentsState) → (shape x).apart ≡ false → (shape x).hidden_stand ≡ true
hidden_stand x together = stand x.format together
  where
    stand : (format : Format) → apart_in format ≡ false → hidden_stand_in format ≡ true
    stand Two off = refl
    stand (Four store device) off = absurd (true≢false off)

pub hidden_gone : (x : ExtentsState) → (shape x).apart ≡ true → (shape x).hidden_stand ≡ false
hidden_gone x apart = gone x.format apart
  where
    gone : (format : Format) → apart_in format ≡ true → hidden_stand_in format ≡ false
    gone Two on = absurd (true≢false (sym on))
    gone (Four store device) on = refl

pub located_visible : (x : ExtentsState) (runs : List StoredRun) → (shape x).apart ≡ true → AreVisibleLocated x runs → AreLocatedBy x runs
located_visible x runs rule all = record { whole = λ stand. absurd (true≢false (sym stand ∙ hidden_gone x rule)); visible = λ gone. all }

-- by either rule visible entries name what is there
pub visible_by : (x : ExtentsState) (runs : List StoredRun) → AreLocatedBy x runs → AreVisibleLocated x runs
visible_by x runs all = elim (cases_Bool (shape x).hidden_stand) [ inl stand ↦ visible_of x runs (all.whole stand) | inr gone ↦ all.visible gone ]

-- the extents on which located runs lie are there
pub runs_there : (x : ExtentsState) (i : IndexState) (runs : List StoredRun) (format : Format) (limit : ℕ) → i ≡ index_at (newest_first runs) format limit → AllByRecursion (λ run. IsLocated x run.place) runs
    → AllByRecursion (λ (run : Run). run.place.extent < (shape x).extents) i.runs
runs_there x i runs format limit is all = subst (λ (j : IndexState). AllByRecursion (λ (run : Run). run.place.extent < (shape x).extents) j.runs) (sym is)
    (all_newest (λ (run : Run). run.place.extent < (shape x).extents) runs (go runs all))
  where
    go : (rs : List StoredRun) → AllByRecursion (λ run. IsLocated x run.place) rs → AllByRecursion (λ run. (run_of run).place.extent < (shape x).extents) rs
    go [] each = tt
    go (run ∷ rs) each = (each.0.extent, go rs each.1)

-- what an index of runs has is what is visible of the runs
module _ (x : ExtentsState) (i : IndexState) (runs : List StoredRun) (format : Format) (limit : ℕ) (is : i ≡ index_at (newest_first runs) format limit) where
  pub live_visible : AreLiveLocated x (index_of i) → AreVisibleLocated x runs
  live_visible live = subst (λ (j : IndexState). AreLiveLocated x (index_of j)) is live

  pub visible_live : AreVisibleLocated x runs → AreLiveLocated x (index_of i)
  visible_live all = subst (λ (j : IndexState). AreLiveLocated x (index_of j)) (sym is) all
