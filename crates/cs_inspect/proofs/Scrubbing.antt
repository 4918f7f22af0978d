-- All of what a scrub goes through.
use Rattle.std.proofs.Common.{◌≡◌, ◌∙◌, ℕ, List, [], ◌∷◌, ◌++◌, length, map, refl, sym, ap, subst, arith}
use Rattle.std.specs.Prelude.{reverse}
use Rattle.std.proofs.lemmas.List.{length-map, length_push, reverse-append}
use Rattle.cs_core.specs.Stored.{AreInside}
use Rattle.cs_extent.specs.State.{State as ExtentsState, shape}
use Rattle.cs_frame.specs.declared.locators.Locator.{Locator}
use Rattle.cs_frame.specs.Formats.{place_of}
use Rattle.cs_index.specs.declared.stored_runs.StoredRun.{StoredRun}
use Rattle.cs_index.specs.State.{State as Index, index_of, newest_first, run_of}
use Rattle.law_machine.specs.Element.{Entry, Locator as Place, Run}
use Rattle.law_machine.specs.Formats.{places}
use Rattle.cs_inspect.specs.Chunks.{AreLiveChunks, Chunk}
use Rattle.cs_inspect.specs.declared.scrubs.Damage.{Damage}
use Rattle.cs_inspect.specs.declared.scrubs.Scrubbed.{Scrubbed}
use Rattle.cs_inspect.specs.Scrubs.{AreNamed, IsScrubbed, OfChunk, OfRun, frames_of}
use Rattle.cs_inspect.proofs.InsideScrubs.{in_live}
use Rattle.cs_inspect.proofs.Naming.{both_named}

-- ---- runs

places_append : (xs ys : List Run) → places (xs ++ ys) ≡ places xs ++ places ys
places_append [] ys = refl
places_append (x ∷ xs) ys = ap (λ (ls : List Place). x.place ∷ ls) (places_append xs ys)

-- where runs begin, from the oldest on
oldest_first : (runs : List StoredRun) → map place_of (map (λ run. run.place) runs) ≡ reverse (places (newest_first runs))
oldest_first [] = refl
oldest_first (run ∷ runs) =
    ap (λ (ls : List Place). place_of run.place ∷ ls) (oldest_first runs)
    ∙ sym (ap (λ (ls : List Place). reverse ls) (places_append (newest_first runs) (run_of run ∷ []))
    ∙ reverse-append (places (newest_first runs)) (place_of run.place ∷ []))

-- of the runs that an index has
pub run_places_are : (index held : Index) (stored : List StoredRun) (found slice : List Locator) → index ≡ record held { room = 0 } → newest_first stored ≡ held.runs
    → found ≡ map (λ run. run.place) stored → slice ≡ found → map place_of slice ≡ reverse (places index.runs)
run_places_are index held stored found slice same runs places_found sliced =
    ap (λ (ls : List Locator). map place_of ls) (sliced ∙ places_found) ∙ oldest_first stored
    ∙ ap (λ (rs : List Run). reverse (places rs)) (runs ∙ sym (ap (λ (x : Index). x.runs) same))

newest_first_length : (runs : List StoredRun) → length (newest_first runs) ≡ length runs
newest_first_length [] = refl
newest_first_length (run ∷ runs) = omega (arith, length_push (newest_first runs) (run_of run), newest_first_length runs)

-- and as many as there are
pub run_count : (index held : Index) (stored : List StoredRun) (found : List Locator) → index ≡ record held { room = 0 } → newest_first stored ≡ held.runs
    → found ≡ map (λ run. run.place) stored → length found ≡ length index.runs
run_count index held stored found same runs places_found =
    ap (λ (ls : List Locator). length ls) places_found ∙ length-map stored (λ run. run.place) ∙ sym (newest_first_length stored)
    ∙ ap (λ (rs : List Run). length rs) (runs ∙ sym (ap (λ (x : Index). x.runs) same))

-- ---- all of it

module _ (x : ExtentsState) (view : ℕ → List ℕ) (index held : Index) (same : index ≡ record held { room = 0 }) where
  same_entries : index_of index ≡ index_of held
  same_entries = ap (λ (i : Index). index_of i) same

  pub scrubbed : (chunks : List Chunk) (oldest : List Place) (ds es : List Damage) (found : Scrubbed) → AreLiveChunks (index_of held) chunks → AreInside (shape x) held → oldest ≡ reverse (places index.runs)
      → AreNamed x view (map OfChunk chunks) ds → AreNamed x view (map OfRun oldest) es → found.chunks ≡ length chunks → found.damages.items ≡ ds ++ es → IsScrubbed x view index found
  scrubbed chunks oldest ds es found live inside runs of_chunks of_runs count all = record {
    chunks = chunks;
    live = subst (λ (xs : List Entry). AreLiveChunks xs chunks) (sym same_entries) live;
    count = count;
    inside = λ c has. inside c.id c.place (in_live (index_of held) chunks live c has);
    named = subst (λ (xs : List Damage). AreNamed x view (frames_of chunks index.runs) xs) (sym all)
        (subst (λ (ps : List Place). AreNamed x view (map OfChunk chunks ++ map OfRun ps) (ds ++ es)) runs (both_named x view (map OfChunk chunks) (map OfRun oldest) ds es of_chunks of_runs));
  }
