-- Runs are read one after another, and live identifiers are counted.
use Rattle.std.proofs.Common.{◌≡◌, ◌≢◌, ℕ, suc, ◌<◌, ◌≤◌, List, [], ◌∷◌, ◌++◌, length, map, take, Option, Some, None, length-append, refl, sym, ap, ◌∙◌, arith}
use Rattle.std.specs.Prelude.{◌↔◌, slice_get}
use Rattle.std.specs.List.{AllByRecursion}
use Rattle.std.proofs.lemmas.List.{map-append, take_all}
use Rattle.cs_extent.specs.State.{IsWhole, State as ExtentsState, extents_of, shape}
use Rattle.cs_frame.specs.declared.locators.Locator.{Locator}
use Rattle.cs_index.proofs.Sorted.{all_append, take_at_get}
use Rattle.cs_index.specs.declared.stored_runs.StoredRun.{StoredRun}
use Rattle.law_machine.specs.Device.{Page, Shape}
use Rattle.law_machine.specs.Element.{Content, Locator as Place, Map, Opening}
use Rattle.law_machine.specs.Formats.{Formats, opening_in}
use Rattle.law_machine.specs.Index.{Value, entries_of, live, live_at, lookup}
use Rattle.law_machine.specs.Recovery.{Recovers}
use Rattle.cs_reader.specs.Counts.{HasCount}
use Rattle.cs_reader.specs.ImageReads.{AreRunsRead, IsLocated, IsRunRead}

module _ (x : ExtentsState) (view : ℕ → List ℕ) (places : List Locator) where
  pub none_read : AreRunsRead x view places []
  none_read = record { listed = refl; each = tt }

  pub next_read : (runs : List StoredRun) (run : StoredRun) → AreRunsRead x view places runs → slice_get places (length runs) ≡ Some run.place
      → IsRunRead x view run → AreRunsRead x view places (runs ++ run ∷ [])
  next_read runs run read at is = record {
    listed = map-append (λ (r : StoredRun). r.place) runs (run ∷ [])
        ∙ ap (λ (ls : List Locator). ls ++ run.place ∷ []) read.listed
        ∙ sym (take_at_get places (length runs) run.place at)
        ∙ ap (λ (n : ℕ). take n places) (let more : suc (length runs) ≡ length (runs ++ run ∷ []) = omega (arith, length-append runs (run ∷ [])) in more);
    each = all_append (IsRunRead x view) runs (run ∷ []) read.each (is, tt);
  }

  pub all_read : (runs : List StoredRun) → AreRunsRead x view places runs → length runs ≡ length places
      → (map (λ run. run.place) runs ≡ places) × AllByRecursion (IsRunRead x view) runs
  all_read runs read same = (read.listed ∙ take_all (length runs) places (omega (arith, same)), read.each)

pub place_inside : (x : ExtentsState) (place : Locator) → IsWhole x → IsLocated x place
    → (place.extent < (shape x).extents) × (place.page < (shape x).pages)
place_inside x place whole is =
    (is.extent, (let low : (extents_of x).pointer place.extent ≤ x.pages = whole.pointers place.extent in let lt : place.page < (extents_of x).pointer place.extent = is.page in omega arith))

-- ---- live identifiers

module _ (S : Shape) (F : Formats) (img : ℕ → Page) (n : ℕ) (m : Map) (found : Recovers S F img n m) where
  abbrev opening : Opening
  opening = opening_in S F img found.pointers found.generations

  by_value : (o : Option (List Place)) (v : Option Content) → Value S F opening img found.pointers found.generations o v → (live o ≡ []) ↔ (v ≡ None)
  by_value None v is = ((λ e. is), (λ e. refl))
  by_value (Some []) v is = ((λ e. is), (λ e. refl))
  by_value (Some (l ∷ ls)) v is = (
    (λ e. absurd (let wrong : l ∷ ls ≡ [] = e in cc)),
    (λ e. absurd (let wrong : Some is.0 ≡ None = sym is.2 ∙ e in cc)),
  )

  pub live_each : (id : ℕ) → (live_at (entries_of found.runs) id ≡ []) ↔ (m id ≡ None)
  live_each id = by_value (lookup id (entries_of found.runs)) (m id) (found.gives.values id)

  counted : (P Q : ℕ → Type 0) → ((id : ℕ) → P id ↔ Q id) → (count : ℕ) → HasCount P count → HasCount Q count
  counted P Q same count is = (
    is.0,
    record {
      rising = is.1.rising;
      exact = λ id. ((λ has. (same id).0 ((is.1.exact id).0 has)), (λ q. (is.1.exact id).1 ((same id).1 q)));
    },
    is.2,
  )

  pub live_count : (count : ℕ) → HasCount (λ id. live_at (entries_of found.runs) id ≢ []) count ↔ HasCount (λ id. m id ≢ None) count
  live_count count = (
    counted (λ id. live_at (entries_of found.runs) id ≢ []) (λ id. m id ≢ None)
        (λ id. ((λ some none. some ((live_each id).1 none)), (λ some none. some ((live_each id).0 none)))) count,
    counted (λ id. m id ≢ None) (λ id. live_at (entries_of found.runs) id ≢ [])
        (λ id. ((λ some none. some ((live_each id).0 none)), (λ some none. some ((live_each id).1 none)))) count,
  )
