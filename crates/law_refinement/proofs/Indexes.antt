-- What is asked of an index, where in another the same is looked up.
use Rattle.std.proofs.Common.{◌≡◌, ◌≢◌, ◌↔◌, ℕ, ◌+◌, ◌-◌, List, [], ◌∷◌, ◌++◌, ◌==◌, length, Option, Some, None, if◌then◌else◌, refl, sym, ap, ◌∙◌, subst}
use Rattle.cs_index.proofs.Names.{names_of_lookups}
use Rattle.cs_index.specs.State.{IsSet, State as IndexState, index_of}
use Rattle.law_machine.proofs.Counting.{lookup_here}
use Rattle.law_machine.proofs.Gives.{lookup_append}
use Rattle.law_machine.proofs.Weights.{weight_alike}
use Rattle.law_machine.specs.Device.{Page, Shape}
use Rattle.law_machine.specs.Element.{Content, Entry, Locator, Opening, Run}
use Rattle.law_machine.specs.Events.{newest_page}
use Rattle.law_machine.specs.Formats.{Formats}
use Rattle.law_machine.specs.Index.{FirstLive, IsMergedRun, IsTableRun, NothingLive, Value, entries_of, if_live, live, live_at, lookup, named_weight, names, weight, weight_with}
use Rattle.law_machine.specs.Lists.{nth, ◌∈◌}
use Rattle.law_machine.specs.Sound.{Sound}
use Rattle.law_machine.specs.State.{State, index_now, map_now}
use Rattle.law_refinement.specs.Parts.{IsIndexOf}

-- ---- two lists in which the same is looked up

module _ (xs ys : List Entry) (same : (id : ℕ) → lookup id xs ≡ lookup id ys) where
  pub live_same : (id : ℕ) → live_at xs id ≡ live_at ys id
  live_same id = ap live (same id)

  pub none_too : xs ≡ [] → ys ≡ []
  none_too none = go ys (λ id. sym (same id) ∙ ap (lookup id) none)
    where
      go : (zs : List Entry) → ((id : ℕ) → lookup id zs ≡ None) → zs ≡ []
      go [] nothing = refl
      go (z ∷ zs) nothing = absurd (let e : Some z.locators ≡ None = sym (lookup_here z zs z.id refl) ∙ nothing z.id in cc)

  pub table_run : (es : List Entry) → IsTableRun xs es → IsTableRun ys es
  table_run es run = (run.0, λ id. run.1 id ∙ same id)

  pub merged_run : (es : List Entry) → IsMergedRun xs es → IsMergedRun ys es
  merged_run es run = (run.0, λ id. run.1 id ∙ ap if_live (same id))

  pub first_live : (e id chunk : ℕ) (l : Locator) → FirstLive xs e id chunk l → FirstLive ys e id chunk l
  first_live e id chunk l found = record {
    there = ap (λ (ls : List Locator). nth ls chunk) (sym (live_same id)) ∙ found.there;
    on_it = found.on_it;
    first = λ d k x at on. found.first d k x (ap (λ (ls : List Locator). nth ls k) (live_same d) ∙ at) on;
  }

  pub nothing_live : (e : ℕ) → NothingLive xs e → NothingLive ys e
  nothing_live e nothing id l has = nothing id l (subst (λ (ls : List Locator). l ∈ ls) (sym (live_same id)) has)

-- ---- an index and the machine's

module _ (i : IndexState) (table : List Entry) (runs : List Run) (is : IsIndexOf i table runs) where
  pub looked_up : (id : ℕ) → lookup id (index_of i) ≡ lookup id (table ++ entries_of runs)
  looked_up id = lookup_append id i.table table (entries_of i.runs) (is.lookups id)
      ∙ ap (λ (rs : List Run). lookup id (table ++ entries_of rs)) is.same_runs

  pub as_many_named : names (index_of i) ≡ names (table ++ entries_of runs)
  as_many_named = names_of_lookups (index_of i) (table ++ entries_of runs) looked_up

  module _ (weigh : (chunks : ℕ) → ℕ) where
    pub as_heavy : named_weight weigh (index_of i) ≡ named_weight weigh (table ++ entries_of runs)
    as_heavy = weight_alike weigh (index_of i) (table ++ entries_of runs) looked_up

    pub as_heavy_with : (id chunks : ℕ) → weight_with weigh (index_of i) id chunks ≡ weight_with weigh (table ++ entries_of runs) id chunks
    as_heavy_with id chunks =
        ap (λ (n : ℕ). (n - weight weigh (lookup id (index_of i))) + weigh chunks) as_heavy
        ∙ ap (λ (o : Option (List Locator)). (named_weight weigh (table ++ entries_of runs) - weight weigh o) + weigh chunks) (looked_up id)

  pub some_table : i.table ≢ [] → table ≢ []
  some_table some = λ none. some (none_too table i.table (λ id. sym (is.lookups id)) none)

  pub some_table_here : table ≢ [] → i.table ≢ []
  some_table_here some = λ none. some (none_too i.table table is.lookups none)

  pub as_many_runs : length i.runs ≡ length runs
  as_many_runs = ap (λ (rs : List Run). length rs) is.same_runs

  -- an entry more in the machine's table is that identifier's in the index
  pub after_set : (id : ℕ) (ls : List Locator) (j : IndexState) → IsSet i id ls j → IsIndexOf j (record { id = id; locators = ls } ∷ table) runs
  after_set id ls j set = record {
    lookups = λ d. set.table d ∙ ap (λ (o : Option (List Locator)). if id == d then Some ls else o) (is.lookups d);
    same_runs = set.runs ∙ is.same_runs;
  }

-- ---- the map

module _ (S : Shape) (F : Formats) (opening : Opening) (img : ℕ → Page) (p g : ℕ → ℕ) where
  value_or_none : (o : Option (List Locator)) (v : Option Content) → Value S F opening img p g o v → (live o ≡ []) ↔ (v ≡ None)
  value_or_none None v value = (λ _. value, λ _. refl)
  value_or_none (Some []) v value = (λ _. value, λ _. refl)
  value_or_none (Some (l ∷ ls)) v value = (
    (λ none. absurd (let e : l ∷ ls ≡ [] = none in cc)),
    (λ none. absurd (let e : Some value.0 ≡ None = sym value.2 ∙ none in cc)),
  )

pub absent : (S : Shape) (F : Formats) (i : IndexState) (s : State) (id : ℕ) → Sound S F s → IsIndexOf i s.table s.runs
    → (live_at (index_of i) id ≡ []) ↔ (map_now s id ≡ None)
absent S F i s id sound is =
    let value = value_or_none S F s.opening (newest_page s) s.world.extents.pointer s.world.extents.generation
    (lookup id (index_now s)) (map_now s id) (sound.gives.values id) in
    let same : live_at (index_of i) id ≡ live_at (index_now s) id = ap live (looked_up i s.table s.runs is id) in
    (λ none. value.0 (sym same ∙ none), λ none. same ∙ value.1 none)
