use Rattle.std.proofs.Common.{◌∷◌, ◌++◌, drop, take, length, ◌≡◌, ◌≢◌, ◌⊎◌, ◌+◌, ◌-◌, ◌<◌, ◌≤◌, ◌∙◌, List, ℕ, ap, arith, le_of_eq, le_trans, map, sym, subst, MatchBool, None}
use Rattle.std.specs.Prelude.{Option, option_copied, option_map, slice_index}
use Rattle.std.proofs.lemmas.List.{length-map}
use Rattle.law_machine.specs.Geometry.{weigh_in}
use Rattle.law_machine.specs.Index.{live, live_at, lookup, named_weight, names, weight, weight_with}
use Rattle.law_machine.specs.Tally.{one_if_some, places_on, shards}
use Rattle.cs_frame.specs.Formats.{place_of}
use Rattle.cs_frame.specs.Locators.{KeepFormat}
use Rattle.cs_frame.specs.declared.locators.Locator.{Locator}
use Rattle.law_machine.specs.Element.{Entry, Locator as Place}
use Rattle.cs_index.specs.Held.{AreCounts}
use Rattle.cs_index.specs.Live.{NoneOn}
use Rattle.cs_index.specs.contracts.indexes.Index.{the_view}
use Rattle.cs_index.specs.State.{IsAfter, IsSet, State, id_number, index_of, newest_first, state_of}
use Rattle.cs_index.proofs.Living.{still_clear}
use Rattle.cs_index.proofs.Marks.{keep_places}
use Rattle.cs_index.proofs.Shards.{counted_no_more, lives_then, shards_few}
use Rattle.cs_index.specs.Sorted.{IsPut}
use Rattle.cs_index.specs.State.{named_entry}
use Rattle.cs_index.proofs.Tallies.{counts_as, counts_back, counts_in_front, back_is, last_counted, room_in_front, short_index}
use Rattle.cs_index.proofs.Weights.{names_few, names_light, weight_counted, weight_entered, weight_then}
use Rattle.cs_index.proofs.Whole.{Entries, enter_count, enter_set, enter_whole, last_in, readable}
use Rattle.cs_index.proofs.indexes.Index.enter.Goals as goal
use Rattle.cs_index.proofs.indexes.Index.enter.Goals.{After-count_after-self-inside}

-- the index before and after
abbrev before_put : After-count_after-self-inside → State
before_put c = the_view c.self.inside

abbrev after_put : After-count_after-self-inside → State
after_put c = state_of c.put.new.entries.items c.self.inside.runs.items c.self.inside.format c.self.inside.limit c.in-Ok.left

put_there : (c : After-count_after-self-inside) → IsPut (map named_entry c.self.inside.table.entries.items) (id_number c.args.id) (map place_of c.args.locators.items) (map named_entry c.put.new.entries.items)
put_there c = subst (λ (xs : Entries). IsPut (map named_entry xs) (id_number c.args.id) (map place_of c.args.locators.items) (map named_entry c.put.new.entries.items)) c.in_ok-reserve.ensures.items c.in-Ok.ensures.put

set_there : (c : After-count_after-self-inside) → IsSet (before_put c) (id_number c.args.id) (map place_of c.args.locators.items) (after_put c)
set_there c = enter_set c.self.inside.table.entries.items c.put.new.entries.items c.self.inside.runs.items c.self.inside.format c.self.inside.limit c.self.inside.room c.in-Ok.left (id_number c.args.id) (map place_of c.args.locators.items) (put_there c)

had : (c : After-count_after-self-inside) → option_map (map place_of) (option_copied c.last_of-last.result) ≡ lookup (id_number c.args.id) (index_of (before_put c))
had c =
    last_in c.deref.result.now c.self.inside.table.entries.items c.deref-2.result.now c.self.inside.runs.items (c.deref.ensures.value ∙ c.in_ok-reserve.ensures.items) c.deref-2.ensures.value (id_number c.args.id)
    (option_map (map place_of) (option_copied c.last_of-last.result)) c.last_of-last.ensures.last

lived : (c : After-count_after-self-inside) → c.standing_of-before.result.living ≡ one_if_some (live_at (index_of (before_put c)) (id_number c.args.id))
lived c = c.standing_of-before.ensures.lives ∙ ap (λ (o : Option (List Place)). one_if_some (live o)) (had c)

lives_now : (c : After-count_after-self-inside) → c.standing_of-now.result.living ≡ one_if_some (map place_of c.args.locators.items)
lives_now c = c.standing_of-now.ensures.lives ∙ ap (λ (ls : List Locator). one_if_some (map place_of ls)) c.as_slice.ensures.value

lives_there : (c : After-count_after-self-inside) → (c.self.inside.living - c.standing_of-before.result.living) + c.standing_of-now.result.living ≡ shards (index_of (after_put c))
lives_there c = lives_then (index_of (before_put c)) (index_of (after_put c)) (id_number c.args.id) (map place_of c.args.locators.items) (set_there c).index c.self.inside.living c.standing_of-before.result.living c.standing_of-now.result.living c.self.invariant.lives (lived c) (lives_now c)

limit_there : (c : After-count_after-self-inside) → weight_with (weigh_in c.self.inside.format) (index_of (before_put c)) (id_number c.args.id) (length (map place_of c.args.locators.items)) ≤ c.self.inside.limit
limit_there c =
    let limit = subst (λ (s : State). weight_with (weigh_in s.format) (index_of s) (id_number c.args.id) (length c.args.locators.items) ≤ s.limit) (sym c.self.view_is) c.requires.limit in
    subst (λ (n : ℕ). weight_with (weigh_in c.self.inside.format) (index_of (before_put c)) (id_number c.args.id) n ≤ c.self.inside.limit) (sym (length-map c.args.locators.items place_of)) limit

weight_there : (c : After-count_after-self-inside) → named_weight (weigh_in c.self.inside.format) (index_of (after_put c)) ≤ c.self.inside.limit
weight_there c =
    le_trans (le_of_eq (weight_entered (weigh_in c.self.inside.format) (index_of (before_put c)) (index_of (after_put c)) (id_number c.args.id) (map place_of c.args.locators.items) (set_there c).index)) (limit_there c)

few_there : (c : After-count_after-self-inside) → names (index_of (after_put c)) ≤ c.self.inside.limit
few_there c = le_trans (names_light c.self.inside.format (index_of (after_put c))) (weight_there c)

-- what it weighed, and what it weighs
weighed : (c : After-count_after-self-inside) → c.standing_of-before.result.weight ≡ weight (weigh_in c.self.inside.format) (lookup (id_number c.args.id) (index_of (before_put c)))
weighed c = c.standing_of-before.ensures.weighs ∙ ap (weight (weigh_in c.self.inside.format)) (had c)

weighs_now : (c : After-count_after-self-inside) → c.standing_of-now.result.weight ≡ weigh_in c.self.inside.format (length (map place_of c.args.locators.items))
weighs_now c = c.standing_of-now.ensures.weighs ∙ ap (λ (ls : List Locator). weigh_in c.self.inside.format (length (map place_of ls))) c.as_slice.ensures.value

weighs_there : (c : After-count_after-self-inside) → (c.self.inside.weight - c.standing_of-before.result.weight) + c.standing_of-now.result.weight ≡ named_weight (weigh_in c.self.inside.format) (index_of (after_put c))
weighs_there c =
    weight_then (weigh_in c.self.inside.format) (index_of (before_put c)) (index_of (after_put c)) (id_number c.args.id) (map place_of c.args.locators.items) (set_there c).index c.self.inside.weight c.standing_of-before.result.weight c.standing_of-now.result.weight
    c.self.invariant.weighs (weighed c) (weighs_now c)

pub standing_of-now-requires : goal.standing_of-now-requires
standing_of-now-requires c = omega (arith, ap (λ (ls : List Locator). length ls) c.as_slice.ensures.value, c.requires.short)

pub count_after-self-inside-requires : goal.count_after-self-inside-requires
count_after-self-inside-requires c = λ new. omega (arith, c.self.invariant.count, names_few (the_view c.self.inside) c.self.invariant.whole, c.self.invariant.small)

pub sum_after-self-inside-requires-clause-less : goal.sum_after-self-inside-requires-clause-less
sum_after-self-inside-requires-clause-less c =
    let at = (goal.at.sum_after-self-inside-requires-clause-less c).After-count_after-self-inside in
    counted_no_more (index_of (before_put at)) (index_of (after_put at)) (id_number c.args.id) (map place_of c.args.locators.items) (set_there at).index c.self.inside.living c.standing_of-before.result.living c.standing_of-now.result.living c.self.invariant.lives (lived at) (lives_now at)

pub sum_after-self-inside-requires-clause-fits : goal.sum_after-self-inside-requires-clause-fits
sum_after-self-inside-requires-clause-fits c =
    let at = (goal.at.sum_after-self-inside-requires-clause-fits c).After-count_after-self-inside in
    omega (arith, lives_there at, shards_few (index_of (after_put at)), few_there at, c.self.invariant.small)

pub sum_after-self-inside-requires-in-Ok-clause-less : goal.sum_after-self-inside-requires-in-Ok-clause-less
sum_after-self-inside-requires-in-Ok-clause-less c =
    let at = (goal.at.sum_after-self-inside-requires-in-Ok-clause-less c).After-count_after-self-inside in
    weight_counted (weigh_in c.self.inside.format) (index_of (before_put at)) (id_number c.args.id) c.self.inside.weight c.standing_of-before.result.weight c.self.invariant.weighs (weighed at)

pub sum_after-self-inside-requires-in-Ok-clause-fits : goal.sum_after-self-inside-requires-in-Ok-clause-fits
sum_after-self-inside-requires-in-Ok-clause-fits c =
    let at = (goal.at.sum_after-self-inside-requires-in-Ok-clause-fits c).After-count_after-self-inside in
    omega (arith, weighs_there at, weight_there at, c.self.invariant.small)

-- ---- how many chunks live on each extent

taken : (c : After-count_after-self-inside) → (e : ℕ) → e < length c.self.inside.on.items → slice_index c.take_last.new.on e + places_on e (live (option_map (map place_of) (option_copied c.last_of-last.result))) ≡ slice_index c.self.inside.on.items e
taken c =
    subst (λ (ns : List ℕ). (e : ℕ) → e < length ns → slice_index c.take_last.new.on e + places_on e (live (option_map (map place_of) (option_copied c.last_of-last.result))) ≡ slice_index ns e) c.deref_mut.ensures.value c.take_last.ensures.each

written_back : (c : After-count_after-self-inside) → take c.self.inside.on.len (c.take_last.new.on ++ drop (length c.take_last.new.on) c.self.inside.on.items) ≡ c.take_last.new.on
written_back c =
    back_is c.self.inside.on.len c.take_last.new.on _ (omega (arith, c.take_last.ensures.size, ap (λ (ns : List ℕ). length ns) c.deref_mut.ensures.value, c.self.inside.on.ok.0))

-- what was counted is the index with the entry in front
recounted : (c : After-count_after-self-inside) → AreCounts c.add_places.new.on (record { id = id_number c.args.id; locators = map place_of c.args.locators.items } ∷ index_of (the_view c.self.inside))
recounted c =
    counts_in_front c.self.inside.on.items c.take_last.new.on (index_of (the_view c.self.inside)) (record { id = id_number c.args.id; locators = map place_of c.args.locators.items }) (option_map (map place_of) (option_copied c.last_of-last.result))
    c.self.invariant.counts (had c) (c.take_last.ensures.size ∙ ap (λ (ns : List ℕ). length ns) c.deref_mut.ensures.value) (taken c) c.add_places.new.on
    (c.add_places.ensures.size ∙ ap (λ (ns : List ℕ). length ns) (c.deref_mut-2.ensures.value ∙ written_back c))
    (subst (λ (ls : List Locator). (e : ℕ) → e < length c.take_last.new.on → slice_index c.add_places.new.on e ≡ slice_index c.take_last.new.on e + places_on e (map place_of ls)) c.as_slice-3.ensures.value
    (subst (λ (ns : List ℕ). (e : ℕ) → e < length ns → slice_index c.add_places.new.on e ≡ slice_index ns e + places_on e (map place_of c.as_slice-3.result.now)) (c.deref_mut-2.ensures.value ∙ written_back c) c.add_places.ensures.each))

pub take_last-requires : goal.take_last-requires
take_last-requires c =
    rw (c.deref_mut.ensures.value) (last_counted c.self.inside.on.items (index_of (the_view c.self.inside)) (id_number c.args.id) (option_map (map place_of) (option_copied c.last_of-last.result)) c.self.invariant.counts
    (last_in c.deref.result.now c.self.inside.table.entries.items c.deref-2.result.now c.self.inside.runs.items (c.deref.ensures.value ∙ c.in_ok-reserve.ensures.items) c.deref-2.ensures.value (id_number c.args.id)
    (option_map (map place_of) (option_copied c.last_of-last.result)) c.last_of-last.ensures.last))

pub add_places-requires : goal.add_places-requires
add_places-requires c =
    let i = c.self.inside in
    let x : Entry = record { id = id_number c.args.id; locators = map place_of c.args.locators.items } in
    let o : Option (List Place) = option_map (map place_of) (option_copied c.last_of-last.result) in
    let last : o ≡ lookup (id_number c.args.id) (index_of (the_view i)) =
    last_in c.deref.result.now i.table.entries.items c.deref-2.result.now i.runs.items (c.deref.ensures.value ∙ c.in_ok-reserve.ensures.items) c.deref-2.ensures.value (id_number c.args.id) o c.last_of-last.ensures.last in
    let took = subst (λ (ns : List ℕ). (e : ℕ) → e < length ns → slice_index c.take_last.new.on e + places_on e (live (option_map (map place_of) (option_copied c.last_of-last.result))) ≡ slice_index ns e) c.deref_mut.ensures.value c.take_last.ensures.each in
    let limit = subst (λ (s : State). weight_with (weigh_in s.format) (index_of s) (id_number c.args.id) (length c.args.locators.items) ≤ s.limit) (sym c.self.view_is) c.requires.limit in
    let light : weight_with (weigh_in i.format) (index_of (the_view i)) (id_number c.args.id) (length (map place_of c.args.locators.items)) ≤ i.limit =
    subst (λ (n : ℕ). weight_with (weigh_in i.format) (index_of (the_view i)) (id_number c.args.id) n ≤ i.limit) (sym (length-map c.args.locators.items place_of)) limit in
    let few : names (x ∷ index_of (the_view i)) ≤ i.limit = le_trans (names_light i.format (x ∷ index_of (the_view i))) light in
    let back : take i.on.len (c.take_last.new.on ++ drop (length c.take_last.new.on) i.on.items) ≡ c.take_last.new.on =
    back_is i.on.len c.take_last.new.on _ (omega (arith, c.take_last.ensures.size, ap (λ (ns : List ℕ). length ns) c.deref_mut.ensures.value, i.on.ok.0)) in
    rw (c.deref_mut-2.ensures.value ∙ back) (rw (c.as_slice-3.ensures.value) (room_in_front i.on.items c.take_last.new.on (index_of (the_view i)) x o c.self.invariant.counts last
    (c.take_last.ensures.size ∙ ap (λ (ns : List ℕ). length ns) c.deref_mut.ensures.value) took (short_index (map named_entry i.table.entries.items) (newest_first i.runs.items) c.self.invariant.whole.short c.self.invariant.whole.runs)
    (omega (arith, length-map c.args.locators.items place_of, c.requires.short)) (omega (arith, few, c.self.invariant.small))))

pub last_of-last-requires : goal.last_of-last-requires
last_of-last-requires c =
    readable c.deref.result.now c.self.inside.table.entries.items c.deref-2.result.now c.self.inside.runs.items (c.deref.ensures.value ∙ c.in_ok-reserve.ensures.items) c.deref-2.ensures.value
    c.self.inside.format c.self.inside.limit c.self.inside.room c.self.invariant.whole

pub invariant_of-self-in-Ok : goal.invariant_of-self-in-Ok
invariant_of-self-in-Ok c =
    let i = c.self.inside in
    let keep = keep_places i.format c.args.locators.items (subst (λ (s : State). KeepFormat s.format c.args.locators.items) (sym c.self.view_is) c.requires.marks) in
    let known = subst (λ (o : Option (List Place)). MatchBool c.standing_of-before.result.known (o ≢ None) (o ≡ None)) (had (goal.at.invariant_of-self-in-Ok c).After-count_after-self-inside) c.standing_of-before.ensures.known in
    record {
      whole = enter_whole i.table.entries.items c.put.new.entries.items i.runs.items i.format i.limit i.room c.in-Ok.left (id_number c.args.id) (map place_of c.args.locators.items)
          (subst (λ (xs : Entries). IsPut (map named_entry xs) (id_number c.args.id) (map place_of c.args.locators.items) (map named_entry c.put.new.entries.items)) c.in_ok-reserve.ensures.items c.in-Ok.ensures.put) (omega (arith, length-map c.args.locators.items place_of, c.requires.short)) keep (limit_there (goal.at.invariant_of-self-in-Ok c).After-count_after-self-inside) c.self.invariant.whole;
      ids = c.in-Ok.ensures.ids;
      count = enter_count i.table.entries.items c.put.new.entries.items i.runs.items i.format i.limit i.room c.in-Ok.left (id_number c.args.id) i.named c.count_after-self-inside.result (map place_of c.args.locators.items) c.standing_of-before.result.known
          (subst (λ (xs : Entries). IsPut (map named_entry xs) (id_number c.args.id) (map place_of c.args.locators.items) (map named_entry c.put.new.entries.items)) c.in_ok-reserve.ensures.items c.in-Ok.ensures.put) c.self.invariant.count known c.count_after-self-inside.ensures;
      lives = c.sum_after-self-inside.ensures ∙ lives_there (goal.at.invariant_of-self-in-Ok c).After-count_after-self-inside;
      weighs = c.sum_after-self-inside-in-Ok.ensures ∙ weighs_there (goal.at.invariant_of-self-in-Ok c).After-count_after-self-inside;
      counts = counts_back i.on.len c.add_places.new.on _ (index_of (after_put (goal.at.invariant_of-self-in-Ok c).After-count_after-self-inside)) (omega (arith, c.add_places.ensures.size, c.take_last.ensures.size, c.self.invariant.counts.0, i.on.ok.0))
          (counts_as c.add_places.new.on (record { id = id_number c.args.id; locators = map place_of c.args.locators.items } ∷ index_of (the_view c.self.inside)) (index_of (after_put (goal.at.invariant_of-self-in-Ok c).After-count_after-self-inside))
          (λ d. ap live ((set_there (goal.at.invariant_of-self-in-Ok c).After-count_after-self-inside).index d))
          (recounted (goal.at.invariant_of-self-in-Ok c).After-count_after-self-inside));
      small = c.self.invariant.small;
      fits = c.in-Ok.ensures.fits;
      clear = still_clear (index_of (state_of i.table.entries.items i.runs.items i.format i.limit i.room)) (index_of (state_of c.put.new.entries.items i.runs.items i.format i.limit c.in-Ok.left)) (id_number c.args.id) (map place_of c.args.locators.items)
          (enter_set i.table.entries.items c.put.new.entries.items i.runs.items i.format i.limit i.room c.in-Ok.left (id_number c.args.id) (map place_of c.args.locators.items) (subst (λ (xs : Entries). IsPut (map named_entry xs) (id_number c.args.id) (map place_of c.args.locators.items) (map named_entry c.put.new.entries.items)) c.in_ok-reserve.ensures.items c.in-Ok.ensures.put)).index
          i.cleared c.still_cleared-cleared.result
          (subst (λ (ls : List Locator). ((c.still_cleared-cleared.result ≡ i.cleared) × (IsAfter (option_map id_number i.cleared.up_to) (id_number c.args.id) ⊎ NoneOn (map place_of ls) i.cleared.extent)) ⊎ (c.still_cleared-cleared.result.up_to ≡ None))
          c.as_slice-2.ensures.value c.still_cleared-cleared.ensures)
          c.self.invariant.clear;
    }

pub returns-clause-entered : goal.returns-clause-entered
returns-clause-entered c =
    let i = c.self.inside in
    rw (← c.self.view_is) (enter_set i.table.entries.items c.put.new.entries.items i.runs.items i.format i.limit i.room c.in-Ok.left (id_number c.args.id) (map place_of c.args.locators.items) (subst (λ (xs : Entries). IsPut (map named_entry xs) (id_number c.args.id) (map place_of c.args.locators.items) (map named_entry c.put.new.entries.items)) c.in_ok-reserve.ensures.items c.in-Ok.ensures.put))
