use Rattle.std.proofs.Common.{◌≡◌, ◌∙◌, ◌++◌, [], ap, arith, map, subst, sym, List}
use Rattle.std.specs.List.{AllByRecursion}
use Rattle.cs_index.specs.declared.stored_runs.StoredRun.{StoredRun}
use Rattle.law_machine.specs.Geometry.{weigh_in}
use Rattle.law_machine.specs.Index.{entries_of, named_weight, names}
use Rattle.law_machine.specs.Tally.{shards}
use Rattle.cs_index.specs.Held.{AreCounts}
use Rattle.cs_index.specs.State.{IsId, IsStored, index_of, named_entry, newest_first, state_of}
use Rattle.cs_index.proofs.Living.{none_at_first}
use Rattle.cs_index.proofs.Marks.{loaded_keep, runs_keep}
use Rattle.cs_index.proofs.Tallies.{counts_back}
use Rattle.cs_index.proofs.Weights.{names_light}
use Rattle.cs_index.proofs.Whole.{Entries, empty_whole, loaded_names, no_ids, stored_runs}
use Rattle.cs_index.proofs.indexes.Index.load.Goals as goal
use Rattle.cs_index.proofs.indexes.Index.load.Goals.{After-deref-2, After-deref-3}

stored : (c : After-deref-2) → AllByRecursion IsStored (newest_first c.args.runs.items)
stored c =
    stored_runs c.args.format c.args.runs.items
    (subst (λ (runs : List StoredRun). AllByRecursion (λ run. AllByRecursion (λ entry. IsId entry.0) run.entries.items) runs) c.deref.ensures.value c.are_ids.ensures) c.requires.runs

pub count_newest-newest-requires-clause-readable : goal.count_newest-newest-requires-clause-readable
count_newest-newest-requires-clause-readable c = rw (c.deref-2.ensures.value) (record {
  ascending = tt;
  short = tt;
  stored = stored c;
  few = c.requires.few;
})

pub count_newest-newest-requires-clause-few : goal.count_newest-newest-requires-clause-few
count_newest-newest-requires-clause-few c = rw (c.deref-2.ensures.value) (omega (arith, loaded_names c.args.format c.args.runs.items c.requires.runs, c.requires.few))

pub count_living-living-requires-clause-readable : goal.count_living-living-requires-clause-readable
count_living-living-requires-clause-readable c = rw (c.deref-3.ensures.value) (record {
  ascending = tt;
  short = tt;
  stored = stored (goal.at.count_living-living-requires-clause-readable c).After-deref-2;
  few = c.requires.few;
})

-- what was counted is what the runs name and weigh
named_is : (c : After-deref-3) → c.count_newest-newest.result.named ≡ names (entries_of (newest_first c.args.runs.items))
named_is c = c.count_newest-newest.ensures.named ∙ ap (λ (runs : List StoredRun). names (entries_of (newest_first runs))) c.deref-2.ensures.value

weight_is : (c : After-deref-3) → c.count_newest-newest.result.weight ≡ named_weight (weigh_in c.args.format) (entries_of (newest_first c.args.runs.items))
weight_is c = c.count_newest-newest.ensures.weight ∙ ap (λ (runs : List StoredRun). named_weight (weigh_in c.args.format) (entries_of (newest_first runs))) c.deref-2.ensures.value

pub count_living-living-requires-clause-few : goal.count_living-living-requires-clause-few
count_living-living-requires-clause-few c =
    rw (c.deref-3.ensures.value) (omega (arith, weight_is (goal.at.count_living-living-requires-clause-few c).After-deref-3, names_light c.args.format (entries_of (newest_first c.args.runs.items)), c.requires.limit, c.if-limit-newest.false))

pub invariant_of-result : goal.invariant_of-result
invariant_of-result c =
    let at = (goal.at.invariant_of-result c).After-deref-3 in
    let all = empty_whole c.args.runs.items c.args.format c.args.limit c.count_newest-newest.result.named c.count_newest-newest.result.weight c.new.result.items c.new.ensures.items (stored (goal.at.invariant_of-result c).After-deref-2) c.requires.few
    (named_is at) (weight_is at) c.if-limit-newest.false
    (loaded_keep c.args.format c.args.runs.items c.requires.runs) (runs_keep c.args.format c.args.runs.items c.requires.places) in
    record {
      whole = all.0;
      ids = no_ids c.new.result.items c.new.ensures.items;
      count = all.1;
      weighs = all.2;
      lives = c.count_living-living.ensures.living
          ∙ ap (λ (runs : List StoredRun). shards (map named_entry [] ++ entries_of (newest_first runs))) c.deref-3.ensures.value
          ∙ ap (λ (xs : Entries). shards (map named_entry xs ++ entries_of (newest_first c.args.runs.items))) (sym c.new.ensures.items);
      counts = counts_back c.in_ok-on.on.len c.count_living-living.new.on _ (index_of (state_of c.new.result.items c.args.runs.items c.args.format c.args.limit 0)) (omega (arith, c.count_living-living.ensures.counts.0, c.in_ok-on.ensures.len))
          (subst (λ (xs : Entries). AreCounts c.count_living-living.new.on (map named_entry xs ++ entries_of (newest_first c.args.runs.items))) (sym c.new.ensures.items)
          (subst (λ (runs : List StoredRun). AreCounts c.count_living-living.new.on (map named_entry [] ++ entries_of (newest_first runs))) c.deref-3.ensures.value c.count_living-living.ensures.counts));
      small = c.requires.limit;
      fits = omega (arith, c.new.ensures.len);
      clear = none_at_first (index_of (state_of c.new.result.items c.args.runs.items c.args.format c.args.limit 0)) 0;
    }
