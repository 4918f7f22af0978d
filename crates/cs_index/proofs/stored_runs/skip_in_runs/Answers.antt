use Rattle.std.proofs.Common.{◌≡◌, ◌∙◌, ◌<◌, ap, arith, get_or, length, subst, sym, map, List}
use Rattle.std.proofs.lemmas.List.{length-set}
use Rattle.std.proofs.lemmas.Option.{slice_get-get_or}
use Rattle.cs_frame.specs.declared.identifiers.ShardId.{ShardId}
use Rattle.cs_frame.specs.Places.{Listed}
use Rattle.cs_index.specs.declared.stored_runs.StoredRun.{StoredRun}
use Rattle.cs_index.specs.Sorted.{IsPlace}
use Rattle.cs_index.specs.State.{id_number, named_entry}
use Rattle.cs_index.proofs.Merging.{moved_on, still_there}
use Rattle.cs_index.proofs.Newest.{ascending_at}
use Rattle.cs_index.proofs.Sorted.{inside_at}
use Rattle.cs_index.proofs.stored_runs.skip_in_runs.Goals as goal
use Rattle.cs_index.proofs.stored_runs.skip_in_runs.Goals.{After-deref}

entries_are : (c : After-deref) → c.deref.result.now ≡ (get_or c.args.runs.now c.loop-k.k c.index-runs-k.result).entries.items
entries_are c = c.deref.ensures.value ∙ ap (λ (r : StoredRun). r.entries.items) c.index-runs-k.is

pub loop-k-init : goal.loop-k-init
loop-k-init c = record { count = c.told-places; moved = λ j run at lt. absurd (omega arith); still = λ j run at le. c.requires.places j run at }

pub skip-requires-clause-ascending : goal.skip-requires-clause-ascending
skip-requires-clause-ascending c =
    ascending_at c.args.runs.now c.loop-k.k c.index-runs-k.result c.deref.result.now c.loop-k-test.true (entries_are (goal.at.skip-requires-clause-ascending c).After-deref) c.requires.stored

pub skip-requires-clause-place : goal.skip-requires-clause-place
skip-requires-clause-place c =
    subst (λ (es : List (ShardId × Listed)). IsPlace (id_number c.args.id) (get_or c.loop-k.places c.loop-k.k 0) (map named_entry es)) (sym (entries_are (goal.at.skip-requires-clause-place c).After-deref))
    (c.loop-k.invariant.still c.loop-k.k (get_or c.args.runs.now c.loop-k.k c.index-runs-k.result) (slice_get-get_or c.args.runs.now c.loop-k.k c.index-runs-k.result c.loop-k-test.true) (omega arith))

pub loop-k-preserved : goal.loop-k-preserved
loop-k-preserved c =
    let are = entries_are (goal.at.loop-k-preserved c).After-deref in
    let inside : c.loop-k.k < length c.loop-k.places = omega (arith, c.loop-k.invariant.count, c.loop-k-test.true, c.requires.few) in
    record {
      count = length-set c.loop-k.places c.loop-k.k c.skip.result ∙ c.loop-k.invariant.count;
      moved = moved_on c.args.runs.now c.loop-k.places c.loop-k.k (id_number c.args.id) c.skip.result c.index-runs-k.result c.deref.result.now c.loop-k-test.true inside are c.loop-k.invariant.moved c.skip.ensures;
      still = still_there c.args.runs.now c.loop-k.places c.loop-k.k (id_number c.args.id) c.skip.result c.index-runs-k.result c.deref.result.now c.loop-k-test.true inside are c.loop-k.invariant.still;
    }

pub returns : goal.returns
returns c = λ k run at. c.loop-k.invariant.moved k run at (let lt : k < length c.args.runs.now = inside_at c.args.runs.now k run at in omega (arith, c.loop-k-test.false))
