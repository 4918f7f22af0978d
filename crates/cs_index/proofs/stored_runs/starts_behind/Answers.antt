use Rattle.std.proofs.Common.{◌≡◌, ◌∙◌, ◌<◌, ap, arith, get_or, length, refl}
use Rattle.std.proofs.lemmas.List.{length-set}
use Rattle.cs_index.specs.declared.stored_runs.StoredRun.{StoredRun}
use Rattle.cs_index.specs.State.{id_number}
use Rattle.cs_index.proofs.Merging.{moved_on}
use Rattle.cs_index.proofs.Newest.{ascending_at}
use Rattle.cs_index.proofs.Sorted.{inside_at}
use Rattle.cs_index.proofs.stored_runs.starts_behind.Goals as goal
use Rattle.cs_index.proofs.stored_runs.starts_behind.Goals.{After-deref}

entries_are : (c : After-deref) → c.deref.result.now ≡ (get_or c.args.runs.now c.loop-k.k c.index-runs-k.result).entries.items
entries_are c = c.deref.ensures.value ∙ ap (λ (r : StoredRun). r.entries.items) c.index-runs-k.is

pub loop-k-init : goal.loop-k-init
loop-k-init c = record { count = refl; begun = λ j run at lt. absurd (omega (arith, lt)) }

pub start_behind-requires : goal.start_behind-requires
start_behind-requires c =
    ascending_at c.args.runs.now c.loop-k.k c.index-runs-k.result c.deref.result.now c.loop-k-test.true (entries_are (goal.at.start_behind-requires c).After-deref) c.requires.stored

pub loop-k-preserved : goal.loop-k-preserved
loop-k-preserved c =
    let are = entries_are (goal.at.loop-k-preserved c).After-deref in
    let inside : c.loop-k.k < length c.loop-k.starts = omega (arith, c.loop-k.invariant.count, c.loop-k-test.true, c.requires.few) in
    record {
      count = length-set c.loop-k.starts c.loop-k.k c.start_behind.result ∙ c.loop-k.invariant.count;
      begun = moved_on c.args.runs.now c.loop-k.starts c.loop-k.k (id_number c.args.id) c.start_behind.result c.index-runs-k.result c.deref.result.now c.loop-k-test.true inside are c.loop-k.invariant.begun c.start_behind.ensures;
    }

pub returns : goal.returns
returns c = λ k run at. c.loop-k.invariant.begun k run at (let lt : k < length c.args.runs.now = inside_at c.args.runs.now k run at in omega (arith, c.loop-k-test.false, lt))
