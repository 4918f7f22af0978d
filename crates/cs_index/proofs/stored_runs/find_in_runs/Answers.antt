use Rattle.std.proofs.Common.{◌≡◌, ◌-◌, ◌∙◌, ap, arith, get_or, length, map, sym}
use Rattle.cs_index.specs.declared.stored_runs.StoredRun.{StoredRun}
use Rattle.cs_frame.specs.Formats.{place_of}
use Rattle.cs_index.specs.State.{id_number}
use Rattle.cs_index.proofs.Newest.{ascending_at, find_on, find_some}
use Rattle.cs_index.proofs.stored_runs.find_in_runs.Goals as goal
use Rattle.cs_index.proofs.stored_runs.find_in_runs.Goals.{After-deref}

-- the entries that are searched are those of the run
entries_are : (c : After-deref) → c.deref.result.now ≡ (get_or c.args.runs.now (length c.args.runs.now - 1 - c.loop-k.k) c.index-runs-runs.result).entries.items
entries_are c = c.deref.ensures.value ∙ ap (λ (r : StoredRun). r.entries.items) c.index-runs-runs.is

pub find-requires : goal.find-requires
find-requires c =
    ascending_at c.args.runs.now (length c.args.runs.now - 1 - c.loop-k.k) c.index-runs-runs.result c.deref.result.now (omega (arith, c.loop-k-test.true)) (entries_are c) c.requires

pub returns-in-Some : goal.returns-in-Some
returns-in-Some c =
    find_some c.args.runs.now c.loop-k.k c.index-runs-runs.result (id_number c.args.id) c.deref.result.now (map place_of c.in-Some.locators.now) c.loop-k-test.true (entries_are (goal.at.returns-in-Some c).After-deref) c.loop-k.invariant c.in-Some.ensures

pub loop-k-preserved : goal.loop-k-preserved
loop-k-preserved c =
    find_on c.args.runs.now c.loop-k.k c.index-runs-runs.result (id_number c.args.id) c.deref.result.now c.loop-k-test.true (entries_are (goal.at.loop-k-preserved c).After-deref) c.loop-k.invariant (sym c.in_default.ensures)
