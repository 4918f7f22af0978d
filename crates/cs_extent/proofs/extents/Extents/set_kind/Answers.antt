use Rattle.std.proofs.Common.{arith}
use Rattle.cs_extent.specs.Kinds.{is_of_runs}
use Rattle.cs_extent.specs.State.{State}
use Rattle.cs_extent.specs.contracts.extents.Extents.{the_view}
use Rattle.cs_extent.proofs.Noting.{kind_set}
use Rattle.cs_extent.proofs.extents.Extents.set_kind.Goals as goal

pub returns-clause-extents : goal.returns-clause-extents
returns-clause-extents c =
    let s : State = the_view c.self.inside in
    let inside = rw (← c.self.view_is) at c.requires in
    rw (← c.self.view_is) (kind_set s c.args.extent c.is_of_runs.result (is_of_runs c.args.kind) (omega (arith, inside, c.self.invariant.whole.all_kinds)) c.is_of_runs.ensures)
