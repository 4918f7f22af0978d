use Rattle.std.proofs.Common.{arith}
use Rattle.cs_extent.specs.Kinds.{is_of_runs}
use Rattle.cs_extent.specs.Planned.{after_planned, holds}
use Rattle.cs_extent.specs.State.{extents_of}
use Rattle.cs_extent.proofs.Placing.{count_next, held_same, one_at_most}
use Rattle.cs_extent.proofs.extents.Extents.count_after.Goals as goal

pub loop-e-preserved : goal.loop-e-preserved
loop-e-preserved c = record {
  counted = count_next (holds (after_planned (extents_of c.args.self.now) c.args.planned.now) (is_of_runs c.args.kind)) c.loop-e.e c.loop-e.count c.one_where-count.result c.is_held.result
      (held_same (after_planned (extents_of c.args.self.now) c.args.planned.now) (is_of_runs c.args.kind) c.loop-e.e c.is_held.result c.is_held.ensures) c.one_where-count.ensures c.loop-e.invariant.counted;
  within = omega (arith, c.loop-e.invariant.within, one_at_most c.is_held.result, c.one_where-count.ensures);
}
