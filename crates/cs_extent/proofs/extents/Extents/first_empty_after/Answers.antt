use Rattle.std.proofs.Common.{◌<◌, arith}
use Rattle.cs_extent.specs.Planned.{after_planned}
use Rattle.cs_extent.specs.State.{extents_of}
use Rattle.cs_extent.proofs.Placing.{below_next}
use Rattle.cs_extent.proofs.extents.Extents.first_empty_after.Goals as goal

pub loop-e-preserved : goal.loop-e-preserved
loop-e-preserved c =
    below_next (λ d. 0 < (after_planned (extents_of c.args.self.now) c.args.planned.now).pointer d)
    c.loop-e.e c.loop-e.invariant (omega (arith, c.pointer_after.ensures, c.if-pointer_after-eq0.false))

pub returns : goal.returns
returns c = λ d lt. c.loop-e.invariant d (omega (arith, lt, c.loop-e-test.false, c.extent_count-e-end.ensures.count))
