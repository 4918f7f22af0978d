use Rattle.std.proofs.Common.{arith}
use Rattle.law_machine.specs.Extents.{Takes}
use Rattle.law_machine.proofs.Places.{takes_behind}
use Rattle.cs_extent.specs.Purposes.{reason_of}
use Rattle.cs_extent.specs.Planned.{after_planned}
use Rattle.cs_extent.specs.State.{extents_of, shape}
use Rattle.cs_extent.proofs.Placing.{below_next}
use Rattle.cs_extent.proofs.extents.Extents.first_taking.Goals as goal

pub loop-e-preserved : goal.loop-e-preserved
loop-e-preserved c =
    below_next (λ d. Takes (shape c.args.self.now) (after_planned (extents_of c.args.self.now) c.args.planned.now) (reason_of c.args.purpose) c.args.pages d → ⊥)
    c.loop-e.e c.loop-e.invariant (λ t. absurd (cc (c.if-takes.false, c.takes.ensures.1 t)))

pub returns : goal.returns
returns c = λ d t.
    let there = takes_behind (shape c.args.self.now) (after_planned (extents_of c.args.self.now) c.args.planned.now) (reason_of c.args.purpose) c.args.pages d t in
    c.loop-e.invariant d (omega (arith, there.0, c.loop-e-test.false, c.extent_count-e-end.ensures.count)) t
