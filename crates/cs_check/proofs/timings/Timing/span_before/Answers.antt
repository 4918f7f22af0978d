use Rattle.std.proofs.Common.{◌+◌, arith}
use Rattle.cs_deps.specs.View.{pending_of}
use Rattle.cs_check.proofs.BeforeSteps.{plain_before, step_before, span_before}
use Rattle.cs_check.proofs.timings.Timing.span_before.Goals as goal

pub loop-step-preserved : goal.loop-step-preserved
loop-step-preserved c =
    let g = pending_of c.args.self.now.view.now in
    let w = c.is_before.ensures c.if-not-is_before.false in
    step_before g c.args.self.now.firsts.now c.args.span.first c.loop-step.step c.args.i (plain_before g c.requires.timed.listing c.args.self.now.firsts.now (c.args.span.first + c.loop-step.step) c.args.i w.0 w.1 w.2 w.3) c.loop-step.invariant

pub returns : goal.returns
returns c _ n inside = span_before (pending_of c.args.self.now.view.now) c.args.self.now.firsts.now c.args.span.first c.loop-step.step c.args.i c.loop-step.invariant n inside.0 (omega (arith, inside.0, inside.1))
