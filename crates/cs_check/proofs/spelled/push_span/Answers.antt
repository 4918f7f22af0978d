use Rattle.std.proofs.Common.{arith}
use Rattle.cs_deps.specs.View.{pending_of}
use Rattle.cs_check.proofs.Spelling.{spells_next, spells_whole}
use Rattle.cs_check.proofs.spelled.push_span.Goals as goal

pub loop-step-preserved : goal.loop-step-preserved
loop-step-preserved c =
    let pushed = c.in_ok-pushed.ensures c.if-not-pushed.false in
    spells_next (pending_of c.args.view.now) c.args.span.first c.loop-step.step c.args.elements.now.items c.loop-step.elements.items c.push_write.new.elements.items pushed.0 pushed.1 c.loop-step.invariant

pub returns : goal.returns
returns c _ = spells_whole (pending_of c.args.view.now) c.args.span c.loop-step.step c.args.elements.now.items c.loop-step.elements.items (omega arith) (omega arith) c.loop-step.invariant
