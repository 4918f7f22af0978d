use Rattle.std.proofs.Common.{arith, slice_index}
use Rattle.cs_core.proofs.RootSteps.{none_gone, one_gone}
use Rattle.cs_core.proofs.rounds.let_go.Goals as goal

pub loop-init : goal.loop-init
loop-init c = none_gone (slice_index c.args.graph.now.staging.pending.persistent 1) c.args.roots.now.items _ c.requires.some c.requires.settled (omega arith)

pub loop-preserved : goal.loop-preserved
loop-preserved c = one_gone (slice_index c.args.graph.now.staging.pending.persistent 1) c.args.roots.now.items c.loop.roots.items _ c.loop.invariant c.index.result.now c.pop_front.new.self.items _ c.index.ensures (c.is_persistent.ensures.0 c.if-not-is_persistent.false) c.pop_front.ensures.rest (omega arith)
