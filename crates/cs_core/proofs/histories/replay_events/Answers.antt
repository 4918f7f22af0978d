use Rattle.std.proofs.Common.{◌∙◌, arith}
use Rattle.cs_core.proofs.Replaying.{replayed_all, replayed_next}
use Rattle.cs_core.proofs.histories.replay_events.Goals as goal

pub loop-k-preserved : goal.loop-k-preserved
loop-k-preserved g = replayed_next g.args.events.now g.loop-k.k g.index-events-k.result g.loop-k.changes.items g.push_change.new.changes.items
    (omega (arith, g.loop-k-test.true, g.min-last.ensures)) g.index-events-k.is g.loop-k.invariant g.in_ok-push_change.ensures

pub returns : goal.returns
returns c = c.loop-k.invariant ∙ replayed_all c.args.events.now c.args.count c.loop-k.k (omega (arith, c.loop-k-test.false, c.loop-k.auto.k-end, c.min-last.ensures))
