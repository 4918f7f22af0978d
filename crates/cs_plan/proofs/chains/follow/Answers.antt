use Rattle.cs_plan.specs.Queues.{backwards}
use Rattle.cs_plan.proofs.Queued.{followed_none, followed_more, backwards_push}
use Rattle.cs_plan.proofs.chains.follow.Goals as goal

pub loop-init : goal.loop-init
loop-init c = rw c.new-made.ensures.items (followed_none c.args.graph.now.staging.pending c.args.end c.args.height c.requires.height)

pub loop-preserved : goal.loop-preserved
loop-preserved c =
    let g = c.args.graph.now.staging.pending in
    rw (c.in_ok-push.ensures.items, backwards_push c.loop.made.items c.loop.element) (followed_more g c.args.end c.args.height c.loop.counter c.loop.element c.earlier-element.result (backwards c.loop.made.items) c.loop-test.true c.earlier-element.ensures c.loop.invariant)
