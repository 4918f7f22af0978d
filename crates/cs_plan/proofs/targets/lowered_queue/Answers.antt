use Rattle.std.proofs.Common.{◌<◌, length, get_or, arith}
use Rattle.std.proofs.lemmas.Option.{slice_get-get_or}
use Rattle.cs_deps.specs.declared.elements.Element.{Element}
use Rattle.cs_deps.specs.declared.elements.Element.TheVariants.{Plain}
use Rattle.cs_plan.proofs.Lowered.{lowered_none, lowered_more}
use Rattle.cs_plan.proofs.targets.lowered_queue.Goals as goal

pub loop-k-init : goal.loop-k-init
loop-k-init c = rw c.new-round.ensures.items (lowered_none c.args.graph.now.staging.pending c.args.wanted.now c.args.height c.args.queue.now)

pub loop-k-preserved : goal.loop-k-preserved
loop-k-preserved c =
    let queue = c.args.queue.now in
    let x : Element = get_or queue c.loop-k.k (Plain 0) in
    let inside : c.loop-k.k < length queue = omega arith in
    lowered_more c.args.graph.now.staging.pending c.args.wanted.now c.args.height queue c.loop-k.k x c.loop-k.round.items c.add_wanted.new.round.items (slice_get-get_or queue c.loop-k.k (Plain 0) inside) c.in_ok-add_wanted.ensures c.loop-k.invariant
