use Rattle.std.proofs.Common.{inr, subst}
use Rattle.cs_core.specs.Views.{View}
use Rattle.cs_node.specs.Streams.{IsNext}
use Rattle.cs_node.proofs.locked.Engine.stream.Goals as goal

pub returns-in-Ok : goal.returns-in-Ok
returns-in-Ok g c =
    let due = subst (λ (v : View g.row.D.Denot). IsNext v.store c.in-Some.event) c.core.ensures.core c.in-Some.ensures in
    record { turn = inr (c.in-Some.event, _, c.step_of.ensures, due, c.in-Ok.ensures.step, c.in-Ok.ensures.done) }

pub returns : goal.returns
returns g c =
    let due = subst (λ (v : View g.row.D.Denot). IsNext v.store c.in-Some.event) c.core.ensures.core c.in-Some.ensures in
    record { turn = (c.in-Some.event, due, c.in-Err.ensures.refused) }
