use Rattle.std.proofs.Common.{rules, Err, ap}
use Rattle.cs_core.specs.contracts.stores.Store.{the_view}
use Rattle.cs_core.specs.Stored.{but_for_room}
use Rattle.cs_core.proofs.Members.{none_of, not_out, some_of}
use Rattle.cs_core.proofs.RoundSteps.{begin_copied, begin_declines, begin_nothing, begin_stays}
use Rattle.cs_core.proofs.stores.Store.begin.Goals as goal

pub returns-in-Err-clause-step : goal.returns-in-Err-clause-step
returns-in-Err-clause-step c = rw (← c.self.view_is) (λ runs.
    let e = c.in-Err.ensures in
    begin_declines (the_view c.self.inside) c.extent_count.ensures.whole runs c.in-Err.refusal (λ r. e.in_flight.0 (ap Err r)) e.refusals)

pub returns-then-is_empty-clause-step : goal.returns-then-is_empty-clause-step
returns-then-is_empty-clause-step c = rw (← c.self.view_is) (λ runs s is. (s, begin_nothing (the_view c.self.inside) s c.extent_count.ensures.whole is runs (not_out c.in-Ok.round c.self.inside.graph.round c.in-Ok.ensures.in_flight) (c.in-Ok.ensures.empty (none_of c.in-Ok.round.items (search rules))), is))

pub returns-clause-step : goal.returns-clause-step
returns-clause-step c = rw (← c.self.view_is) (λ runs s is. begin_copied (the_view c.self.inside) s c.extent_count.ensures.whole is runs (not_out c.in-Ok.round c.self.inside.graph.round c.in-Ok.ensures.in_flight) c.self.invariant.round c.families.ensures.whole c.take_round.new.self c.in-Ok.round.items _ _ c.in-Ok.ensures.first (some_of c.in-Ok.round.items (search rules)) c.take_round.ensures.staging c.take_round.ensures.writes c.take_round.ensures.round (search rules) (search rules))

pub returns-in-Err-clause-stays : goal.returns-in-Err-clause-stays
returns-in-Err-clause-stays c = rw (← c.self.view_is) (
    let e = c.in-Err.ensures in
    begin_stays (but_for_room (the_view c.self.inside)) c.in-Err.refusal (λ r. e.in_flight.0 (ap Err r)) e.refusals)
