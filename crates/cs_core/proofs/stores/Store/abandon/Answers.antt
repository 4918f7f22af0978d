use Rattle.cs_core.specs.contracts.stores.Store.{the_view}
use Rattle.cs_core.proofs.Kept.{kept_abandoned}
use Rattle.cs_core.proofs.SweepSteps.{abandon_answers}
use Rattle.cs_core.proofs.stores.Store.abandon.Goals as goal

pub invariant_of-self : goal.invariant_of-self
invariant_of-self c =
    let d = c.abandon.ensures in
    kept_abandoned (the_view c.self.inside) c.self.invariant c.abandon.new.extents c.args.extent d.shape c.abandon.result d.ended d.same

pub returns-clause-step : goal.returns-clause-step
returns-clause-step c = rw (← c.self.view_is) (λ runs.
    let d = c.abandon.ensures in
    abandon_answers (the_view c.self.inside) c.extent_count.ensures.whole runs c.args.extent c.abandon.result c.abandon.new.extents c.self.invariant.swept d.marked d.ended d.shape d.refused d.same)
