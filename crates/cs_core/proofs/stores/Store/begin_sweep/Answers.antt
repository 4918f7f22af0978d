use Rattle.std.proofs.Common.{refl}
use Rattle.cs_extent.specs.State.{shape}
use Rattle.cs_core.specs.contracts.stores.Store.{the_view}
use Rattle.cs_core.specs.Stored.{Stored}
use Rattle.cs_core.proofs.BegunBy.{begin_answers_by, kept_begun_by}
use Rattle.cs_core.proofs.stores.Store.begin_sweep.Goals as goal

pub invariant_of-self : goal.invariant_of-self
invariant_of-self c =
    let v : Stored = the_view c.self.inside in
    let b = c.begin.ensures in
    kept_begun_by v c.self.invariant (shape v.extents).apart refl c.begin.new.extents c.args.extent b.shape c.begin.result b.begun b.swept b.refused b.same

pub returns-clause-step : goal.returns-clause-step
returns-clause-step c = rw (← c.self.view_is) (λ runs.
    let v : Stored = the_view c.self.inside in
    let b = c.begin.ensures in
    begin_answers_by v c.extent_count.ensures.whole runs c.args.extent (shape v.extents).apart refl c.begin.result c.begin.new.extents b.begun b.shape b.refused b.refusals b.same)
