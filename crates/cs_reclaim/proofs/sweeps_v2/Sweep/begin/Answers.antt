use Rattle.std.proofs.Common.{refl, subst, sym}
use Rattle.cs_extent.specs.State.{extents_of, shape}
use Rattle.law_machine.specs.Device.{Shape}
use Rattle.law_machine.specs.Extents.{Extents}
use Rattle.cs_reclaim.specs.Sweeps.{IsSwept}
use Rattle.cs_reclaim.proofs.Sweeping.{begun}
use Rattle.cs_reclaim.proofs.sweeps_v2.Sweep.begin.Goals as goal

pub returns-clause-swept : goal.returns-clause-swept
returns-clause-swept c =
    subst (λ (S : Shape). IsSwept S (extents_of c.set_swept.new.self) c.args.extent) (sym c.set_swept.ensures.shape)
    (subst (λ (x : Extents). IsSwept (shape c.args.extents.now) x c.args.extent) (sym c.set_swept.ensures.extents)
    (begun (shape c.args.extents.now) (extents_of c.args.extents.now) c.args.extent (c.if-not-is_sweepable.ensures.may refl)))
