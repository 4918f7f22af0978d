use Rattle.std.proofs.Common.{◌≡◌, ◌∙◌, ℕ, add-one, arith, false, subst, sym}
use Rattle.cs_extent.specs.State.{extents_of, shape}
use Rattle.law_machine.proofs.ApartResets.{swept_below}
use Rattle.law_machine.specs.Apart.{any_below}
use Rattle.cs_reclaim.proofs.Freeing.{none_fewer, none_more}
use Rattle.cs_reclaim.proofs.roots.is_any_swept.Goals as goal

pub returns-then-is_swept : goal.returns-then-is_swept
returns-then-is_swept c =
    sym (swept_below (extents_of c.args.extents.now).swept (shape c.args.extents.now).extents c.loop-e.e (omega (arith, c.loop-e-test.true, c.extent_count-e-end.ensures.count)) (sym c.is_swept.ensures ∙ c.if-is_swept.true))

pub loop-e-preserved : goal.loop-e-preserved
loop-e-preserved c =
    subst (λ (n : ℕ). any_below (extents_of c.args.extents.now).swept n ≡ false) (sym (add-one c.loop-e.e))
    (none_more (extents_of c.args.extents.now).swept c.loop-e.e c.loop-e.invariant (sym c.is_swept.ensures ∙ c.if-is_swept.false))

pub returns : goal.returns
returns c =
    sym (none_fewer (extents_of c.args.extents.now).swept (shape c.args.extents.now).extents c.loop-e.e (omega (arith, c.loop-e-test.false, c.extent_count-e-end.ensures.count)) c.loop-e.invariant)
