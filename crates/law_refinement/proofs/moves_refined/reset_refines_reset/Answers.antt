use Rattle.std.proofs.Common.{refl, sym, ap, ◌∙◌}
use Rattle.cs_extent.specs.State.{shape}
use Rattle.law_machine.specs.Extents.{Extents, emptied, forgotten}
use Rattle.law_refinement.proofs.moves_refined.reset_refines_reset.Goals as goal
use Rattle.law_refinement.proofs.Resetting.{after_reset}

pub returns : goal.returns
returns c = λ x y g w e is same extents. after_reset x y g w e is same (forgotten (shape x).apart (emptied w.extents e w.root) e) refl
    (extents ∙ ap (λ (z : Extents). forgotten (shape x).apart (emptied z e w.root) e) (sym is.extents))
