use Rattle.std.proofs.Common.{inl, inr, refl, subst}
use Rattle.cs_core.specs.Views.{View}
use Rattle.cs_node.specs.Sweeps.{NoneFrom}
use Rattle.cs_node.proofs.locked.Engine.choose_extent.Goals as goal

pub returns-in_default-clause-picked : goal.returns-in_default-clause-picked
returns-in_default-clause-picked g c = inl (inl (inr (subst (λ (v : View g.row.D.Denot). NoneFrom v.store 0) c.core.ensures.core c.in_default.ensures.lowest)), refl, refl)
