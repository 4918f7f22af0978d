use Rattle.std.proofs.Common.{◌∙◌, ap, sym}
use Rattle.cs_extent.specs.State.{State as Extents, shape}
use Rattle.cs_tools.proofs.reclaim_command.empty_by_rule.Goals as goal

pub returns-in-MostGarbage-clause-chosen : goal.returns-in-MostGarbage-clause-chosen
returns-in-MostGarbage-clause-chosen g c apart = absurd (cc (sym apart ∙ sym (ap (λ (x : Extents). (shape x).apart) c.extents.ensures) ∙ c.in-MostGarbage.ensures))

pub returns-in-MostGarbage-clause-stopped : goal.returns-in-MostGarbage-clause-stopped
returns-in-MostGarbage-clause-stopped g c apart = absurd (cc (sym apart ∙ sym (ap (λ (x : Extents). (shape x).apart) c.extents.ensures) ∙ c.in-MostGarbage.ensures))

pub returns-in-MostGarbage-clause-left : goal.returns-in-MostGarbage-clause-left
returns-in-MostGarbage-clause-left g c apart = absurd (cc (sym apart ∙ sym (ap (λ (x : Extents). (shape x).apart) c.extents.ensures) ∙ c.in-MostGarbage.ensures))

pub returns-in-FewestLive-clause-counted : goal.returns-in-FewestLive-clause-counted
returns-in-FewestLive-clause-counted g c together = absurd (cc (sym together ∙ sym (ap (λ (x : Extents). (shape x).apart) c.extents.ensures) ∙ c.in-FewestLive.ensures))
