use Rattle.std.proofs.Common.{true≢false, sym, subst, ◌∙◌}
use Rattle.cs_core.specs.declared.events.Reply.{Reply}
use Rattle.cs_core.specs.Views.{Applies}
use Rattle.cs_node.proofs.Going.{declined, recorded}
use Rattle.cs_node.proofs.locked.Engine.record.Goals as goal

pub returns-clause-step : goal.returns-clause-step
returns-clause-step g c = recorded _ _ _ _ _ c.in-Ok.ensures.step (λ full. absurd (true≢false (sym (c.is_full.ensures.1 full) ∙ c.if-is_full.false)))

pub returns-then-is_full-clause-declined : goal.returns-then-is_full-clause-declined
returns-then-is_full-clause-declined g c =
    declined _ _ c.args.event.now _ c.core.ensures.behind.legal (subst (λ (r : Reply). Applies g.D.PageDisk c.args.self.now.core c.args.event.now r c.apply.new.self.core) (c.is_full.ensures.0 c.if-is_full.true) c.in-Ok.ensures.step)
