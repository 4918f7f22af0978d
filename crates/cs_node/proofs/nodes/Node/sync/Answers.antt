use Rattle.std.proofs.Common.{rules, inl, inr, arith, ◌∙◌}
use Rattle.cs_refusal.specs.declared.refusals.Refusal.{Refusal}
use Rattle.cs_node.specs.Dues.{IsSyncRefused}
use Rattle.cs_node.specs.Locks.{WhileLocked}
use Rattle.cs_node.proofs.Going.{behind_at, if_same}
use Rattle.cs_node.proofs.nodes.Node.sync.Goals as goal

pub returns-in_err-target-clause-err : goal.returns-in_err-target-clause-err
returns-in_err-target-clause-err g c =
    if_same c.from_residual.result (λ (r : Refusal). WhileLocked g.D.PageDisk g.K.Naming.start (λ old new. IsSyncRefused g.D.PageDisk old r new)) c.in_err-target.field-0.0 c.from_residual.ensures.1
    (c.behind-take.inside.engine.core, c.stage.new.self.core, behind_at _ _ _ _ (c.behind-take.view_is ∙ c.deref_mut.ensures.value) c.take.ensures.behind, inl c.in_err-target.ensures.staged)

pub returns-in_err-advance-clause-err : goal.returns-in_err-advance-clause-err
returns-in_err-advance-clause-err g c =
    if_same c.from_residual-in_err-advance.result (λ (r : Refusal). WhileLocked g.D.PageDisk g.K.Naming.start (λ old new. IsSyncRefused g.D.PageDisk old r new)) c.in_err-advance.field-0.0 c.from_residual-in_err-advance.ensures.1
    (c.behind-take-in-loop.inside.engine.core, c.advance.new.self.core, behind_at _ _ _ _ (c.behind-take-in-loop.view_is ∙ c.deref_mut-in-loop.ensures.value) c.take-in-loop.ensures.behind, inr c.in_err-advance.ensures.advance.1)

pub returns-in_err-advance-clause-later : goal.returns-in_err-advance-clause-later
returns-in_err-advance-clause-later g c = omega (arith, c.loop.invariant.2, c.see-frontier.ensures.later, c.see-frontier.ensures.seen)

pub returns-then-target-frontier-clause-ok : goal.returns-then-target-frontier-clause-ok
returns-then-target-frontier-clause-ok g c = (
  search rules,
  (
    c.in_ok-target.target,
    c.if-target-frontier.true,
    (c.behind-take.inside.engine.core, c.stage.new.self.core, behind_at _ _ _ _ (c.behind-take.view_is ∙ c.deref_mut.ensures.value) c.take.ensures.behind, c.in_ok-target.ensures.staged),
  ),
)

pub returns-then-target-frontier-clause-later : goal.returns-then-target-frontier-clause-later
returns-then-target-frontier-clause-later g c = omega (arith, c.loop.invariant.2, c.see-frontier.ensures.later, c.see-frontier.ensures.seen)
