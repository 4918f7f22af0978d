use Rattle.std.proofs.Common.{◌≡◌, ◌⊎◌, ◌<◌, ◌≤◌, refl, sym, subst, inl, inr, arith, ℕ}
use Rattle.cs_core.specs.declared.events.Event.TheVariants as asked
use Rattle.cs_core.specs.declared.events.Reply.TheVariants as told
use Rattle.cs_core.specs.Views.{Serves}
use Rattle.cs_core.specs.Stored.{but_for_room}
use Rattle.cs_core.proofs.Answering.{not_yet_so, persistent_so}
use Rattle.cs_core.proofs.ServeSteps.{not_yet_served, persistent_served}
use Rattle.cs_core.proofs.stores.Store.serve_settle.Goals.{else-n-ge1-via-then-n-ge1+else-n-frontier, else-n-ge1-via-else-n-ge1}
use Rattle.cs_core.proofs.stores.Store.serve_settle.Goals as goal

pub returns-then-n-frontier-clause-step : goal.returns-then-n-frontier-clause-step
returns-then-n-frontier-clause-step c = λ disk.
    persistent_served c.args.self.now disk c.args.n c.if-n-ge1.true (subst (λ (f : ℕ). c.args.n ≤ f) c.frontier-frontier.ensures.frontier c.if-n-frontier.true)

pub returns-else-n-ge1-clause-step : goal.returns-else-n-ge1-clause-step
returns-else-n-ge1-clause-step c = λ disk.
    subst (λ (f : ℕ). Serves c.args.self.now disk (asked.Settle c.args.n) (told.NotYet f) c.args.self.now disk) (sym c.frontier-frontier.ensures.frontier)
    (not_yet_served c.args.self.now disk c.args.n (subst (λ (f : ℕ). (c.args.n ≡ 0) ⊎ (f < c.args.n)) c.frontier-frontier.ensures.frontier (
    elim c.else-n-ge1.branch [ else-n-ge1-via-then-n-ge1+else-n-frontier w ↦ inr w.if-n-frontier.false | else-n-ge1-via-else-n-ge1 w ↦ inl (omega (arith, w.if-n-ge1.false)) ])))

pub returns-then-n-frontier-clause-answered : goal.returns-then-n-frontier-clause-answered
returns-then-n-frontier-clause-answered c = persistent_so (but_for_room c.args.self.now) (but_for_room c.args.self.now) c.args.n c.if-n-ge1.true refl

pub returns-else-n-ge1-clause-answered : goal.returns-else-n-ge1-clause-answered
returns-else-n-ge1-clause-answered c = not_yet_so (but_for_room c.args.self.now) (but_for_room c.args.self.now) c.args.n c.frontier-frontier.result (
    elim c.else-n-ge1.branch [ else-n-ge1-via-then-n-ge1+else-n-frontier w ↦ inr w.if-n-frontier.false | else-n-ge1-via-else-n-ge1 w ↦ inl (omega (arith, w.if-n-ge1.false)) ]) refl
