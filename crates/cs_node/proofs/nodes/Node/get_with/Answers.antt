use Rattle.std.proofs.Common.{◌≡◌, rules, Bool, List, ℕ, Some, sym, ap, ◌∙◌, subst}
use Rattle.cs_core.specs.declared.events.Event.TheVariants.{Get}
use Rattle.cs_core.specs.declared.events.Reply.TheVariants.{Found}
use Rattle.cs_node.proofs.Going.{behind_at}
use Rattle.cs_node.proofs.LogSteps.{found_last-push}
use Rattle.cs_node.specs.Answers.{Gets}
use Rattle.cs_node.specs.Locks.{IsCalled, IsGot}
use Rattle.cs_node.specs.Told.{Adds, Holdings, found_last}
use Rattle.cs_node.proofs.nodes.Node.get_with.Goals as goal

pub returns-clause-ok : goal.returns-clause-ok
returns-clause-ok g c =
    let got = subst (λ (there : Bool). Gets c.args.purse.now c.args.id there c.get.new.purse) c.if-not-there.false c.in_ok-there.ensures.ok in
    let last = ap (λ (h : Holdings). found_last h.calls) (sym c.purse.view_is) in
    let same : Some got.0 ≡ Some c.shared.result = sym got.2 ∙ last ∙ c.in-Some.ensures ∙ ap Some (sym c.shared.ensures) in
    let is : got.0 ≡ c.shared.result = cc in
    subst (λ (bytes : List ℕ). Adds c.args.purse.now (Get c.args.id) (Found bytes) c.get.new.purse) is got.1

pub returns-clause-step : goal.returns-clause-step
returns-clause-step g c =
    let got = subst (λ (there : Bool). IsGot g.D.PageDisk c.behind-take.inside.engine.core c.args.purse.now c.args.id there c.get.new.self.core c.get.new.purse) c.if-not-there.false c.in_ok-there.ensures.step in
    let found : found_last c.get.new.purse.calls ≡ Some got.0 = ap found_last got.1.calls ∙ found_last-push c.args.purse.now.calls _ in
    let last = ap (λ (h : Holdings). found_last h.calls) (sym c.purse.view_is) in
    let same : Some got.0 ≡ Some c.shared.result = sym found ∙ last ∙ c.in-Some.ensures ∙ ap Some (sym c.shared.ensures) in
    let is : got.0 ≡ c.shared.result = cc in (
      c.behind-take.inside.engine.core,
      c.get.new.self.core,
      behind_at _ _ _ _ (c.behind-take.view_is ∙ c.deref_mut.ensures.value) c.take.ensures.behind,
      subst (λ (bytes : List ℕ). IsCalled g.D.PageDisk c.behind-take.inside.engine.core c.args.purse.now (Get c.args.id) (Found bytes) c.get.new.self.core c.get.new.purse) is got.1,
    )

pub returns-in_err-there-clause-step : goal.returns-in_err-there-clause-step
returns-in_err-there-clause-step g c = (c.behind-take.inside.engine.core, c.get.new.self.core, behind_at _ _ _ _ (c.behind-take.view_is ∙ c.deref_mut.ensures.value) c.take.ensures.behind, search rules)

pub returns-then-not-there-clause-step : goal.returns-then-not-there-clause-step
returns-then-not-there-clause-step g c = (
  c.behind-take.inside.engine.core,
  c.get.new.self.core,
  behind_at _ _ _ _ (c.behind-take.view_is ∙ c.deref_mut.ensures.value) c.take.ensures.behind,
  subst (λ (there : Bool). IsGot g.D.PageDisk c.behind-take.inside.engine.core c.args.purse.now c.args.id there c.get.new.self.core c.get.new.purse) c.if-not-there.true c.in_ok-there.ensures.step,
)
