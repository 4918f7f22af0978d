use Rattle.std.proofs.Common.{ap, subst, sym}
use Rattle.std.proofs.lemmas.Bool.{false≢true}
use Rattle.cs_deps.specs.Staging.{Staging}
use Rattle.cs_deps.specs.State.{State as GraphState}
use Rattle.cs_extent.specs.Appended.{IsReady}
use Rattle.law_machine.specs.Geometry.{pages_first_in}
use Rattle.cs_index.proofs.Rooted.{root_over}
use Rattle.cs_index.proofs.stages.stage_over.Goals as goal

pub returns-clause-staged : goal.returns-clause-staged
returns-clause-staged c =
    root_over c.args.format (pages_first_in c.args.format) c.args.graph.now c.reserve.new.self c.push_root.new.graph c.push_root.result c.args.commands _ c.in_ok-reserve.ensures.rest c.push_root.ensures.staged

pub returns-clause-ready : goal.returns-clause-ready
returns-clause-ready c = λ x was. c.push_root.ensures.ready x (subst (λ (s : Staging). IsReady x s) (sym (ap (λ (g : GraphState). g.staging) c.in_ok-reserve.ensures.rest)) was)

pub returns-then-is_last_root-clause-why : goal.returns-then-is_last_root-clause-why
returns-then-is_last_root-clause-why c = ((λ none. none), c.is_last_root.ensures.0 c.if-is_last_root.true)

pub returns-clause-why : goal.returns-clause-why
returns-clause-why c = ((λ none. none), (λ worn. false≢true (c.if-is_last_root.ensures.1 worn)))
