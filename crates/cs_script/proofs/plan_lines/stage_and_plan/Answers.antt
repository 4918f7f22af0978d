use Rattle.std.proofs.Common.{◌≡◌, None, inl, inr, rules}
use Rattle.cs_script.proofs.PlanSteps.{on_ok, plan_refused, stages}
use Rattle.cs_script.proofs.plan_lines.stage_and_plan.Goals as goal
use Rattle.cs_script.proofs.plan_lines.stage_and_plan.Goals.{in-Ok, in-Err}

pub returns-clause-staged : goal.returns-clause-staged
returns-clause-staged g c =
    let none : c.args.core.now.store.out ≡ None = search rules in
    elim c.match-ask.branch [
      | in-Ok w ↦ rw w.result-is (let e = w.in-Ok.ensures in on_ok w.plan_all.result _ (stages g.D.PageDisk c.args.core.now c.ask.new.core w.in-Ok.field-0 none e.done e.answers e.no_refusal))
      | in-Err w ↦ rw w.result-is tt
    ]

pub returns-clause-refused : goal.returns-clause-refused
returns-clause-refused g c =
    let none : c.args.core.now.store.out ≡ None = search rules in
    elim c.match-ask.branch [
      | in-Ok w ↦ rw w.result-is (let e = w.in-Ok.ensures in plan_refused g.D.PageDisk c.args.core.now c.ask.new.core w.plan_all.result (stages g.D.PageDisk c.args.core.now c.ask.new.core w.in-Ok.field-0 none e.done e.answers e.no_refusal) w.plan_all.ensures.refused)
      | in-Err w ↦ rw w.result-is (inr (inl w.in-Err.ensures.refused))
    ]
