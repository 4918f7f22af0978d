use Rattle.cs_deps.specs.View.{pending_of, rounds_of}
use Rattle.cs_check.specs.declared.documents.Document.{Document}
use Rattle.cs_script.proofs.CheckSteps.{optimal, faulty}
use Rattle.cs_script.proofs.checks.check_text.Goals as goal

pub returns-clause-optimal : goal.returns-clause-optimal
returns-clause-optimal c =
    let d : Document = c.in_ok-document.document in
    let e = c.check.ensures in
    optimal c.args.text.now (pending_of d.view) d.target (rounds_of d.plan) d.plan.chain.items c.in_ok-document.ensures.says c.check.result e.passes e.flushes e.schedule e.covers e.respects e.fewest

pub returns-clause-faulty : goal.returns-clause-faulty
returns-clause-faulty c =
    let d : Document = c.in_ok-document.document in
    faulty c.args.text.now (pending_of d.view) d.target (rounds_of d.plan) d.plan.chain.items c.in_ok-document.ensures.says c.check.result c.in_ok-document.ensures.well_formed c.check.ensures.failed
