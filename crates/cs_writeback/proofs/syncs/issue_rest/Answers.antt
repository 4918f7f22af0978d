use Rattle.cs_writeback.proofs.Runs.{ran_call, ran_then}
use Rattle.cs_writeback.proofs.Turned.{all_issued, issue_refused, one_issue_more}
use Rattle.cs_writeback.proofs.syncs.issue_rest.Goals as goal

pub returns-in-Err-clause-refused : goal.returns-in-Err-clause-refused
returns-in-Err-clause-refused g c =
    issue_refused g.D.PageDisk c.args.core.now c.loop.core c.ask.new.core c.loop.counter c.unissued-left.result c.in-Err.refusal c.unissued-left.ensures c.loop-test.true c.loop.invariant c.in-Err.ensures.refused

pub returns-in-Err-clause-ran : goal.returns-in-Err-clause-ran
returns-in-Err-clause-ran g c =
    ran_then g.D.PageDisk c.args.core.now c.loop.core c.ask.new.core c.loop.invariant.ran (ran_call g.D.PageDisk c.loop.core c.ask.new.core c.ask.ensures.call)

pub loop-preserved : goal.loop-preserved
loop-preserved g c =
    let e = c.in-Ok-Issued.ensures in
    one_issue_more g.D.PageDisk c.args.core.now c.loop.core c.ask.new.core c.loop.counter c.in-Ok-Issued.field-0 c.loop.invariant e.done e.answers e.no_refusal c.ask.ensures.call

pub returns-clause-done : goal.returns-clause-done
returns-clause-done g c = (c.loop.invariant.members, c.loop.invariant.went)

pub returns-clause-complete : goal.returns-clause-complete
returns-clause-complete g c =
    all_issued g.D.PageDisk c.args.core.now c.loop.core c.loop.counter c.unissued-left.result c.requires c.unissued-left.ensures c.loop-test.false c.loop.invariant

pub returns-clause-ran : goal.returns-clause-ran
returns-clause-ran g c = c.loop.invariant.ran
