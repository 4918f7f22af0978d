use Rattle.cs_writeback.proofs.Runs.{ran_call, ran_then}
use Rattle.cs_writeback.proofs.Turned.{end_refused_if, finished_if}
use Rattle.cs_writeback.proofs.syncs.finish_round.Goals as goal

pub returns-in-Ok-clause-done : goal.returns-in-Ok-clause-done
returns-in-Ok-clause-done g c =
    finished_if g.D.PageDisk c.args.core.now c.issue_rest.new.core c.end.new.core c.end.result c.in-Ok.ensures.done c.end.ensures.done

pub returns-in-Ok-clause-refused : goal.returns-in-Ok-clause-refused
returns-in-Ok-clause-refused g c =
    end_refused_if g.D.PageDisk c.args.core.now c.issue_rest.new.core c.end.new.core c.end.result c.in-Ok.ensures.done c.in-Ok.ensures.complete c.end.ensures.refused

pub returns-in-Ok-clause-ran : goal.returns-in-Ok-clause-ran
returns-in-Ok-clause-ran g c =
    ran_then g.D.PageDisk c.args.core.now c.issue_rest.new.core c.end.new.core c.issue_rest.ensures.ran (ran_call g.D.PageDisk c.issue_rest.new.core c.end.new.core c.end.ensures.call)
