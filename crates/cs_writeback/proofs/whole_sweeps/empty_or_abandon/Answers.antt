use Rattle.cs_writeback.proofs.Runs.{ran_call, ran_then}
use Rattle.cs_writeback.proofs.whole_sweeps.empty_or_abandon.Goals as goal

pub returns-in-Err-clause-refused : goal.returns-in-Err-clause-refused
returns-in-Err-clause-refused g c = (c.empty_extent.new.core, c.in-Err.refusal, c.in-Err.ensures.refused, c.abandon.ensures.abandons)

pub returns-in-Err-clause-ran : goal.returns-in-Err-clause-ran
returns-in-Err-clause-ran g c =
    ran_then g.D.PageDisk c.args.core.now c.empty_extent.new.core c.abandon.new.core c.empty_extent.ensures.ran (ran_call g.D.PageDisk c.empty_extent.new.core c.abandon.new.core c.abandon.ensures.call)
