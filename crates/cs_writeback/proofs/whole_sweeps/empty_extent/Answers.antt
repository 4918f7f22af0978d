use Rattle.cs_writeback.proofs.Runs.{ran_call, ran_then}
use Rattle.cs_writeback.proofs.SweepSteps.{retire_refused, retired}
use Rattle.cs_writeback.proofs.whole_sweeps.empty_extent.Goals as goal

pub returns-in-Ok-Retired-clause-done : goal.returns-in-Ok-Retired-clause-done
returns-in-Ok-Retired-clause-done g c =
    retired g.D.PageDisk c.args.extent c.in-Ok-Retired.root c.args.core.now c.move_all.new.core c.ask.new.core c.in-Ok.moved c.in-Ok-Retired.field-0 c.in-Ok-Retired.field-0-is c.in-Ok.ensures.done c.in-Ok-Retired.ensures.done

pub returns-clause-refused : goal.returns-clause-refused
returns-clause-refused g c =
    retire_refused g.D.PageDisk c.args.extent c.args.core.now c.move_all.new.core c.ask.new.core c.in-Ok.moved c.in-Err-ask.refusal c.in-Ok.ensures.done c.in-Err-ask.ensures.refused

pub returns-in-Ok-Retired-clause-ran : goal.returns-in-Ok-Retired-clause-ran
returns-in-Ok-Retired-clause-ran g c =
    ran_then g.D.PageDisk c.args.core.now c.move_all.new.core c.ask.new.core c.move_all.ensures.ran (ran_call g.D.PageDisk c.move_all.new.core c.ask.new.core c.ask.ensures.call)

pub returns-clause-ran : goal.returns-clause-ran
returns-clause-ran g c =
    ran_then g.D.PageDisk c.args.core.now c.move_all.new.core c.ask.new.core c.move_all.ensures.ran (ran_call g.D.PageDisk c.move_all.new.core c.ask.new.core c.ask.ensures.call)
