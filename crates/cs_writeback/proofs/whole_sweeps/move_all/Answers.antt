use Rattle.cs_writeback.proofs.Runs.{ran_call, ran_then}
use Rattle.cs_writeback.proofs.SweepSteps.{all_moved, move_full, move_refused, one_move_more}
use Rattle.cs_writeback.proofs.whole_sweeps.move_all.Goals as goal

pub returns-in-Ok-NoneLive-clause-done : goal.returns-in-Ok-NoneLive-clause-done
returns-in-Ok-NoneLive-clause-done g c =
    all_moved g.D.PageDisk c.args.extent c.args.core.now c.loop-moved.core c.ask.new.core c.loop-moved.moved c.in-Ok-NoneLive.field-0 c.in-Ok-NoneLive.field-0-is c.loop-moved.invariant c.in-Ok-NoneLive.ensures.done

pub returns-in-Err-clause-refused : goal.returns-in-Err-clause-refused
returns-in-Err-clause-refused g c =
    move_refused g.D.PageDisk c.args.extent c.args.core.now c.loop-moved.core c.ask.new.core c.loop-moved.moved c.in-Err.refusal c.loop-moved.invariant c.in-Err.ensures.refused

pub loop-moved-preserved : goal.loop-moved-preserved
loop-moved-preserved g c =
    one_move_more g.D.PageDisk c.args.extent c.args.core.now c.loop-moved.core c.ask.new.core c.loop-moved.moved c.in-Ok-Moved.field-0-0 c.in-Ok-Moved.field-0-1 c.in-Ok-Moved.field-0 c.in-Ok-Moved.field-0-is c.loop-moved.invariant c.in-Ok-Moved.ensures.done c.ask.ensures.call

pub returns-clause-refused : goal.returns-clause-refused
returns-clause-refused g c =
    move_full g.D.PageDisk c.args.extent c.args.core.now c.loop-moved.core c.loop-moved.moved c.limit-moved-end.result c.limit-moved-end.ensures c.history.ensures.replaced c.loop-moved-test.false c.loop-moved.invariant

pub returns-in-Ok-NoneLive-clause-ran : goal.returns-in-Ok-NoneLive-clause-ran
returns-in-Ok-NoneLive-clause-ran g c =
    ran_then g.D.PageDisk c.args.core.now c.loop-moved.core c.ask.new.core c.loop-moved.invariant.ran (ran_call g.D.PageDisk c.loop-moved.core c.ask.new.core c.ask.ensures.call)

pub returns-in-Err-clause-ran : goal.returns-in-Err-clause-ran
returns-in-Err-clause-ran g c =
    ran_then g.D.PageDisk c.args.core.now c.loop-moved.core c.ask.new.core c.loop-moved.invariant.ran (ran_call g.D.PageDisk c.loop-moved.core c.ask.new.core c.ask.ensures.call)

pub returns-clause-ran : goal.returns-clause-ran
returns-clause-ran g c = c.loop-moved.invariant.ran
