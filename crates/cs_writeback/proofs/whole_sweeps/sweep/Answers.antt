use Rattle.cs_writeback.proofs.Runs.{ran_call, ran_then}
use Rattle.cs_writeback.proofs.SweepSteps.{sweep_done, sweep_stopped}
use Rattle.cs_writeback.proofs.whole_sweeps.sweep.Goals as goal

pub returns-in-Ok-clause-done : goal.returns-in-Ok-clause-done
returns-in-Ok-clause-done g c =
    let e = c.in-Ok.ensures in
    sweep_done g.D.PageDisk c.args.extent c.args.core.now c.ask.new.core c.empty_or_abandon.new.core c.in-Ok.field-0 c.empty_or_abandon.result e.done e.answers e.no_refusal c.empty_or_abandon.ensures.done

pub returns-in-Ok-clause-refused : goal.returns-in-Ok-clause-refused
returns-in-Ok-clause-refused g c =
    let e = c.in-Ok.ensures in
    sweep_stopped g.D.PageDisk c.args.extent c.args.core.now c.ask.new.core c.empty_or_abandon.new.core c.in-Ok.field-0 c.empty_or_abandon.result e.done e.answers e.no_refusal c.empty_or_abandon.ensures.refused

pub returns-in-Ok-clause-ran : goal.returns-in-Ok-clause-ran
returns-in-Ok-clause-ran g c =
    ran_then g.D.PageDisk c.args.core.now c.ask.new.core c.empty_or_abandon.new.core (ran_call g.D.PageDisk c.args.core.now c.ask.new.core c.ask.ensures.call) c.empty_or_abandon.ensures.ran

pub returns-clause-ran : goal.returns-clause-ran
returns-clause-ran g c = ran_call g.D.PageDisk c.args.core.now c.ask.new.core c.ask.ensures.call
