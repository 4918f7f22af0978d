use Rattle.cs_writeback.proofs.Runs.{ran_then}
use Rattle.cs_store.proofs.Asking.{sweep_accepts, sweep_declines_if, sweep_refusals, sweeps_if}
use Rattle.cs_store.proofs.reclaims.sweep_ready.Goals as goal

pub returns-in-Ok-clause-done : goal.returns-in-Ok-clause-done
returns-in-Ok-clause-done g c =
    sweeps_if g.D.PageDisk c.args.extent c.args.core.now c.make_ready.new.core c.sweep.new.core c.sweep.result c.in-Ok.ensures.ready c.sweep.ensures.done

pub returns-in-Ok-clause-declined : goal.returns-in-Ok-clause-declined
returns-in-Ok-clause-declined g c =
    sweep_declines_if g.D.PageDisk c.args.extent c.args.core.now c.make_ready.new.core c.sweep.new.core c.sweep.result c.in-Ok.ensures.ready c.sweep.ensures.refused

pub returns-in-Ok-clause-refusals : goal.returns-in-Ok-clause-refusals
returns-in-Ok-clause-refusals g c = sweep_refusals c.sweep.result c.sweep.ensures.refusals

pub returns-in-Ok-clause-accepts : goal.returns-in-Ok-clause-accepts
returns-in-Ok-clause-accepts g c =
    sweep_accepts g.D.PageDisk c.args.extent c.args.core.now c.make_ready.new.core c.sweep.new.core c.sweep.result c.in-Ok.ensures.ready c.sweep.ensures.done c.sweep.ensures.refused

pub returns-in-Ok-clause-ran : goal.returns-in-Ok-clause-ran
returns-in-Ok-clause-ran g c = ran_then g.D.PageDisk c.args.core.now c.make_ready.new.core c.sweep.new.core c.make_ready.ensures.ran c.sweep.ensures.ran
