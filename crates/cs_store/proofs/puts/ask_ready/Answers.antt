use Rattle.cs_writeback.proofs.Runs.{ran_call, ran_then}
use Rattle.cs_store.proofs.Asking.{declines_if, does_from, does_if, event_accepts, event_refusals}
use Rattle.cs_store.proofs.Filling.{event_full_if}
use Rattle.cs_store.proofs.puts.ask_ready.Goals as goal

pub returns-in-Ok-clause-done : goal.returns-in-Ok-clause-done
returns-in-Ok-clause-done g c =
    does_if g.D.PageDisk c.args.core.now c.make_ready.new.core c.ask-asked.new.core c.args.event.now c.ask-asked.result c.in-Ok.ensures.ready c.ask-asked.ensures.done

pub returns-in-Ok-clause-declined : goal.returns-in-Ok-clause-declined
returns-in-Ok-clause-declined g c =
    declines_if g.D.PageDisk c.args.core.now c.make_ready.new.core c.ask-asked.new.core c.args.event.now c.ask-asked.result c.in-Ok.ensures.ready c.ask-asked.ensures.refused

pub returns-in-Ok-clause-refusals : goal.returns-in-Ok-clause-refusals
returns-in-Ok-clause-refusals g c = event_refusals c.args.event.now c.ask-asked.result c.ask-asked.ensures.refusals

pub returns-in-Ok-clause-accepts : goal.returns-in-Ok-clause-accepts
returns-in-Ok-clause-accepts g c =
    event_accepts g.D.PageDisk c.args.core.now c.make_ready.new.core c.ask-asked.new.core c.args.event.now c.ask-asked.result c.in-Ok.ensures.ready c.ask-asked.ensures.done c.ask-asked.ensures.refused

pub returns-in-Ok-clause-ran : goal.returns-in-Ok-clause-ran
returns-in-Ok-clause-ran g c =
    ran_then g.D.PageDisk c.args.core.now c.make_ready.new.core c.ask-asked.new.core c.make_ready.ensures.ran (ran_call g.D.PageDisk c.make_ready.new.core c.ask-asked.new.core c.ask-asked.ensures.call)

pub returns-in-Ok-clause-machine : goal.returns-in-Ok-clause-machine
returns-in-Ok-clause-machine g c = λ honest.
    let same = c.make_ready.ensures.accepts in
    does_from g.D.PageDisk c.args.core.now c.make_ready.new.core c.ask-asked.new.core c.args.event.now c.ask-asked.result same (c.progress.ensures.legal (same.honest.0 honest)) c.ask-asked.ensures.done

pub returns-in-Ok-clause-full : goal.returns-in-Ok-clause-full
returns-in-Ok-clause-full g c = λ honest.
    let there = c.make_ready.ensures.accepts.honest.0 honest in
    event_full_if g.D.PageDisk c.args.core.now c.make_ready.new.core c.ask-asked.new.core c.args.event.now c.ask-asked.result c.in-Ok.ensures.ready there (c.progress.ensures.legal there) c.ask-asked.ensures.refused
