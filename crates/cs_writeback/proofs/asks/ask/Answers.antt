use Rattle.cs_writeback.proofs.Histories.{declined}
use Rattle.cs_writeback.proofs.Runs.{call_of}
use Rattle.cs_writeback.proofs.asks.ask.Goals as goal

pub returns-in-Ok-Refused-clause-refused : goal.returns-in-Ok-Refused-clause-refused
returns-in-Ok-Refused-clause-refused g c =
    let e = c.in-Ok-Refused.ensures in
    declined g.D.PageDisk c.args.core.now c.args.event.now c.in-Ok-Refused.field-0 c.in-Ok-Refused.refusal c.apply.new.self c.in-Ok-Refused.field-0-is e.step e.answers e.writeback e.honest

pub returns-in-Ok-Refused-clause-call : goal.returns-in-Ok-Refused-clause-call
returns-in-Ok-Refused-clause-call g c =
    let e = c.apply.ensures in
    call_of g.D.PageDisk c.args.event.now c.args.core.now c.apply.new.self c.apply.result e.step e.memory e.rises e.honest e.crash e.time e.pages

pub returns-in-Ok-clause-call : goal.returns-in-Ok-clause-call
returns-in-Ok-clause-call g c =
    let e = c.apply.ensures in
    call_of g.D.PageDisk c.args.event.now c.args.core.now c.apply.new.self c.apply.result e.step e.memory e.rises e.honest e.crash e.time e.pages

pub returns-in-Err-clause-call : goal.returns-in-Err-clause-call
returns-in-Err-clause-call g c =
    let e = c.apply.ensures in
    call_of g.D.PageDisk c.args.event.now c.args.core.now c.apply.new.self c.apply.result e.step e.memory e.rises e.honest e.crash e.time e.pages
