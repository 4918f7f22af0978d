use Rattle.std.proofs.Common.{◌∙◌, ap}
use Rattle.cs_core.proofs.Known.{nothing_known}
use Rattle.cs_core.proofs.Opens.{is_opened, no_other, opened_as, opened_core}
use Rattle.cs_core.proofs.cores.Core.open.Goals as goal

pub invariant_of-result : goal.invariant_of-result
invariant_of-result g c =
    let read = c.flush_and_read-read in
    let made = c.in-Ok.ensures.made in
    nothing_known g.D.PageDisk c.none.ensures (opened_core g.D.PageDisk read.new.disk (g.D.PageDisk.state c.args.disk) (g.D.PageDisk.honest c.args.disk) made.0 made.1 made.2 made.3 made.4 c.in-Ok.found.commands c.in-Ok.found.live c.in-Ok.found.store
    (read.ensures.pages ∙ made.5) made.6 (λ h. read.ensures.honest.1 h) (λ h. c.in-Ok.ensures.state (read.ensures.honest.1 h)) (λ h. g.met.D.PageDisk.whole read.new.disk h) (λ h. g.met.D.PageDisk.sized read.new.disk h)
    (g.D.PageDisk.state c.of.result.value).durable c.new.result.all c.new.result.base c.args.limits.history (ap (λ d. (g.D.PageDisk.state d).durable) c.of.ensures) c.new.ensures.all c.new.ensures.base)

pub returns-in-Ok-clause-image : goal.returns-in-Ok-clause-image
returns-in-Ok-clause-image g c = λ h.
    let now = c.in-Ok.ensures.state h in
    (ap (λ d. (g.D.PageDisk.state d).durable) c.of.ensures ∙ ap (λ d. d.durable) now, now)

pub returns-in-Ok-clause-store : goal.returns-in-Ok-clause-store
returns-in-Ok-clause-store g c =
    let made = c.in-Ok.ensures.made in
    is_opened (g.D.PageDisk.honest c.args.disk) (g.D.PageDisk.state c.args.disk) (g.D.PageDisk.state c.of.result.value).durable made.0 made.1 made.2 made.3 made.4 c.in-Ok.found.commands c.in-Ok.found.live c.in-Ok.found.store made.6
    (λ h. ap (λ d. (g.D.PageDisk.state d).durable) c.of.ensures ∙ ap (λ d. d.durable) (c.in-Ok.ensures.state h))

pub returns-in-Ok-clause-recovers : goal.returns-in-Ok-clause-recovers
returns-in-Ok-clause-recovers g c = λ h format extents pages sections is sized n m r.
    let made = c.in-Ok.ensures.made in
    opened_as (g.D.PageDisk.honest c.args.disk) (g.D.PageDisk.state c.args.disk) (g.D.PageDisk.page_count c.args.disk) h (g.met.D.PageDisk.whole c.args.disk h) (g.met.D.PageDisk.sized c.args.disk h) format extents pages sections is sized n m r
    made.0 made.1 made.2 made.3 made.4 c.in-Ok.found.commands c.in-Ok.found.live c.in-Ok.found.store made.5 made.6

pub returns-in-Err-clause-recovers : goal.returns-in-Err-clause-recovers
returns-in-Err-clause-recovers g c = λ h format extents pages sections is sized n m r.
    no_other (g.D.PageDisk.honest c.args.disk) (g.D.PageDisk.state c.args.disk) (g.D.PageDisk.page_count c.args.disk) h (g.met.D.PageDisk.whole c.args.disk h) (g.met.D.PageDisk.sized c.args.disk h) format extents pages sections is sized n m r
    c.in-Err.refusal (c.in-Err.ensures.why h)
