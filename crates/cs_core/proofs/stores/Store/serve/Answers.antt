use Rattle.std.proofs.Common.{rules, sym}
use Rattle.cs_refusal.specs.declared.refusals.Refusal.TheVariants as code
use Rattle.cs_core.specs.Stored.{but_for_room}
use Rattle.cs_core.proofs.Answering.{alone_of, halted_so, if_refused_so}
use Rattle.cs_core.proofs.Asking.{settle_never}
use Rattle.cs_core.proofs.ServeSteps.{halted_steps, if_refused}
use Rattle.cs_core.proofs.Unlimited.{always_sound, if_refused_unlimited}
use Rattle.cs_core.proofs.stores.Store.serve.Goals as goal

pub returns-in-Settle : goal.returns-in-Settle
returns-in-Settle g c =
    let v = but_for_room c.args.self.now in
    let never = settle_never v v c.in-Settle.n c.serve_settle.result.0 c.serve_settle.ensures.answered in
    search rules

pub returns-then-is_halted : goal.returns-then-is_halted
returns-then-is_halted g c =
    let answered = halted_so (but_for_room c.args.self.now) c.args.event.now c.in_default.not-Get c.in_default.not-Settle in
    let step = halted_steps c.args.self.now (g.D.PageDisk.state c.args.disk.now) c.args.event.now (sym c.if-is_halted.ensures) c.in_default.not-Get c.in_default.not-Settle in
    let unlimited = if_refused_unlimited code.Halted c.refused.result c.refused.ensures (λ full. cc full) in
    let issued = λ (sound : g.D.PageDisk.sound c.args.disk.now). always_sound (g.D.PageDisk.sound c.args.disk.now) c.refused.result sound in
    search (rules, if_refused_so, if_refused)

pub serve_alone-requires-clause-alone : goal.serve_alone-requires-clause-alone
serve_alone-requires-clause-alone g c = alone_of c.args.event.now c.if-is_for_device.ensures c.in_default.not-Get c.in_default.not-Settle
