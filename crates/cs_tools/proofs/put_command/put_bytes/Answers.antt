use Rattle.std.proofs.Common.{inl}
use Rattle.cs_inspect.proofs.Crashing.{crash_now}
use Rattle.cs_store.specs.Errors.{put_refusal}
use Rattle.cs_store.proofs.Running.{Left}
use Rattle.cs_tools.proofs.Changing.{crash_of_put, puts, puts_into}
use Rattle.cs_tools.proofs.Putting.{refused_put}
use Rattle.cs_tools.proofs.put_command.put_bytes.Goals as goal

pub returns-in-Ok-clause-events : goal.returns-in-Ok-clause-events
returns-in-Ok-clause-events g c =
    puts g.D.PageDisk c.args.id c.args.bytes.now _ c.args.store.now c.put.new.self c.commit.new.store c.commit.result c.in-Ok.ensures.done c.commit.ensures.events

pub returns-in-Ok-clause-map : goal.returns-in-Ok-clause-map
returns-in-Ok-clause-map g c m has honest =
    let then_too = c.put.ensures.honest.0 honest in
    puts_into g.D.PageDisk m c.args.id _ c.args.store.now c.put.new.self c.commit.new.store c.commit.result (c.in-Ok.ensures.number honest) c.in-Ok.ensures.accepted
    c.commit.ensures.map (c.commit.ensures.same then_too) (c.commit.ensures.all then_too) c.args.bytes.now (c.in-Ok.ensures.map m has) c.in-Ok.ensures.done c.commit.ensures.events

pub returns-in-Ok-clause-honest : goal.returns-in-Ok-clause-honest
returns-in-Ok-clause-honest g c = (λ h. c.commit.ensures.honest.0 (c.put.ensures.honest.0 h), λ h. c.put.ensures.honest.1 (c.commit.ensures.honest.1 h))

pub returns-in-Ok-clause-crash : goal.returns-in-Ok-clause-crash
returns-in-Ok-clause-crash g c honest =
    let then_too = c.put.ensures.honest.0 honest in
    crash_of_put g.D.PageDisk c.args.id c.args.bytes.now c.args.store.now c.put.new.self c.commit.new.store c.commit.result c.in-Ok.ensures.accepts c.commit.ensures.events
    c.put.ensures.rises (c.commit.ensures.same then_too) (c.put.ensures.crash honest) (c.commit.ensures.crash then_too)

pub returns-in-Err-clause-events : goal.returns-in-Err-clause-events
returns-in-Err-clause-events g c = inl (refused_put g.D.PageDisk c.args.id c.args.bytes.now c.args.store.now c.put.new.self (put_refusal c.in-Err.error) c.refusal.result c.refusal.ensures c.in-Err.ensures.refused)

pub returns-in-Err-clause-map : goal.returns-in-Err-clause-map
returns-in-Err-clause-map g c m has honest =
    inl (c.in-Err.ensures.map m has, refused_put g.D.PageDisk c.args.id c.args.bytes.now c.args.store.now c.put.new.self (put_refusal c.in-Err.error) c.refusal.result c.refusal.ensures c.in-Err.ensures.refused)

pub returns-then-bytes-most_bytes-clause-crash : goal.returns-then-bytes-most_bytes-clause-crash
returns-then-bytes-most_bytes-clause-crash g c honest =
    let v = c.args.store.now in
    crash_now g.D.PageDisk v.disk (Left v v) (c.persistent.ensures.left honest) (λ image since. g.met.D.PageDisk.only_now v.disk image honest since)
