use Rattle.std.proofs.Common.{◌∙◌, ◌+◌, [], ap, inr, refl, take, ℕ}
use Rattle.cs_inspect.proofs.Crashing.{crash_now}
use Rattle.cs_store.proofs.Running.{Left}
use Rattle.cs_tools.proofs.Putting.{puts_whole, puts_whole_into, refuses_larger}
use Rattle.cs_tools.proofs.put_command.put.Goals as goal

pub returns-in-Ok-clause-events : goal.returns-in-Ok-clause-events
returns-in-Ok-clause-events g c text is =
    puts_whole g.D.PageDisk c.args.id text c.deref.result.now c.args.store.now c.put_bytes.new.store c.put_bytes.result (c.deref.ensures.value ∙ c.in-Ok.ensures text is ∙ ap (λ (n : ℕ). take (n + 1) text) c.most_bytes.ensures.bytes) c.put_bytes.ensures.large c.put_bytes.ensures.events

pub returns-in-Ok-clause-map : goal.returns-in-Ok-clause-map
returns-in-Ok-clause-map g c text is m has honest =
    puts_whole_into g.D.PageDisk c.args.id text c.deref.result.now c.args.store.now c.put_bytes.new.store c.put_bytes.result (c.deref.ensures.value ∙ c.in-Ok.ensures text is ∙ ap (λ (n : ℕ). take (n + 1) text) c.most_bytes.ensures.bytes) c.put_bytes.ensures.large m has (c.put_bytes.ensures.map m has honest)

pub returns-in-Ok-clause-large : goal.returns-in-Ok-clause-large
returns-in-Ok-clause-large g c text is more =
    refuses_larger g.D.PageDisk c.args.id text c.deref.result.now c.args.store.now c.put_bytes.new.store c.put_bytes.result (c.deref.ensures.value ∙ c.in-Ok.ensures text is ∙ ap (λ (n : ℕ). take (n + 1) text) c.most_bytes.ensures.bytes) c.put_bytes.ensures.large more

pub returns-in-Ok-clause-once : goal.returns-in-Ok-clause-once
returns-in-Ok-clause-once g c = (c.deref.result.now, c.put_bytes.ensures.events)

pub returns-in-Err-clause-large : goal.returns-in-Err-clause-large
returns-in-Err-clause-large g c text is more = (inr refl, refl)

pub returns-in-Err-clause-once : goal.returns-in-Err-clause-once
returns-in-Err-clause-once g c = ([], refl)

pub returns-in-Err-clause-crash : goal.returns-in-Err-clause-crash
returns-in-Err-clause-crash g c honest =
    let v = c.args.store.now in
    crash_now g.D.PageDisk v.disk (Left v v) (c.persistent.ensures.left honest) (λ image since. g.met.D.PageDisk.only_now v.disk image honest since)

pub read_bytes-requires : goal.read_bytes-requires
read_bytes-requires g c = c.most_bytes.ensures.small
