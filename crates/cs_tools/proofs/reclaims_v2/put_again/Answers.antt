use Rattle.std.proofs.Common.{◌∙◌}
use Rattle.cs_tools.proofs.Resting.{persists, refused_store}
use Rattle.cs_tools.proofs.Tidying.{tidies_put, tidies_then}
use Rattle.cs_tools.proofs.reclaims_v2.put_again.Goals as goal

pub returns-in-Ok-clause-tidies : goal.returns-in-Ok-clause-tidies
returns-in-Ok-clause-tidies g c =
    let disks = g.D.PageDisk in
    let read = c.first_shard.new.core in
    tidies_then disks c.args.core.now read c.sync_all.new.core c.first_shard.ensures.tidies
    (tidies_then disks read c.ask.new.core c.sync_all.new.core
    (tidies_put disks read c.ask.new.core c.in-Some.id c.in-Some.bytes c.ask.result (λ honest m has. c.in-Some.ensures.shard (c.first_shard.ensures.tidies.honest.1 honest) m has) c.ask.ensures.done c.ask.ensures.refused c.ask.ensures.call)
    c.sync_all.ensures.tidies)

pub returns-clause-tidies : goal.returns-clause-tidies
returns-clause-tidies g c =
    let disks = g.D.PageDisk in
    let read = c.first_shard.new.core in
    tidies_then disks c.args.core.now read c.ask.new.core c.first_shard.ensures.tidies
    (tidies_put disks read c.ask.new.core c.in-Some.id c.in-Some.bytes c.ask.result (λ honest m has. c.in-Some.ensures.shard (c.first_shard.ensures.tidies.honest.1 honest) m has) c.ask.ensures.done c.ask.ensures.refused c.ask.ensures.call)

pub returns-in-Ok-clause-rests : goal.returns-in-Ok-clause-rests
returns-in-Ok-clause-rests g c honest is =
    let read = c.first_shard.new.core in
    let put = tidies_put g.D.PageDisk read c.ask.new.core c.in-Some.id c.in-Some.bytes c.ask.result (λ there m has. c.in-Some.ensures.shard (c.first_shard.ensures.tidies.honest.1 there) m has) c.ask.ensures.done c.ask.ensures.refused c.ask.ensures.call in
    c.sync_all.ensures.rests (put.honest.0 (c.first_shard.ensures.tidies.honest.0 honest))

pub returns-clause-rests : goal.returns-clause-rests
returns-clause-rests g c honest is =
    persists c.args.core.now c.ask.new.core (refused_store g.D.PageDisk c.first_shard.new.core c.ask.new.core c.in-Some.id c.in-Some.bytes c.in-Err.field-0 c.in-Err.ensures.refused ∙ c.first_shard.ensures.store) is

pub returns-in_default-clause-rests : goal.returns-in_default-clause-rests
returns-in_default-clause-rests g c honest is = persists c.args.core.now c.first_shard.new.core c.first_shard.ensures.store is
