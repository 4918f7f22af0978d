use Rattle.std.proofs.Common.{subst}
use Rattle.std.specs.Prelude.{Ok}
use Rattle.cs_core.specs.Lookups.{IsReading}
use Rattle.cs_extent.specs.State.{IsWhole}
use Rattle.cs_index.specs.State.{id_number}
use Rattle.law_machine.specs.State.{map_now}
use Rattle.cs_tools.proofs.Resting.{store_read}
use Rattle.cs_tools.proofs.Tidying.{shard_read, tidies_read}
use Rattle.cs_tools.proofs.reclaims_v2.first_shard.Goals as goal

pub returns-in-Ok-Some-clause-shard : goal.returns-in-Ok-Some-clause-shard
returns-in-Ok-Some-clause-shard g c honest m has =
    let s = c.progress.ensures.legal honest in
    let id = c.in_ok-id.id in
    let told = subst (λ f. IsReading (map_now s.0 (id_number id)) (Ok f)) c.in-Ok-Some.field-0-is (c.in-Ok-Some.ensures.answer honest s.0 s.1) in
    shard_read g.D.PageDisk.state c.args.core.now c.read.new.self m s.0 id c.in-Ok-Some.bytes.items (λ shard. shard.0) (λ shard. shard.1) c.with_bytes.result
    (subst IsWhole c.extents.ensures c.extent_count.ensures.whole) s.1 c.read.ensures.same has told c.with_bytes.ensures

pub returns-in-Ok-Some-clause-tidies : goal.returns-in-Ok-Some-clause-tidies
returns-in-Ok-Some-clause-tidies g c = tidies_read g.D.PageDisk c.args.core.now c.read.new.self c.read.ensures.same c.read.ensures.disk c.read.ensures.crash

pub returns-in_default-clause-tidies : goal.returns-in_default-clause-tidies
returns-in_default-clause-tidies g c = tidies_read g.D.PageDisk c.args.core.now c.read.new.self c.read.ensures.same c.read.ensures.disk c.read.ensures.crash

pub returns-in-Ok-Some-clause-store : goal.returns-in-Ok-Some-clause-store
returns-in-Ok-Some-clause-store g c = store_read c.args.core.now c.read.new.self c.read.ensures.same

pub returns-in_default-clause-store : goal.returns-in_default-clause-store
returns-in_default-clause-store g c = store_read c.args.core.now c.read.new.self c.read.ensures.same
