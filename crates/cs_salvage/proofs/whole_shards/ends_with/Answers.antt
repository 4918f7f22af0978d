use Rattle.cs_salvage.specs.declared.whole_shards.WholeShard.{WholeShard}
use Rattle.cs_salvage.proofs.Sames.{ends_by}
use Rattle.cs_salvage.proofs.whole_shards.ends_with.Goals as goal

pub returns-in-Some : goal.returns-in-Some
returns-in-Some c = ends_by (λ (shard : WholeShard). shard.put.id) c.args.id c.args.shards.now c.in-Some.last.now c.eq.result c.in-Some.ensures.value c.eq.ensures
