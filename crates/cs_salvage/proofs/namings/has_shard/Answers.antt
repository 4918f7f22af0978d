use Rattle.std.proofs.Common.{rules}
use Rattle.std.proofs.lemmas.List.Sorted.{answers_always}
use Rattle.cs_salvage.specs.declared.whole_shards.WholeShard.{WholeShard}
use Rattle.cs_salvage.proofs.Countings.{found_at, none_at}
use Rattle.cs_salvage.proofs.namings.has_shard.Goals as goal

pub returns-in-Ok : goal.returns-in-Ok
returns-in-Ok c = found_at c.args.shards.now c.args.id _ c.in-Ok.ensures.bound (c.in-Ok.ensures.position (λ (shard : WholeShard). shard.put.id) (answers_always _ _ _ (λ f a r q k. search rules)))

pub returns-in-Err : goal.returns-in-Err
returns-in-Err c = none_at c.args.shards.now c.args.id _ (c.in-Err.ensures.position (λ (shard : WholeShard). shard.put.id) (answers_always _ _ _ (λ f a r q k. search rules)))
