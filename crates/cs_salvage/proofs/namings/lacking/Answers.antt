use Rattle.std.proofs.Common.{arith, inl, inr}
use Rattle.cs_salvage.proofs.Countings.{all_counted, all_there, none_tested, one_tested}
use Rattle.cs_salvage.proofs.namings.lacking.Goals as goal
use Rattle.cs_salvage.proofs.namings.lacking.Goals.{else-not-has_shard, then-not-has_shard}

pub loop-k-init : goal.loop-k-init
loop-k-init c = none_tested c.args.shards.now c.args.ids.now

pub loop-k-preserved : goal.loop-k-preserved
loop-k-preserved c = elim c.if-not-has_shard.branch [
  | then-not-has_shard w ↦
      one_tested c.args.shards.now c.args.ids.now c.loop-k.k _ c.loop-k.count c.loop-k-test.true c.loop-k.invariant c.has_shard.result c.if-not-has_shard.count c.has_shard.ensures (inr (w.if-not-has_shard.true, w.count-is))
  | else-not-has_shard w ↦
      one_tested c.args.shards.now c.args.ids.now c.loop-k.k _ c.loop-k.count c.loop-k-test.true c.loop-k.invariant c.has_shard.result c.if-not-has_shard.count c.has_shard.ensures (inl (w.if-not-has_shard.false, w.count-is))
]

pub returns : goal.returns
returns c = record {
  count = all_counted c.args.shards.now c.args.ids.now c.loop-k.k c.loop-k.count c.loop-k-test.false c.loop-k.invariant;
  all = all_there c.args.shards.now c.args.ids.now c.loop-k.k c.loop-k.count c.loop-k-test.false c.loop-k.invariant;
  most = omega (arith, c.loop-k.invariant.few, c.loop-k.auto.k-end);
}
