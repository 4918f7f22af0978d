use Rattle.std.proofs.Common.{refl}
use Rattle.cs_options.proofs.GeometrySteps.{few_suit, fewer_suit_none}
use Rattle.cs_options.proofs.geometry_options.size_with.Goals as goal

pub returns-clause-enough : goal.returns-clause-enough
returns-clause-enough c =
    few_suit c.args.wish.shard_size c.args.wish.shards c.args.pages c.of-cut.result.chunks c.of-cut.result.longest c.div_ceil-full.result c.extents_for-extents.result
    (c.if-not-holds.ensures.0 refl).0 c.of-cut.ensures.chunks c.of-cut.ensures.longest c.div_ceil-full.ensures c.extents_for-extents.ensures.bounds (c.if-not-holds.ensures.0 refl) c.extents_for-extents.ensures.enough c.extents_for-extents.ensures.holds

pub returns-clause-least : goal.returns-clause-least
returns-clause-least c =
    fewer_suit_none c.args.wish.shard_size c.args.wish.shards c.args.pages c.of-cut.result.chunks c.of-cut.result.longest c.div_ceil-full.result c.extents_for-extents.result
    (c.if-not-holds.ensures.0 refl).0 c.of-cut.ensures.chunks c.of-cut.ensures.longest c.div_ceil-full.ensures c.extents_for-extents.ensures.bounds c.extents_for-extents.ensures.least
