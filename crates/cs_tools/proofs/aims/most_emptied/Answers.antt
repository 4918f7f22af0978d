use Rattle.std.proofs.Common.{inl, inr}
use Rattle.cs_tools.proofs.Aiming.{few_extents, most_brim, most_pairs}
use Rattle.cs_tools.proofs.aims.most_emptied.Goals as goal

pub most_to_brim-requires : goal.most_to_brim-requires
most_to_brim-requires c = few_extents c.args.extents.now c.extent_count-count.result c.extent_count-count.ensures.whole c.extent_count-count.ensures.count

pub most_to_brim-requires-in-Brim : goal.most_to_brim-requires-in-Brim
most_to_brim-requires-in-Brim c = few_extents c.args.extents.now c.extent_count-count.result c.extent_count-count.ensures.whole c.extent_count-count.ensures.count

pub returns-in-Pairs : goal.returns-in-Pairs
returns-in-Pairs c =
    most_pairs c.args.aim c.args.extents.now c.extent_count-count.result c.saturating_mul.result c.in-Pairs.is c.extent_count-count.ensures.whole c.extent_count-count.ensures.count c.saturating_mul.ensures

pub returns-in-Room : goal.returns-in-Room
returns-in-Room c =
    most_brim c.args.aim c.args.extents.now c.extent_count-count.result c.most_to_brim.result (inl (_, c.in-Room.is)) c.extent_count-count.ensures.count c.most_to_brim.ensures

pub returns-in-Brim : goal.returns-in-Brim
returns-in-Brim c =
    most_brim c.args.aim c.args.extents.now c.extent_count-count.result c.most_to_brim-in-Brim.result (inr c.in-Brim.is) c.extent_count-count.ensures.count c.most_to_brim-in-Brim.ensures
