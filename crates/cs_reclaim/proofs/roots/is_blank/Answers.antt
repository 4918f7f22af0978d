use Rattle.std.proofs.Common.{arith}
use Rattle.cs_frame.proofs.GeometryLaws.{bounds}
use Rattle.cs_reclaim.proofs.roots.is_blank.Goals as goal

pub lives_on-requires : goal.lives_on-requires
lives_on-requires c = omega (arith, c.requires.inside, (bounds _ _ _ _ c.extent_count.ensures.whole.geometry).most_extents)

pub has_run_on-requires : goal.has_run_on-requires
has_run_on-requires c = omega (arith, c.requires.inside, (bounds _ _ _ _ c.extent_count.ensures.whole.geometry).most_extents)
