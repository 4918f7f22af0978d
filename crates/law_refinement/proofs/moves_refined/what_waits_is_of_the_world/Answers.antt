use Rattle.law_refinement.proofs.moves_refined.what_waits_is_of_the_world.Goals as goal
use Rattle.law_refinement.proofs.Keeping.{kept_writes}
use Rattle.law_refinement.proofs.Worlds.{needs_within}
use Rattle.cs_extent.specs.State.{need_of, shape}

pub returns : goal.returns
returns c = record {
  writes = λ x g w m is whole waits keeps. kept_writes x g w m is whole waits keeps;
  needs = λ x g w j k v d z is at names. needs_within (shape x) (need_of x) w g.staging is.staging j k v d z at names;
}
