use Rattle.std.proofs.Common.{Some, subst, sym}
use Rattle.cs_twin.specs.Pairs.{ArePairs}
use Rattle.cs_twin.proofs.Mixing.{fences_show}
use Rattle.cs_mount.specs.Hollow.{no_fence}
use Rattle.cs_mount.specs.StorePairs.{store_pairs, store_version}
use Rattle.cs_mount.proofs.Blank.{apart_of}
use Rattle.cs_mount.proofs.mount_laws.a_torn_fence_of_a_store_shows_the_same.Goals as goal

pub returns : goal.returns
returns c = λ d s image g sized newer fences size each.
    fences_show (store_version (Some d)) (store_pairs d) s image (subst (λ n. ArePairs (store_pairs d) n) (sym sized) (apart_of d g)) newer (λ q. no_fence (Some d) q) fences size each
