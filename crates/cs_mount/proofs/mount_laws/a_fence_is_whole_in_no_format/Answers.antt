use Rattle.std.proofs.Common.{Some, refl}
use Rattle.cs_twin.specs.Pairs.{fence}
use Rattle.cs_mount.specs.Hollow.{no_fence}
use Rattle.cs_mount.proofs.Refinding.{fence_damaged}
use Rattle.cs_mount.proofs.mount_laws.a_fence_is_whole_in_no_format.Goals as goal

pub returns-clause-zero : goal.returns-clause-zero
returns-clause-zero c = fence_damaged fence refl

pub returns-clause-pairs : goal.returns-clause-pairs
returns-clause-pairs c = λ d number. no_fence (Some d) number
