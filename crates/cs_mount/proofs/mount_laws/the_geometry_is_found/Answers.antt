use Rattle.cs_mount.proofs.Telling.{found_by_last, found_by_zero}
use Rattle.cs_mount.proofs.mount_laws.the_geometry_is_found.Goals as goal

pub returns-clause-by_zero : goal.returns-clause-by_zero
returns-clause-by_zero c = found_by_zero

pub returns-clause-by_last : goal.returns-clause-by_last
returns-clause-by_last c = found_by_last
