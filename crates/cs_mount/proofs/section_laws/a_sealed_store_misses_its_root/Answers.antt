use Rattle.cs_mount.proofs.SealedRoots.{is_sealed_then, none_recovered, root_lost}
use Rattle.cs_mount.proofs.section_laws.a_sealed_store_misses_its_root.Goals as goal

pub returns-clause-sealed : goal.returns-clause-sealed
returns-clause-sealed c = λ d image n m g twins found low. is_sealed_then d g twins image n m found low

pub returns-clause-missed : goal.returns-clause-missed
returns-clause-missed c = λ d image other n k m o g twins found on older. none_recovered d g twins image n m found on other older k o

pub returns-clause-refused : goal.returns-clause-refused
returns-clause-refused c = λ d image other n m g twins found on older. root_lost d g twins image n m found on other older
