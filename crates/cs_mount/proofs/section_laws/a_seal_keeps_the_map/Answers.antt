use Rattle.cs_mount.proofs.SealedImages.{seal_recovers}
use Rattle.cs_mount.proofs.section_laws.a_seal_keeps_the_map.Goals as goal

pub returns : goal.returns
returns c = λ d image n m g twins found low. seal_recovers d.format d.extents d.pages d.sections g twins image n m found low
