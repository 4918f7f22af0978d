use Rattle.cs_disk.proofs.OnlyRead.{reads_on}
use Rattle.cs_mount.proofs.looks.read_store.Goals as goal

pub returns-in-Ok-pairs-clause-disk : goal.returns-in-Ok-pairs-clause-disk
returns-in-Ok-pairs-clause-disk g c = reads_on g.D.PageDisk c.args.disk.now c.find_geometry.new.disk c.read_findings.new.disk c.find_geometry.ensures.disk c.read_findings.ensures.disk
