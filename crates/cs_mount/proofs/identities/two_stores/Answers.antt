use Rattle.cs_disk.proofs.OnlyRead.{reads_on}
use Rattle.cs_mount.proofs.identities.two_stores.Goals as goal

pub returns-in-Ok-clause-disk : goal.returns-in-Ok-clause-disk
returns-in-Ok-clause-disk g c = reads_on g.D.PageDisk c.args.disk.now c.read_store.new.disk c.read_store-in-Ok-Some.new.disk c.read_store.ensures.disk c.read_store-in-Ok-Some.ensures.disk

pub returns-in-Err-read_store-clause-disk : goal.returns-in-Err-read_store-clause-disk
returns-in-Err-read_store-clause-disk g c = reads_on g.D.PageDisk c.args.disk.now c.read_store.new.disk c.read_store-in-Ok-Some.new.disk c.read_store.ensures.disk c.read_store-in-Ok-Some.ensures.disk
