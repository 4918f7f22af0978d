use Rattle.cs_disk.proofs.OnlyRead.{reads_on}
use Rattle.cs_mount.proofs.chosen.find_hidden.Goals as goal

pub returns-then-says_another-2-clause-disk : goal.returns-then-says_another-2-clause-disk
returns-then-says_another-2-clause-disk g c = reads_on g.D.PageDisk c.args.disk.now c.read_store.new.disk c.read_store-2.new.disk c.read_store.ensures.disk c.read_store-2.ensures.disk

pub returns-else-says_another-2-clause-disk : goal.returns-else-says_another-2-clause-disk
returns-else-says_another-2-clause-disk g c = reads_on g.D.PageDisk c.args.disk.now c.read_store.new.disk c.read_store-2.new.disk c.read_store.ensures.disk c.read_store-2.ensures.disk

pub returns-in-Err-read_store-clause-disk : goal.returns-in-Err-read_store-clause-disk
returns-in-Err-read_store-clause-disk g c = reads_on g.D.PageDisk c.args.disk.now c.read_store.new.disk c.read_store-2.new.disk c.read_store.ensures.disk c.read_store-2.ensures.disk
