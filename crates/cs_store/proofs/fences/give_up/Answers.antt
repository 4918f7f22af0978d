use Rattle.cs_disk.specs.Disk.{seen}
use Rattle.cs_mount.proofs.Fenced.{crash_fenced}
use Rattle.cs_store.proofs.fences.give_up.Goals as goal

pub returns-in-Err-clause-refused : goal.returns-in-Err-clause-refused
returns-in-Err-clause-refused g c = λ h. crash_fenced (g.D.PageDisk.state c.args.disk.now) c.args.unread.now (seen (g.D.PageDisk.state c.fence_pages.new.disk)) (c.fence_pages.ensures.seen h)
