use Rattle.std.proofs.Common.{ap, sym}
use Rattle.cs_disk.proofs.OnlyRead.{reads_on}
use Rattle.cs_disk.specs.Disk.{page, seen}
use Rattle.cs_reader.proofs.HeadReads.{still_head}
use Rattle.cs_salvage.proofs.Opening.{failed_before, not_rescued, rescued_before, why_before}
use Rattle.cs_salvage.proofs.rescues.read_store.Goals as goal

pub read_index-requires : goal.read_index-requires
read_index-requires g c =
    let read = c.read_head.ensures.disk in
    still_head (g.D.PageDisk.state c.read_head.new.disk) (g.D.PageDisk.state c.args.disk.now) (g.D.PageDisk.honest c.read_head.new.disk) (g.D.PageDisk.honest c.args.disk.now) (λ h. read.honesty.1 h) (λ h. sym (ap seen (read.same (read.honesty.1 h))))
    (g.D.PageDisk.page_count c.read_head.new.disk) (g.D.PageDisk.page_count c.args.disk.now) (sym read.pages) c.in-Ok.head c.in-Ok.ensures.head

pub returns-in-Ok-clause-found : goal.returns-in-Ok-clause-found
returns-in-Ok-clause-found g c =
    let read = c.read_head.ensures.disk in
    rescued_before (g.D.PageDisk.state c.args.disk.now) (g.D.PageDisk.state c.read_head.new.disk) (g.D.PageDisk.honest c.args.disk.now) (g.D.PageDisk.honest c.read_head.new.disk) (λ h. read.honesty.0 h) (λ h. ap seen (read.same h))
    (g.D.PageDisk.page_count c.args.disk.now) (g.D.PageDisk.page_count c.read_head.new.disk) read.pages c.read_index.result c.read_index.ensures.found

pub returns-in-Ok-clause-why : goal.returns-in-Ok-clause-why
returns-in-Ok-clause-why g c =
    let read = c.read_head.ensures.disk in
    why_before (g.D.PageDisk.state c.args.disk.now) (g.D.PageDisk.state c.read_head.new.disk) (g.D.PageDisk.honest c.args.disk.now) (g.D.PageDisk.honest c.read_head.new.disk) (λ h. read.honesty.0 h) (λ h. ap seen (read.same h))
    (g.D.PageDisk.page_count c.args.disk.now) (g.D.PageDisk.page_count c.read_head.new.disk) read.pages c.read_index.result c.read_index.ensures.why

pub returns-in-Err-clause-why : goal.returns-in-Err-clause-why
returns-in-Err-clause-why g c = λ h. not_rescued (g.D.PageDisk.page_count c.args.disk.now) (page (seen (g.D.PageDisk.state c.args.disk.now))) c.in-Err.refusal (c.in-Err.ensures.why h)

pub returns-in-Ok-clause-disk : goal.returns-in-Ok-clause-disk
returns-in-Ok-clause-disk g c = reads_on g.D.PageDisk c.args.disk.now c.read_head.new.disk c.read_index.new.disk c.read_head.ensures.disk c.read_index.ensures.disk

pub returns-in-Ok-clause-failed : goal.returns-in-Ok-clause-failed
returns-in-Ok-clause-failed g c = failed_before (g.D.PageDisk.failure_count c.args.disk.now) (g.D.PageDisk.failure_count c.read_head.new.disk) (g.D.PageDisk.failure_count c.read_index.new.disk) c.read_head.ensures.disk.failures c.read_index.result c.read_index.ensures.failed
