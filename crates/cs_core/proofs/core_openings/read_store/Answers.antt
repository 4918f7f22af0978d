use Rattle.std.proofs.Common.{ap, sym}
use Rattle.cs_disk.proofs.OnlyRead.{reads_on}
use Rattle.cs_disk.specs.Disk.{page, seen}
use Rattle.cs_reader.proofs.HeadReads.{still_head}
use Rattle.cs_core.proofs.Opening.{not_opened, some_made}
use Rattle.cs_core.proofs.core_openings.read_store.Goals as goal

pub read_rest-requires : goal.read_rest-requires
read_rest-requires g c =
    let read = c.read_head.ensures.disk in
    still_head (g.D.PageDisk.state c.read_head.new.disk) (g.D.PageDisk.state c.args.disk.now) (g.D.PageDisk.honest c.read_head.new.disk) (g.D.PageDisk.honest c.args.disk.now) (λ h. read.honesty.1 h) (λ h. sym (ap seen (read.same (read.honesty.1 h))))
    (g.D.PageDisk.page_count c.read_head.new.disk) (g.D.PageDisk.page_count c.args.disk.now) (sym read.pages) c.in-Ok.head c.in-Ok.ensures.head

pub returns-in-Ok-clause-made : goal.returns-in-Ok-clause-made
returns-in-Ok-clause-made g c =
    let read = c.read_head.ensures.disk in
    some_made (g.D.PageDisk.state c.args.disk.now) (g.D.PageDisk.state c.read_head.new.disk) (g.D.PageDisk.honest c.args.disk.now) (g.D.PageDisk.honest c.read_head.new.disk) (λ h. read.honesty.0 h) (λ h. ap seen (read.same h))
    (g.D.PageDisk.page_count c.args.disk.now) (g.D.PageDisk.page_count c.read_head.new.disk) c.read_rest.result read.pages c.read_rest.ensures.made

pub returns-in-Err-clause-why : goal.returns-in-Err-clause-why
returns-in-Err-clause-why g c = λ h. not_opened (g.D.PageDisk.page_count c.args.disk.now) (page (seen (g.D.PageDisk.state c.args.disk.now))) c.in-Err.refusal (c.in-Err.ensures.why h)

pub returns-in-Ok-clause-disk : goal.returns-in-Ok-clause-disk
returns-in-Ok-clause-disk g c = reads_on g.D.PageDisk c.args.disk.now c.read_head.new.disk c.read_rest.new.disk c.read_head.ensures.disk c.read_rest.ensures.disk
