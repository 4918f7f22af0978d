use Rattle.std.proofs.Common.{arith}
use Rattle.cs_disk.specs.Disk.{seen}
use Rattle.cs_salvage.proofs.Scanning.{more_scanned, only_passed, still_apart, still_frames}
use Rattle.cs_salvage.proofs.scans.scan_on.Goals as goal

pub returns-clause-scanned : goal.returns-clause-scanned
returns-clause-scanned g c = λ h was.
    let image = seen (g.D.PageDisk.state c.args.disk.now) in
    let count = g.D.PageDisk.page_count c.args.disk.now in
    let scan = c.args.scan in
    let finds = c.scan_stretch.new.finds in
    let it = c.in_ok-page.ensures in
    more_scanned c.args.sought.now image scan.page c.in_ok-page.page count scan.unreadable.items finds.unreadable.items c.new.result.items finds.parts.items c.deref.result.now c.new.ensures.items
    scan.greatest c.greatest_of.result c.max.result c.deref.ensures.value c.greatest_of.ensures.greatest c.greatest_of.ensures.outside c.max.ensures it.next.0 it.more (it.parts h scan.page (omega arith))
    (still_apart c.args.sought.now image scan.page c.in_ok-page.page count scan.unreadable.items finds.unreadable.items c.new.result.items finds.parts.items c.deref.result.now c.new.ensures.items (it.apart 0 (omega arith)) c.requires.apart) was

pub returns-clause-apart : goal.returns-clause-apart
returns-clause-apart g c =
    let image = seen (g.D.PageDisk.state c.args.disk.now) in
    let count = g.D.PageDisk.page_count c.args.disk.now in
    let scan = c.args.scan in
    let finds = c.scan_stretch.new.finds in
    only_passed c.args.sought.now.geometry 0 count c.in_ok-page.page finds.unreadable.items finds.parts.items
    (still_apart c.args.sought.now image scan.page c.in_ok-page.page count scan.unreadable.items finds.unreadable.items c.new.result.items finds.parts.items c.deref.result.now c.new.ensures.items (c.in_ok-page.ensures.apart 0 (omega arith)) c.requires.apart)

pub returns-clause-spelled : goal.returns-clause-spelled
returns-clause-spelled g c = λ was.
    let image = seen (g.D.PageDisk.state c.args.disk.now) in
    let scan = c.args.scan in
    let finds = c.scan_stretch.new.finds in
    let it = c.in_ok-page.ensures in
    still_frames c.args.sought.now image scan.page c.in_ok-page.page 0 scan.unreadable.items finds.unreadable.items c.new.result.items finds.parts.items c.deref.result.now c.new.ensures.items
    scan.greatest c.greatest_of.result c.max.result c.deref.ensures.value c.greatest_of.ensures.greatest c.max.ensures it.spelled it.taken was
