use Rattle.std.proofs.Common.{◌≡◌, ◌∙◌, ap, arith, subst, sym}
use Rattle.cs_disk.proofs.OnlyRead.{reads_on}
use Rattle.cs_disk.specs.Disk.{State, page, seen}
use Rattle.cs_disk.specs.Reads.{OnlyReads}
use Rattle.cs_frame.specs.declared.formats.FormatNumber.{FormatNumber}
use Rattle.cs_frame.specs.Faults.{fault_in}
use Rattle.cs_frame.specs.FormatNumbers.{number_in}
use Rattle.cs_frame.specs.Frames.{header_fault, page_count}
use Rattle.cs_salvage.specs.Frames.{AreReadAs}
use Rattle.cs_salvage.proofs.Pages.{chunk_on_image, refused_there}
use Rattle.cs_salvage.proofs.Standing.{front_read}
use Rattle.cs_salvage.proofs.Stretches.{length_seen}
use Rattle.cs_frame.proofs.GeometryLaws.{bounds}
use Rattle.cs_salvage.proofs.parts.read_frame_pages.Goals as goal

pub returns-then-there-eq0-clause-pages : goal.returns-then-there-eq0-clause-pages
returns-then-there-eq0-clause-pages g c = λ h payload it.
    let image = seen (g.D.PageDisk.state c.args.disk.now) in
    let fits = chunk_on_image c.args.geometry image c.args.extent c.args.page payload it in
    let sized = length_seen (g.D.PageDisk.state c.args.disk.now) (g.D.PageDisk.page_count c.args.disk.now) (g.met.D.PageDisk.sized c.args.disk.now h) in
    omega (arith, fits, sized, c.pages_there-there.ensures, c.if-there-eq0.true, c.pages.ensures, c.device_page-number.ensures, c.requires.page)

pub returns-in_default-clause-pages : goal.returns-in_default-clause-pages
returns-in_default-clause-pages g c = λ h payload it.
    let image = seen (g.D.PageDisk.state c.args.disk.now) in
    let fits = chunk_on_image c.args.geometry image c.args.extent c.args.page payload it in
    let sized = length_seen (g.D.PageDisk.state c.args.disk.now) (g.D.PageDisk.page_count c.args.disk.now) (g.met.D.PageDisk.sized c.args.disk.now h) in
    let few = (bounds _ _ _ _ c.format.ensures.geometry).most_pages in
    refused_there c.args.geometry image c.args.extent c.args.page c.pages_there-there.result c.device_page-number.result c.read.new.buffer c.decode_frame_header.result
    (omega (arith, c.device_page-number.ensures)) (c.in-Ok.ensures.bytes h) (omega (arith, c.if-there-eq0.false))
    (subst (λ (n : FormatNumber). fault_in c.decode_frame_header.result ≡ header_fault n 0 c.read.new.buffer c.pages_there-there.result) (c.number-format.ensures.number ∙ ap number_in c.format.ensures.format) c.decode_frame_header.ensures.fault)
    c.in_default.not-Ok payload (omega (arith, it.ends, few)) (omega (arith, fits, it.ends, sized, c.pages_there-there.ensures, c.pages.ensures, c.device_page-number.ensures)) it

pub returns-in-Ok-read_pages-clause-pages : goal.returns-in-Ok-read_pages-clause-pages
returns-in-Ok-read_pages-clause-pages g c = λ h.
    let image = seen (g.D.PageDisk.state c.args.disk.now) in
    let same = c.read.ensures.state h in
    let first : c.read.new.buffer ≡ page (seen (g.D.PageDisk.state c.read.new.self)) c.device_page-number.result =
    c.in-Ok.ensures.bytes h ∙ ap (λ (s : State). page (seen s) c.device_page-number.result) (sym same) in
    let were = subst (λ (s : State). AreReadAs (seen s) c.device_page-number.result c.pages-2.result c.in-Ok-read_pages.pages.items) same (c.in-Ok-read_pages.ensures.pages (c.read.ensures.honest.0 h) first) in
    front_read c.args.geometry image c.format.ensures.geometry c.args.extent c.args.page c.device_page-number.result c.device_page-number.ensures c.requires.page c.read.new.buffer (c.in-Ok.ensures.bytes h)
    c.in-Ok-read_pages.pages.items c.pages-2.result (c.pages-2.ensures ∙ ap page_count c.in-Ok-decode_frame_header.ensures.length)
    (omega (arith, c.pages-2.ensures, c.in-Ok-decode_frame_header.ensures.room, c.pages_there-there.ensures)) were

pub returns-in-Ok-read_pages-clause-disk : goal.returns-in-Ok-read_pages-clause-disk
returns-in-Ok-read_pages-clause-disk g c =
    let e = c.read.ensures in
    let once : OnlyReads g.D.PageDisk c.args.disk.now c.read.new.self = record { same = e.state; still = e.still; time = e.time; device = e.device; honesty = e.honest; pages = e.pages; failures = e.cause.later; sound = e.sound } in
    reads_on g.D.PageDisk c.args.disk.now c.read.new.self c.read_pages.new.disk once c.read_pages.ensures.disk

pub returns-in-Err-read_pages-clause-disk : goal.returns-in-Err-read_pages-clause-disk
returns-in-Err-read_pages-clause-disk g c =
    let e = c.read.ensures in
    let once : OnlyReads g.D.PageDisk c.args.disk.now c.read.new.self = record { same = e.state; still = e.still; time = e.time; device = e.device; honesty = e.honest; pages = e.pages; failures = e.cause.later; sound = e.sound } in
    reads_on g.D.PageDisk c.args.disk.now c.read.new.self c.read_pages.new.disk once c.read_pages.ensures.disk
