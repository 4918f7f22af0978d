use Rattle.std.proofs.Common.{◌≡◌, ◌∙◌, ◌-◌, ◌*◌, ℕ, ap, ap₂, arith, subst, sym}
use Rattle.cs_chunk.specs.Chunks.{end_in}
use Rattle.cs_disk.proofs.OnlyRead.{reads_on}
use Rattle.cs_disk.specs.Disk.{State, page, seen}
use Rattle.cs_disk.specs.Reads.{OnlyReads}
use Rattle.cs_extent.specs.State.{extents_of, shape}
use Rattle.cs_frame.specs.Frames.{page_count}
use Rattle.law_machine.specs.Extents.{reach}
use Rattle.cs_salvage.specs.Frames.{AreReadAs}
use Rattle.cs_salvage.proofs.Noise.{front_read, header_meant, header_other}
use Rattle.cs_salvage.proofs.rescued_runs.read_meant_pages.Goals as goal

pub returns-in_default-clause-pages : goal.returns-in_default-clause-pages
returns-in_default-clause-pages g c = λ h.
    let image = seen (g.D.PageDisk.state c.args.disk.now) in
    let end : c.end_of-end.result ≡ end_in c.args.extents.now c.args.place = c.end_of-end.ensures.end ∙ ap₂ (λ (e p : ℕ). reach (shape c.args.extents.now) ((extents_of c.args.extents.now).found e) p) c.from.ensures c.from-2.ensures in
    let above = c.end_of-end.ensures.above (omega (arith, c.from-2.ensures, c.requires.page)) in
    let pages : c.args.place.extent * c.geometry-geometry.result.pages ≡ c.args.place.extent * (shape c.args.extents.now).pages = ap (λ (p : ℕ). c.args.place.extent * p) c.geometry-geometry.ensures.pages in
    header_other c.args.extents.now (page image) c.args.place (c.end_of-end.result - c.from-3.result) (omega (arith, end, c.from-3.ensures)) (omega (arith, above, c.from-3.ensures, c.from-2.ensures))
    c.device_page-number.result (omega (arith, c.device_page-number.ensures, pages)) c.read.new.buffer (c.in-Ok.ensures.bytes h)
    c.format-format.result (c.format-format.ensures.format ∙ c.geometry-geometry.ensures.format) c.decode_meant_header.result c.decode_meant_header.ensures.fault c.in_default.not-Ok

pub returns-in-Ok-read_pages-clause-pages : goal.returns-in-Ok-read_pages-clause-pages
returns-in-Ok-read_pages-clause-pages g c = λ h.
    let image = seen (g.D.PageDisk.state c.args.disk.now) in
    let end : c.end_of-end.result ≡ end_in c.args.extents.now c.args.place = c.end_of-end.ensures.end ∙ ap₂ (λ (e p : ℕ). reach (shape c.args.extents.now) ((extents_of c.args.extents.now).found e) p) c.from.ensures c.from-2.ensures in
    let above = c.end_of-end.ensures.above (omega (arith, c.from-2.ensures, c.requires.page)) in
    let pages : c.args.place.extent * c.geometry-geometry.result.pages ≡ c.args.place.extent * (shape c.args.extents.now).pages = ap (λ (p : ℕ). c.args.place.extent * p) c.geometry-geometry.ensures.pages in
    let same = c.read.ensures.state h in
    let first : c.read.new.buffer ≡ page (seen (g.D.PageDisk.state c.read.new.self)) c.device_page-number.result =
    c.in-Ok.ensures.bytes h ∙ ap (λ (s : State). page (seen s) c.device_page-number.result) (sym same) in
    let were = subst (λ (s : State). AreReadAs (seen s) c.device_page-number.result c.pages.result c.in-Ok-read_pages.pages.items) same (c.in-Ok-read_pages.ensures.pages (c.read.ensures.honest.0 h) first) in
    record {
      meant = header_meant c.args.extents.now (page image) c.args.place (c.end_of-end.result - c.from-3.result) (omega (arith, end, c.from-3.ensures)) (omega (arith, above, c.from-3.ensures, c.from-2.ensures))
          c.device_page-number.result (omega (arith, c.device_page-number.ensures, pages)) c.read.new.buffer (c.in-Ok.ensures.bytes h)
          c.format-format.result (c.format-format.ensures.format ∙ c.geometry-geometry.ensures.format) c.decode_meant_header.result c.decode_meant_header.ensures.fault c.in-Ok-decode_meant_header.header c.in-Ok-decode_meant_header.is;
      front = front_read c.args.extents.now (page image) c.args.place (c.end_of-end.result - c.from-3.result) (omega (arith, end, c.from-3.ensures)) (omega (arith, above, c.from-3.ensures, c.from-2.ensures))
          c.device_page-number.result (omega (arith, c.device_page-number.ensures, pages)) c.read.new.buffer (c.in-Ok.ensures.bytes h)
          c.in-Ok-read_pages.pages.items c.pages.result (c.pages.ensures ∙ ap page_count c.in-Ok-decode_meant_header.ensures.length) (omega (arith, c.pages.ensures, c.in-Ok-decode_meant_header.ensures.room)) were.size were.each;
    }

pub returns-in-Ok-read_pages-clause-disk : goal.returns-in-Ok-read_pages-clause-disk
returns-in-Ok-read_pages-clause-disk g c =
    let e = c.read.ensures in
    let once : OnlyReads g.D.PageDisk c.args.disk.now c.read.new.self = record { same = e.state; still = e.still; time = e.time; device = e.device; honesty = e.honest; pages = e.pages; failures = e.cause.later; sound = e.sound } in
    reads_on g.D.PageDisk c.args.disk.now c.read.new.self c.read_pages.new.disk once c.read_pages.ensures.disk

pub returns-in-Err-read_pages-clause-disk : goal.returns-in-Err-read_pages-clause-disk
returns-in-Err-read_pages-clause-disk g c =
    let e = c.read.ensures in
    let once : OnlyReads g.D.PageDisk c.args.disk.now c.read.new.self = record { same = e.state; still = e.still; time = e.time; device = e.device; honesty = e.honest; pages = e.pages; failures = e.cause.later; sound = e.sound } in
    reads_on g.D.PageDisk c.args.disk.now c.read.new.self c.read_pages.new.disk once c.read_pages.ensures.disk
