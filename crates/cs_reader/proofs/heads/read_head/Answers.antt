use Rattle.std.proofs.Common.{◌∙◌, ◌⊎◌, ap, subst, sym}
use Rattle.cs_chunk.specs.Reads.{IsNoAnswer}
use Rattle.cs_disk.proofs.OnlyRead.{reads_on}
use Rattle.cs_disk.specs.Disk.{State, page, seen}
use Rattle.cs_reader.specs.Openings.{IsWhyNoSections}
use Rattle.cs_reader.proofs.HeadReads.{first_damaged, head_before, other_device, section_damaged}
use Rattle.cs_reader.proofs.heads.read_head.Goals as goal

pub returns-in-Err-clause-why : goal.returns-in-Err-clause-why
returns-in-Err-clause-why g c = λ h. first_damaged (g.D.PageDisk.page_count c.args.disk.now) (page (seen (g.D.PageDisk.state c.args.disk.now))) c.in-Err.refusal c.requires (c.in-Err.ensures.why h)

pub returns-then-pages-device_pages-clause-why : goal.returns-then-pages-device_pages-clause-why
returns-then-pages-device_pages-clause-why g c = λ h.
    other_device (g.D.PageDisk.page_count c.args.disk.now) (page (seen (g.D.PageDisk.state c.args.disk.now))) c.in-Ok.first c.requires c.in-Ok.ensures.first (c.in-Ok.ensures.read h)
    (λ same. c.if-pages-device_pages.true (c.pages.ensures ∙ c.read_first.ensures.disk.pages ∙ same ∙ sym c.device_pages.ensures))

pub returns-in-Ok-read_sections-clause-head : goal.returns-in-Ok-read_sections-clause-head
returns-in-Ok-read_sections-clause-head g c =
    let D = g.D.PageDisk in
    let old = c.args.disk.now in
    let mid = c.read_sections.new.disk in
    let both = reads_on D old c.read_first.new.disk mid c.read_first.ensures.disk c.read_sections.ensures.disk in
    head_before (D.state old) (D.state mid) (D.honest old) (D.honest mid) (λ h. both.honesty.0 h) (λ h. ap seen (both.same h)) (D.page_count old) (D.page_count mid) both.pages c.read_with_sections.result c.read_with_sections.ensures.head

pub returns-in-Ok-read_sections-clause-disk : goal.returns-in-Ok-read_sections-clause-disk
returns-in-Ok-read_sections-clause-disk g c =
    let D = g.D.PageDisk in
    reads_on D c.args.disk.now c.read_sections.new.disk c.read_with_sections.new.disk (reads_on D c.args.disk.now c.read_first.new.disk c.read_sections.new.disk c.read_first.ensures.disk c.read_sections.ensures.disk) c.read_with_sections.ensures.disk

pub returns-in-Err-read_sections-clause-why : goal.returns-in-Err-read_sections-clause-why
returns-in-Err-read_sections-clause-why g c = λ h.
    let first = c.in-Ok.first in
    let r = c.in-Err-read_sections.refusal in
    let reads = c.read_first.ensures.disk in
    section_damaged (g.D.PageDisk.page_count c.args.disk.now) (page (seen (g.D.PageDisk.state c.args.disk.now))) first r c.in-Ok.ensures.first (c.in-Ok.ensures.read h)
    (sym reads.pages ∙ sym c.pages.ensures ∙ c.if-pages-device_pages.false ∙ c.device_pages.ensures)
    (subst (λ (s : State). IsNoAnswer r ⊎ IsWhyNoSections (page (seen s)) first.format first.extent_count first.pages first.sections r) (reads.same h) (c.in-Err-read_sections.ensures.why (reads.honesty.0 h)))

pub returns-in-Err-read_sections-clause-disk : goal.returns-in-Err-read_sections-clause-disk
returns-in-Err-read_sections-clause-disk g c = reads_on g.D.PageDisk c.args.disk.now c.read_first.new.disk c.read_sections.new.disk c.read_first.ensures.disk c.read_sections.ensures.disk
