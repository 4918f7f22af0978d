use Rattle.std.proofs.Common.{subst}
use Rattle.cs_disk.specs.Disk.{seen}
use Rattle.cs_frame.specs.declared.formats.FormatNumber.{FormatNumber}
use Rattle.cs_advice.specs.Knowns.{NamesStore}
use Rattle.cs_advice.proofs.Knowing.{sections_content, sections_length, sections_some}
use Rattle.cs_advice.proofs.knowns.content_of_named.Goals as goal

pub returns-in-Four-clause-content : goal.returns-in-Four-clause-content
returns-in-Four-clause-content g c = λ h names.
    let disks = g.D.PageDisk in
    let old = c.args.disk.now in
    c.content_of_pairs.ensures.content h (subst (λ (format : FormatNumber). NamesStore (disks.page_count old) (seen (disks.state old)) format (disks.page_count old)) c.in-Four.is names)

pub returns-in-Two-clause-some : goal.returns-in-Two-clause-some
returns-in-Two-clause-some g c = sections_some c.content_of_sections.result c.content_of_sections.ensures.kind

pub returns-in-Two-clause-length : goal.returns-in-Two-clause-length
returns-in-Two-clause-length g c = sections_length c.content_of_sections.result c.content_of_sections.ensures.kind

pub returns-in-Two-clause-content : goal.returns-in-Two-clause-content
returns-in-Two-clause-content g c = λ h names.
    let disks = g.D.PageDisk in
    let old = c.args.disk.now in
    sections_content (disks.page_count old) (seen (disks.state old)) c.content_of_sections.result c.content_of_sections.ensures.kind
    (subst (λ (format : FormatNumber). NamesStore (disks.page_count old) (seen (disks.state old)) format (disks.page_count old)) c.in-Two.is names)
