use Rattle.std.proofs.Common.{List, subst}
use Rattle.cs_disk.specs.Disk.{seen}
use Rattle.cs_twin.specs.declared.findings.Finding.{Finding}
use Rattle.cs_advice.proofs.Knowing.{IsOfFindings, findings_content}
use Rattle.cs_advice.proofs.knowns.content_of_pairs.Goals as goal

pub returns-in-Ok-clause-content : goal.returns-in-Ok-clause-content
returns-in-Ok-clause-content g c = λ h names.
    let disks = g.D.PageDisk in
    let old = c.args.disk.now in
    let told = c.content_of_findings.result in
    findings_content (disks.page_count old) (seen (disks.state old)) c.in-Ok.findings.items told (c.in-Ok.ensures.findings h)
    (subst (λ (findings : List Finding). IsOfFindings findings told) c.deref.ensures.value c.content_of_findings.ensures) names
