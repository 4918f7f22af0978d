use Rattle.std.proofs.Common.{ap, map, ◌∙◌}
use Rattle.std.specs.List.{list_any}
use Rattle.cs_disk.proofs.OnlyRead.{reads_on}
use Rattle.cs_disk.specs.Disk.{State, seen}
use Rattle.cs_mount.specs.Looks.{is_whole}
use Rattle.cs_twin.specs.Findings.{finding_in}
use Rattle.cs_mount.specs.StorePairs.{store_version}
use Rattle.cs_mount.proofs.Looking.{pairs_left}
use Rattle.cs_mount.proofs.looks.is_left.Goals as goal

pub returns-in-Ok-clause-left : goal.returns-in-Ok-clause-left
returns-in-Ok-clause-left g c = λ h.
    let D = g.D.PageDisk in
    let disk = c.args.disk.now in
    let reads = c.find_last.ensures.disk in
    let V = store_version c.args.rules.now.geometry in
    pairs_left (D.page_count disk) (seen (D.state disk)) V c.args.pairs.now c.in-Ok-None.field-0 c.in-Ok.found.items c.is_any_whole.result (c.in-Ok-None.ensures.found h) c.in-Ok-None.field-0-is
    (c.in-Ok.ensures.findings (reads.honesty.0 h) ∙ ap (λ (s : State). map (finding_in V (seen s)) c.args.pairs.now) (reads.same h))
    (c.is_any_whole.ensures ∙ ap (list_any is_whole) c.deref.ensures.value)

pub returns-in-Ok-clause-disk : goal.returns-in-Ok-clause-disk
returns-in-Ok-clause-disk g c = reads_on g.D.PageDisk c.args.disk.now c.find_last.new.disk c.read_findings.new.disk c.find_last.ensures.disk c.read_findings.ensures.disk

pub returns-in-Err-read_findings-clause-disk : goal.returns-in-Err-read_findings-clause-disk
returns-in-Err-read_findings-clause-disk g c = reads_on g.D.PageDisk c.args.disk.now c.find_last.new.disk c.read_findings.new.disk c.find_last.ensures.disk c.read_findings.ensures.disk
