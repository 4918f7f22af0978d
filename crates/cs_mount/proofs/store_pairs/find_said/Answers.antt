use Rattle.std.proofs.Common.{◌∙◌, ℕ, ap, subst}
use Rattle.cs_disk.proofs.OnlyRead.{reads_on}
use Rattle.cs_disk.specs.Disk.{State, page, seen}
use Rattle.cs_mount.proofs.Spelling.{zero_on, zero_reads}
use Rattle.cs_mount.specs.StorePairs.{IsOnPageZero, said_on}
use Rattle.cs_mount.proofs.store_pairs.find_said.Goals as goal

pub returns-in-Ok-Some-clause-found : goal.returns-in-Ok-Some-clause-found
returns-in-Ok-Some-clause-found g c = λ h.
    let image = seen (g.D.PageDisk.state c.args.disk.now) in
    let first = c.in-Ok-Some.first in
    c.geometry_of_first.ensures.geometry ∙ (zero_reads c.pages-pages.result (page image 0) _ first (subst (IsOnPageZero (page image 0)) c.in-Ok-Some.field-0-is (c.in-Ok-Some.ensures.first h))).1
    ∙ ap (λ (n : ℕ). said_on n image) c.pages-pages.ensures

pub returns-in-Ok-None-clause-found : goal.returns-in-Ok-None-clause-found
returns-in-Ok-None-clause-found g c = λ h.
    let reads = c.read_first.ensures.disk in
    let image = seen (g.D.PageDisk.state c.args.disk.now) in
    zero_on c.read_last.result c.pages-pages.result (g.D.PageDisk.page_count c.args.disk.now) image (seen (g.D.PageDisk.state c.read_first.new.disk)) c.pages-pages.ensures (ap (λ (s : State). seen s) (reads.same h))
    (subst (IsOnPageZero (page image 0)) c.in-Ok-None.field-0-is (c.in-Ok-None.ensures.first h)) (c.read_last.ensures.geometry (reads.honesty.0 h))

pub returns-in-Ok-None-clause-disk : goal.returns-in-Ok-None-clause-disk
returns-in-Ok-None-clause-disk g c = reads_on g.D.PageDisk c.args.disk.now c.read_first.new.disk c.read_last.new.disk c.read_first.ensures.disk c.read_last.ensures.disk
