use Rattle.std.proofs.Common.{ℕ}
use Rattle.cs_disk.specs.Disk.{Image, seen}
use Rattle.cs_advice.specs.Knowns.{NamesStore}
use Rattle.cs_advice.proofs.Knowing.{read_before, where_some}
use Rattle.cs_advice.proofs.knowns.find_named.Goals as goal

pub returns-in-Some-clause-named : goal.returns-in-Some-clause-named
returns-in-Some-clause-named g c = λ h. (0, c.requires, c.in-Some.ensures.named h)

pub returns-in-None-clause-named : goal.returns-in-None-clause-named
returns-in-None-clause-named g c = λ h.
    let disks = g.D.PageDisk in
    let old = c.args.disk.now in
    let here = c.named_on.new.disk in
    let reads = c.named_on.ensures.disk in
    where_some (λ named. NamesStore (disks.page_count here) (seen (disks.state here)) named.format named.pages) (λ named. NamesStore (disks.page_count old) (seen (disks.state old)) named.format named.pages) c.named_at_end.result
    (λ named is. read_before disks (λ (pages : ℕ) (image : Image). NamesStore pages image named.format named.pages) old here reads h is) (c.named_at_end.ensures.named (reads.honesty.0 h))
