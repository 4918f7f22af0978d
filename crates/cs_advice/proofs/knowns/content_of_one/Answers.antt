use Rattle.std.proofs.Common.{◌<◌, ◌∙◌, ℕ, subst, sym}
use Rattle.cs_disk.proofs.OnlyRead.{reads_on}
use Rattle.cs_disk.specs.Disk.{Image, seen}
use Rattle.cs_advice.specs.Knowns.{IsContentOf, NamesStore}
use Rattle.cs_advice.proofs.Knowing.{read_after, read_before}
use Rattle.cs_advice.proofs.knowns.content_of_one.Goals as goal

pub returns-in-None-clause-content : goal.returns-in-None-clause-content
returns-in-None-clause-content g c = λ h.
    let reads = c.find_named.ensures.disk in
    read_before g.D.PageDisk (λ (pages : ℕ) (image : Image). IsContentOf pages image c.content_without.result) c.args.disk.now c.find_named.new.disk reads h (c.content_without.ensures.content (reads.honesty.0 h) (subst (λ (n : ℕ). 0 < n) (sym reads.pages) c.requires))

pub returns-in-Some-2-clause-content : goal.returns-in-Some-2-clause-content
returns-in-Some-2-clause-content g c = λ h.
    let disks = g.D.PageDisk in
    let old = c.args.disk.now in
    let here = c.find_named.new.disk in
    let reads = c.find_named.ensures.disk in
    let named = c.in-Some.named in
    read_before disks (λ (pages : ℕ) (image : Image). IsContentOf pages image c.content_of_named.result) old here reads h
    (c.content_of_named.ensures.content (reads.honesty.0 h)
    (read_after disks (λ (pages : ℕ) (image : Image). NamesStore pages image named.format pages) old here reads h
    (subst (λ (n : ℕ). NamesStore (disks.page_count old) (seen (disks.state old)) named.format n) (c.if-named-pages.false ∙ c.pages-pages.ensures) (c.in-Some.ensures.named h))))

pub returns-in-Some-2-clause-disk : goal.returns-in-Some-2-clause-disk
returns-in-Some-2-clause-disk g c = reads_on g.D.PageDisk c.args.disk.now c.find_named.new.disk c.content_of_named.new.disk c.find_named.ensures.disk c.content_of_named.ensures.disk
