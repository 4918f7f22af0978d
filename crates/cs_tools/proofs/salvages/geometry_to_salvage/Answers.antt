use Rattle.std.proofs.Common.{inr, ℕ}
use Rattle.cs_disk.specs.Disk.{Image}
use Rattle.cs_disk.proofs.OnlyRead.{reads_on}
use Rattle.cs_tools.specs.Salvages.{IsOfOtherLength}
use Rattle.cs_tools.proofs.Salvaging.{not_a_store, read_before}
use Rattle.cs_tools.proofs.salvages.geometry_to_salvage.Goals as goal

pub returns-in-Ok-Some-find_cut-clause-geometry : goal.returns-in-Ok-Some-find_cut-clause-geometry
returns-in-Ok-Some-find_cut-clause-geometry g c = λ honest.
    let disks = g.D.PageDisk in
    let reads = c.find_geometry.ensures.disk in
    let said = rw c.in-Ok-Some-find_cut.field-0-is at (c.in-Ok-Some-find_cut.ensures.said (reads.honesty.0 honest)) in
    inr (read_before disks c.args.disk.now c.find_geometry.new.disk (λ (n : ℕ) (i : Image). IsOfOtherLength n i c.in-Ok-Some-find_cut.geometry) reads honest said)

pub returns-in-Ok-None-find_cut-clause-not_cut : goal.returns-in-Ok-None-find_cut-clause-not_cut
returns-in-Ok-None-find_cut-clause-not_cut g c = λ honest some is it.
    let disks = g.D.PageDisk in
    let reads = c.find_geometry.ensures.disk in
    let none = rw c.in-Ok-None-find_cut.field-0-is at (c.in-Ok-None-find_cut.ensures.said (reads.honesty.0 honest)) in
    read_before disks c.args.disk.now c.find_geometry.new.disk (λ (n : ℕ) (i : Image). IsOfOtherLength n i it → ⊥) reads honest (none it)

pub returns-in-Ok-Some-find_cut-clause-disk : goal.returns-in-Ok-Some-find_cut-clause-disk
returns-in-Ok-Some-find_cut-clause-disk g c = reads_on g.D.PageDisk c.args.disk.now c.find_geometry.new.disk c.find_cut.new.disk c.find_geometry.ensures.disk c.find_cut.ensures.disk

pub returns-in-Ok-None-find_cut-clause-disk : goal.returns-in-Ok-None-find_cut-clause-disk
returns-in-Ok-None-find_cut-clause-disk g c = reads_on g.D.PageDisk c.args.disk.now c.find_geometry.new.disk c.find_cut.new.disk c.find_geometry.ensures.disk c.find_cut.ensures.disk

pub returns-in-Err-find_cut-clause-disk : goal.returns-in-Err-find_cut-clause-disk
returns-in-Err-find_cut-clause-disk g c = reads_on g.D.PageDisk c.args.disk.now c.find_geometry.new.disk c.find_cut.new.disk c.find_geometry.ensures.disk c.find_cut.ensures.disk

pub returns-in-Err-find_cut-clause-not_cut : goal.returns-in-Err-find_cut-clause-not_cut
returns-in-Err-find_cut-clause-not_cut g c = λ honest some is it.
    let answer = c.refusal_of_disk-in-Err-find_cut in
    absurd (not_a_store c.in-Err-find_cut.fault answer.result answer.ensures is)
