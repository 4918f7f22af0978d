use Rattle.std.proofs.Common.{◌∙◌, ◌-◌, ℕ, ap}
use Rattle.cs_disk.proofs.OnlyRead.{reads_on}
use Rattle.cs_advice.proofs.Knowing.{denied, superseded_at_end}
use Rattle.cs_advice.proofs.knowns.is_superseded.Goals as goal

pub returns-in-Ok-false-clause-superseded : goal.returns-in-Ok-false-clause-superseded
returns-in-Ok-false-clause-superseded g c h begins =
    let disks = g.D.PageDisk in
    let first = c.args.disk.now in
    let here = c.is_superseded_on.new.disk in
    let then_ = c.holds_superblock.new.disk in
    let honest = c.is_superseded_on.ensures.disk.honesty.0 h in
    let same = c.is_superseded_on.ensures.disk.same h in
    superseded_at_end (disks.page_count first) (c.pages-last.result - 1) (disks.state first) (disks.state here) (disks.state then_) same (c.holds_superblock.ensures.disk.same honest)
    (ap (λ (n : ℕ). n - 1) (c.pages-last.ensures ∙ c.is_superseded_on.ensures.disk.pages))
    (denied c.in-Ok-false.field-0 c.in-Ok-false.field-0-test (c.in-Ok-false.ensures.holds honest)) (c.is_superseded_on-in-Ok-false.ensures.begins (c.holds_superblock.ensures.disk.honesty.0 honest) begins)

pub returns-in-Ok-false-clause-disk : goal.returns-in-Ok-false-clause-disk
returns-in-Ok-false-clause-disk g c =
    let disks = g.D.PageDisk in
    let first = c.args.disk.now in
    let here = c.is_superseded_on.new.disk in
    let then_ = c.holds_superblock.new.disk in
    reads_on disks first then_ c.is_superseded_on-in-Ok-false.new.disk (reads_on disks first here then_ c.is_superseded_on.ensures.disk c.holds_superblock.ensures.disk) c.is_superseded_on-in-Ok-false.ensures.disk

pub returns-in_default-clause-disk : goal.returns-in_default-clause-disk
returns-in_default-clause-disk g c =
    reads_on g.D.PageDisk c.args.disk.now c.is_superseded_on.new.disk c.holds_superblock.new.disk c.is_superseded_on.ensures.disk c.holds_superblock.ensures.disk
