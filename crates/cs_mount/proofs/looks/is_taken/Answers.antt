use Rattle.cs_disk.proofs.OnlyRead.{reads_on}
use Rattle.cs_mount.specs.StorePairs.{store_version}
use Rattle.cs_mount.proofs.Looking.{left_behind}
use Rattle.cs_mount.proofs.looks.is_taken.Goals as goal

pub returns-in-Ok-false-clause-taken : goal.returns-in-Ok-false-clause-taken
returns-in-Ok-false-clause-taken g c = λ h.
    let D = g.D.PageDisk in
    let reads = c.holds_superblock.ensures.disk in
    left_behind c.is_left.result (D.page_count c.args.disk.now) (D.page_count c.holds_superblock.new.disk) (D.state c.args.disk.now) (D.state c.holds_superblock.new.disk) (store_version c.args.rules.now.geometry) c.args.pairs.now c.in-Ok-false.field-0
    reads.pages (reads.same h) (c.in-Ok-false.ensures.holds h) c.in-Ok-false.field-0-test (c.is_left.ensures.left (reads.honesty.0 h))

pub returns-in-Ok-false-clause-disk : goal.returns-in-Ok-false-clause-disk
returns-in-Ok-false-clause-disk g c = reads_on g.D.PageDisk c.args.disk.now c.holds_superblock.new.disk c.is_left.new.disk c.holds_superblock.ensures.disk c.is_left.ensures.disk
