use Rattle.std.proofs.Common.{List, subst, take_all}
use Rattle.cs_disk.proofs.OnlyRead.{reads_on}
use Rattle.cs_frame.specs.declared.identifiers.ShardId.{ShardId}
use Rattle.law_machine.specs.State.{map_now}
use Rattle.cs_tools.specs.Exports.{IsMeantOf}
use Rattle.cs_tools.proofs.Exporting.{ArePrinted, all_at, shard_printed, synced}
use Rattle.cs_tools.proofs.Meant.{shard_meant}
use Rattle.cs_tools.proofs.Resting.{store_read}
use Rattle.cs_tools.proofs.Retelling.{IsTold, one_told, piece_read, told_around}
use Rattle.cs_tools.proofs.Still.{same_live, same_on, stays_in}
use Rattle.cs_tools.proofs.exports.print_piece.Goals as goal

pub loop-id-preserved : goal.loop-id-preserved
loop-id-preserved g c =
    let disks = g.D.PageDisk in
    let contents = g.W.Write.contents in
    let failures = disks.failure_count in
    let was = c.loop-id.invariant in
    let first = c.args.core.now in
    let now = c.loop-id.core in
    record {
      same = same_on first now c.print_shard.new.core was.same c.in_ok-read.ensures.same;
      disk = reads_on disks first.disk now.disk c.print_shard.new.core.disk was.disk c.in_ok-read.ensures.disk;
      lines = λ s is honest live. shard_printed (IsTold (map_now s)) (told_around (map_now s)) (failures first.disk) (failures now.disk) (failures c.print_shard.new.core.disk) c.args.ids.now c.loop-id.id-index _ c.loop-id.whole c.in_ok-read.read
          (contents c.args.writer.now) (contents c.loop-id.writer) (contents c.print_shard.new.writer) was.disk.failures c.in_ok-read.ensures.disk.failures c.loop-id-test.true (was.lines s is honest live)
          (one_told (map_now s) (failures now.disk) (failures c.print_shard.new.core.disk) _ c.in_ok-read.read (contents c.loop-id.writer) (contents c.print_shard.new.writer)
          (c.in_ok-read.ensures.line s (stays_in disks first now was.same was.disk honest s is) (was.disk.honesty.0 honest)
          (all_at _ c.args.ids.now c.loop-id.id-index _ c.loop-id-test.true (same_live disks first now was.same was.disk c.args.ids.now live))));
      meant = λ live. shard_meant first.store now.store (failures first.disk) (failures now.disk) (failures c.print_shard.new.core.disk) was.disk.failures c.in_ok-read.ensures.disk.failures (store_read first now was.same) c.args.ids.now c.loop-id.id-index _ c.loop-id.whole c.in_ok-read.read (contents c.args.writer.now) (contents c.loop-id.writer) (contents c.print_shard.new.writer)
          c.loop-id-test.true live (was.meant live) c.in_ok-read.ensures.meant;
    }

pub returns-clause-lines : goal.returns-clause-lines
returns-clause-lines g c s is honest live =
    let disks = g.D.PageDisk in
    let contents = g.W.Write.contents in
    let x = disks.failure_count c.args.core.now.disk in
    let y = disks.failure_count c.loop-id.core.disk in
    let told = IsTold (map_now s) x y in
    let start = contents c.args.writer.now in
    piece_read (map_now s) x y c.args.ids.now c.loop-id.whole start (contents c.writeln.new.self)
    (synced told c.args.ids.now c.loop-id.whole start (contents c.loop-id.writer) (contents c.writeln.new.self)
    (subst (λ (ids : List ShardId). ArePrinted told ids c.loop-id.whole start (contents c.loop-id.writer)) (take_all c.loop-id.id-index c.args.ids.now c.loop-id-test.false) (c.loop-id.invariant.lines s is honest live))
    c.in_ok-writeln.ensures.bytes)

pub returns-clause-meant : goal.returns-clause-meant
returns-clause-meant g c live =
    let contents = g.W.Write.contents in
    let start = contents c.args.writer.now in
    let failures = g.D.PageDisk.failure_count in
    let meant = IsMeantOf c.args.core.now.store (failures c.args.core.now.disk) (failures c.loop-id.core.disk) in
    synced meant c.args.ids.now c.loop-id.whole start (contents c.loop-id.writer) (contents c.writeln.new.self)
    (subst (λ (ids : List ShardId). ArePrinted meant ids c.loop-id.whole start (contents c.loop-id.writer)) (take_all c.loop-id.id-index c.args.ids.now c.loop-id-test.false) (c.loop-id.invariant.meant live))
    c.in_ok-writeln.ensures.bytes
