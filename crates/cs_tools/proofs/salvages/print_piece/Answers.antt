use Rattle.cs_disk.proofs.OnlyRead.{reads_on}
use Rattle.cs_tools.proofs.Salvaging.{shard_meant, shard_told}
use Rattle.cs_tools.proofs.salvages.print_piece.Goals as goal

pub loop-shard-preserved : goal.loop-shard-preserved
loop-shard-preserved g c =
    let disks = g.D.PageDisk in
    let contents = g.W.Write.contents in
    let was = c.loop-shard.invariant in
    let first = c.args.disk.now in
    let here = c.loop-shard.disk in
    let then_ = c.print_shard.new.disk in
    record {
      disk = reads_on disks first here then_ was.disk c.in_ok-read.ensures.disk;
      lines = λ honest stand. shard_told c.args.sought.now (disks.failure_count first) (disks.failure_count here) (disks.failure_count then_) (disks.state first) (disks.state here) c.args.shards.now c.loop-shard.shard-index c.shard-item.result c.loop-shard.whole c.in_ok-read.read
          (contents c.args.writer.now) (contents c.loop-shard.writer) (contents c.print_shard.new.writer) was.disk.failures c.in_ok-read.ensures.disk.failures (was.disk.same honest) c.loop-shard-test.true c.shard-item.is stand (was.lines honest stand)
          (c.in_ok-read.ensures.line (was.disk.honesty.0 honest));
      meant = shard_meant c.args.sought.now (disks.failure_count first) (disks.failure_count here) (disks.failure_count then_) was.disk.failures c.in_ok-read.ensures.disk.failures c.args.shards.now c.loop-shard.shard-index c.shard-item.result c.loop-shard.whole c.in_ok-read.read (contents c.args.writer.now) (contents c.loop-shard.writer) (contents c.print_shard.new.writer)
          c.loop-shard-test.true c.shard-item.is was.meant c.in_ok-read.ensures.meant;
    }
