use Rattle.std.specs.Prelude.{take}
use Rattle.std.specs.List.{AllByRecursion}
use Rattle.cs_disk.specs.Disk.{seen}
use Rattle.cs_disk.specs.Reads.{OnlyReads}
use Rattle.cs_tools.specs.Salvages.{IsMeantBy, IsToldOf, Stands}
use Rattle.cs_tools.proofs.Exporting.{ArePrinted}
use Rattle.cs_tools.proofs.salvages.print_piece.Given as goal

abbrev pub invariant-loop-shard : goal.invariant-loop-shard
invariant-loop-shard g l = record {
  disk : OnlyReads g.D.PageDisk l.fn.disk l.disk;
  lines : g.D.PageDisk.honest l.fn.disk → AllByRecursion (Stands l.sought (seen (g.D.PageDisk.state l.fn.disk))) l.shards
      → ArePrinted (IsToldOf l.sought (seen (g.D.PageDisk.state l.fn.disk)) (g.D.PageDisk.failure_count l.fn.disk) (g.D.PageDisk.failure_count l.disk)) (take l.shard-index l.shards) l.whole (g.W.Write.contents l.fn.writer) (g.W.Write.contents l.writer);
  meant : ArePrinted (IsMeantBy l.sought (g.D.PageDisk.failure_count l.fn.disk) (g.D.PageDisk.failure_count l.disk)) (take l.shard-index l.shards) l.whole (g.W.Write.contents l.fn.writer) (g.W.Write.contents l.writer);
}
