use Rattle.std.specs.Prelude.{◌≡◌}
use Rattle.std.specs.List.{AllByRecursion}
use Rattle.cs_disk.specs.Disk.{seen}
use Rattle.cs_disk.specs.Reads.{OnlyReads}
use Rattle.cs_tools.specs.Salvages.{IsMeantBy, IsToldOf, Stands}
use Rattle.cs_tools.proofs.Exporting.{IsPrintedUpTo}
use Rattle.cs_tools.proofs.salvages.print_shards.Given as goal

abbrev pub invariant-loop-piece : goal.invariant-loop-piece
invariant-loop-piece g l = record {
  size : l.piece-iterator.size ≡ 1000;
  disk : OnlyReads g.D.PageDisk l.fn.disk l.disk;
  lines : g.D.PageDisk.honest l.fn.disk → AllByRecursion (Stands l.found.sought (seen (g.D.PageDisk.state l.fn.disk))) l.found.shards.items
      → IsPrintedUpTo (IsToldOf l.found.sought (seen (g.D.PageDisk.state l.fn.disk)) (g.D.PageDisk.failure_count l.fn.disk) (g.D.PageDisk.failure_count l.disk)) l.found.shards.items l.piece-iterator.rest.now l.whole (g.W.Write.contents l.fn.writer) (g.W.Write.contents l.writer);
  meant : IsPrintedUpTo (IsMeantBy l.found.sought (g.D.PageDisk.failure_count l.fn.disk) (g.D.PageDisk.failure_count l.disk)) l.found.shards.items l.piece-iterator.rest.now l.whole (g.W.Write.contents l.fn.writer) (g.W.Write.contents l.writer);
}
