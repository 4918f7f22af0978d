use Rattle.std.specs.Prelude.{◌≡◌, ◌≢◌, []}
use Rattle.std.specs.List.{AllByRecursion}
use Rattle.cs_core.specs.Views.{IsIn}
use Rattle.cs_disk.specs.Reads.{OnlyReads}
use Rattle.cs_index.specs.State.{id_number, index_of}
use Rattle.law_machine.specs.Index.{live_at}
use Rattle.law_machine.specs.State.{State, map_now}
use Rattle.cs_tools.specs.Exports.{IsMeantOf}
use Rattle.cs_tools.proofs.Exporting.{IsPrintedUpTo}
use Rattle.cs_tools.proofs.Meant.{IsLive}
use Rattle.cs_tools.proofs.Retelling.{IsTold}
use Rattle.cs_tools.proofs.exports.print_shards.Given as goal

abbrev pub invariant-loop-piece : goal.invariant-loop-piece
invariant-loop-piece g l = record {
  size : l.piece-iterator.size ≡ 1000;
  same : l.core ≡ record l.fn.core { disk = l.core.disk };
  disk : OnlyReads g.D.PageDisk l.fn.core.disk l.core.disk;
  lines : (s : State) → IsIn g.D.PageDisk.state l.fn.core s → g.D.PageDisk.honest l.fn.core.disk
      → AllByRecursion (λ id. live_at (index_of l.fn.core.store.index) (id_number id) ≢ []) l.ids
      → IsPrintedUpTo (IsTold (map_now s) (g.D.PageDisk.failure_count l.fn.core.disk) (g.D.PageDisk.failure_count l.core.disk)) l.ids l.piece-iterator.rest.now l.whole (g.W.Write.contents l.fn.writer) (g.W.Write.contents l.writer);
  meant : AllByRecursion (IsLive l.fn.core.store) l.ids → IsPrintedUpTo (IsMeantOf l.fn.core.store (g.D.PageDisk.failure_count l.fn.core.disk) (g.D.PageDisk.failure_count l.core.disk)) l.ids l.piece-iterator.rest.now l.whole (g.W.Write.contents l.fn.writer) (g.W.Write.contents l.writer);
}
