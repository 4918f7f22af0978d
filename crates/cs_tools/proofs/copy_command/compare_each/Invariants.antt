use Rattle.std.specs.Prelude.{◌≡◌, take}
use Rattle.cs_disk.specs.Reads.{OnlyReads}
use Rattle.law_machine.specs.Element.{Map}
use Rattle.cs_store.specs.Maps.{HasMap}
use Rattle.cs_tools.proofs.Copying.{AgreeOn}
use Rattle.cs_tools.proofs.copy_command.compare_each.Given as goal

abbrev pub invariant-loop-k : goal.invariant-loop-k
invariant-loop-k g l = record {
  same : l.from ≡ record l.fn.from { disk = l.from.disk };
  disk : OnlyReads g.D.PageDisk l.fn.from.disk l.from.disk;
  to_same : l.to ≡ record l.fn.to { disk = l.to.disk };
  to_disk : OnlyReads g.E.PageDisk l.fn.to.disk l.to.disk;
  ids : take l.k l.copied ≡ take l.k l.ids;
  agree : (m n : Map) → HasMap l.fn.from m → HasMap l.fn.to n → g.D.PageDisk.honest l.fn.from.disk → g.E.PageDisk.honest l.fn.to.disk → AgreeOn m n (take l.k l.ids);
}
