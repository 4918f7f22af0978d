use Rattle.std.specs.Prelude.{◌≡◌, ◌↔◌, take}
use Rattle.cs_disk.specs.Reads.{OnlyReads}
use Rattle.law_machine.specs.Element.{Map}
use Rattle.cs_store.specs.Maps.{HasMap}
use Rattle.cs_tools.specs.Copies.{HasAMap, over_all}
use Rattle.cs_tools.proofs.copy_command.put_all.Given as goal

abbrev pub invariant-loop-k : goal.invariant-loop-k
invariant-loop-k g l = record {
  same : l.from ≡ record l.fn.from { disk = l.from.disk };
  disk : OnlyReads g.D.PageDisk l.fn.from.disk l.from.disk;
  map : HasAMap l.fn.to → HasAMap l.to;
  put : (m n : Map) → HasMap l.fn.from m → HasMap l.fn.to n → g.D.PageDisk.honest l.fn.from.disk → HasMap l.to (over_all n m (take l.k l.ids));
  honest : g.E.PageDisk.honest l.fn.to.disk ↔ g.E.PageDisk.honest l.to.disk;
}
