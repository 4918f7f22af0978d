use Rattle.std.proofs.Common.{◌≡◌, ℕ, List, map, take}
use Rattle.cs_chunk.specs.Newest.{AreNewest}
use Rattle.cs_disk.specs.Disk.{seen}
use Rattle.cs_disk.specs.Reads.{OnlyReads}
use Rattle.cs_frame.specs.Formats.{place_of}
use Rattle.cs_inspect.specs.Failures.{RisesBy}
use Rattle.cs_inspect.specs.Scrubs.{AreCaused, AreNamed, OfRun, device_faults}
use Rattle.cs_inspect.proofs.scrubs.damaged_runs.Given as goal

abbrev pub invariant-loop-k : goal.invariant-loop-k
invariant-loop-k g l = record {
  same : l.core ≡ record l.fn.core { disk = l.core.disk };
  disk : OnlyReads g.D.PageDisk l.fn.core.disk l.core.disk;
  named : g.D.PageDisk.honest l.fn.core.disk → (view : ℕ → List ℕ) → AreNewest l.fn.core.store.graph (seen (g.D.PageDisk.state l.fn.core.disk)) view
      → AreNamed l.fn.core.store.extents view (map OfRun (map place_of (take l.k l.runs))) l.damages.items;
  caused : AreCaused (g.D.PageDisk.failure_count l.fn.core.disk) (g.D.PageDisk.failure_count l.core.disk) l.damages.items;
  counted : RisesBy (device_faults l.damages.items) (g.D.PageDisk.failure_count l.fn.core.disk) (g.D.PageDisk.failure_count l.core.disk);
}
