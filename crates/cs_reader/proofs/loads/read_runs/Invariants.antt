use Rattle.std.proofs.Common.{◌≡◌, ◌≤◌, length, map, take, vec_capacity}
use Rattle.std.specs.List.{AllByRecursion}
use Rattle.cs_disk.specs.Disk.{page, seen}
use Rattle.cs_disk.specs.Reads.{OnlyReads}
use Rattle.cs_extent.specs.State.{shape}
use Rattle.cs_frame.specs.Runs.{IsRun}
use Rattle.cs_reader.specs.ImageReads.{AreRunsRead, IsLocated}
use Rattle.cs_reader.proofs.loads.read_runs.Given as goal

abbrev pub invariant-loop-k : goal.invariant-loop-k
invariant-loop-k g l = record {
  disk : OnlyReads g.D.PageDisk l.fn.disk l.disk;
  size : length l.runs.items ≡ l.k;
  listed : map (λ run. run.place) l.runs.items ≡ take l.k l.places;
  room : length l.places ≤ vec_capacity l.runs;
  places : AllByRecursion (λ run. IsLocated l.extents run.place) l.runs.items;
  runs : AllByRecursion (λ run. IsRun (shape l.extents).format (record { entries = run.entries })) l.runs.items;
  read : g.D.PageDisk.honest l.fn.disk → AreRunsRead l.extents (page (seen (g.D.PageDisk.state l.fn.disk))) l.places l.runs.items;
}
