use Rattle.std.proofs.Common.{◌≡◌, ◌-◌, drop, length, map}
use Rattle.std.specs.List.{AllByRecursion}
use Rattle.cs_disk.specs.Disk.{page, seen}
use Rattle.cs_disk.specs.Reads.{OnlyReads}
use Rattle.cs_extent.specs.State.{shape}
use Rattle.cs_frame.specs.Runs.{IsRun}
use Rattle.cs_salvage.specs.Runs.{IsRunRescued}
use Rattle.cs_salvage.proofs.rescued_runs.read_newest.Given as goal

abbrev pub invariant-loop-k : goal.invariant-loop-k
invariant-loop-k g l = record {
  disk : OnlyReads g.D.PageDisk l.fn.disk l.disk;
  listed : map (λ run. run.place) l.runs.items ≡ drop (length l.places - l.k) l.places;
  runs : AllByRecursion (λ run. IsRun (shape l.extents).format (record { entries = run.entries })) l.runs.items;
  read : g.D.PageDisk.honest l.fn.disk → AllByRecursion (IsRunRescued l.extents (page (seen (g.D.PageDisk.state l.fn.disk)))) l.runs.items;
}
