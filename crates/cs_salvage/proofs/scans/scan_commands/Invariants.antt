use Rattle.std.proofs.Common.{◌≤◌, ◌-◌, [], length}
use Rattle.cs_disk.specs.Disk.{seen}
use Rattle.cs_disk.specs.Reads.{OnlyReads}
use Rattle.cs_salvage.specs.Greatest.{IsGreatestBefore, IsOfAFrame}
use Rattle.cs_salvage.specs.Looks.{AreApart}
use Rattle.cs_salvage.specs.Passed.{RisesBy}
use Rattle.cs_salvage.proofs.scans.scan_commands.Given as goal

abbrev pub invariant-loop-scan : goal.invariant-loop-scan
invariant-loop-scan g l = record {
  disk : OnlyReads g.D.PageDisk l.fn.disk l.disk;
  from : 2 ≤ l.scan.page;
  scanned : g.D.PageDisk.honest l.fn.disk → IsGreatestBefore l.sought (seen (g.D.PageDisk.state l.fn.disk)) l.scan.page l.scan.unreadable.items l.scan.greatest;
  apart : AreApart l.sought.geometry 0 (g.D.PageDisk.page_count l.fn.disk) l.scan.page l.scan.unreadable.items [];
  spelled : IsOfAFrame l.sought l.scan.greatest;
  cause : RisesBy (length l.scan.unreadable.items) (g.D.PageDisk.failure_count l.fn.disk) (g.D.PageDisk.failure_count l.disk);
}

abbrev pub decreases-loop-scan : goal.decreases-loop-scan
decreases-loop-scan g l = l.end - l.scan.page
