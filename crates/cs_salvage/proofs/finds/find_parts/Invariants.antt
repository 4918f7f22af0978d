use Rattle.std.proofs.Common.{All, ◌-◌, ◌≤◌, length}
use Rattle.cs_disk.specs.Disk.{seen}
use Rattle.cs_disk.specs.Reads.{OnlyReads}
use Rattle.cs_salvage.specs.Frames.{IsOfFrame}
use Rattle.cs_salvage.specs.Looks.{AreApart, AreFoundBefore}
use Rattle.cs_salvage.specs.Parts.{AreSought}
use Rattle.cs_salvage.specs.Passed.{RisesBy}
use Rattle.cs_salvage.proofs.finds.find_parts.Given as goal

abbrev pub invariant-loop-page : goal.invariant-loop-page
invariant-loop-page g l = record {
  disk : OnlyReads g.D.PageDisk l.fn.disk l.disk;
  from : l.from_page ≤ l.page;
  above : 2 ≤ l.page;
  parts : g.D.PageDisk.honest l.fn.disk → AreFoundBefore l.sought (seen (g.D.PageDisk.state l.fn.disk)) l.from_page l.page l.finds.unreadable.items l.finds.parts.items;
  apart : AreApart l.sought.geometry l.from_page (g.D.PageDisk.page_count l.fn.disk) l.page l.finds.unreadable.items l.finds.parts.items;
  spelled : All IsOfFrame l.finds.parts.items;
  taken : AreSought l.sought l.finds.parts.items;
  cause : RisesBy (length l.finds.unreadable.items) (g.D.PageDisk.failure_count l.fn.disk) (g.D.PageDisk.failure_count l.disk);
}

abbrev pub decreases-loop-page : goal.decreases-loop-page
decreases-loop-page g l = l.end - l.page
