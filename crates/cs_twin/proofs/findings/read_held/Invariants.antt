use Rattle.std.proofs.Common.{◌≡◌, length, map, take}
use Rattle.cs_disk.specs.Disk.{seen}
use Rattle.cs_disk.specs.Reads.{OnlyReads}
use Rattle.cs_twin.specs.Findings.{are_known}
use Rattle.cs_twin.specs.Pairs.{held_in}
use Rattle.cs_twin.proofs.findings.read_held.Given as goal

abbrev pub invariant-loop-k : goal.invariant-loop-k
invariant-loop-k g l = record {
  disk : OnlyReads g.D.PageDisk l.fn.disk l.disk;
  size : length l.held ≡ length l.pairs;
  known : g.D.PageDisk.honest l.fn.disk → l.known ≡ are_known (g.R.PageRules.version l.rules) (seen (g.D.PageDisk.state l.fn.disk)) (take l.k l.pairs);
  held : g.D.PageDisk.honest l.fn.disk → take l.k l.held ≡ map (held_in (g.R.PageRules.version l.rules) (seen (g.D.PageDisk.state l.fn.disk))) (take l.k l.pairs);
}
