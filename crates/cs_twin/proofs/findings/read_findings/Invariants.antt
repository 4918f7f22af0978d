use Rattle.std.proofs.Common.{◌≡◌, ◌≤◌, length, map, take, vec_capacity}
use Rattle.cs_disk.specs.Disk.{seen}
use Rattle.cs_disk.specs.Reads.{OnlyReads}
use Rattle.cs_twin.specs.Findings.{finding_in}
use Rattle.cs_twin.proofs.findings.read_findings.Given as goal

abbrev pub invariant-loop-pair : goal.invariant-loop-pair
invariant-loop-pair g l = record {
  disk : OnlyReads g.D.PageDisk l.fn.disk l.disk;
  size : length l.found.items ≡ l.pair-index;
  room : length l.pairs ≤ vec_capacity l.found;
  found : g.D.PageDisk.honest l.fn.disk → l.found.items ≡ map (finding_in (g.R.PageRules.version l.rules) (seen (g.D.PageDisk.state l.fn.disk))) (take l.pair-index l.pairs);
}
