use Rattle.std.proofs.Common.{◌≤◌}
use Rattle.cs_disk.specs.Reads.{OnlyReads}
use Rattle.cs_advice.proofs.knowns.named_at_end.Given as goal

abbrev pub invariant-loop-back : goal.invariant-loop-back
invariant-loop-back g l = record {
  disk : OnlyReads g.D.PageDisk l.fn.disk l.disk;
  some : 1 ≤ l.back;
}
