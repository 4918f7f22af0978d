use Rattle.std.specs.Prelude.{◌≤◌}
use Rattle.cs_disk.specs.Reads.{OnlyReads}
use Rattle.cs_doctor.proofs.doctor_stores.read_rest.Given as goal

abbrev pub invariant-loop-k : goal.invariant-loop-k
invariant-loop-k g l = record {
  disk : OnlyReads g.D.PageDisk l.fn.rescue.disk l.rescue.disk;
  unread : l.unread ≤ l.k;
}
