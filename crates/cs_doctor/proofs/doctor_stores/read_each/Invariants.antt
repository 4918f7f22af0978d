use Rattle.std.specs.Prelude.{take}
use Rattle.cs_disk.specs.Disk.{page, seen}
use Rattle.cs_disk.specs.Reads.{OnlyReads}
use Rattle.cs_doctor.specs.DoctorStores.{AreRunsFound}
use Rattle.cs_doctor.proofs.doctor_stores.read_each.Given as goal

abbrev pub invariant-loop-k : goal.invariant-loop-k
invariant-loop-k g l = record {
  disk : OnlyReads g.D.PageDisk l.fn.disk l.disk;
  found : g.D.PageDisk.honest l.fn.disk
      → AreRunsFound l.extents (page (seen (g.D.PageDisk.state l.fn.disk))) (g.D.PageDisk.failure_count l.fn.disk) (g.D.PageDisk.failure_count l.disk) (take l.k l.places) l.found.items;
}
