use Rattle.std.specs.Prelude.{take}
use Rattle.std.specs.List.{AllZip}
use Rattle.cs_disk.specs.Disk.{seen}
use Rattle.cs_disk.specs.Reads.{OnlyReads}
use Rattle.cs_mount.specs.StorePairs.{store_version}
use Rattle.cs_doctor.proofs.Doctoring.{IsPairIn}
use Rattle.cs_doctor.proofs.doctor.read_pairs.Given as goal

abbrev pub invariant-loop-k : goal.invariant-loop-k
invariant-loop-k g l = record {
  disk : OnlyReads g.D.PageDisk l.fn.disk l.disk;
  found : g.D.PageDisk.honest l.fn.disk
      → AllZip (IsPairIn (store_version l.rules.geometry) (seen (g.D.PageDisk.state l.fn.disk)) (g.D.PageDisk.failure_count l.fn.disk) (g.D.PageDisk.failure_count l.disk)) (take l.k l.pairs) l.found.items;
}
