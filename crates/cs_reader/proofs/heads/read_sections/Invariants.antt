use Rattle.std.proofs.Common.{◌≡◌, ◌≤◌, length, vec_capacity}
use Rattle.cs_disk.specs.Disk.{page, seen}
use Rattle.cs_reader.proofs.SectionReads.{AreReadTo}
use Rattle.cs_reader.proofs.heads.read_sections.Given as goal
use Rattle.cs_disk.specs.Reads.{OnlyReads}

abbrev pub invariant-loop-k : goal.invariant-loop-k
invariant-loop-k g l = record {
  disk : OnlyReads g.D.PageDisk l.fn.disk l.disk;
  size : length l.sections.items ≡ l.k;
  room : l.numbers.sections ≤ vec_capacity l.sections;
  read : AreReadTo (g.D.PageDisk.honest l.fn.disk) (page (seen (g.D.PageDisk.state l.fn.disk))) l.numbers.format l.numbers.extents l.numbers.pages l.numbers.sections l.k l.sections.items;
}
