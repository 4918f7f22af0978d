use Rattle.std.proofs.Common.{◌≡◌, ℕ, List, take}
use Rattle.std.specs.List.{AllZip}
use Rattle.cs_disk.specs.Disk.{seen}
use Rattle.cs_disk.specs.Reads.{OnlyReads}
use Rattle.law_machine.specs.Index.{joined_bodies}
use Rattle.cs_salvage.specs.Frames.{IsMeant}
use Rattle.cs_salvage.specs.Parts.{IsPart, formats_in}
use Rattle.cs_salvage.proofs.parts.read_whole.Given as goal

abbrev pub invariant-loop-part : goal.invariant-loop-part
invariant-loop-part g l = record {
  disk : OnlyReads g.D.PageDisk l.fn.disk l.disk;
  bytes : g.D.PageDisk.honest l.fn.disk → (payloads : List (List ℕ))
      × AllZip (IsPart l.sought (seen (g.D.PageDisk.state l.fn.disk))) (take l.part-index l.shard.parts.items) payloads
      × (l.bytes.items ≡ joined_bodies (formats_in l.sought.geometry) payloads);
  meant : (payloads : List (List ℕ)) × AllZip IsMeant (take l.part-index l.shard.parts.items) payloads
      × (l.bytes.items ≡ joined_bodies (formats_in l.sought.geometry) payloads);
}
