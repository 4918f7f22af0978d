use Rattle.std.proofs.Common.{◌≡◌, ◌<◌, ◌+◌, ◌^◌, ℕ, false}
use Rattle.cs_disk.specs.Disk.{seen}
use Rattle.cs_disk.specs.Reads.{OnlyReads}
use Rattle.cs_mount.specs.MadeSections.{IsInside, all_made, newest_version, section_serves}
use Rattle.cs_mount.proofs.lost_sections.list_sections.Given as goal

abbrev pub invariant-loop-section : goal.invariant-loop-section
invariant-loop-section g l = record {
  disk : OnlyReads g.D.PageDisk l.fn.disk l.disk;
  made : g.D.PageDisk.honest l.fn.disk → l.pages.items ≡ all_made l.named.geometry (seen (g.D.PageDisk.state l.fn.disk)) l.named.root l.named.places.items l.section;
  fit : g.D.PageDisk.honest l.fn.disk → (j : ℕ) → j < l.section → section_serves l.named.geometry (seen (g.D.PageDisk.state l.fn.disk)) l.named.root l.named.places.items j ≡ false → 1 + newest_version l.named.geometry (seen (g.D.PageDisk.state l.fn.disk)) j < 2 ^ 63;
  inside : IsInside l.named.geometry l.pages.items;
}
