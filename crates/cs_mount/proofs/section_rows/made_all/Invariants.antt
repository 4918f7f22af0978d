use Rattle.std.proofs.Common.{◌≡◌, ◌≤◌, length, vec_capacity}
use Rattle.cs_mount.specs.MadeSections.{AreMadeFrom}
use Rattle.cs_mount.proofs.section_rows.made_all.Given as goal

abbrev pub invariant-loop-section : goal.invariant-loop-section
invariant-loop-section l = record {
  made : AreMadeFrom l.geometry l.named l.section l.sections.items;
  size : length l.sections.items ≡ l.section;
  room : l.geometry.sections ≤ vec_capacity l.sections;
}
