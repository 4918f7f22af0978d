use Rattle.std.proofs.Common.{◌≡◌, drop}
use Rattle.cs_mount.specs.MadeSections.{made_row}
use Rattle.cs_mount.proofs.section_rows.made_row.Given as goal

abbrev pub invariant-loop-k : goal.invariant-loop-k
invariant-loop-k l = made_row l.pages (drop l.k l.named) l.extent ≡ made_row l.pages l.named l.extent
