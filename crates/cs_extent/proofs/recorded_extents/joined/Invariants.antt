use Rattle.std.proofs.Common.{◌≡◌, take}
use Rattle.cs_extent.specs.Sections.{rows_of}
use Rattle.cs_extent.proofs.recorded_extents.joined.Given as goal

abbrev pub invariant-loop-section : goal.invariant-loop-section
invariant-loop-section l = l.rows.items ≡ rows_of (take l.section-index l.sections)
