use Rattle.std.specs.Io.KnownBytes.{Appends}
use Rattle.cs_tools.specs.ExtentMaps.{rows_before}
use Rattle.cs_tools.proofs.extent_maps.print_rows.Given as goal

abbrev pub invariant-loop-number : goal.invariant-loop-number
invariant-loop-number g l = Appends (g.W.Write.contents l.initial.writer) (g.W.Write.contents l.writer) (rows_before l.pages l.number l.uses)
