use Rattle.std.specs.Prelude.{flat_map, take}
use Rattle.std.specs.Io.KnownBytes.{Appends}
use Rattle.cs_tools.specs.ExtentMaps.{mark_text}
use Rattle.cs_tools.proofs.extent_maps.print_marks.Given as goal

abbrev pub invariant-loop-used : goal.invariant-loop-used
invariant-loop-used g l = Appends (g.W.Write.contents l.initial.writer) (g.W.Write.contents l.writer) (flat_map (mark_text l.pages) (take l.used-index l.row))
