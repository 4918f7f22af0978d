use Rattle.std.specs.Prelude.{flat_map, take}
use Rattle.std.specs.List.{enumerate_from}
use Rattle.std.specs.Io.KnownBytes.{Appends}
use Rattle.cs_tools.specs.MapPictures.{extent_text}
use Rattle.cs_tools.proofs.map_pictures.draw_extents.Given as goal

abbrev pub invariant-loop-number : goal.invariant-loop-number
invariant-loop-number g l = Appends (g.W.Write.contents l.initial.writer) (g.W.Write.contents l.writer) (flat_map (extent_text l.pages) (take l.number (enumerate_from 0 l.uses)))
