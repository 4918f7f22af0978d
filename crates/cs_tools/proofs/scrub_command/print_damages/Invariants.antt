use Rattle.std.specs.Prelude.{flat_map, take}
use Rattle.std.specs.Io.KnownBytes.{Appends}
use Rattle.cs_tools.specs.Scrubs.{damage_line}
use Rattle.cs_tools.proofs.scrub_command.print_damages.Given as goal

abbrev pub invariant-loop-damage : goal.invariant-loop-damage
invariant-loop-damage g l = Appends (g.W.Write.contents l.initial.writer) (g.W.Write.contents l.writer) (flat_map (damage_line l.style) (take l.damage-index l.damages))
