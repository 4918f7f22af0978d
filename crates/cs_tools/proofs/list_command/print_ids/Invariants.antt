use Rattle.std.specs.Prelude.{flat_map, take}
use Rattle.std.specs.Io.KnownBytes.{Appends}
use Rattle.cs_advice.specs.Outputs.{id_line}
use Rattle.cs_tools.proofs.list_command.print_ids.Given as goal

abbrev pub invariant-loop-id : goal.invariant-loop-id
invariant-loop-id g l = Appends (g.W.Write.contents l.initial.writer) (g.W.Write.contents l.writer) (flat_map (id_line l.style) (take l.id-index l.ids))
