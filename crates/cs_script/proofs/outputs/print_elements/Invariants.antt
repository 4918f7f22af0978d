use Rattle.std.specs.Prelude.{take}
use Rattle.std.specs.Io.KnownBytes.{Appends}
use Rattle.cs_script.specs.Outputs.{element_names}
use Rattle.cs_script.proofs.outputs.print_elements.Given as goal

abbrev pub invariant-loop-element : goal.invariant-loop-element
invariant-loop-element g l = Appends (g.W.Write.contents l.initial.writer) (g.W.Write.contents l.writer) (element_names (take l.element-index l.elements))
