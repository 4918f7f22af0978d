use Rattle.std.specs.Prelude.{flat_map, take}
use Rattle.std.specs.Io.KnownBytes.{Appends}
use Rattle.cs_tools.specs.Pages.{pair_line}
use Rattle.cs_tools.proofs.pages.print_pages.Given as goal

abbrev pub invariant-loop-finding : goal.invariant-loop-finding
invariant-loop-finding g l = Appends (g.W.Write.contents l.initial.writer) (g.W.Write.contents l.writer) (flat_map (pair_line l.style l.mended) (take l.finding-index l.findings))
