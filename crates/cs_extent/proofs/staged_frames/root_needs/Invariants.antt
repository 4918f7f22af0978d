use Rattle.std.specs.Prelude.{◌↔◌}
use Rattle.cs_deps.specs.declared.elements.Element.{Element}
use Rattle.cs_deps.specs.Named.{IsSmall, Names}
use Rattle.cs_extent.specs.Frames.{root_pages}
use Rattle.cs_extent.proofs.Staged.{IsBelow}
use Rattle.cs_extent.proofs.staged_frames.root_needs.Given as goal

abbrev pub invariant-loop-family : goal.invariant-loop-family
invariant-loop-family l = record {
  names : (x : Element) → Names l.needs x ↔ IsBelow (root_pages l.pages_first l.graph.staging.staged) l.family l.graph.staging.latest x;
  small : IsSmall l.needs;
}
