use Rattle.std.proofs.Common.{◌≤◌}
use Rattle.cs_extent.specs.State.{shape}
use Rattle.cs_tools.specs.Aims.{most_emptied}
use Rattle.cs_tools.specs.Reclaims.{Tidies}
use Rattle.cs_tools.proofs.Emptying.{AreSteps}
use Rattle.cs_tools.proofs.Resting.{IsAtRest}
use Rattle.cs_tools.proofs.emptyings.empty_by_choice.Given as goal

abbrev pub invariant-loop : goal.invariant-loop
invariant-loop g l = record {
  tidies : Tidies g.D.PageDisk l.fn.core l.core;
  so_far : g.D.PageDisk.honest l.fn.core.disk → IsAtRest l.fn.core l.core;
  steps : AreSteps g.D.PageDisk l.fn.aim l.fn.style l.counter l.passed.items l.fn.core l.core (g.W.Write.contents l.fn.writer) (g.W.Write.contents l.writer);
  few : l.counter ≤ most_emptied l.fn.aim (shape l.fn.core.store.extents).extents;
}
