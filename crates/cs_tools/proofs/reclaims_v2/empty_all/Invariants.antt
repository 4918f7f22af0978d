use Rattle.cs_tools.specs.Reclaims.{Tidies}
use Rattle.cs_tools.proofs.Resting.{IsSoFar}
use Rattle.cs_tools.proofs.reclaims_v2.empty_all.Given as goal

abbrev pub invariant-loop : goal.invariant-loop
invariant-loop g l = record {
  tidies : Tidies g.D.PageDisk l.fn.core l.core;
  so_far : g.D.PageDisk.honest l.fn.core.disk → IsSoFar l.fn.core l.core l.since;
}
