use Rattle.cs_writeback.proofs.Turned.{IssuedSoFar}
use Rattle.cs_writeback.proofs.syncs.issue_rest.Given as goal

abbrev pub invariant-loop : goal.invariant-loop
invariant-loop g l = IssuedSoFar g.D.PageDisk l.initial.core l.core l.counter
