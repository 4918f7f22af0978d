use Rattle.cs_writeback.proofs.SyncSteps.{RoundsSoFar}
use Rattle.cs_writeback.proofs.syncs.write_rounds.Given as goal

abbrev pub invariant-loop-ended : goal.invariant-loop-ended
invariant-loop-ended g l = RoundsSoFar g.D.PageDisk g.O.Observer.tells l.initial.core l.core l.initial.told l.told l.ended
