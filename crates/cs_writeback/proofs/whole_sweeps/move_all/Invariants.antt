use Rattle.cs_writeback.proofs.SweepSteps.{MovesSoFar}
use Rattle.cs_writeback.proofs.whole_sweeps.move_all.Given as goal

abbrev pub invariant-loop-moved : goal.invariant-loop-moved
invariant-loop-moved g l = MovesSoFar g.D.PageDisk l.extent l.initial.core l.core l.moved
