use Rattle.law_room.proofs.brim.no_sweep_leaves_more_dead.Goals as goal
use Rattle.law_room.proofs.BrimDead.{dead_all, dead_each, dead_few, dead_fewer, dead_swept}

pub returns-clause-each : goal.returns-clause-each
returns-clause-each c = λ S J s t x e some keeps swept lt. dead_each S J s t x some keeps swept e

pub returns-clause-swept : goal.returns-clause-swept
returns-clause-swept c = λ S J s t x some keeps swept. dead_swept S J s t x some keeps swept

pub returns-clause-all : goal.returns-clause-all
returns-clause-all c = λ S J s t x some keeps swept. dead_all S J s t x some keeps swept

pub returns-clause-extents : goal.returns-clause-extents
returns-clause-extents c = λ S J s t x some keeps swept.
    (dead_few S J s t x some keeps swept, dead_fewer S J s t x some keeps swept)
