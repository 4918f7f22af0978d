use Rattle.law_room.proofs.share.a_put_finds_its_extents.Goals as goal
use Rattle.law_room.proofs.Writing.{fills, wherever}

pub returns-clause-fills : goal.returns-clause-fills
returns-clause-fills c = fills

pub returns-clause-wherever : goal.returns-clause-wherever
returns-clause-wherever c = wherever
