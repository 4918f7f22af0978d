use Rattle.cs_advice.proofs.Appended.{whatever}
use Rattle.cs_tools.proofs.reclaims_v2.empty_one.Goals as goal

pub returns-clause-rests : goal.returns-clause-rests
returns-clause-rests g c honest = whatever c.printed.result (c.in_ok-moved.ensures.rests honest)
