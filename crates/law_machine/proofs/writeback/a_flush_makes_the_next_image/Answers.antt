use Rattle.law_machine.proofs.writeback.a_flush_makes_the_next_image.Goals as goal
use Rattle.law_machine.proofs.Device.{flush_makes}

pub returns : goal.returns
returns c = λ S F s p shape sound busy none. flush_makes S F shape s sound busy none p
