use Rattle.law_machine.proofs.allocation.appends_are_deterministic.Goals as goal
use Rattle.std.proofs.Common.{false}
use Rattle.law_machine.proofs.Needs.{append_one}

pub returns : goal.returns
returns c = λ S w v u purpose bs l other. append_one S false w v u purpose bs l other
