use Rattle.law_machine.proofs.premises.formats_exist.Goals as goal
use Rattle.law_machine.proofs.Examples.{telling_is_format}

pub returns : goal.returns
returns c = telling_is_format
