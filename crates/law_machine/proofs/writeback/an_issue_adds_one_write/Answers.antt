use Rattle.law_machine.proofs.writeback.an_issue_adds_one_write.Goals as goal
use Rattle.law_machine.proofs.Device.{issue_adds}

pub returns : goal.returns
returns c = issue_adds
