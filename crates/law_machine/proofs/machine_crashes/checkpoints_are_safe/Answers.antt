use Rattle.law_machine.proofs.machine_crashes.checkpoints_are_safe.Goals as goal
use Rattle.law_machine.proofs.Checkpoints.{checkpoint_prefix, one_more_checkpoint}
use Rattle.law_machine.proofs.Waiting.{all_done}

pub returns : goal.returns
returns c = record {
  prefix = checkpoint_prefix;
  frontier = λ S F s f sound rest front. all_done S F s f sound rest.nothing_waits rest.empty_table front;
  again = λ S F opened s t base history legal rest. one_more_checkpoint S F opened s base history legal rest;
}
