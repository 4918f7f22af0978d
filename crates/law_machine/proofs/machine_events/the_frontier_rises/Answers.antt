use Rattle.law_machine.proofs.machine_events.the_frontier_rises.Goals as goal
use Rattle.law_machine.proofs.Staying.{frontier_rises, one_frontier}

pub returns : goal.returns
returns c = record {
  one = λ S F s n k sound first second. one_frontier S F s n k sound first second;
  rises = λ S F s t event reply n k sound after step old new.
      frontier_rises S F s t event reply n k sound after step old new;
}
