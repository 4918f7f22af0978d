use Rattle.law_machine.proofs.machine_events.what_an_event_leaves.Goals as goal
use Rattle.law_machine.proofs.Staying.{step_frontier, step_roots, step_round}

pub returns : goal.returns
returns c = record {
  round = λ S F s t event reply step begin issue end. step_round S F s t event reply step begin issue end;
  roots = λ S F s t event reply step. step_roots S F s t event reply step;
  frontier = λ S F s t event reply n step not front. step_frontier S F s t event reply n step not front;
}
