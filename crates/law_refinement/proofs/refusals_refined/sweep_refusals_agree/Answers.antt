use Rattle.law_refinement.proofs.refusals_refined.sweep_refusals_agree.Goals as goal
use Rattle.law_refinement.proofs.RefusedRounds.{abandon_refused, begin_sweep_refused, move_refused, retire_refused}

pub returns : goal.returns
returns c = record {
  begin_sweep = λ F x g i s e f together are runs. begin_sweep_refused F x g i s e f are runs together;
  move_one = λ F x g i s e f are runs unmarked. move_refused F x g i s e f are runs unmarked;
  retire = λ F x g i s e f are runs unmarked. retire_refused F x g i s e f are runs unmarked;
  abandon = λ F x g i s e f are runs. abandon_refused F x g i s e f are runs;
}
