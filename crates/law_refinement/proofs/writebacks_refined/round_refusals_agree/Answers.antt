use Rattle.law_refinement.proofs.writebacks_refined.round_refusals_agree.Goals as goal
use Rattle.law_refinement.proofs.RefusedRounds.{all_refused, begin_refused, end_refused, issue_refused}

pub returns : goal.returns
returns c = record {
  begin = λ S F g s f is runs. begin_refused S F g s f is runs;
  issue = λ S F g s f is runs. issue_refused S F g s f is runs;
  end = λ S F g s f is runs. end_refused S F g s f is runs;
  halted = λ S F s event f halted get settle. all_refused S F s f halted event get settle;
}
