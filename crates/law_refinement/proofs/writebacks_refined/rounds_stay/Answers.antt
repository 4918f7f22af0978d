use Rattle.law_refinement.proofs.writebacks_refined.rounds_stay.Goals as goal
use Rattle.law_refinement.proofs.RefusedRounds.{round_opened, round_stays}

pub returns : goal.returns
returns c = record {
  stays = λ S F g h s t event reply is step begin issue end same. round_stays S F g h s t event reply is step begin issue end same;
  opened = λ S F g img n m found none. round_opened S F g img n m found none;
}
