use Rattle.law_machine.proofs.machine_events.events_are_deterministic.Goals as goal
use Rattle.law_machine.proofs.Answered.{put_one, delete_one}
use Rattle.law_machine.proofs.AnsweredStages.{stage_one}
use Rattle.law_machine.proofs.AnsweredSweeps.{move_one, retire_one}
use Rattle.law_machine.proofs.OneRound.{begin_one}

pub returns : goal.returns
returns c = record {
  put = λ S F s t u id bytes r q shape format a b. put_one S F shape format s id bytes r q t u a b;
  delete = λ S F s t u id r q shape format a b. delete_one S F shape format s id r q t u a b;
  stage = λ S F s t u r q shape format a b. stage_one S F shape format s r q t u a b;
  move_one = λ S F s t u e r q shape format a b. move_one S F shape format s e r q t u a b;
  retire = λ S F s t u e r q shape format a b. retire_one S F shape format s e r q t u a b;
  begin = λ S F s t u members others a b. begin_one S F s t u members others a b;
}
