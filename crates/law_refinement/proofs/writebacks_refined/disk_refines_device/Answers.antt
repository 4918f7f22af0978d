use Rattle.law_refinement.proofs.writebacks_refined.disk_refines_device.Goals as goal
use Rattle.law_refinement.proofs.Disks.{crash, reads, step_stays}

pub returns : goal.returns
returns c = record {
  reads = λ S F s disk is. reads S F s disk is;
  crash = λ S F s disk left is may. crash S F s disk is left may;
  stays = λ S F s t event reply disk sound step issue end is. step_stays S F s disk is t event reply sound step issue end;
}
