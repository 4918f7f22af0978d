use Rattle.law_refinement.proofs.writebacks_refined.issue_refines_issue.Goals as goal
use Rattle.law_refinement.proofs.RoundsOut.{issue, issue_fails, member_keeps}

pub returns : goal.returns
returns c = record {
  kept = λ g k z whole at. member_keeps g k z whole at;
  issued = λ x g i s disk z p bytes is write. let runs = is.running in
      issue x g i s runs.parts runs.sound runs.rounds runs.going z write.next p bytes write.kept disk is.on;
  failed = λ x g i s disk later z p bytes is write either. let runs = is.running in
      issue_fails x g i s runs.parts runs.sound runs.rounds runs.going z write.next p bytes write.kept disk is.on later either;
}
