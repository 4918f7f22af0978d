use Rattle.law_refinement.proofs.writebacks_refined.end_refines_end.Goals as goal
use Rattle.law_refinement.proofs.RoundsOut.{end, end_fails}

pub returns : goal.returns
returns c = record {
  ended = λ x g h i s disk round roots n whole is issued settles noted counted. let runs = is.running in
      end x g i s runs.parts runs.rounds runs.going round issued.out issued.all disk is.on whole runs.sound h settles.staging settles.adds settles.none roots n noted counted;
  failed = λ x g i s disk round are is runs issued on. end_fails x g i s are is runs round issued.out issued.all disk on;
}
