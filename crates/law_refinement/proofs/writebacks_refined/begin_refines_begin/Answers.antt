use Rattle.law_refinement.proofs.writebacks_refined.begin_refines_begin.Goals as goal
use Rattle.law_refinement.proofs.RoundsOut.{begin, idle, nothing}

pub returns : goal.returns
returns c = record {
  begun = λ x g h i s round whole is takes.
      begin x g h i s is.parts is.sound is.rounds is.going takes.none round whole takes.queue takes.some takes.staging takes.adds takes.out;
  idle = λ x g i s is none waits. idle x g g i s is.parts is.sound is.rounds is.going none waits;
  nothing = λ S F g s sound is. nothing S F g s sound is;
}
