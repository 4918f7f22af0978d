use Rattle.law_refinement.proofs.crashes_refined.what_a_crash_leaves_recovers.Goals as goal
use Rattle.law_refinement.proofs.CrashesLeft.{leaves, leaves_from, prefix_later, prefix_wider, same_size, torn_leaves, torn_leaves_from}

pub returns : goal.returns
returns c = record {
  size = λ disk left may. same_size disk left may;
  left = λ x s disk left whole sound is sized may. leaves x s disk left whole sound is sized may;
  prefix = λ x s disk left f whole sound is sized may gives front. leaves_from x s disk left whole sound is sized may f gives front;
  torn = λ x s disk left image whole sound is sized may torn. torn_leaves x s disk left image whole sound is sized may torn;
  torn_prefix = λ x s disk left image f whole sound is sized may torn gives front. torn_leaves_from x s disk left image whole sound is sized may torn f gives front;
  wider = λ S opened commands least most low high left under over is. prefix_wider S opened commands least most low high left under over is;
  later = λ S opened more commands least most left few is. prefix_later S opened more commands least most left few is;
}
