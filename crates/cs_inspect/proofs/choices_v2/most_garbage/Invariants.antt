use Rattle.cs_inspect.proofs.Garbage.{IsMostTo}
use Rattle.cs_inspect.proofs.choices_v2.most_garbage.Given as goal

abbrev pub invariant-loop-extent : goal.invariant-loop-extent
invariant-loop-extent l = IsMostTo l.uses l.extent l.most l.found
