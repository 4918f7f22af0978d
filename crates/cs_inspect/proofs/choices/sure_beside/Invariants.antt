use Rattle.cs_inspect.proofs.Brim.{IsSureTo}
use Rattle.cs_inspect.proofs.choices.sure_beside.Given as goal

abbrev pub invariant-loop-extent : goal.invariant-loop-extent
invariant-loop-extent l = IsSureTo l.uses l.pages l.greatest l.swept l.extent l.sure
