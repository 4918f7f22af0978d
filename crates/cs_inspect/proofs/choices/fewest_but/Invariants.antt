use Rattle.cs_inspect.proofs.Seeking.{IsFewestTo}
use Rattle.cs_inspect.proofs.choices.fewest_but.Given as goal

abbrev pub invariant-loop-extent : goal.invariant-loop-extent
invariant-loop-extent l = IsFewestTo l.uses l.but l.dead l.extent l.found
