use Rattle.cs_index.proofs.Next.{NoneBetween}
use Rattle.cs_index.proofs.live.first_on_behind.Given as goal

abbrev pub invariant-loop-k : goal.invariant-loop-k
invariant-loop-k l = NoneBetween l.places l.k l.last l.extent
