use Rattle.cs_index.proofs.Living.{NoneBefore}
use Rattle.cs_inspect.proofs.listings.place_on.Given as goal

abbrev pub invariant-loop-k : goal.invariant-loop-k
invariant-loop-k l = NoneBefore l.places l.k l.extent
