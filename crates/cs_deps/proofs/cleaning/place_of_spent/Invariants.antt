use Rattle.std.proofs.Common.{◌≡◌, true, IfSome, Some, slice_get}
use Rattle.cs_deps.specs.declared.elements.Element.{Element as Item}
use Rattle.cs_deps.specs.Named.{Named}
use Rattle.cs_deps.specs.Spent.{is_spent}
use Rattle.cs_deps.proofs.cleaning.place_of_spent.Given as goal

abbrev pub invariant-loop-k : goal.invariant-loop-k
invariant-loop-k l = IfSome l.spent (λ k. (w : Item × Named) × (slice_get l.entries k ≡ Some w) × (is_spent l.family l.version w ≡ true))
