use Rattle.cs_deps.specs.View.{pending_of}
use Rattle.cs_check.specs.Progress.{IsUpTo}
use Rattle.cs_check.proofs.listings.are_numbered.Given as goal

abbrev pub invariant-loop-k : goal.invariant-loop-k
invariant-loop-k l = IsUpTo (pending_of l.view) l.k l.last.plain l.last.versions.items
