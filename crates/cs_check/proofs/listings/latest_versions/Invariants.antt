use Rattle.cs_deps.specs.View.{pending_of}
use Rattle.cs_check.specs.Progress.{IsUpTo, IsListedTo}
use Rattle.cs_check.proofs.listings.latest_versions.Given as goal

abbrev pub invariant-loop-k : goal.invariant-loop-k
invariant-loop-k l = record {
  up : IsUpTo (pending_of l.view) l.k l.last.plain l.last.versions.items;
  listed : IsListedTo (pending_of l.view) l.k;
}
