use Rattle.cs_deps.proofs.InSpans.{names_one}
use Rattle.cs_deps.proofs.dependencies.Dependency.on_writes.Goals as goal

pub returns-clause-plain : goal.returns-clause-plain
returns-clause-plain c n = rw c.listing.ensures (names_one (record { first = c.args.first; last = c.args.last }) n)
