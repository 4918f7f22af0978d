use Rattle.cs_deps.proofs.InSpans.{names_only}
use Rattle.cs_deps.proofs.dependencies.Dependency.on_write.Goals as goal

pub returns-clause-only : goal.returns-clause-only
returns-clause-only c = names_only c.on_writes.result c.args.number c.on_writes.ensures.plain c.on_writes.ensures.version
