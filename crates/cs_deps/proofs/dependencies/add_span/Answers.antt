use Rattle.std.proofs.Common.{refl}
use Rattle.cs_deps.proofs.InSpans.{names_already}
use Rattle.cs_deps.proofs.dependencies.add_span.Goals as goal

pub returns-else-not-names_span-clause-names : goal.returns-else-not-names_span-clause-names
returns-else-not-names_span-clause-names c n = names_already c.args.through n c.args.spans.now.items c.args.span (rw c.as_slice.ensures at (c.if-not-names_span.ensures refl))
