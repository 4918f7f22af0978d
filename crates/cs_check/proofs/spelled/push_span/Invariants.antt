use Rattle.cs_deps.specs.View.{pending_of}
use Rattle.cs_check.proofs.Spelling.{SpellsTo}
use Rattle.cs_check.proofs.spelled.push_span.Given as goal

abbrev pub invariant-loop-step : goal.invariant-loop-step
invariant-loop-step l = SpellsTo (pending_of l.view) l.span.first l.step l.fn.elements.items l.elements.items
