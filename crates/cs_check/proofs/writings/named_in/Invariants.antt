use Rattle.std.proofs.Common.{length}
use Rattle.cs_deps.specs.View.{pending_of}
use Rattle.cs_check.specs.Progress.{ListsTill}
use Rattle.cs_check.proofs.writings.named_in.Given as goal

abbrev pub invariant-loop-family : goal.invariant-loop-family
invariant-loop-family l = ListsTill (pending_of l.view) l.needs (length l.view.waiting.items) l.family l.elements.items
