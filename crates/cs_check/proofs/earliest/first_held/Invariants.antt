use Rattle.std.proofs.Common.{◌-◌, length}
use Rattle.cs_deps.specs.View.{pending_of}
use Rattle.cs_check.specs.Progress.{AreHeld, elements_of}
use Rattle.cs_check.proofs.earliest.first_held.Given as goal

abbrev pub invariant-loop-after : goal.invariant-loop-after
invariant-loop-after l = AreHeld (pending_of l.view) (elements_of l.rounds) (length l.rounds - l.after) l.firsts.items
