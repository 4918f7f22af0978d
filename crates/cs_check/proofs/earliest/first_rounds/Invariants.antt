use Rattle.std.proofs.Common.{◌-◌, length}
use Rattle.cs_deps.specs.View.{pending_of}
use Rattle.cs_check.specs.Progress.{AreSpread, elements_of}
use Rattle.cs_check.proofs.earliest.first_rounds.Given as goal

abbrev pub invariant-loop-after : goal.invariant-loop-after
invariant-loop-after l = AreSpread (pending_of l.view) (elements_of l.rounds) (length l.view.waiting.items - l.after) l.firsts.items l.families.items
