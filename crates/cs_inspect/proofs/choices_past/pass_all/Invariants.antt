use Rattle.std.proofs.Common.{◌≡◌, take}
use Rattle.cs_inspect.specs.Past.{passing}
use Rattle.cs_inspect.proofs.choices_past.pass_all.Given as goal

abbrev pub invariant-loop-i : goal.invariant-loop-i
invariant-loop-i l = l.uses ≡ passing (take l.i l.passed) l.fn.uses
