use Rattle.std.proofs.Common.{◌≡◌, ℕ, take}
use Rattle.cs_node.specs.Numbers.{times}
use Rattle.cs_node.specs.Accounts.{held}
use Rattle.cs_node.proofs.judges.all_numbers.Given as goal

-- those of the purses so far, and those that were handed in
abbrev pub invariant-loop-purse : goal.invariant-loop-purse
invariant-loop-purse g l = (x : ℕ) → times x l.all.items ≡ held x l.handed (take l.purse-index l.purses)
