use Rattle.std.proofs.Common.{◌≡◌, ℕ, ◌+◌, ◌<◌, min, take, vec_len}
use Rattle.std.specs.Prelude.{slice_index}
use Rattle.cs_node.specs.Accounts.{called_at}
use Rattle.cs_node.proofs.judges.count_calls.Given as goal

-- the calls of the purses so far were counted
abbrev pub invariant-loop-purse : goal.invariant-loop-purse
invariant-loop-purse g l = (vec_len l.tally ≡ l.places) × ((k : ℕ) → k < l.places → slice_index l.tally.items k ≡ min 2 (called_at (l.base + k) (take l.purse-index l.purses)))
