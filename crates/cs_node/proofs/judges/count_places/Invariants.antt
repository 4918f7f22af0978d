use Rattle.std.proofs.Common.{◌≡◌, ℕ, ◌≤◌, ◌<◌, ◌+◌, min, length, take}
use Rattle.std.specs.Prelude.{slice_index}
use Rattle.cs_node.specs.Accounts.{times_at}
use Rattle.cs_node.proofs.judges.count_places.Given as goal

-- the calls so far were counted
abbrev pub invariant-loop-call : goal.invariant-loop-call
invariant-loop-call l = (k : ℕ) → k < length l.tally → slice_index l.fn.tally k ≤ 2 → slice_index l.tally k ≡ min 2 (slice_index l.fn.tally k + times_at (l.base + k) (take l.call-index l.calls))
