use Rattle.std.proofs.Common.{◌≡◌, ℕ, ◌+◌, ◌≤◌, vec_capacity, vec_len}
use Rattle.cs_node.specs.Numbers.{NoneEmpty, times}
use Rattle.cs_node.proofs.numbers.place_all.Given as goal

abbrev pub invariant-loop-stretch : goal.invariant-loop-stretch
invariant-loop-stretch l = record {
  room : vec_len l.stretches + vec_len l.more ≤ vec_capacity l.stretches;
  filled : NoneEmpty l.stretches.items × NoneEmpty l.more.items;
  same : (x : ℕ) → times x l.stretches.items + times x l.more.items ≡ times x l.fn.stretches.items + times x l.fn.more.items;
}

abbrev pub decreases-loop-stretch : goal.decreases-loop-stretch
decreases-loop-stretch l = vec_len l.more
