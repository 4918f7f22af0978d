use Rattle.std.proofs.Common.{ℕ, ◌+◌, ◌^◌, ◌<◌, ◌≤◌, get_or}
use Rattle.cs_extent.specs.Frames.{family_of}
use Rattle.cs_extent.proofs.numbers.are_versions_worn.Given as goal

abbrev pub invariant-loop-j : goal.invariant-loop-j
invariant-loop-j l = (j : ℕ) → j < l.j → 2 ^ 63 ≤ get_or l.graph.staging.latest (family_of j) 0 + get_or l.counts j 0 → ⊥
