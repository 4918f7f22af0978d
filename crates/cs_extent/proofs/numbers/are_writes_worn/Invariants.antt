use Rattle.std.proofs.Common.{ℕ, ◌+◌, ◌^◌, ◌≤◌, ◌↔◌, sum, take}
use Rattle.cs_extent.proofs.numbers.are_writes_worn.Given as goal

abbrev pub invariant-loop-pages : goal.invariant-loop-pages
invariant-loop-pages l = (a : ℕ) → (2 ^ 63 ≤ l.last + a) ↔ (2 ^ 63 ≤ l.graph.staging.staged + sum (take l.pages-index l.frame_pages) + a)
