use Rattle.std.proofs.Common.{ℕ, ◌≤◌, take}
use Rattle.cs_deps.specs.Named.{IsInSpans}
use Rattle.cs_deps.proofs.dependencies.all_within.Given as goal

abbrev pub invariant-loop-span : goal.invariant-loop-span
invariant-loop-span l = (n : ℕ) → IsInSpans (take l.span-index l.spans) n → (1 ≤ n) × (n ≤ l.staged)
