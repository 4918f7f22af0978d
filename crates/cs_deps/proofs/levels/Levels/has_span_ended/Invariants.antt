use Rattle.std.proofs.Common.{ℕ, ◌<◌, ◌≤◌}
use Rattle.cs_deps.specs.declared.elements.Element.TheVariants.{Plain}
use Rattle.cs_deps.specs.Levels.{level_by}
use Rattle.cs_deps.proofs.levels.Levels.has_span_ended.Given as goal

abbrev pub invariant-loop-number : goal.invariant-loop-number
invariant-loop-number l = (n : ℕ) → l.fn.span.first ≤ n → n < l.number → level_by l.self (Plain n) ≤ l.self.ended
