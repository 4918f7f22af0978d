use Rattle.std.proofs.Common.{◌≡◌, ℕ, ◌<◌, ◌≤◌, ◌⊎◌, Some}
use Rattle.cs_deps.specs.declared.elements.Element.TheVariants.{Plain}
use Rattle.cs_deps.specs.Named.{IsInSpan}
use Rattle.cs_deps.specs.Levels.{level_by}
use Rattle.cs_deps.proofs.levels.Levels.top_span.Given as goal

abbrev pub invariant-loop-number : goal.invariant-loop-number
invariant-loop-number l = record {
  low : l.fn.best.level ≤ l.top.level;
  above : (n : ℕ) → l.fn.span.first ≤ n → n < l.number → level_by l.self (Plain n) ≤ l.top.level;
  reached : (l.top ≡ l.fn.best) ⊎ ((n : ℕ) × IsInSpan n l.fn.span × (l.top.before ≡ Some (Plain n)) × (level_by l.self (Plain n) ≡ l.top.level));
}
