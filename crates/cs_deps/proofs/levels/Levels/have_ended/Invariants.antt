use Rattle.std.proofs.Common.{ℕ, ◌≤◌, take}
use Rattle.cs_deps.specs.declared.elements.Element.TheVariants.{Plain}
use Rattle.cs_deps.specs.Named.{IsInSpans}
use Rattle.cs_deps.specs.Levels.{level_by}
use Rattle.cs_deps.proofs.levels.Levels.have_ended.Given as goal

abbrev pub invariant-loop-span : goal.invariant-loop-span
invariant-loop-span l = (n : ℕ) → IsInSpans (take l.span-index l.spans) n → level_by l.self (Plain n) ≤ l.self.ended
