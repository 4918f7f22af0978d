use Rattle.std.proofs.Common.{ℕ, ◌<◌}
use Rattle.cs_deps.specs.declared.elements.Element.TheVariants.{Version}
use Rattle.cs_deps.specs.Named.{Names}
use Rattle.cs_check.proofs.nestings.holds_versions.Given as goal

abbrev pub invariant-loop-family : goal.invariant-loop-family
invariant-loop-family l = (f v : ℕ) → f < l.family → Names l.first (Version f v) → Names l.second (Version f v)
