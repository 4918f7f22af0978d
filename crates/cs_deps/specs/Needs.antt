-- Needs as a graph keeps them.
use Rattle.std.specs.Prelude.{[], ◌∷◌}
use Rattle.cs_deps.specs.declared.needs.Held.{Held}
use Rattle.cs_deps.specs.declared.needs.Held.TheVariants.{Through, One, Two, Span as OneSpan, Many}
use Rattle.cs_deps.specs.Named.{Named}

-- what is named by what is held
abbrev pub named_by : Held → Named
named_by (Through n) = record { through = n; spans = []; least = [] }
named_by (One n a) = record { through = n; spans = []; least = a ∷ [] }
named_by (Two n a b) = record { through = n; spans = []; least = a ∷ b ∷ [] }
named_by (OneSpan first last second) = record { through = 0; spans = record { first = first; last = last } ∷ []; least = 0 ∷ second ∷ [] }
named_by (Many all) = all.value
