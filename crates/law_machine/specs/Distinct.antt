-- Lists in which each element stands once.
use Rattle.std.specs.Prelude.{◌∷◌, List, []}
use Rattle.law_machine.specs.Lists.{◌∈◌}

-- no element stands in the list twice
abbrev pub AreDistinct : {A : Type 0} → List A → Type 0
AreDistinct [] = Unit {0}
AreDistinct (x ∷ xs) = (x ∈ xs → ⊥) × AreDistinct xs
