use Rattle.std.proofs.Common.{◌≡◌, [], ◌∷◌, take, map}
use Rattle.serde_json.specs.Data.{string}
use Rattle.serde_json.specs.View.{view}
use Rattle.cs_check.proofs.writings.letters_value.Given as goal

abbrev pub invariant-loop-i : goal.invariant-loop-i
invariant-loop-i l = map view l.values.items ≡ map (λ c. string (c ∷ [])) (take l.i l.letters)
