use Rattle.std.proofs.Common.{◌≡◌, take, map}
use Rattle.serde_json.specs.Data.{string}
use Rattle.serde_json.specs.View.{view}
use Rattle.cs_check.specs.Names.{name_of}
use Rattle.cs_check.proofs.writings.elements_value.Given as goal

abbrev pub invariant-loop-i : goal.invariant-loop-i
invariant-loop-i l = map view l.values.items ≡ map (λ x. string (name_of l.letters x)) (take l.i l.elements)
