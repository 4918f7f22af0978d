use Rattle.std.proofs.Common.{◌≡◌, take, map}
use Rattle.std.specs.Prelude.{All}
use Rattle.serde_json.specs.Data.{string}
use Rattle.serde_json.specs.View.{view}
use Rattle.cs_check.specs.Names.{IsName, name_of}
use Rattle.cs_check.proofs.values.elements.Given as goal

abbrev pub invariant-loop-i : goal.invariant-loop-i
invariant-loop-i l = record {
  named : All (IsName l.letters) l.elements.items;
  values : map view (take l.i l.values) ≡ map (λ x. string (name_of l.letters x)) l.elements.items;
}
