use Rattle.std.proofs.Common.{◌≡◌, [], ◌∷◌, take, map}
use Rattle.std.specs.Prelude.{All}
use Rattle.serde_json.specs.Data.{string}
use Rattle.serde_json.specs.View.{view}
use Rattle.cs_check.specs.Names.{IsLetter}
use Rattle.cs_check.proofs.values.letters.Given as goal

abbrev pub invariant-loop-i : goal.invariant-loop-i
invariant-loop-i l = record {
  each : All IsLetter l.letters.items;
  values : map view (take l.i l.values) ≡ map (λ c. string (c ∷ [])) l.letters.items;
}
