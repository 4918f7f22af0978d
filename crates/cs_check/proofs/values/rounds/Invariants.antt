use Rattle.std.proofs.Common.{◌≡◌, take, map}
use Rattle.std.specs.Prelude.{All}
use Rattle.serde_json.specs.View.{view}
use Rattle.cs_check.specs.Names.{IsName}
use Rattle.cs_check.specs.Documents.{names_data}
use Rattle.cs_check.specs.Progress.{elements_of}
use Rattle.cs_check.proofs.values.rounds.Given as goal

abbrev pub invariant-loop-i : goal.invariant-loop-i
invariant-loop-i l = record {
  each : All (All (IsName l.letters)) (elements_of l.rounds.items);
  values : map view (take l.i l.values) ≡ map (names_data l.letters) (elements_of l.rounds.items);
}
