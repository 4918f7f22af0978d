use Rattle.std.proofs.Common.{◌≡◌, take, map}
use Rattle.serde_json.specs.View.{view}
use Rattle.cs_check.specs.Documents.{names_data}
use Rattle.cs_check.specs.Progress.{elements_of}
use Rattle.cs_check.proofs.writings.rounds_value.Given as goal

abbrev pub invariant-loop-i : goal.invariant-loop-i
invariant-loop-i l = map view l.values.items ≡ map (names_data l.letters) (take l.i (elements_of l.rounds))
