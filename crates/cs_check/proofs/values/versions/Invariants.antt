use Rattle.std.proofs.Common.{◌≡◌, ◌<◌, ◌^◌, take, map}
use Rattle.std.specs.Prelude.{All}
use Rattle.serde_json.specs.Data.{number, unsigned}
use Rattle.serde_json.specs.View.{view}
use Rattle.cs_check.proofs.values.versions.Given as goal

abbrev pub invariant-loop-i : goal.invariant-loop-i
invariant-loop-i l = record {
  each : All (λ v. v < 2 ^ 63) l.versions.items;
  values : map view (take l.i l.values) ≡ map (λ v. number (unsigned v)) l.versions.items;
}
