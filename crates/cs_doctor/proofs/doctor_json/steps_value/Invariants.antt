use Rattle.std.proofs.Common.{◌≡◌, take, map}
use Rattle.serde_json.specs.Data.{string}
use Rattle.serde_json.specs.View.{view}
use Rattle.cs_doctor.specs.Steps.{step_text}
use Rattle.cs_doctor.proofs.doctor_json.steps_value.Given as goal

abbrev pub invariant-loop-k : goal.invariant-loop-k
invariant-loop-k l = map view l.texts.items ≡ map (λ step. string (step_text l.file step)) (take l.k l.steps)
