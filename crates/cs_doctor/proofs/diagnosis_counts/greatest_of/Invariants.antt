use Rattle.std.specs.Prelude.{◌≤◌, All, take}
use Rattle.cs_doctor.proofs.diagnosis_counts.greatest_of.Given as goal

abbrev pub invariant-loop-k : goal.invariant-loop-k
invariant-loop-k l = All (λ part. part.head.command ≤ l.greatest) (take l.k l.parts)
