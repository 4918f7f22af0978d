use Rattle.std.specs.Prelude.{take}
use Rattle.cs_doctor.specs.DoctorCounts.{AreNamedBy, FailsOn, IsOf}
use Rattle.cs_doctor.proofs.diagnosis_counts.damages_of.Given as goal

abbrev pub invariant-loop-k : goal.invariant-loop-k
invariant-loop-k l = record {
  shards : AreNamedBy IsOf (take l.k l.damages) l.shards.items;
  failing : AreNamedBy FailsOn (take l.k l.damages) l.failing.items;
}
