use Rattle.std.proofs.Common.{◌≡◌, map, take}
use Rattle.cs_doctor.proofs.doctor_sections.pages_of_sections.Given as goal

abbrev pub invariant-loop-k : goal.invariant-loop-k
invariant-loop-k l = l.pages.items ≡ map (λ w. w.0) (take l.k l.writes)
