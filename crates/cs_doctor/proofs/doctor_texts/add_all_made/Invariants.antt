use Rattle.std.proofs.Common.{◌≡◌, ◌++◌, take}
use Rattle.std.specs.Prelude.{flat_map, string_bytes}
use Rattle.cs_doctor.specs.DoctorReports.{made_line}
use Rattle.cs_doctor.proofs.doctor_texts.add_all_made.Given as goal

abbrev pub invariant-loop-k : goal.invariant-loop-k
invariant-loop-k l = string_bytes l.text ≡ string_bytes l.fn.text ++ flat_map made_line (take l.k l.made)
