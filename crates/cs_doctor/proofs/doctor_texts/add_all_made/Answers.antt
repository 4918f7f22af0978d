use Rattle.std.specs.Prelude.{string_bytes}
use Rattle.cs_doctor.specs.DoctorReports.{made_line}
use Rattle.cs_doctor.proofs.DoctorWriting.{written_more}
use Rattle.cs_doctor.proofs.doctor_texts.add_all_made.Goals as goal

pub loop-k-preserved : goal.loop-k-preserved
loop-k-preserved c = written_more made_line (string_bytes c.args.text.now) (string_bytes c.loop-k.text) (string_bytes c.add_made.new.text) c.args.made.now c.loop-k.k _ c.loop-k-test.true c.loop-k.invariant c.in_ok-add_made.ensures
