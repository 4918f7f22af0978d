use Rattle.std.specs.Prelude.{string_bytes}
use Rattle.cs_doctor.specs.DoctorReports.{step_line}
use Rattle.cs_doctor.proofs.DoctorWriting.{written_more}
use Rattle.cs_doctor.proofs.doctor_report.add_steps.Goals as goal

pub loop-k-preserved : goal.loop-k-preserved
loop-k-preserved c = written_more (step_line c.args.file.now) (string_bytes c.args.text.now) (string_bytes c.loop-k.text) (string_bytes c.add_step.new.text) c.args.steps.now c.loop-k.k _ c.loop-k-test.true c.loop-k.invariant c.in_ok-add_step.ensures
