use Rattle.std.specs.Prelude.{string_bytes}
use Rattle.cs_doctor.proofs.doctor_report.page_with_steps.Goals as goal

pub returns : goal.returns
returns c = (string_bytes c.in_ok-text.text, c.in_ok-text.ensures, c.in_ok-add_next.ensures)
