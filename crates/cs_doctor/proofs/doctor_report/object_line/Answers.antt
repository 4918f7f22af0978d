use Rattle.std.specs.Prelude.{string_bytes}
use Rattle.serde_json.specs.View.{view}
use Rattle.cs_doctor.proofs.doctor_report.object_line.Goals as goal

pub returns : goal.returns
returns c = (
  view c.in_ok-object.object,
  string_bytes c.in_ok-text.text,
  record {
    status = c.in_ok-object.ensures.status;
    next = c.in_ok-object.ensures.next;
    what = c.in_ok-object.ensures.found.0;
    has_what = c.in_ok-object.ensures.found.1;
    made = c.in_ok-object.ensures.found.2;
  },
  record { order = c.in_ok-text.ensures.order; reads_back = c.in_ok-text.ensures.reads_back },
  c.in_ok-push_str.ensures.bytes,
)
