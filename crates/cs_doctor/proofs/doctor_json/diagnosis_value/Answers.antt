use Rattle.std.proofs.Common.{◌∙◌, Some, ap}
use Rattle.std.specs.Prelude.{codes}
use Rattle.serde_json.proofs.Views.{get_member-put, view-Object}
use Rattle.serde_json.specs.Data.{Data}
use Rattle.serde_json.specs.Find.{get, get_member}
use Rattle.serde_json.specs.View.{members_view, view}
use Rattle.cs_doctor.specs.DoctorReports.{pages_array}
use Rattle.cs_doctor.proofs.doctor_json.diagnosis_value.Goals as goal

pub returns : goal.returns
returns c =
    ap (get (codes "made")) (view-Object c.put.new.map) ∙ ap (get_member (codes "made")) c.in_ok-put.ensures.ok ∙ get_member-put (codes "made") (view c.in_ok-made.made) (members_view c.in_ok-members.members.entries) ∙ ap (λ (d : Data). Some d) (c.in_ok-made.ensures ∙ ap pages_array c.deref.ensures.value)
