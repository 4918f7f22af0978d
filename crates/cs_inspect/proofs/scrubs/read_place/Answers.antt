use Rattle.std.proofs.Common.{sym, subst}
use Rattle.cs_extent.specs.State.{shape}
use Rattle.cs_inspect.specs.Scrubs.{IsInside, TellsFrame}
use Rattle.cs_inspect.proofs.Telling.{told_read, told_unread}
use Rattle.cs_inspect.proofs.scrubs.read_place.Goals as goal
use Rattle.cs_inspect.proofs.scrubs.read_place.Goals.{in-Ok, in-Err}

pub returns-clause-told : goal.returns-clause-told
returns-clause-told g c = λ honest view are.
    let extents = c.args.core.now.store.extents in
    let inside : IsInside (shape extents) c.args.place = subst (λ x. IsInside (shape x) c.args.place) c.extents.ensures c.if-not-is_inside.ensures in
    elim c.match-read_frame.branch [
      | in-Ok w ↦ subst (λ r. TellsFrame extents view c.args.kind c.args.place r) (sym w.result-is) (told_read extents view c.args.kind c.args.place inside (tt {0}) c.read_frame.result _ (c.read_frame.ensures.fault honest view are) w.in-Ok.is)
      | in-Err w ↦ subst (λ r. TellsFrame extents view c.args.kind c.args.place r) (sym w.result-is) (told_unread extents view c.args.kind c.args.place inside (Unit {0}) c.read_frame.result _ (c.read_frame.ensures.fault honest view are) w.in-Err.is)
    ]
