use Rattle.std.proofs.Common.{◌∙◌, Bool, ap, le_of_eq, refl, sym}
use Rattle.cs_extent.specs.State.{shape}
use Rattle.cs_core.specs.contracts.stores.Store.{the_view}
use Rattle.cs_core.specs.Reads.{MoveAnswers}
use Rattle.cs_core.specs.Stored.{IsKept, Stored}
use Rattle.cs_reader.proofs.Loading.{failed, passed}
use Rattle.cs_core.proofs.BegunBy.{swept_by}
use Rattle.cs_core.proofs.Going.{round_told}
use Rattle.cs_core.proofs.MovedBy.{kept_moved_by, move_answers_by, move_behind_by, move_means_by, move_round_by}
use Rattle.cs_core.proofs.MoveSteps.{move_unswept}
use Rattle.cs_core.proofs.SweepSteps.{IsFound, IsGone, unswept}
use Rattle.cs_core.proofs.stores.Store.move_one.Goals as goal
use Rattle.cs_reader.specs.ImageReads.{page_total}

pub returns-then-not-is_swept-clause-step : goal.returns-then-not-is_swept-clause-step
returns-then-not-is_swept-clause-step g c = rw (← c.self.view_is) (λ runs honest.
    let x = c.self.inside.extents in
    move_unswept (the_view c.self.inside) c.extent_count.ensures.whole runs (g.D.PageDisk.state c.args.disk.now) c.args.extent
    (unswept x c.args.extent c.self.invariant.swept (failed (IsFound x c.args.extent) (IsGone x c.args.extent) c.is_swept.result c.is_swept.ensures c.if-not-is_swept.true)))

pub move_one-requires-clause-swept : goal.move_one-requires-clause-swept
move_one-requires-clause-swept g c =
    let x = c.self.inside.extents in
    swept_by (shape x).apart x c.args.extent refl c.self.invariant.swept (passed (IsFound x c.args.extent) (IsGone x c.args.extent) c.is_swept.result c.is_swept.ensures c.if-not-is_swept.false).1

pub move_one-requires-clause-order : goal.move_one-requires-clause-order
move_one-requires-clause-order g c = λ rule. (c.self.invariant.apart rule).order

pub move_one-requires-clause-up_to : goal.move_one-requires-clause-up_to
move_one-requires-clause-up_to g c = λ rule.
    let x = c.self.inside.extents in
    (c.self.invariant.apart rule).up_to c.args.extent (passed (IsFound x c.args.extent) (IsGone x c.args.extent) c.is_swept.result c.is_swept.ensures c.if-not-is_swept.false).1

pub invariant_of-self : goal.invariant_of-self
invariant_of-self g c =
    let v : Stored = the_view c.self.inside in
    let b : Bool = (shape v.extents).apart in
    let d = c.move_one.ensures in
    let new = c.move_one.new in
    let marks = (passed (IsFound v.extents c.args.extent) (IsGone v.extents c.args.extent) c.is_swept.result c.is_swept.ensures c.if-not-is_swept.false).1 in
    let same = move_round_by v.index v.extents v.graph v.copies c.args.extent new.index new.extents new.graph new.self c.move_one.result
    (λ is. let u = d.unchanged is in (u.0, u.1, u.2, u.3)) b (λ id k is. let m = d.moved id k is in (m.0, m.1, m.2)) d.unstaged in
    round_told (λ (w : Stored). IsKept w) (record v { extents = new.extents; graph = new.graph; index = new.index; copies = new.self }) same
    (kept_moved_by v c.self.invariant c.args.extent marks new.extents new.graph new.index new.self d.ready d.shape d.format d.limit b refl d.order d.up_to c.move_one.result
    (λ is. let u = d.unchanged is in (u.0, u.1, u.2, u.3)) (λ id k is. let m = d.moved id k is in (m.0, m.1, m.2)) d.refused d.kept d.unwritten d.unstaged)

pub returns-clause-step : goal.returns-clause-step
returns-clause-step g c = rw (← c.self.view_is) (λ runs honest.
    let v : Stored = the_view c.self.inside in
    let b : Bool = (shape v.extents).apart in
    let d = c.move_one.ensures in
    let new = c.move_one.new in
    let w : Stored = record v { extents = new.extents; graph = new.graph; index = new.index; copies = new.self } in
    let marks = (passed (IsFound v.extents c.args.extent) (IsGone v.extents c.args.extent) c.is_swept.result c.is_swept.ensures c.if-not-is_swept.false).1 in
    let answer : MoveAnswers v (g.D.PageDisk.state c.args.disk.now) c.args.extent c.move_one.result w = move_answers_by v c.extent_count.ensures.whole c.families.ensures.whole runs (g.D.PageDisk.state c.args.disk.now)
    (le_of_eq (ap (λ (u : Stored). page_total (shape u.extents)) c.self.view_is ∙ c.requires.device ∙ sym (g.met.D.PageDisk.sized c.args.disk.now honest)))
    c.args.extent marks c.move_one.result new.extents new.graph new.index new.self b refl d.none (λ is. let u = d.unchanged is in (u.0, u.1, u.2, u.3))
    (λ id k is. let m = d.moved id k is in (m.0, m.1, m.2, m.3 honest)) (d.damaged honest) (d.why honest) d.refusals d.refused d.kept d.unwritten d.unstaged d.shape in
    let same = move_round_by v.index v.extents v.graph v.copies c.args.extent new.index new.extents new.graph new.self c.move_one.result
    (λ is. let u = d.unchanged is in (u.0, u.1, u.2, u.3)) b (λ id k is. let m = d.moved id k is in (m.0, m.1, m.2)) d.unstaged in
    round_told (λ (u : Stored). MoveAnswers v (g.D.PageDisk.state c.args.disk.now) c.args.extent c.move_one.result u) w same answer)

pub returns-clause-behind : goal.returns-clause-behind
returns-clause-behind g c = rw (← c.self.view_is) (
    let v : Stored = the_view c.self.inside in
    let d = c.move_one.ensures in
    let new = c.move_one.new in
    move_behind_by v.index v.extents v.graph v.copies c.args.extent new.index new.extents new.graph new.self c.move_one.result
    (λ is. let u = d.unchanged is in (u.0, u.1, u.2, u.3)) (shape v.extents).apart (λ id k is. let m = d.moved id k is in (m.0, m.1, m.2)))

pub returns-clause-round : goal.returns-clause-round
returns-clause-round g c = rw (← c.self.view_is) (
    let v : Stored = the_view c.self.inside in
    let d = c.move_one.ensures in
    let new = c.move_one.new in (
      move_round_by v.index v.extents v.graph v.copies c.args.extent new.index new.extents new.graph new.self c.move_one.result
          (λ is. let u = d.unchanged is in (u.0, u.1, u.2, u.3)) (shape v.extents).apart (λ id k is. let m = d.moved id k is in (m.0, m.1, m.2)) d.unstaged,
      refl,
    ))

pub returns-clause-meaning : goal.returns-clause-meaning
returns-clause-meaning g c = rw (← c.self.view_is) (
    let v : Stored = the_view c.self.inside in
    let d = c.move_one.ensures in
    let new = c.move_one.new in
    move_means_by v.index v.extents v.graph v.copies c.args.extent new.index new.extents new.graph new.self c.move_one.result
    (λ is. let u = d.unchanged is in (u.0, u.1, u.2, u.3)) (shape v.extents).apart (λ id k is. let m = d.moved id k is in (m.0, m.1, m.2)) d.refused)
