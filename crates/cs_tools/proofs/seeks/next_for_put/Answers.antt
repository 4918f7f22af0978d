use Rattle.std.proofs.Common.{inr, subst}
use Rattle.std.proofs.lemmas.Result.{IfOk-weaker}
use Rattle.cs_extent.specs.State.{State as Extents}
use Rattle.cs_tools.specs.Aims.{HasNoRoomFor, HasRoomFor}
use Rattle.cs_tools.specs.declared.aims.Aim.TheVariants.{Room}
use Rattle.cs_tools.proofs.Aiming.{brim_for_put, left_of, next_settled, told_true}
use Rattle.cs_tools.proofs.seeks.next_for_put.Goals as goal

pub returns-then-has_room_for-clause-chosen : goal.returns-then-has_room_for-clause-chosen
returns-then-has_room_for-clause-chosen g c =
    let x = c.extents.result.now in
    let bytes = c.args.bytes in
    let there = told_true (HasRoomFor x bytes) (HasNoRoomFor x bytes) c.has_room_for.result c.has_room_for.ensures c.if-has_room_for.true in
    let room = subst (λ (y : Extents). HasRoomFor y bytes) c.extents.ensures there in
    IfOk-weaker c.nothing_more.result _ _ (λ next is. next_settled g.D.PageDisk (Room bytes) c.args.passed.now c.args.core.now c.nothing_more.new.core next (inr room) is) c.nothing_more.ensures.nothing

pub returns-then-has_room_for-clause-left : goal.returns-then-has_room_for-clause-left
returns-then-has_room_for-clause-left g c = left_of g.D.PageDisk c.nothing_more.new.core c.nothing_more.result c.nothing_more.ensures.nothing

pub returns-clause-chosen : goal.returns-clause-chosen
returns-clause-chosen g c = IfOk-weaker c.next_to_brim.result _ _ (λ next is. brim_for_put g.D.PageDisk c.args.bytes c.args.passed.now c.args.core.now c.next_to_brim.new.core next is) c.next_to_brim.ensures.chosen
