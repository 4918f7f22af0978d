use Rattle.std.proofs.Common.{refl, subst, sym}
use Rattle.cs_tools.specs.Aims.{HasNoRoomFor, HasRoomFor, IfPut, IsPutAnd}
use Rattle.cs_tools.specs.declared.aims.Aim.{Aim}
use Rattle.cs_tools.proofs.Aiming.{told_false, told_true}
use Rattle.cs_tools.proofs.reclaim_command.check_room.Goals as goal

pub returns-in-Pairs-clause-room : goal.returns-in-Pairs-clause-room
returns-in-Pairs-clause-room c = subst (λ (aim : Aim). IfPut aim (HasRoomFor c.args.extents.now)) (sym c.in-Pairs.is) tt

pub returns-in-Brim-clause-room : goal.returns-in-Brim-clause-room
returns-in-Brim-clause-room c = subst (λ (aim : Aim). IfPut aim (HasRoomFor c.args.extents.now)) (sym c.in-Brim.is) tt

pub returns-then-has_room_for-clause-room : goal.returns-then-has_room_for-clause-room
returns-then-has_room_for-clause-room c =
    let x = c.args.extents.now in
    let bytes = c.in-Room.bytes in
    subst (λ (aim : Aim). IfPut aim (HasRoomFor x)) (sym c.in-Room.is) (told_true (HasRoomFor x bytes) (HasNoRoomFor x bytes) c.has_room_for.result c.has_room_for.ensures c.if-has_room_for.true)

pub returns-else-has_room_for-clause-full : goal.returns-else-has_room_for-clause-full
returns-else-has_room_for-clause-full c =
    let x = c.args.extents.now in
    let bytes = c.in-Room.bytes in
    (refl, subst (λ (aim : Aim). IsPutAnd aim (HasNoRoomFor x)) (sym c.in-Room.is) (told_false (HasRoomFor x bytes) (HasNoRoomFor x bytes) c.has_room_for.result c.has_room_for.ensures c.if-has_room_for.false))
