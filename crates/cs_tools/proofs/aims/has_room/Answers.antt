use Rattle.std.proofs.Common.{inl, inr, refl, subst, sym}
use Rattle.std.specs.Prelude.{MatchBool}
use Rattle.cs_tools.specs.Aims.{HasNoRoomFor, HasRoomFor, IfPut, IsPutAnd}
use Rattle.cs_tools.specs.declared.aims.Aim.{Aim}
use Rattle.cs_tools.proofs.Aiming.{no_put_has}
use Rattle.cs_tools.proofs.aims.has_room.Goals as goal

pub returns-in-Pairs : goal.returns-in-Pairs
returns-in-Pairs c = no_put_has _ (HasRoomFor c.args.extents.now) (HasNoRoomFor c.args.extents.now) c.args.aim refl (inl c.in-Pairs.is)

pub returns-in-Room : goal.returns-in-Room
returns-in-Room c =
    let x = c.args.extents.now in
    subst (λ (aim : Aim). MatchBool c.has_room_for.result (IsPutAnd aim (HasRoomFor x)) (IfPut aim (HasNoRoomFor x))) (sym c.in-Room.is) c.has_room_for.ensures

pub returns-in-Brim : goal.returns-in-Brim
returns-in-Brim c = no_put_has _ (HasRoomFor c.args.extents.now) (HasNoRoomFor c.args.extents.now) c.args.aim refl (inr c.in-Brim.is)
