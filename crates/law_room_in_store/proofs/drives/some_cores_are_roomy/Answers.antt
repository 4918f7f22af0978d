use Rattle.std.proofs.Common.{ap, subst, sym}
use Rattle.cs_extent.specs.State.{shape}
use Rattle.cs_core.specs.Stored.{Stored}
use Rattle.law_machine.specs.Format.{Four}
use Rattle.law_room_in_store.proofs.CoreRoom.{new_geometry, new_is_empty}
use Rattle.law_room_in_store.proofs.CrashesWithRoom.{opened_roomy}
use Rattle.law_room_in_store.specs.Images.{HasGeometry}
use Rattle.law_room_in_store.proofs.drives.some_cores_are_roomy.Goals as goal

pub returns-clause-core : goal.returns-clause-core
returns-clause-core g c = λ v core honest geometry apart room.
    record { core = core; honest = honest; geometry = geometry; apart = apart; room = room }

pub returns-clause-new : goal.returns-clause-new
returns-clause-new g c = λ v store device extents pages sections core honest geometry none made. record {
  core = core;
  honest = honest;
  geometry = subst (λ (s : Stored). HasGeometry s.extents) (sym made) (new_geometry (Four store device) extents pages sections geometry);
  apart = ap (λ (s : Stored). (shape s.extents).apart) made;
  room = new_is_empty g.D.PageDisk v store device extents pages sections geometry core honest none made;
}

pub returns-clause-opened : goal.returns-clause-opened
returns-clause-opened g c = λ v w disk roomy opens core honest before is.
    opened_roomy g.D.PageDisk v w roomy opens core honest (g.D.PageDisk.honest disk) before is
