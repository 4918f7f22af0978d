use Rattle.law_room_in_store.proofs.CoreRoom.{empty_has_room, new_is_empty, new_is_young}
use Rattle.law_room_in_store.proofs.cores.a_new_core_has_room.Goals as goal

pub returns-clause-empty : goal.returns-clause-empty
returns-clause-empty g c = λ v core honest geometry apart none empty.
    empty_has_room g.D.PageDisk v geometry apart core honest none empty

pub returns-clause-new : goal.returns-clause-new
returns-clause-new g c = λ v store device extents pages sections core honest geometry none made.
    new_is_empty g.D.PageDisk v store device extents pages sections geometry core honest none made

pub returns-clause-young : goal.returns-clause-young
returns-clause-young g c = λ v format extents pages sections made. new_is_young v format extents pages sections made
