use Rattle.std.proofs.Common.{◌≡◌, ◌≤◌, arith}
use Rattle.cs_extent.specs.State.{shape}
use Rattle.law_room.specs.Brim.{all_dead}
use Rattle.law_room.specs.Rooms.{all_pages}
use Rattle.law_room_in_store.proofs.FilledExtents.{fit_beside}
use Rattle.law_room_in_store.proofs.KeepingRoom.{state_of}
use Rattle.law_room_in_store.proofs.PutsToBrim.{core_put, none_dead_all, store_put_beside}
use Rattle.law_room_in_store.proofs.ReclaimedPuts.{reclaimed_put}
use Rattle.law_room_in_store.proofs.room_to_the_brim.a_put_finds_room_to_the_brim.Goals as goal

pub returns-clause-core : goal.returns-clause-core
returns-clause-core g c = λ v w id bytes taken roomy young idle most fits full.
    core_put g.D.PageDisk v roomy.geometry roomy.apart roomy.core roomy.honest roomy.room young idle w id bytes taken most fits full

pub returns-clause-store : goal.returns-clause-store
returns-clause-store g c = λ v w id bytes taken roomy young then_young idle most fits refuses.
    store_put_beside g.D.PageDisk v w id bytes taken (state_of g.D.PageDisk v roomy) young then_young idle most fits refuses

pub returns-clause-taken : goal.returns-clause-taken
returns-clause-taken g c = λ v live nothing most r room.
    let none : all_dead r (shape v.store.extents).extents ≡ 0 = none_dead_all (shape v.store.extents) r (nothing r room) in
    let few : all_pages r.chunks ≤ live = most r room in
    omega (arith, none, few)

pub returns-clause-reclaimed : goal.returns-clause-reclaimed
returns-clause-reclaimed g c = λ v w x y id bytes k live roomy young idle by call none most fits declines.
    reclaimed_put g.D.PageDisk (λ d honest. g.met.D.PageDisk.sized d honest) v w x y roomy idle k by call none young id bytes declines live most fits

pub returns-clause-chunks : goal.returns-clause-chunks
returns-clause-chunks g c = λ v id bytes n live geometry cut enough few.
    fit_beside v.store.extents geometry n live id bytes cut enough few
