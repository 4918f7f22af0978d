use Rattle.law_room_in_store.proofs.KeepingRoom.{state_of}
use Rattle.law_room_in_store.proofs.ReclaimsLeave.{left_by_all, left_by_fewer, left_by_greatest, none_dead, none_parts, reclaims_end, synced_idle}
use Rattle.law_room_in_store.proofs.room_by_reclaims.reclaims_leave_room_for_puts.Goals as goal

pub returns-clause-all : goal.returns-clause-all
returns-clause-all g c = λ v w n k dead roomy young idle at_most by none enough.
    left_by_all g.D.PageDisk (λ d honest. g.met.D.PageDisk.sized d honest) v roomy idle w young k by none n dead at_most enough

pub returns-clause-ends : goal.returns-clause-ends
returns-clause-ends g c = λ v w k dead roomy young idle at_most by none.
    reclaims_end g.D.PageDisk (λ d honest. g.met.D.PageDisk.sized d honest) v roomy idle w young k by none dead at_most

pub returns-clause-nothing : goal.returns-clause-nothing
returns-clause-nothing g c = λ v x roomy young idle call none.
    none_dead g.D.PageDisk (λ d honest. g.met.D.PageDisk.sized d honest) v x roomy idle young call none

pub returns-clause-fewer : goal.returns-clause-fewer
returns-clause-fewer g c = λ v w x n k pages roomy young idle large live share by call none.
    let parts = none_parts g.D.PageDisk v w x k by call none in
    left_by_fewer g.D.PageDisk (λ d honest. g.met.D.PageDisk.sized d honest) v roomy idle w young k by parts.0 n pages x large live share call parts.1

pub returns-clause-greatest : goal.returns-clause-greatest
returns-clause-greatest g c = λ v w x n k most roomy young idle large few by call none.
    let parts = none_parts g.D.PageDisk v w x k by call none in
    left_by_greatest g.D.PageDisk (λ d honest. g.met.D.PageDisk.sized d honest) v roomy idle w young k by parts.0 n most x large few call parts.1

pub returns-clause-synced : goal.returns-clause-synced
returns-clause-synced g c = λ u v roomy young syncs idle.
    synced_idle g.D.PageDisk u v (state_of g.D.PageDisk u roomy) young syncs idle
