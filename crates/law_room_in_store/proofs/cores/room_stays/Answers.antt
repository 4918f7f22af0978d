use Rattle.law_room_in_store.proofs.CoreRoom.{calls_stay, event_stays, replaced_stays, untouched_stays, young_event}
use Rattle.law_room_in_store.proofs.cores.room_stays.Goals as goal

pub returns-clause-event : goal.returns-clause-event
returns-clause-event g c = λ v w event reply has applies. event_stays g.D.PageDisk v w event reply has applies

pub returns-clause-memory : goal.returns-clause-memory
returns-clause-memory g c = λ v w has same. untouched_stays g.D.PageDisk v w has same

pub returns-clause-checkpoint : goal.returns-clause-checkpoint
returns-clause-checkpoint g c = λ v w n has replaces. replaced_stays g.D.PageDisk v w n has replaces

pub returns-clause-calls : goal.returns-clause-calls
returns-clause-calls g c = λ v w between has calls. calls_stay g.D.PageDisk between v w has calls

pub returns-clause-worn : goal.returns-clause-worn
returns-clause-worn g c = λ v w event reply core honest geometry apart applies young.
    young_event g.D.PageDisk v w event reply geometry apart core honest applies young
