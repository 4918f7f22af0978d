use Rattle.law_room_in_store.proofs.KeepingRoom.{kept_core}
use Rattle.law_room_in_store.proofs.room_of_stores.calls_keep_stores_roomy.Goals as goal

pub returns : goal.returns
returns g c = λ v w commands roomy accepts core.
    kept_core g.D.PageDisk v w roomy core (accepts.honest.0 roomy.honest) accepts.same_shape accepts.opened
