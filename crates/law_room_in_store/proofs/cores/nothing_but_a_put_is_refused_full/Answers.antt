use Rattle.law_room_in_store.proofs.CoreRoom.{only_a_put}
use Rattle.law_room_in_store.proofs.cores.nothing_but_a_put_is_refused_full.Goals as goal

pub returns : goal.returns
returns g c = λ v w event core honest geometry apart has young full.
    only_a_put g.D.PageDisk v geometry apart core honest has young event w full
