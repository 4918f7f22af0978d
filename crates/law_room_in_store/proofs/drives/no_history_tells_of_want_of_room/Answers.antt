use Rattle.law_room_in_store.proofs.KeepingRoom.{state_of}
use Rattle.law_room_in_store.proofs.NeverFull.{history_full}
use Rattle.law_room_in_store.proofs.drives.no_history_tells_of_want_of_room.Goals as goal

pub returns : goal.returns
returns g c = λ v x roomy young there full. history_full g.D.PageDisk v (state_of g.D.PageDisk v roomy) young x there full
