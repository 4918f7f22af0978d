use Rattle.law_room_in_store.proofs.KeepingRoom.{state_of}
use Rattle.law_room_in_store.proofs.StorePuts.{read_put_left}
use Rattle.law_room_in_store.proofs.room_of_stores.a_put_of_a_store_finds_room.Goals as goal

pub returns-clause-full : goal.returns-clause-full
returns-clause-full g c = λ v w id bytes n roomy young left fill refuses.
    read_put_left g.D.PageDisk v w id bytes n (state_of g.D.PageDisk v roomy) young left fill refuses

pub returns-clause-reserved : goal.returns-clause-reserved
returns-clause-reserved g c = λ v w id bytes is. cc is.leaves
