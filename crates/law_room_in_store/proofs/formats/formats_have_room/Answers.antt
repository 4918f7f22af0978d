use Rattle.law_room_in_store.proofs.HavingRoom.{chunks_have_room, chunks_of_store, have_room, store_has_room}
use Rattle.law_room_in_store.proofs.formats.formats_have_room.Goals as goal

pub returns-clause-room : goal.returns-clause-room
returns-clause-room c = λ format extents pages sections geometry. have_room format extents pages sections geometry

pub returns-clause-chunks : goal.returns-clause-chunks
returns-clause-chunks c = λ format extents pages sections geometry. chunks_have_room format extents pages sections geometry

pub returns-clause-store : goal.returns-clause-store
returns-clause-store c = λ x geometry. (store_has_room x geometry, chunks_of_store x geometry)
