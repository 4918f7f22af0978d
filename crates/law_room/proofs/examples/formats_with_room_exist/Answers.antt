use Rattle.law_room.proofs.examples.formats_with_room_exist.Goals as goal
use Rattle.law_machine.proofs.Examples.{telling_is_format}
use Rattle.law_room.proofs.Telling.{made_lives, telling_chunks, telling_has_room}

pub returns-clause-format : goal.returns-clause-format
returns-clause-format c = λ S some. (telling_is_format S, telling_has_room S some, telling_chunks S some)

pub returns-clause-made : goal.returns-clause-made
returns-clause-made c = λ S shape apart some positive. made_lives S shape apart some positive
