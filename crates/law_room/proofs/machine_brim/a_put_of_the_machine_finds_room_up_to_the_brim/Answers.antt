use Rattle.law_room.proofs.machine_brim.a_put_of_the_machine_finds_room_up_to_the_brim.Goals as goal
use Rattle.law_room.proofs.MachineBrim.{beside_all_in, chunks_not_full, put_not_full}

pub returns-clause-all : goal.returns-clause-all
returns-clause-all c = λ S F s r id bytes shape format filled has none fits full.
    put_not_full S F shape format filled s r id bytes has none fits full

pub returns-clause-beside : goal.returns-clause-beside
returns-clause-beside c = λ S F s r id bytes shape format filled has none nothing fits full.
    put_not_full S F shape format filled s r id bytes has none
    (beside_all_in S F shape format filled s id bytes nothing fits) full

pub returns-clause-left : goal.returns-clause-left
returns-clause-left c = λ S F s r id n most bytes shape format filled fit has large none few cut full.
    chunks_not_full S F shape format filled s r id n most bytes fit has large none few cut full
