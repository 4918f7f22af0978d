use Rattle.law_room.proofs.machine.a_put_of_the_machine_finds_room.Goals as goal
use Rattle.law_room.proofs.MachineShare.{put_not_full}
use Rattle.law_room.proofs.MachineSwept.{pairs_room}
use Rattle.law_room.proofs.Sharing.{every_way}

pub returns-clause-left : goal.returns-clause-left
returns-clause-left c = λ S F s r id n bytes shape format apart fit has few cut full.
    put_not_full S F shape format apart s r id n bytes cut.0 has fit few cut.1 cut.2 full

pub returns-clause-pairs : goal.returns-clause-pairs
returns-clause-pairs c = λ S F s t r id n bytes shape format apart fit has none large share swept young cut full.
    let after = pairs_room S F shape format apart n s t r has swept young in
    put_not_full S F shape format apart t after.0 id n bytes cut.0 after.2 fit
    (every_way S S.run_extents n r after.0 has.keeps (shape.apart apart).2 none large share after.1) cut.1 cut.2 full
