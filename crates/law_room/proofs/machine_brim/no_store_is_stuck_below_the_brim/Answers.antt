use Rattle.law_room.proofs.machine_brim.no_store_is_stuck_below_the_brim.Goals as goal
use Rattle.law_room.proofs.MachineRule.{life_beside, life_fits, life_swept}

pub returns-clause-all : goal.returns-clause-all
returns-clause-all c = λ S F s t acts id bytes shape format fit filled made lives idle fits full.
    life_fits S F shape format filled fit s t acts made lives idle id bytes fits full

pub returns-clause-beside : goal.returns-clause-beside
returns-clause-beside c = λ S F s t acts id bytes shape format fit filled made lives idle nothing beside full.
    life_beside S F shape format filled fit s t acts made lives idle id bytes nothing beside full

pub returns-clause-swept : goal.returns-clause-swept
returns-clause-swept c = λ S F s t u acts id k bytes shape format fit filled made lives idle swept young none beside full.
    life_swept S F shape format filled fit s t acts made lives idle k u id bytes swept young none beside full
