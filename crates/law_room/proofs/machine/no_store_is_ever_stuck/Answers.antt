use Rattle.law_room.proofs.machine.no_store_is_ever_stuck.Goals as goal
use Rattle.law_room.proofs.MachineLives.{life_not_full, life_opens, life_puts, life_room, lives_roomy}

pub returns-clause-full : goal.returns-clause-full
returns-clause-full c = λ S F s t acts event shape format fit apart made lives full.
    life_not_full S F shape format fit apart s t acts made lives event full

pub returns-clause-room : goal.returns-clause-room
returns-clause-room c = λ S F s t acts shape format fit apart made lives.
    life_room S F shape format fit apart s t acts made lives

pub returns-clause-stays : goal.returns-clause-stays
returns-clause-stays c = λ S F s t r acts shape format fit apart roomy lives.
    lives_roomy S F shape format fit apart s t r acts roomy lives

pub returns-clause-puts : goal.returns-clause-puts
returns-clause-puts c = λ S F s t u acts id n bytes shape format fit each apart made lives idle large share swept young
    cut full. life_puts S F shape format fit apart s t acts made lives u id n bytes cut.0 each idle large share
    swept young cut.1 cut.2 full

pub returns-clause-opens : goal.returns-clause-opens
returns-clause-opens c = λ S F s t acts kept shape format fit apart made lives.
    life_opens S F shape format fit apart s t acts made lives kept
