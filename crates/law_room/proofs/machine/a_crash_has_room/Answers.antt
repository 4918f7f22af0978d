use Rattle.law_room.proofs.machine.a_crash_has_room.Goals as goal
use Rattle.law_room.proofs.MachineCrash.{crash_room, crash_torn}

pub returns : goal.returns
returns c = record {
  whole = λ S F s r kept n m gives shape format tells apart roomy young.
      crash_room S F shape format tells apart s r roomy kept n m gives young;
  torn = λ S F s r kept img n m gives shape format tells apart roomy torn young.
      crash_torn S F shape format tells apart s r roomy kept img torn n m gives young;
}
