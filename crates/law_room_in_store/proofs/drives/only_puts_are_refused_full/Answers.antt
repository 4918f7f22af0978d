use Rattle.law_room_in_store.proofs.KeepingRoom.{state_behind, state_of}
use Rattle.law_room_in_store.proofs.NeverFull.{behind_full, stopped_full}
use Rattle.law_room_in_store.proofs.drives.only_puts_are_refused_full.Goals as goal

pub returns-clause-stopped : goal.returns-clause-stopped
returns-clause-stopped g c = λ v w done event roomy young stopped.
    stopped_full g.D.PageDisk v w done event (state_of g.D.PageDisk v roomy) young stopped

pub returns-clause-behind : goal.returns-clause-behind
returns-clause-behind g c = λ v old new event roomy same opened honest legal young step.
    behind_full g.D.PageDisk old new event (state_behind g.D.PageDisk v old roomy same opened honest legal) young step
