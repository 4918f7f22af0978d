use Rattle.law_room.proofs.machine.a_new_store_has_room.Goals as goal
use Rattle.law_room.proofs.OpenedRoots.{made_roomy, new_roomy, roomy_there}

pub returns-clause-nothing : goal.returns-clause-nothing
returns-clause-nothing c = λ S F img n m gives shape apart none young. new_roomy S F apart img n m gives shape none young

pub returns-clause-fresh : goal.returns-clause-fresh
returns-clause-fresh c = λ S F img n m gives shape format apart made young.
    made_roomy S F apart img n m gives shape format made young

pub returns-clause-there : goal.returns-clause-there
returns-clause-there c = λ S F img shape apart made some. roomy_there S F apart img made shape some
