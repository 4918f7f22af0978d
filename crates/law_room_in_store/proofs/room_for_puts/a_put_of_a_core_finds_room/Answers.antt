use Rattle.law_room_in_store.proofs.CorePuts.{left_for_put, pairs_for_put}
use Rattle.law_room_in_store.proofs.room_for_puts.a_put_of_a_core_finds_room.Goals as goal

pub returns-clause-left : goal.returns-clause-left
returns-clause-left g c = λ v w id bytes n roomy young left fill full.
    left_for_put g.D.PageDisk v roomy.geometry roomy.apart roomy.core roomy.honest roomy.room young w id bytes n left fill full

pub returns-clause-pairs : goal.returns-clause-pairs
returns-clause-pairs g c = λ v w x id bytes n pages roomy young idle large live share swept fill full.
    pairs_for_put g.D.PageDisk v roomy.geometry roomy.apart roomy.core roomy.honest roomy.room w x id bytes n pages young idle large live share swept fill full
