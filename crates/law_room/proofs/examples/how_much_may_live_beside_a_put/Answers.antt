use Rattle.law_room.proofs.examples.how_much_may_live_beside_a_put.Goals as goal
use Rattle.law_room.proofs.BrimNumbers.{eight_beside, no_page_more, page_beside}

pub returns-clause-page : goal.returns-clause-page
returns-clause-page c = page_beside

pub returns-clause-no_more : goal.returns-clause-no_more
returns-clause-no_more c = no_page_more

pub returns-clause-eight : goal.returns-clause-eight
returns-clause-eight c = eight_beside
