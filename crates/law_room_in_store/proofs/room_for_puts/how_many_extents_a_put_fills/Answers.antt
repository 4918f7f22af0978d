use Rattle.law_room_in_store.proofs.FilledExtents.{filled_alone, filled_together, in_eight, in_two_extents, most_pieces, not_in_seven, pieces_by_length}
use Rattle.law_room_in_store.proofs.room_for_puts.how_many_extents_a_put_fills.Goals as goal

pub returns-clause-pieces : goal.returns-clause-pieces
returns-clause-pieces c = λ x n bytes geometry. pieces_by_length x geometry n bytes

pub returns-clause-most : goal.returns-clause-most
returns-clause-most c = λ x bytes geometry short. most_pieces x geometry bytes short

pub returns-clause-chunks : goal.returns-clause-chunks
returns-clause-chunks c = λ x n id bytes geometry cut. filled_alone x geometry n id bytes cut

pub returns-clause-together : goal.returns-clause-together
returns-clause-together c = λ x m n id bytes geometry fit cut. filled_together x geometry m n id bytes fit cut

pub returns-clause-example : goal.returns-clause-example
returns-clause-example c = λ x store device id bytes geometry four pages long. (
  not_in_seven x geometry store device bytes four pages long,
  in_eight x geometry store device bytes four pages long,
  in_two_extents x geometry store device bytes four pages long id,
)
