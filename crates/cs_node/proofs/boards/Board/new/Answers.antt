use Rattle.std.proofs.Common.{refl}
use Rattle.cs_node.specs.Mirror.{nothing}
use Rattle.cs_node.proofs.Steps.{opens}
use Rattle.cs_node.proofs.boards.Board.new.Goals as goal

pub of_words-requires : goal.of_words-requires
of_words-requires g c = (nothing, refl, opens _)
