use Rattle.cs_node.specs.Starts.{start_of}
use Rattle.test_nodes.proofs.races.racers_run_one_after_another.Given as goal

-- the board that was just made, and the start of the core behind it
abbrev pub ghosts-one_after_another : goal.ghosts-one_after_another
ghosts-one_after_another g a = record { table = a.board; start = start_of a.core }
