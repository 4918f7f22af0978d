use Rattle.cs_node.specs.Starts.{start_of}
use Rattle.test_nodes.proofs.nodes.tasks.run.Given as goal

-- the board that was just made, and the start of the core behind it
abbrev pub ghosts-run_named : goal.ghosts-run_named
ghosts-run_named g a = record { table = a.board; start = start_of a.core }
