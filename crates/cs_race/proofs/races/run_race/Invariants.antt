use Rattle.cs_node.specs.Starts.{start_of}
use Rattle.cs_race.proofs.races.run_race.Given as goal

-- the board that was just made, and the start of the core behind it
abbrev pub ghosts-race_on : goal.ghosts-race_on
ghosts-race_on g a = record { table = a.board; start = start_of a.core }
