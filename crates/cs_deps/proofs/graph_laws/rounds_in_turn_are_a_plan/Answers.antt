use Rattle.cs_deps.proofs.InTurn.{everything_is_all, in_turn_is_a_plan}
use Rattle.cs_deps.proofs.graph_laws.rounds_in_turn_are_a_plan.Goals as goal

pub returns-clause-plan : goal.returns-clause-plan
returns-clause-plan c = λ g h target rounds staged whole lead none. in_turn_is_a_plan g h target rounds staged whole lead none

pub returns-clause-all : goal.returns-clause-all
returns-clause-all c = λ s kept. everything_is_all s kept
