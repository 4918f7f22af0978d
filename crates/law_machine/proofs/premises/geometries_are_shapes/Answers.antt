use Rattle.law_machine.proofs.premises.geometries_are_shapes.Goals as goal
use Rattle.law_machine.proofs.Shapes.{is_shape, is_weighing}

pub returns : goal.returns
returns c = record { shapes = is_shape; weights = is_weighing }
