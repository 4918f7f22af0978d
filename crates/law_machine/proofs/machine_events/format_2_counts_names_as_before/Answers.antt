use Rattle.law_machine.proofs.machine_events.format_2_counts_names_as_before.Goals as goal
use Rattle.law_machine.proofs.Heavy.{heavy_is_named}
use Rattle.law_machine.proofs.Shapes.{weighs_one}

pub returns : goal.returns
returns c = record {
  heavy = λ S F s id bytes shape ones bounded. heavy_is_named S F shape ones s id bytes bounded;
  geometries = weighs_one;
}
