use Rattle.law_machine.proofs.machine_events.format_2_stages_as_before.Goals as goal
use Rattle.law_machine.proofs.Before.{full_as_before, stages_as_before}

pub returns : goal.returns
returns c = record { stages = stages_as_before; full = full_as_before }
