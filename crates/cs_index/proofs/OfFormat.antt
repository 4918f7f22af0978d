-- What holds of each format.
use Rattle.std.proofs.Common.{◌≤◌, arith}
use Rattle.law_machine.specs.Format.{Format, Four, Two}
use Rattle.law_machine.specs.Geometry.{most_runs_in}

-- a root has room for at least four runs, and for at most 24
pub fewest_runs : (format : Format) → 4 ≤ most_runs_in format
fewest_runs Two = omega arith
fewest_runs (Four store device) = omega arith

pub most_runs : (format : Format) → most_runs_in format ≤ 24
most_runs Two = omega arith
most_runs (Four store device) = omega arith
