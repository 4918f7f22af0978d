use Rattle.cs_frame.proofs.RunWeights.{fits_where, payload_weighs, size_weighs}
use Rattle.cs_frame.proofs.format_laws.runs_take_what_they_weigh.Goals as goal

pub returns : goal.returns
returns c = record { size = size_weighs; payload = payload_weighs; pages = fits_where }
