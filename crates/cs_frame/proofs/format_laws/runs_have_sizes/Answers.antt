use Rattle.cs_frame.proofs.RunSizes.{spelled_size}
use Rattle.cs_frame.proofs.format_laws.runs_have_sizes.Goals as goal

pub returns : goal.returns
returns c = λ payload format entries fits s. spelled_size payload format entries fits s
