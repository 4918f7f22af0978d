use Rattle.std.proofs.Common.{true, false}
use Rattle.law_machine.proofs.Places.{goes_one}
use Rattle.cs_extent.proofs.extent_laws.one_place.Goals as goal

pub returns-clause-mixed : goal.returns-clause-mixed
returns-clause-mixed c = λ S x purpose k d e a b. goes_one S false x purpose k d e a b

pub returns-clause-apart : goal.returns-clause-apart
returns-clause-apart c = λ S x purpose k d e a b. goes_one S true x purpose k d e a b
