use Rattle.std.proofs.Common.{◌+◌, arith}
use Rattle.cs_extent.proofs.Changes.{greatest_below, greatest_is}
use Rattle.cs_extent.proofs.Given.{greatest_emptied}
use Rattle.cs_extent.proofs.extent_laws.needs_never_fall.Goals as goal

pub returns-clause-bound : goal.returns-clause-bound
returns-clause-bound c = λ x start count root. ((λ h i lt. omega (arith, greatest_is (λ k. x.reset (start + k)) count i lt, h)), (λ h. greatest_below (λ k. x.reset (start + k)) count root h))

pub returns-clause-rises : goal.returns-clause-rises
returns-clause-rises c = greatest_emptied
