use Rattle.std.proofs.Common.{subst}
use Rattle.cs_advice.specs.Knowns.{IsRootPage}
use Rattle.cs_advice.proofs.knowns.is_root_on.Goals as goal

pub returns-in-Ok-clause-root : goal.returns-in-Ok-clause-root
returns-in-Ok-clause-root g c = λ h root. subst IsRootPage (c.in-Ok.ensures.bytes h) (c.is_root.ensures root)
