use Rattle.std.proofs.Common.{arith}
use Rattle.cs_check.proofs.Holders.{versions_next}
use Rattle.cs_check.proofs.nestings.holds_versions.Goals as goal

pub loop-family-preserved : goal.loop-family-preserved
loop-family-preserved c = versions_next c.args.first.now c.args.second.now c.loop-family.family (omega arith) c.loop-family.invariant

pub returns : goal.returns
returns c _ f v lt = c.loop-family.invariant f v (omega (arith, lt))
