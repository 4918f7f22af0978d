use Rattle.std.proofs.Common.{inr, refl}
use Rattle.cs_check.proofs.verdicts.well_formed.Goals as goal

pub returns-then-not-rounded-clause-err : goal.returns-then-not-rounded-clause-err
returns-then-not-rounded-clause-err c = inr (refl, λ well. absurd (cc (c.in_ok-rounded.ensures.1 (well.schedule, well.once), c.if-not-rounded.true)))

pub returns-then-not-all_wait-clause-err : goal.returns-then-not-all_wait-clause-err
returns-then-not-all_wait-clause-err c = inr (refl, λ well. absurd (cc (c.all_wait.ensures.1 well.links, c.if-not-all_wait.true)))
