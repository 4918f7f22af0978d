use Rattle.std.proofs.Common.{inr, refl}
use Rattle.cs_check.proofs.spelled.add_plain.Goals as goal

pub returns-else-is_plain_need : goal.returns-else-is_plain_need
returns-else-is_plain_need c = inr ((λ p. absurd (cc (c.is_plain_need.ensures.1 p, c.if-is_plain_need.false))), refl)
