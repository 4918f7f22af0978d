use Rattle.cs_twin.proofs.Roles.{own_more}
use Rattle.cs_twin.proofs.pairs.Place.of.Goals as goal

pub loop-k-preserved : goal.loop-k-preserved
loop-k-preserved c = own_more _ _ _ (record { page = 0; twin = 0 }) c.loop-k.invariant c.if-pair-number.false c.if-pair-number-2.false
