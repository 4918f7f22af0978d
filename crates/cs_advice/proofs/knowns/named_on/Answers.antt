use Rattle.std.proofs.Common.{ℕ, List, subst}
use Rattle.std.specs.Prelude.{IfSome}
use Rattle.cs_advice.specs.Knowns.{Names}
use Rattle.cs_advice.proofs.knowns.named_on.Goals as goal

pub returns-in-Ok-clause-named : goal.returns-in-Ok-clause-named
returns-in-Ok-clause-named g c = λ h. subst (λ (bytes : List ℕ). IfSome c.named_in.result (λ named. Names c.args.number bytes named.format named.pages)) (c.in-Ok.ensures.bytes h) c.named_in.ensures
