use Rattle.std.proofs.Common.{subst, sym, ℕ}
use Rattle.cs_salvage.specs.Founds.{IsRoomFor}
use Rattle.cs_salvage.proofs.rescues.Rescue.get.Goals as goal

pub invariant_of-self : goal.invariant_of-self
invariant_of-self g c = subst (λ (n : ℕ). IsRoomFor c.self.inside.found n) (sym c.get.ensures.disk.pages) c.self.invariant

pub returns-clause-why : goal.returns-clause-why
returns-clause-why g c = rw (← c.self.view_is) (λ honest. c.get.ensures.why honest)
