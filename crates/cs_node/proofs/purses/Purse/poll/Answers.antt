use Rattle.std.proofs.Common.{ℕ, ap, subst, sym}
use Rattle.cs_node.specs.Behind.{IsFrontierOfSome}
use Rattle.cs_node.proofs.purses.Purse.poll.Goals as goal

pub returns-clause-frontier : goal.returns-clause-frontier
returns-clause-frontier g c = subst (λ (n : ℕ). IsFrontierOfSome g.D.PageDisk g.K.Naming.start n) (sym (ap (λ m. m.0.number) c.look-word.ensures.seat.1)) c.look-word.ensures.frontier
