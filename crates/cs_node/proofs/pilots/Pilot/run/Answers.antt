use Rattle.cs_refusal.specs.declared.refusals.Refusal.{Refusal}
use Rattle.cs_node.specs.Dues.{IsTurnRefused}
use Rattle.cs_node.specs.Locks.{WhileLocked}
use Rattle.cs_node.proofs.Going.{if_same}
use Rattle.cs_node.proofs.pilots.Pilot.run.Goals as goal

pub returns-in_err-turn-clause-err : goal.returns-in_err-turn-clause-err
returns-in_err-turn-clause-err g c =
    if_same c.from_residual.result (λ (r : Refusal). WhileLocked g.D.PageDisk g.K.Naming.start (λ old new. IsTurnRefused g.D.PageDisk old r new)) c.in_err-turn.field-0.0 c.from_residual.ensures.1 c.in_err-turn.ensures.turn
