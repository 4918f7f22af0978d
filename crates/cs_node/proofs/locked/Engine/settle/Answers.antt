use Rattle.std.proofs.Common.{subst}
use Rattle.cs_refusal.specs.declared.refusals.Refusal.{Refusal}
use Rattle.cs_core.specs.declared.events.Event.TheVariants.{Settle}
use Rattle.cs_node.specs.Locks.{Declines}
use Rattle.cs_node.proofs.locked.Engine.settle.Goals as goal

pub returns-in-Err-HistoryFull-clause-step : goal.returns-in-Err-HistoryFull-clause-step
returns-in-Err-HistoryFull-clause-step g c = subst (λ (r : Refusal). Declines g.D.PageDisk c.args.self.now.core (Settle c.args.ticket) r c.ask.new.self.core) c.in-Err-HistoryFull.field-0-is c.in-Err-HistoryFull.ensures.declined

pub returns-in-Err-OutOfMemory-clause-step : goal.returns-in-Err-OutOfMemory-clause-step
returns-in-Err-OutOfMemory-clause-step g c = subst (λ (r : Refusal). Declines g.D.PageDisk c.args.self.now.core (Settle c.args.ticket) r c.ask.new.self.core) c.in-Err-OutOfMemory.field-0-is c.in-Err-OutOfMemory.ensures.declined
