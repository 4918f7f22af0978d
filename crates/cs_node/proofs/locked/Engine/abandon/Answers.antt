use Rattle.std.proofs.Common.{subst}
use Rattle.cs_core.specs.declared.events.Event.TheVariants.{Abandon}
use Rattle.cs_core.specs.declared.events.Reply.{Reply}
use Rattle.cs_core.specs.Views.{IsStep}
use Rattle.cs_node.proofs.Going.{abandoned}
use Rattle.cs_node.proofs.locked.Engine.abandon.Goals as goal

pub returns-in-Ok : goal.returns-in-Ok
returns-in-Ok g c =
    subst (λ (r : Reply). IsStep g.D.PageDisk c.args.self.now.core (Abandon c.args.extent) r c.work.new.self.core) (abandoned c.args.extent _ c.in-Ok.ensures.answers c.in-Ok.ensures.done) c.in-Ok.ensures.step
