use Rattle.std.proofs.Common.{rules, ap, ◌∙◌}
use Rattle.cs_node.specs.Told.{call, found_last}
use Rattle.cs_core.specs.declared.events.Event.TheVariants.{Get}
use Rattle.cs_core.specs.declared.events.Reply.TheVariants.{Found}
use Rattle.cs_node.proofs.LogSteps.{found_last-push}
use Rattle.cs_node.proofs.locked.Engine.get.Goals as goal

pub returns-in-Found-clause-ok : goal.returns-in-Found-clause-ok
returns-in-Found-clause-ok g c = (c.in-Found.bytes, search rules, ap found_last c.push.ensures.calls ∙ found_last-push c.ask.new.log.calls (call c.in_ok-place.place (Get c.args.id) (Found c.in-Found.bytes)))
