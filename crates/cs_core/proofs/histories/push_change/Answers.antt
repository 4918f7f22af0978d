use Rattle.cs_core.proofs.Replaying.{unaccepted_adds}
use Rattle.cs_core.proofs.histories.push_change.Goals as goal

pub returns-in_default : goal.returns-in_default
returns-in_default c = unaccepted_adds c.args.changes.now.items c.args.event.now c.args.reply.now c.in_default.not-Accepted
