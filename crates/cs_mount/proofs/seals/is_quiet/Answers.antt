use Rattle.cs_mount.proofs.Closing.{quiet_or_not}
use Rattle.cs_mount.proofs.seals.is_quiet.Goals as goal

pub returns-in-None : goal.returns-in-None
returns-in-None g c = quiet_or_not c.args.core.now.store c.has_waiting.result c.in-None.ensures c.has_waiting.ensures
