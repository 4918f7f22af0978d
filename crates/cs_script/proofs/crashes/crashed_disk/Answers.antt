use Rattle.cs_script.proofs.CrashSteps.{crashed_of}
use Rattle.cs_script.proofs.crashes.crashed_disk.Goals as goal

pub returns : goal.returns
returns g c =
    crashed_of g.D.PageDisk g.D.CrashDisk.can_crash g.D.CrashDisk.volatile_count c.args.mask.now c.args.core.disk c.into_disk.result c.crash.result
    c.into_disk.ensures c.requires.0 c.crash.ensures.state c.crash.ensures.honest c.crash.ensures.pages c.crash.ensures.failures
