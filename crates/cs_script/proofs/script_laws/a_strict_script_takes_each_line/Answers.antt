use Rattle.std.proofs.Common.{refl}
use Rattle.cs_script.proofs.WatchedRuns.{runs_strictly}
use Rattle.cs_script.proofs.script_laws.a_strict_script_takes_each_line.Goals as goal

pub returns : goal.returns
returns g c = λ text core watcher left status told out ends run.
    runs_strictly g.D.PageDisk g.D.CrashDisk.can_crash g.D.CrashDisk.volatile_count g.V.Watcher.meets text 1 core 0 watcher left status told out ends refl run
