use Rattle.cs_script.proofs.WatchedRuns.{runs_all, runs_first}
use Rattle.cs_script.proofs.script_laws.a_watched_script_is_a_script.Goals as goal

pub returns-clause-part : goal.returns-clause-part
returns-clause-part g c = λ text core watcher left status told out run.
    runs_first g.D.PageDisk g.D.CrashDisk.can_crash g.D.CrashDisk.volatile_count g.V.Watcher.meets text 1 core 0 watcher left status told out run

pub returns-clause-all : goal.returns-clause-all
returns-clause-all g c = λ never text core watcher left status told out run.
    runs_all g.D.PageDisk g.D.CrashDisk.can_crash g.D.CrashDisk.volatile_count g.V.Watcher.meets never text 1 core 0 watcher left status told out run
