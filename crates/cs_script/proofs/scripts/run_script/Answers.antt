use Rattle.cs_script.proofs.WatchedRuns.{runs_all}
use Rattle.cs_script.proofs.scripts.run_script.Goals as goal

pub returns-clause-script : goal.returns-clause-script
returns-clause-script g c text e small =
    let ran = c.run_watched.result in
    let w = c.run_watched.ensures.watched text e small in
    (w.0, runs_all g.D.PageDisk g.D.CrashDisk.can_crash g.D.CrashDisk.volatile_count _ (λ before after number line found onward is. is) text 1 c.args.core 0 _ ran.core ran.status _ w.0 w.1, w.2)
