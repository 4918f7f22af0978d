use Rattle.cs_script.proofs.WatchedRuns.{over_all}
use Rattle.cs_script.proofs.script_stores.run_over.Goals as goal

pub returns-clause-script : goal.returns-clause-script
returns-clause-script g c text e small =
    let w = c.run_over_watched.ensures.watched text e small in
    (w.0, over_all g.D.PageDisk g.D.CrashDisk.can_crash g.D.CrashDisk.volatile_count _ (λ before after number line found onward is. is) c.args.store text _ _ c.run_over_watched.result w.0 w.1, w.2)
