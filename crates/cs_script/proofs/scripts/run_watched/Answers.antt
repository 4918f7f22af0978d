use Rattle.std.proofs.Common.{ℕ, List, rules}
use Rattle.std.specs.Io.KnownBytes.{Appends}
use Rattle.cs_script.specs.Watched.{RunsWatched}
use Rattle.cs_script.proofs.WatchedRuns.{runs_first}
use Rattle.cs_script.proofs.scripts.run_watched.Goals as goal

pub returns-in-Ok-clause-script : goal.returns-in-Ok-clause-script
returns-in-Ok-clause-script g c text e small =
    let ran = c.run_lines.result in
    let told = c.run_lines.new.watcher in
    let w : (out : List ℕ) × RunsWatched g.D.PageDisk g.D.CrashDisk.can_crash g.D.CrashDisk.volatile_count g.V.Watcher.meets text 1 c.args.core 0 c.args.watcher.now ran.core ran.status told out
    × Appends (g.W.Write.contents c.args.writer.now) (g.W.Write.contents c.run_lines.new.writer) out = search rules in
    (w.0, runs_first g.D.PageDisk g.D.CrashDisk.can_crash g.D.CrashDisk.volatile_count g.V.Watcher.meets text 1 c.args.core 0 c.args.watcher.now ran.core ran.status told w.0 w.1, w.2)
