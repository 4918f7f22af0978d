use Rattle.std.proofs.Common.{◌+◌}
use Rattle.cs_script.proofs.LineSteps.{LinesSoFar}
use Rattle.cs_script.proofs.scripts.run_lines.Given as goal

abbrev pub invariant-loop-lines : goal.invariant-loop-lines
invariant-loop-lines g l = LinesSoFar g.D.PageDisk g.D.CrashDisk.can_crash g.D.CrashDisk.volatile_count g.V.Watcher.meets (g.B.Read.remaining l.initial.reader) (g.B.Read.remaining l.reader) (l.lines + 1) l.initial.going.core l.going.core l.going.status l.initial.watcher l.watcher (g.W.Write.contents l.initial.writer) (g.W.Write.contents l.writer)
