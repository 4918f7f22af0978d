use Rattle.std.proofs.Common.{subst}
use Rattle.std.specs.Prelude.{◌↔◌, IsTrue}
use Rattle.cs_script.specs.Lines.{said_by}
use Rattle.cs_script.proofs.OneLine.{on_answer, on_crash}
use Rattle.cs_script.proofs.scripts.run_line.Goals as goal

pub returns-in_ok-core-in-Some-clause-on : goal.returns-in_ok-core-in-Some-clause-on
returns-in_ok-core-in-Some-clause-on g c =
    on_crash g.D.PageDisk g.D.CrashDisk.can_crash g.D.CrashDisk.volatile_count (said_by c.in-Ok.line) c.args.text.now c.in-Some.mask.now c.args.going.core c.in_ok-core-in-Some.core c.args.going.status
    (g.W.Write.contents c.args.writer.now) (g.W.Write.contents c.crash.new.writer) c.in-Ok.ensures c.in-Some.ensures c.in_ok-core-in-Some.ensures.on

pub returns-in_ok-core-in-None-clause-on : goal.returns-in_ok-core-in-None-clause-on
returns-in_ok-core-in-None-clause-on g c =
    on_answer g.D.PageDisk g.D.CrashDisk.can_crash g.D.CrashDisk.volatile_count (said_by c.in-Ok.line) (said_by c.line_to-line.result) c.args.text.now c.crashable-crashable.result
    c.args.going.core c.make_room.new.core c.in_ok-core-in-None.core c.args.going.status c.after_line-status.result c.in_ok-core-in-None.answer c.fault_of.result
    (g.W.Write.contents c.args.writer.now) (g.W.Write.contents c.answer_line.new.writer) c.in-Ok.ensures c.in-None.ensures c.make_room.ensures.made
    (subst (λ d. IsTrue c.crashable-crashable.result ↔ g.D.CrashDisk.can_crash d) c.disk.ensures c.crashable-crashable.ensures) c.line_to-line.ensures c.after_line-status.ensures
    c.in_ok-core-in-None.ensures.on c.fault_of.ensures
