use Rattle.cs_script.proofs.CrashSteps.{ends, goes_on}
use Rattle.cs_script.proofs.crashes.crash.Goals as goal

pub returns-in-Ok-print_found-clause-on : goal.returns-in-Ok-print_found-clause-on
returns-in-Ok-print_found-clause-on g c =
    let contents = g.W.Write.contents in
    goes_on g.D.PageDisk g.D.CrashDisk.can_crash g.D.CrashDisk.volatile_count c.args.mask.now c.args.core c.in-Ok-reopen.core c.count_kept.result
    (contents c.args.writer.now) (contents c.print_crash.new.writer) (contents c.print_found.new.writer) c.count_kept.ensures c.in-Ok.ensures c.in-Ok-print_found.ensures c.in-Ok-reopen.ensures.opened

pub returns-in-Ok-print_last-clause-ended : goal.returns-in-Ok-print_last-clause-ended
returns-in-Ok-print_last-clause-ended g c =
    let contents = g.W.Write.contents in
    ends g.D.PageDisk g.D.CrashDisk.can_crash g.D.CrashDisk.volatile_count c.args.mask.now c.args.core c.in-Err-reopen.refusal c.count_kept.result
    (contents c.args.writer.now) (contents c.print_crash.new.writer) (contents c.print_last.new.writer) c.count_kept.ensures c.in-Ok.ensures c.requires c.in-Err-reopen.ensures.refused c.in-Ok-print_last.ensures
