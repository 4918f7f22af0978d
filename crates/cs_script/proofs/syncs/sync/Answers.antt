use Rattle.std.proofs.Common.{subst}
use Rattle.cs_script.specs.Stops.{StopsAfter}
use Rattle.cs_script.proofs.SyncSteps.{stops}
use Rattle.cs_script.proofs.syncs.sync.Goals as goal

pub returns-in-Err-Refused : goal.returns-in-Err-Refused
returns-in-Err-Refused g c =
    let old = c.args.core.now in
    let new = c.write_back.new.core in
    let before = g.W.Write.contents c.args.writer.now in
    let mid = g.W.Write.contents c.write_back.new.writer in
    let after = g.W.Write.contents c.print_refused.new.writer in
    stops g.D.PageDisk old new before mid after c.in-Err-Refused.refusal c.print_refused.result
    (subst (StopsAfter g.D.PageDisk old new before mid) c.in-Err-Refused.field-0-is c.in-Err-Refused.ensures.stopped) c.print_refused.ensures
