use Rattle.std.proofs.lemmas.Result.{on_ok_weaker}
use Rattle.cs_tools.proofs.Continued.{goes_then}
use Rattle.cs_tools.proofs.stat_objects.print_empty_members.Goals as goal

pub returns : goal.returns
returns g c =
    let contents = g.W.Write.contents in
    let start = contents c.args.writer.now in
    let empty = contents c.write.new.self in
    let quota = contents c.print_quota_member.new.writer in
    let last = contents c.write-2.new.self in
    on_ok_weaker c.write-2.result (λ ended. goes_then start quota last (goes_then start empty quota (_, c.in_ok-write.ensures.bytes) c.in_ok-print_quota_member.ensures) (_, ended)) c.write-2.ensures.bytes
