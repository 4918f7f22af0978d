use Rattle.std.proofs.lemmas.Result.{on_ok_weaker}
use Rattle.cs_tools.proofs.Continued.{goes_then}
use Rattle.cs_tools.proofs.stat_objects.print_count_members.Goals as goal

pub returns : goal.returns
returns g c =
    let contents = g.W.Write.contents in
    on_ok_weaker c.writeln.result (λ ended. goes_then (contents c.args.writer.now) (contents c.print_named_members.new.writer) (contents c.writeln.new.self) c.in_ok-print_named_members.ensures (_, ended)) c.writeln.ensures.bytes
