use Rattle.std.proofs.Common.{◌++◌}
use Rattle.std.proofs.lemmas.Result.{on_ok_weaker}
use Rattle.cs_advice.specs.Outputs.{before_id, behind_id, id_text}
use Rattle.cs_advice.proofs.Appended.{appends_then}
use Rattle.cs_tools.proofs.list_command.print_object.Goals as goal

pub returns : goal.returns
returns g c =
    let contents = g.W.Write.contents in
    let start = contents c.args.writer.now in
    let id = id_text c.args.id in
    on_ok_weaker c.writeln.result
    (appends_then start (contents c.print_id.new.writer) (contents c.writeln.new.self) (before_id ++ id) behind_id
    (appends_then start (contents c.write.new.self) (contents c.print_id.new.writer) before_id id c.in_ok-write.ensures.bytes c.in_ok-print_id.ensures))
    c.writeln.ensures.bytes
