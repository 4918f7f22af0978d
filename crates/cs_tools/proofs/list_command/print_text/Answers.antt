use Rattle.std.proofs.Common.{[], ◌∷◌}
use Rattle.std.proofs.lemmas.Result.{on_ok_weaker}
use Rattle.cs_advice.specs.Outputs.{id_text}
use Rattle.cs_advice.proofs.Appended.{appends_then}
use Rattle.cs_tools.proofs.list_command.print_text.Goals as goal

pub returns : goal.returns
returns g c =
    let contents = g.W.Write.contents in
    on_ok_weaker c.writeln.result
    (appends_then (contents c.args.writer.now) (contents c.print_id.new.writer) (contents c.writeln.new.self) (id_text c.args.id) (10 ∷ []) c.in_ok-print_id.ensures)
    c.writeln.ensures.bytes
