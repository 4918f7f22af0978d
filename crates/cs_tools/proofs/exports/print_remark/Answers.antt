use Rattle.std.proofs.Common.{[], ◌∷◌, ◌++◌}
use Rattle.std.specs.Prelude.{codes}
use Rattle.std.proofs.lemmas.Result.{on_ok_weaker}
use Rattle.cs_advice.specs.Outputs.{id_text, refusal_text}
use Rattle.cs_advice.proofs.Appended.{appends_then}
use Rattle.cs_tools.proofs.exports.print_remark.Goals as goal

pub returns : goal.returns
returns g c =
    let contents = g.W.Write.contents in
    let start = contents c.args.writer.now in
    let id = id_text c.args.id in
    let refusal = refusal_text c.args.refusal in
    on_ok_weaker c.writeln.result
    (appends_then start (contents c.print_refusal.new.writer) (contents c.writeln.new.self) (codes "# " ++ id ++ codes " " ++ refusal) (10 ∷ [])
    (appends_then start (contents c.write-2.new.self) (contents c.print_refusal.new.writer) (codes "# " ++ id ++ codes " ") refusal
    (appends_then start (contents c.print_id.new.writer) (contents c.write-2.new.self) (codes "# " ++ id) (codes " ")
    (appends_then start (contents c.write.new.self) (contents c.print_id.new.writer) (codes "# ") id c.in_ok-write.ensures.bytes c.in_ok-print_id.ensures)
    c.in_ok-write-2.ensures.bytes) c.in_ok-print_refusal.ensures))
    c.writeln.ensures.bytes
