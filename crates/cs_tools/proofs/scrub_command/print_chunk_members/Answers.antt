use Rattle.std.proofs.Common.{[], ◌∷◌, ◌++◌}
use Rattle.std.proofs.lemmas.Result.{on_ok_weaker}
use Rattle.std.specs.Prelude.{codes, decimal}
use Rattle.cs_advice.specs.Outputs.{before_id, id_text, quote}
use Rattle.cs_advice.specs.Members.{member}
use Rattle.cs_advice.proofs.Appended.{appends_then}
use Rattle.cs_tools.proofs.scrub_command.print_chunk_members.Goals as goal

pub returns : goal.returns
returns g c =
    let contents = g.W.Write.contents in
    let start = contents c.args.writer.now in
    let first = before_id in
    let middle = id_text c.args.id in
    on_ok_weaker c.write-2.result
    (appends_then start (contents c.print_id.new.writer) (contents c.write-2.new.self) (first ++ middle) (quote ∷ 44 ∷ member (codes "chunk") ++ decimal c.args.chunk ++ 44 ∷ [])
    (appends_then start (contents c.write.new.self) (contents c.print_id.new.writer) first middle c.in_ok-write.ensures.bytes c.in_ok-print_id.ensures))
    c.write-2.ensures.bytes
