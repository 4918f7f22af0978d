use Rattle.std.proofs.Common.{[], ◌∷◌, ◌++◌}
use Rattle.std.proofs.lemmas.Result.{on_ok_weaker}
use Rattle.std.specs.Prelude.{codes, decimal}
use Rattle.cs_advice.specs.Outputs.{refusal_text}
use Rattle.cs_advice.proofs.Appended.{appends_then}
use Rattle.cs_tools.proofs.emptyings.print_passed_words.Goals as goal

pub returns : goal.returns
returns g c =
    let contents = g.W.Write.contents in
    let start = contents c.args.writer.now in
    let first = codes "extent " ++ decimal c.args.extent ++ codes " passed over: " in
    let middle = refusal_text c.args.refusal in
    on_ok_weaker c.writeln.result
    (appends_then start (contents c.print_refusal.new.writer) (contents c.writeln.new.self) (first ++ middle) (10 ∷ [])
    (appends_then start (contents c.write.new.self) (contents c.print_refusal.new.writer) first middle c.in_ok-write.ensures.bytes c.in_ok-print_refusal.ensures))
    c.writeln.ensures.bytes
