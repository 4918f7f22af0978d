use Rattle.std.specs.Prelude.{◌∷◌, []}
use Rattle.std.proofs.lemmas.Result.{on_ok_weaker}
use Rattle.cs_advice.specs.Advised.{todo_members}
use Rattle.cs_advice.specs.Outputs.{quote}
use Rattle.cs_advice.proofs.Appended.{appends_then}
use Rattle.cs_advice.proofs.tellings.print_end.Goals as goal

pub returns : goal.returns
returns g c =
    let contents = g.W.Write.contents in
    let start = contents c.args.writer.now in
    let members = contents c.print_members.new.writer in
    let named = todo_members c.args.advice in
    on_ok_weaker c.writeln.result
    (λ ended. appends_then start members (contents c.writeln.new.self) (quote ∷ named) (125 ∷ 10 ∷ [])
    (appends_then start (contents c.write.new.self) members (quote ∷ []) named c.in_ok-write.ensures.bytes c.in_ok-print_members.ensures) ended)
    c.writeln.ensures.bytes
