use Rattle.std.proofs.Common.{subst, sym}
use Rattle.std.specs.Prelude.{◌∷◌, [], ◌++◌, OnOk, codes}
use Rattle.std.specs.Io.KnownBytes.{Appends}
use Rattle.std.proofs.lemmas.Result.{on_ok_weaker}
use Rattle.cs_advice.specs.Advised.{todo_members, todo_text}
use Rattle.cs_advice.specs.Outputs.{quote}
use Rattle.cs_advice.specs.Members.{member}
use Rattle.cs_advice.specs.Tellings.{rest_text}
use Rattle.cs_advice.specs.declared.outputs.Style.{Style}
use Rattle.cs_advice.proofs.Appended.{appends_then}
use Rattle.cs_advice.proofs.tellings.print_advice.Goals as goal

pub returns-in_ok-print_todo-in-Text : goal.returns-in_ok-print_todo-in-Text
returns-in_ok-print_todo-in-Text g c =
    let contents = g.W.Write.contents in
    let start = contents c.args.writer.now in
    let todo = contents c.print_todo.new.writer in
    let end = contents c.writeln-in-Text.new.self in
    let text = todo_text c.args.advice in
    subst (λ (style : Style). OnOk c.writeln-in-Text.result (Appends start end (rest_text style text (todo_members c.args.advice)))) (sym c.in-Text.is)
    (on_ok_weaker c.writeln-in-Text.result
    (λ ended. appends_then start todo end (10 ∷ text) (10 ∷ [])
    (appends_then start (contents c.writeln.new.self) todo (10 ∷ []) text c.in_ok-writeln-in-Text.ensures.bytes c.in_ok-print_todo-in-Text.ensures) ended)
    c.writeln-in-Text.ensures.bytes)

pub returns-in_ok-print_todo-in-Json : goal.returns-in_ok-print_todo-in-Json
returns-in_ok-print_todo-in-Json g c =
    let contents = g.W.Write.contents in
    let start = contents c.args.writer.now in
    let todo = contents c.print_todo-in-Json.new.writer in
    let end = contents c.print_end.new.writer in
    let text = todo_text c.args.advice in
    let members = todo_members c.args.advice in
    let head = quote ∷ 44 ∷ member (codes "advice") ++ quote ∷ [] in
    subst (λ (style : Style). OnOk c.print_end.result (Appends start end (rest_text style text members))) (sym c.in-Json.is)
    (on_ok_weaker c.print_end.result
    (λ ended. appends_then start todo end (head ++ text) (quote ∷ members ++ 125 ∷ 10 ∷ [])
    (appends_then start (contents c.write.new.self) todo head text c.in_ok-write-in-Json.ensures.bytes c.in_ok-print_todo-in-Json.ensures) ended)
    c.print_end.ensures)
