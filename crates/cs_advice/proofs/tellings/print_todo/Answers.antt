use Rattle.std.proofs.Common.{subst, sym}
use Rattle.std.specs.Prelude.{OnOk}
use Rattle.std.specs.Io.KnownBytes.{Appends}
use Rattle.cs_advice.specs.Advised.{todo_text}
use Rattle.cs_advice.specs.declared.advices.Todo.{Todo}
use Rattle.cs_advice.proofs.tellings.print_todo.Goals as goal

pub returns-in-Length : goal.returns-in-Length
returns-in-Length g c =
    let contents = g.W.Write.contents in
    let line = c.print_length in
    subst (λ (todo : Todo). OnOk line.result (Appends (contents c.args.writer.now) (contents line.new.writer) (todo_text todo))) (sym c.in-Length.is) line.ensures

pub returns-in-Written : goal.returns-in-Written
returns-in-Written g c =
    let contents = g.W.Write.contents in
    let line = c.write-in-Written in
    subst (λ (todo : Todo). OnOk line.result (Appends (contents c.args.writer.now) (contents line.new.self) (todo_text todo))) (sym c.in-Written.is) line.ensures.bytes
