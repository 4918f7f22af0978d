use Rattle.std.proofs.lemmas.Result.{on_ok_weaker}
use Rattle.cs_advice.specs.Advised.{todo_members, todo_text}
use Rattle.cs_advice.specs.Tellings.{rest_text, what_text}
use Rattle.cs_advice.proofs.Appended.{appends_then}
use Rattle.cs_advice.proofs.tellings.print_rest.Goals as goal

pub returns : goal.returns
returns g c =
    let contents = g.W.Write.contents in
    let reason = c.args.reason.now in
    on_ok_weaker c.print_advice.result
    (λ ended. appends_then (contents c.args.writer.now) (contents c.print_text.new.writer) (contents c.print_advice.new.writer)
    (what_text reason.text.now reason.system) (rest_text c.args.style (todo_text reason.advice) (todo_members reason.advice)) c.in_ok-print_text.ensures ended)
    c.print_advice.ensures
