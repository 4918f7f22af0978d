use Rattle.std.proofs.Common.{subst, sym}
use Rattle.std.specs.Prelude.{OnOk, codes}
use Rattle.std.specs.Io.KnownBytes.{Appends}
use Rattle.std.proofs.lemmas.Result.{on_ok_weaker}
use Rattle.cs_advice.specs.Advised.{id_member, todo_members}
use Rattle.cs_advice.specs.declared.advices.Todo.{Todo}
use Rattle.cs_advice.proofs.Appended.{appends_then}
use Rattle.cs_advice.proofs.tellings.print_members.Goals as goal

pub returns-in_ok-print_id_member-in-TwoStores : goal.returns-in_ok-print_id_member-in-TwoStores
returns-in_ok-print_id_member-in-TwoStores g c =
    let contents = g.W.Write.contents in
    let last = c.print_id_member-in-TwoStores in
    let start = contents c.args.writer.now in
    let end = contents last.new.writer in
    subst (λ (todo : Todo). OnOk last.result (Appends start end (todo_members todo))) (sym c.in-TwoStores.is)
    (on_ok_weaker last.result
    (λ ended. appends_then start (contents c.print_id_member.new.writer) end (id_member (codes "first_id") c.in-TwoStores.first.0) (id_member (codes "last_id") c.in-TwoStores.last.0) c.in_ok-print_id_member-in-TwoStores.ensures ended)
    last.ensures)
