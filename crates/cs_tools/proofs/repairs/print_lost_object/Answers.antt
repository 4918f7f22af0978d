use Rattle.std.proofs.Common.{[], ◌∷◌}
use Rattle.std.proofs.lemmas.Result.{on_ok_weaker}
use Rattle.std.specs.Prelude.{codes}
use Rattle.cs_advice.specs.Members.{member, number_text}
use Rattle.cs_advice.proofs.Appended.{appends_then}
use Rattle.cs_tools.proofs.repairs.print_lost_object.Goals as goal

pub returns : goal.returns
returns g c =
    let contents = g.W.Write.contents in
    on_ok_weaker c.writeln.result
    (λ ended. appends_then (contents c.args.writer.now) (contents c.print_number.new.writer) (contents c.writeln.new.self) (number_text (123 ∷ member (codes "lost_after")) c.args.commands) (125 ∷ 10 ∷ []) c.in_ok-print_number.ensures ended)
    c.writeln.ensures.bytes
