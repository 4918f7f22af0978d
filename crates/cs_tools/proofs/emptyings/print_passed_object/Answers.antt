use Rattle.std.proofs.Common.{[], ◌∷◌, ◌++◌}
use Rattle.std.proofs.lemmas.Result.{on_ok_weaker}
use Rattle.std.specs.Prelude.{codes, decimal}
use Rattle.cs_advice.specs.Members.{member}
use Rattle.cs_advice.proofs.Appended.{appends_then}
use Rattle.cs_tools.specs.Reclaims.{passed_members}
use Rattle.cs_tools.proofs.emptyings.print_passed_object.Goals as goal

pub returns : goal.returns
returns g c =
    let contents = g.W.Write.contents in
    let first = 123 ∷ member (codes "extent") ++ decimal c.args.extent ++ 44 ∷ [] in
    on_ok_weaker c.print_passed_members.result
    (λ end. appends_then (contents c.args.writer.now) (contents c.write.new.self) (contents c.print_passed_members.new.writer) first (passed_members c.args.refusal) c.in_ok-write.ensures.bytes end)
    c.print_passed_members.ensures
