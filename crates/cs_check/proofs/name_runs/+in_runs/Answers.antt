use Rattle.std.proofs.Common.{◌⊎◌, subst, sym}
use Rattle.std.specs.Prelude.{◌↔◌}
use Rattle.cs_deps.proofs.Entries.{names_of_union}
use Rattle.cs_deps.specs.Named.{Named, Names}
use Rattle.cs_deps.specs.declared.elements.Element.{Element}
use Rattle.cs_check.proofs.ValueSteps.{halves, named_both}
use Rattle.cs_check.proofs.name_runs.+in_runs.Goals as goal

pub returns : goal.returns
returns t c =
    let first : Named = c.in_ok-all.all in
    let second : Named = c.in_ok-others.others in
    let both : Named = c.join.new.self in
    named_both both first second c.args.elements.now c.split_at.result.0.now c.split_at.result.1.now (halves c.args.elements.now c.cut.result c.split_at.result.0.now c.split_at.result.1.now c.split_at.ensures.front c.split_at.ensures.back) c.in_ok-all.ensures c.in_ok-others.ensures
    (subst (λ (d : Named). (y : Element) → Names d y ↔ (Names first y ⊎ Names second y)) (sym c.in_ok-join.ensures) (names_of_union first second))
