use Rattle.std.proofs.Common.{rules, ◌∙◌, refl}
use Rattle.std.specs.Prelude.{not}
use Rattle.std.proofs.lemmas.Fn.{filter_same}
use Rattle.cs_deps.specs.Spent.{is_spent}
use Rattle.cs_deps.proofs.Folded.{folded_by}
use Rattle.cs_deps.proofs.cleaning.fold.Goals as goal

pub returns-clause-items : goal.returns-clause-items
returns-clause-items c =
    let w = rw c.deref.ensures.value at c.in-Some.ensures in
    let all = rw c.deref-2.ensures.value at c.in-Ok.ensures in
    let kept = filter_same _ (λ w. not (is_spent c.args.family c.args.version w)) _ (λ x b f' k. search rules) _ _ c.retain.ensures.filtered in
    folded_by _ _ c.in-Some.k c.args.entries.now.items _ _ _ w.0 (c.index_mut.result.now.0, c.hold.new.self) c.remove-needs.result w.1 w.2 (c.if-not-hold.ensures.held refl ∙ all) c.remove-needs.ensures.value c.remove-needs.ensures.items kept c.push_reserved.ensures.items
