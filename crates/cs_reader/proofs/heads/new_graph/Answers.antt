use Rattle.std.proofs.Common.{◌∙◌, ℕ, List, [], None, ap}
use Rattle.cs_reader.proofs.Versions.{by_rows, families_fit, numbers_fit}
use Rattle.cs_reader.proofs.heads.new_graph.Goals as goal

pub new-requires-clause-families : goal.new-requires-clause-families
new-requires-clause-families c =
    let sections = c.args.sections.now in
    families_fit sections c.requires.sections c.args.root c.deref.result.now
    (by_rows sections c.requires.sections.some c.args.root c.loop-section.section-index c.loop-section.versions.items c.deref.result.now c.loop-section.invariant.items c.loop-section-test.false (c.deref.ensures.value ∙ c.in_ok-insert.ensures.items))

pub new-requires-clause-numbers : goal.new-requires-clause-numbers
new-requires-clause-numbers c =
    let sections = c.args.sections.now in
    numbers_fit sections c.requires.sections c.args.root c.deref.result.now
    (by_rows sections c.requires.sections.some c.args.root c.loop-section.section-index c.loop-section.versions.items c.deref.result.now c.loop-section.invariant.items c.loop-section-test.false (c.deref.ensures.value ∙ c.in_ok-insert.ensures.items))
    c.requires.root

pub returns : goal.returns
returns c =
    c.in_ok-graph.ensures
    ∙ ap (λ (xs : List ℕ). record { staging = record { pending = record { persistent = xs; waiting = [] }; staged = 0; latest = xs }; round = None; pages = []; room = 0 })
    (by_rows c.args.sections.now c.requires.sections.some c.args.root c.loop-section.section-index c.loop-section.versions.items c.deref.result.now c.loop-section.invariant.items c.loop-section-test.false (c.deref.ensures.value ∙ c.in_ok-insert.ensures.items))
