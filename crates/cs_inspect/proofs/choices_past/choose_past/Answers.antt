use Rattle.std.proofs.Common.{◌≡◌, ◌∙◌, List, ap, length}
use Rattle.cs_extent.specs.State.{State as Extents, extents_of, shape}
use Rattle.cs_inspect.specs.Choices.{chosen_extent}
use Rattle.cs_inspect.specs.Past.{passing}
use Rattle.cs_inspect.specs.declared.surveys.ExtentUse.{ExtentUse}
use Rattle.cs_inspect.proofs.Passing.{goes_past, next_fresh, written}
use Rattle.cs_inspect.proofs.choices_past.choose_past.Goals as goal

pub returns-clause-chosen : goal.returns-clause-chosen
returns-clause-chosen g c = λ honest view chunks are live.
    let uses : List ExtentUse = c.in_ok-uses.field-0.uses.items in
    let new : List ExtentUse = c.pass_all.new.uses in
    let same : length new ≡ length uses = c.pass_all.auto.uses ∙ ap length c.deref_mut.ensures.value in
    let given : c.deref.result.now ≡ passing c.args.passed.now uses = c.deref.ensures.value ∙ written uses new c.in_ok-uses.field-0.uses.len c.in_ok-uses.field-0.uses.ok.0 same
    ∙ c.pass_all.ensures ∙ ap (passing c.args.passed.now) c.deref_mut.ensures.value in
    goes_past g.D.PageDisk c.args.core.now c.survey_extents.new.core c.args.passed.now _ (chosen_extent c.choose_next.result) c.last_copied-last.result c.extent_pages-pages.result c.in_ok-uses.field-0.greatest uses c.deref.result.now
    c.in_ok-uses.ensures.extents (c.in_ok-uses.ensures.read honest view chunks are live) given
    (c.last_copied-last.ensures ∙ ap (λ (x : Extents). (extents_of x).last) c.extents-extents.ensures)
    (c.extent_pages-pages.ensures ∙ ap (λ (x : Extents). (shape x).pages) c.extents-extents.ensures) c.choose_next.ensures

pub returns-clause-fresh : goal.returns-clause-fresh
returns-clause-fresh g c =
    let uses : List ExtentUse = c.in_ok-uses.field-0.uses.items in
    let new : List ExtentUse = c.pass_all.new.uses in
    let same : length new ≡ length uses = c.pass_all.auto.uses ∙ ap length c.deref_mut.ensures.value in
    let given : c.deref.result.now ≡ passing c.args.passed.now uses = c.deref.ensures.value ∙ written uses new c.in_ok-uses.field-0.uses.len c.in_ok-uses.field-0.uses.ok.0 same
    ∙ c.pass_all.ensures ∙ ap (passing c.args.passed.now) c.deref_mut.ensures.value in
    next_fresh c.args.passed.now uses c.deref.result.now c.last_copied-last.result c.extent_pages-pages.result c.in_ok-uses.field-0.greatest c.choose_next.result given c.choose_next.ensures
