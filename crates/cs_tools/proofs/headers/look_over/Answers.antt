use Rattle.std.proofs.Common.{◌≡◌, ◌∙◌, ap, length, subst}
use Rattle.std.specs.Prelude.{List}
use Rattle.cs_extent.specs.State.{State as Extents, extents_of, shape}
use Rattle.cs_inspect.specs.Choices.{chosen_extent}
use Rattle.cs_inspect.specs.Past.{passing}
use Rattle.cs_inspect.specs.declared.surveys.ExtentUse.{ExtentUse}
use Rattle.cs_inspect.proofs.Passing.{pair_fresh, pairs_past, written}
use Rattle.cs_tools.specs.Headers.{AreUnreadable}
use Rattle.cs_tools.proofs.Readable.{counts}
use Rattle.cs_tools.proofs.headers.look_over.Goals as goal

pub returns-clause-chosen : goal.returns-clause-chosen
returns-clause-chosen g c = λ honest view chunks are live.
    let uses : List ExtentUse = c.in_ok-uses.uses.items in
    let new : List ExtentUse = c.pass_all.new.uses in
    let same : length new ≡ length uses = c.pass_all.auto.uses ∙ ap length c.deref_mut.ensures.value in
    let given : c.deref-2.result.now ≡ passing c.args.passed.now uses = c.deref-2.ensures.value ∙ written uses new c.in_ok-uses.uses.len c.in_ok-uses.uses.ok.0 same
    ∙ c.pass_all.ensures ∙ ap (passing c.args.passed.now) c.deref_mut.ensures.value in
    record {
      uses = uses;
      extents = c.in_ok-uses.ensures.extents;
      read = c.in_ok-uses.ensures.read honest view chunks are live;
      chooses = pairs_past c.args.core.now.store.extents c.args.passed.now (chosen_extent c.choose.result) c.last_copied-last.result c.extent_pages-pages.result uses c.deref-2.result.now given
          (c.last_copied-last.ensures ∙ ap (λ (x : Extents). (extents_of x).last) c.extents-extents.ensures)
          (c.extent_pages-pages.ensures ∙ ap (λ (x : Extents). (shape x).pages) c.extents-extents.ensures) c.choose.ensures;
    }

pub returns-clause-fresh : goal.returns-clause-fresh
returns-clause-fresh g c =
    let uses : List ExtentUse = c.in_ok-uses.uses.items in
    let new : List ExtentUse = c.pass_all.new.uses in
    let same : length new ≡ length uses = c.pass_all.auto.uses ∙ ap length c.deref_mut.ensures.value in
    let given : c.deref-2.result.now ≡ passing c.args.passed.now uses = c.deref-2.ensures.value ∙ written uses new c.in_ok-uses.uses.len c.in_ok-uses.uses.ok.0 same
    ∙ c.pass_all.ensures ∙ ap (passing c.args.passed.now) c.deref_mut.ensures.value in
    pair_fresh c.args.passed.now uses c.deref-2.result.now c.last_copied-last.result c.extent_pages-pages.result c.choose.result given c.choose.ensures

pub returns-clause-unreadable : goal.returns-clause-unreadable
returns-clause-unreadable g c =
    counts g.D.PageDisk c.args.core.now c.uses.new.core c.in_ok-uses.uses.items c.in_ok-uses.ensures.extents c.count_unreadable-unreadable.result
    (subst (λ (uses : List ExtentUse). AreUnreadable uses c.count_unreadable-unreadable.result) c.deref.ensures.value c.count_unreadable-unreadable.ensures)
    c.in_ok-uses.ensures.bounded c.in_ok-uses.ensures.counted
