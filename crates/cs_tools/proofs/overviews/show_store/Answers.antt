use Rattle.std.proofs.Common.{◌≡◌, ◌∙◌, ap, length, subst, sym}
use Rattle.std.specs.Prelude.{List}
use Rattle.std.specs.Io.KnownBytes.{Appends}
use Rattle.cs_core.specs.Stored.{Stored}
use Rattle.cs_extent.specs.State.{shape}
use Rattle.cs_inspect.specs.declared.surveys.ExtentUse.{ExtentUse}
use Rattle.cs_tools.specs.Headers.{NoneIsUnreadable, SomeIsUnreadable}
use Rattle.cs_tools.specs.Overviews.{AreFigures, overview_text}
use Rattle.cs_tools.proofs.Overviewing.{seen_bounded, seen_counted, when_damaged, when_done}
use Rattle.cs_tools.proofs.Readable.{has_unreadable, readable}
use Rattle.cs_tools.proofs.Resting.{store_read}
use Rattle.cs_tools.proofs.overviews.show_store.Goals as goal

pub print_overview-requires : goal.print_overview-requires
print_overview-requires g c =
    let same = store_read c.args.core.now c.survey_extents.new.core c.survey_extents.ensures.same in
    subst (λ (s : Stored). length c.deref-2.result.now ≡ (shape s.extents).extents) (sym same)
    (ap (λ (uses : List ExtentUse). length uses) c.deref-2.ensures.value ∙ c.in-Ok.ensures.extents.0)

pub returns-in-Ok-print_overview-clause-readable : goal.returns-in-Ok-print_overview-clause-readable
returns-in-Ok-print_overview-clause-readable g c done =
    let old = c.args.core.now in
    let new = c.survey_extents.new.core in
    let survey = c.in-Ok.survey in
    let listed = c.deref-in-Ok-print_overview.result.now in
    let none = when_done c.outcome_of.result (NoneIsUnreadable listed) (SomeIsUnreadable listed) c.outcome_of.ensures done in
    readable g.D.PageDisk old new survey.uses.items c.in-Ok.ensures.extents (seen_bounded g.D.PageDisk old new survey.uses.items survey.greatest c.in-Ok.ensures.read)
    (subst (λ (uses : List ExtentUse). NoneIsUnreadable uses) c.deref-in-Ok-print_overview.ensures.value none)

pub returns-in-Ok-print_overview-clause-unreadable : goal.returns-in-Ok-print_overview-clause-unreadable
returns-in-Ok-print_overview-clause-unreadable g c damaged =
    let old = c.args.core.now in
    let new = c.survey_extents.new.core in
    let survey = c.in-Ok.survey in
    let listed = c.deref-in-Ok-print_overview.result.now in
    let some = when_damaged c.outcome_of.result (NoneIsUnreadable listed) (SomeIsUnreadable listed) c.outcome_of.ensures damaged in
    has_unreadable g.D.PageDisk old new survey.uses.items c.in-Ok.ensures.extents (seen_counted g.D.PageDisk old new survey.uses.items survey.greatest c.in-Ok.ensures.read)
    (subst (λ (uses : List ExtentUse). SomeIsUnreadable uses) c.deref-in-Ok-print_overview.ensures.value some)

pub returns-in-Ok-print_overview-clause-text : goal.returns-in-Ok-print_overview-clause-text
returns-in-Ok-print_overview-clause-text g c ends =
    let contents = g.W.Write.contents in
    let new = c.survey_extents.new.core in
    let survey = c.in-Ok.survey in
    let uses = survey.uses.items in
    let figures = c.figures_of-figures.result in
    let same = store_read c.args.core.now new c.survey_extents.ensures.same in
    let start = contents c.args.writer.now in
    let end = contents c.print_overview.new.writer in
    let printed = subst (λ (us : List ExtentUse). Appends start end (overview_text c.args.what (shape new.store.extents).pages figures us)) c.deref-2.ensures.value c.in-Ok-print_overview.ensures in (
      uses,
      survey.greatest,
      figures,
      record { extents = c.in-Ok.ensures.extents; read = c.in-Ok.ensures.read },
      subst (λ (s : Stored). AreFigures s uses survey.greatest figures) same (subst (λ (us : List ExtentUse). AreFigures new.store us survey.greatest figures) c.deref.ensures.value c.figures_of-figures.ensures),
      subst (λ (s : Stored). Appends start end (overview_text c.args.what (shape s.extents).pages figures uses)) same printed,
    )
