use Rattle.std.proofs.Common.{◌≡◌, ◌∙◌, List, ap, arith, inr, length, map, refl, subst, sym}
use Rattle.std.proofs.lemmas.Bool.{false≢true}
use Rattle.std.proofs.lemmas.List.{length-map}
use Rattle.std.proofs.lemmas.Result.{IfOk-weaker}
use Rattle.cs_extent.specs.Purposes.{reason_of}
use Rattle.cs_extent.specs.State.{shape}
use Rattle.cs_frame.specs.declared.locators.Locator.{Locator}
use Rattle.cs_frame.specs.Locators.{KeepFormat}
use Rattle.law_machine.specs.Format.{Format}
use Rattle.law_machine.specs.Geometry.{most_runs_in, pages_first_in}
use Rattle.law_machine.specs.Index.{live_at, lookup}
use Rattle.cs_index.specs.contracts.indexes.Index.{the_view}
use Rattle.cs_index.specs.declared.stored_runs.StoredRun.{StoredRun}
use Rattle.cs_index.specs.Merges.{deletions_go}
use Rattle.cs_index.specs.Staged.{IsRootOver}
use Rattle.cs_index.specs.State.{RunsKeepTo, State, index_of, named_entry, newest_first}
use Rattle.cs_index.proofs.Chosen.{alone, chosen_keeps, chosen_staged, chosen_why, either_way, refused_why, same_part, same_staged, same_why}
use Rattle.cs_index.proofs.Marks.{places_keep}
use Rattle.cs_index.proofs.Parts.{part_live, part_stays}
use Rattle.cs_index.proofs.Rooted.{root_same}
use Rattle.cs_index.proofs.Sizes.{goes_all}
use Rattle.cs_index.proofs.Whole.{length-newest}
use Rattle.cs_index.proofs.indexes.Index.stage_root.Goals as goal

pub choose-requires-clause-some : goal.choose-requires-clause-some
choose-requires-clause-some c = λ none. false≢true (sym c.if-is_table_empty.false ∙ c.is_table_empty.ensures.1 none)

pub stage_chosen-requires-clause-some : goal.stage_chosen-requires-clause-some
stage_chosen-requires-clause-some c = inr (λ none. false≢true (sym c.if-is_table_empty.false ∙ c.is_table_empty.ensures.1 none))

pub stage_chosen-requires-clause-alone : goal.stage_chosen-requires-clause-alone
stage_chosen-requires-clause-alone c = alone c.args.self.now c.args.extents.now c.in-Ok.chosen.portion.newest c.in-Ok.chosen.portion.without_deletions c.in-Ok.ensures.deletions

pub returns-in-Ok-clause-staged : goal.returns-in-Ok-clause-staged
returns-in-Ok-clause-staged c =
    IfOk-weaker c.stage_chosen.result _ _
    (λ v staged. chosen_staged (shape c.args.extents.now).apart c.requires.apart c.args.self.now c.args.extents.now c.args.graph.now c.in-Ok.chosen.portion.newest c.in-Ok.chosen.portion.without_deletions (reason_of c.in-Ok.chosen.purpose) v c.args.commands c.stage_chosen.new.self c.stage_chosen.new.extents c.stage_chosen.new.graph
    c.in-Ok.ensures.chosen c.in-Ok.ensures.deletions staged)
    c.stage_chosen.ensures.staged

pub returns-in-Ok-clause-lookups : goal.returns-in-Ok-clause-lookups
returns-in-Ok-clause-lookups c = λ keeps not id.
    either_way c.stage_chosen.result
    (λ v staged. part_stays c.in-Ok.chosen.portion.without_deletions c.in-Ok.chosen.portion.newest c.args.self.now c.args.extents.now c.args.graph.now (reason_of c.in-Ok.chosen.purpose) v c.args.commands c.stage_chosen.new.self c.stage_chosen.new.extents c.stage_chosen.new.graph staged
    (chosen_keeps c.args.self.now c.args.extents.now c.in-Ok.chosen.portion.newest c.in-Ok.chosen.portion.without_deletions (reason_of c.in-Ok.chosen.purpose) c.in-Ok.ensures.chosen c.in-Ok.ensures.deletions keeps not) id)
    (λ same. ap (λ (s : State). lookup id (index_of s)) same)
    c.stage_chosen.ensures.staged c.stage_chosen.ensures.refused

pub returns-in-Ok-clause-map : goal.returns-in-Ok-clause-map
returns-in-Ok-clause-map c = λ id.
    either_way c.stage_chosen.result
    (λ v staged. part_live c.in-Ok.chosen.portion.without_deletions c.in-Ok.chosen.portion.newest c.args.self.now c.args.extents.now c.args.graph.now (reason_of c.in-Ok.chosen.purpose) v c.args.commands c.stage_chosen.new.self c.stage_chosen.new.extents c.stage_chosen.new.graph staged
    (λ go. goes_all (shape c.args.extents.now) c.args.self.now c.in-Ok.chosen.portion.newest (sym c.in-Ok.ensures.deletions ∙ go)) id)
    (λ same. ap (λ (s : State). live_at (index_of s) id) same)
    c.stage_chosen.ensures.staged c.stage_chosen.ensures.refused

pub returns-in-Ok-clause-why : goal.returns-in-Ok-clause-why
returns-in-Ok-clause-why c =
    chosen_why (shape c.args.extents.now).apart c.requires.apart c.args.self.now c.args.extents.now c.args.graph.now.staging c.stage_chosen.result (map named_entry c.in-Ok.chosen.run.entries.items) c.in-Ok.chosen.portion.newest c.in-Ok.chosen.portion.without_deletions (reason_of c.in-Ok.chosen.purpose)
    c.in-Ok.ensures.chosen c.in-Ok.ensures.deletions c.in-Ok.ensures.run.merged c.in-Ok.ensures.placed c.stage_chosen.ensures.why

pub returns-in-Err-clause-why : goal.returns-in-Err-clause-why
returns-in-Err-clause-why c = refused_why c.in-Err.refusal _ _ c.in-Err.ensures.refused

-- ---- where the table is empty

pub places_of-requires : goal.places_of-requires
places_of-requires c = omega (arith, c.self.invariant.whole.few, ap (λ (rs : List StoredRun). length rs) c.deref.ensures.value, length-newest c.self.inside.runs.items)

pub stage_over-requires-clause-places : goal.stage_over-requires-clause-places
stage_over-requires-clause-places c =
    let runs = rw (← c.self.view_is) at c.requires.runs in
    let same : most_runs_in c.format-format.result ≡ most_runs_in c.args.extents.now.format = ap most_runs_in (c.format-format.ensures.format ∙ c.geometry.ensures.format) in
    omega (
      arith,
      same,
      runs,
      ap length c.in_ok-places.ensures.places,
      length-map c.deref.result.now (λ run. run.place),
      ap (λ (rs : List StoredRun). length rs) c.deref.ensures.value,
      length-newest c.self.inside.runs.items,
    )

pub stage_over-requires-clause-marks : goal.stage_over-requires-clause-marks
stage_over-requires-clause-marks c =
    let format = rw (← c.self.view_is) at c.requires.format in
    subst (λ (ls : List Locator). KeepFormat c.format-format.result ls) (sym c.in_ok-places.ensures.places)
    (subst (λ (rs : List StoredRun). KeepFormat c.format-format.result (map (λ run. run.place) rs)) (sym c.deref.ensures.value)
    (places_keep c.format-format.result c.self.inside.runs.items
    (subst (λ (f : Format). RunsKeepTo f (newest_first c.self.inside.runs.items)) (format ∙ sym (c.format-format.ensures.format ∙ c.geometry.ensures.format)) c.self.invariant.whole.placed)))

pub returns-then-is_table_empty-clause-staged : goal.returns-then-is_table_empty-clause-staged
returns-then-is_table_empty-clause-staged c =
    let none = rw (← c.self.view_is) at (c.is_table_empty.ensures.0 c.if-is_table_empty.true) in
    let s = the_view c.self.inside in
    let x = c.args.extents.now in
    rw (← c.self.view_is) (IfOk-weaker c.stage_over.result _ _
    (λ v root. same_staged (the_view c.self.inside) c.args.extents.now none c.args.graph.now v c.args.commands (the_view c.self.inside) c.args.extents.now c.stage_over.new.graph
    (same_part (deletions_go (shape c.args.extents.now) (the_view c.self.inside) 0) (the_view c.self.inside) c.args.extents.now c.args.graph.now v c.args.commands c.stage_over.new.graph none
    (root_same x.format (pages_first_in x.format) c.args.graph.now c.args.graph.now c.stage_over.new.graph v c.args.commands c.self.inside.runs.items (newest_first c.self.inside.runs.items) c.in_ok-places.places.items refl
    (c.in_ok-places.ensures.places ∙ ap (map (λ run. run.place)) c.deref.ensures.value) refl
    (subst (λ (f : Format). IsRootOver f (pages_first_in f) c.args.graph.now c.stage_over.new.graph v c.args.commands c.in_ok-places.places.items) (c.format-format.ensures.format ∙ c.geometry.ensures.format) root))))
    c.stage_over.ensures.staged)

pub returns-then-is_table_empty-clause-why : goal.returns-then-is_table_empty-clause-why
returns-then-is_table_empty-clause-why c =
    let none = rw (← c.self.view_is) at (c.is_table_empty.ensures.0 c.if-is_table_empty.true) in
    rw (← c.self.view_is) (same_why (the_view c.self.inside) c.args.extents.now none c.args.graph.now.staging c.stage_over.result c.stage_over.ensures.why)
