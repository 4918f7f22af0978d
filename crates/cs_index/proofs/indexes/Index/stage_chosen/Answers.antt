use Rattle.std.proofs.Common.{◌≡◌, ◌≢◌, [], ◌∷◌, ◌+◌, ◌-◌, ◌<◌, ◌≤◌, ◌∙◌, ap, arith, length, map, subst, sym, take, drop, true, ℕ, List}
use Rattle.std.specs.Prelude.{Ok, Err}
use Rattle.std.specs.List.{AllByRecursion}
use Rattle.std.proofs.lemmas.Bool.{eqb-true, eqb-false}
use Rattle.std.proofs.lemmas.Result.{err_from_is_err_and}
use Rattle.cs_extent.specs.Places.{GoesIn}
use Rattle.cs_extent.specs.Purposes.{reason_of}
use Rattle.cs_extent.specs.State.{shape}
use Rattle.cs_frame.proofs.GeometryLaws.{bounds}
use Rattle.cs_index.proofs.OfFormat.{fewest_runs, most_runs}
use Rattle.cs_frame.specs.declared.locators.Locator.{Locator}
use Rattle.cs_frame.specs.Formats.{place_of}
use Rattle.cs_frame.specs.Locators.{KeepFormat}
use Rattle.cs_index.specs.contracts.indexes.Index.{the_view}
use Rattle.cs_index.specs.declared.stored_runs.StoredRun.{StoredRun}
use Rattle.law_machine.specs.Format.{Format}
use Rattle.law_machine.specs.Element.{Entry, Run}
use Rattle.law_machine.specs.Geometry.{most_runs_in, pages_first_in, weigh_in}
use Rattle.law_machine.specs.Index.{run_weight}
use Rattle.cs_index.specs.Staged.{IsRootOver, IsRunStagedBy, WritesPart, run_frame}
use Rattle.cs_index.specs.State.{KeepTo, RunsKeepTo, index_of, named_entry, newest_first, state_of}
use Rattle.cs_index.proofs.Exact.{exact_unwritten, exact_written, goes_some, none_of, part_empty, part_none, part_one, part_writes, some_of}
use Rattle.cs_index.proofs.Living.{none_at_first}
use Rattle.cs_index.proofs.Marks.{none_keep, run_placed}
use Rattle.cs_index.proofs.Parts.{few_left, goes_where_none, left_places, newest_left, part_keeps, parted_live, parted_names, parted_state, parted_weight, parted_whole}
use Rattle.cs_index.proofs.Shards.{shards_same}
use Rattle.cs_index.proofs.Staging.{is_run}
use Rattle.cs_index.proofs.Tallies.{counts_as, none_lives}
use Rattle.cs_index.proofs.Weights.{shape_light}
use Rattle.cs_index.proofs.Whole.{length-newest, no_ids}
use Rattle.cs_index.proofs.indexes.Index.stage_chosen.Goals as goal
use Rattle.cs_index.proofs.indexes.Index.stage_chosen.Goals.{After-named_after-named, Else-is_empty, In-Ok, Then-is_empty}

-- ---- a run without entries

none_left : (c : Then-is_empty) → map named_entry c.args.chosen.run.entries.items ≡ []
none_left c = none_of named_entry c.args.chosen.run.entries.items (omega (arith, c.args.chosen.run.entries.ok.0, eqb-true _ 0 (sym c.is_empty.ensures ∙ c.if-is_empty.true)))

goes : (c : Then-is_empty) → c.args.chosen.portion.without_deletions ≡ true
goes c = goes_where_none c.args.chosen.portion.without_deletions c.args.self.now c.args.chosen.portion.newest (map named_entry c.args.chosen.run.entries.items) (none_left c) c.requires.run.merged c.requires.some

none_writes : (c : Then-is_empty) (es : List Entry) → WritesPart c.args.chosen.portion.without_deletions c.args.self.now c.args.chosen.portion.newest es → ⊥
none_writes c es writes = part_none c.args.chosen.portion.without_deletions c.args.self.now c.args.chosen.portion.newest (map named_entry c.args.chosen.run.entries.items) es (none_left c) c.requires.run.merged writes

pub stage_over-requires-clause-places : goal.stage_over-requires-clause-places
stage_over-requires-clause-places c = omega (arith, ap length c.new.ensures.items, fewest_runs c.format-format.result)

pub stage_over-requires-clause-marks : goal.stage_over-requires-clause-marks
stage_over-requires-clause-marks c = none_keep c.format-format.result c.new.result.items c.new.ensures.items

pub become_empty-requires : goal.become_empty-requires
become_empty-requires c =
    let at = (goal.at.become_empty-requires c).Then-is_empty in
    none_lives c.args.chosen.portion.without_deletions c.args.self.now c.args.chosen.portion.newest (map named_entry c.args.chosen.run.entries.items) (none_left at) (goes at) (c.requires.alone (goes at)) c.requires.run.merged

pub returns-then-is_empty-clause-staged : goal.returns-then-is_empty-clause-staged
returns-then-is_empty-clause-staged c =
    let at = (goal.at.returns-then-is_empty-clause-staged c).Then-is_empty in
    part_empty (shape c.args.extents.now).apart c.args.chosen.portion.without_deletions c.args.chosen.portion.newest c.args.self.now c.args.extents.now c.args.graph.now (reason_of c.args.chosen.purpose) c.in_ok-version.version c.args.commands c.become_empty.new.self c.args.extents.now c.stage_over.new.graph
    (map named_entry c.args.chosen.run.entries.items) c.requires.run.merged (none_left at) (c.requires.alone (goes at))
    (subst (λ (f : Format). IsRootOver f (pages_first_in f) c.args.graph.now c.stage_over.new.graph c.in_ok-version.version c.args.commands []) (c.format-format.ensures.format ∙ c.geometry.ensures.format)
    (subst (λ (ls : List Locator). IsRootOver c.format-format.result (pages_first_in c.format-format.result) c.args.graph.now c.stage_over.new.graph c.in_ok-version.version c.args.commands ls) c.new.ensures.items c.in_ok-version.ensures.staged))
    c.become_empty.ensures

pub returns-then-is_empty-clause-why : goal.returns-then-is_empty-clause-why
returns-then-is_empty-clause-why c =
    let at = (goal.at.returns-then-is_empty-clause-why c).Then-is_empty in
    exact_unwritten {T = ℕ} (shape c.args.extents.now).apart (WritesPart c.args.chosen.portion.without_deletions c.args.self.now c.args.chosen.portion.newest) c.args.extents.now (reason_of c.args.chosen.purpose) c.args.graph.now.staging (none_writes at) (Ok c.in_ok-version.version) c.in_ok-version.ensures.why

pub returns-in_err-version-clause-why : goal.returns-in_err-version-clause-why
returns-in_err-version-clause-why c =
    let p = err_from_is_err_and c.from_residual.result c.from_residual.ensures.1 in
    rw (p.1, p.2) (exact_unwritten {T = ℕ} (shape c.args.extents.now).apart (WritesPart c.args.chosen.portion.without_deletions c.args.self.now c.args.chosen.portion.newest) c.args.extents.now (reason_of c.args.chosen.purpose) c.args.graph.now.staging
    (none_writes (goal.at.returns-in_err-version-clause-why c).Then-is_empty) (Err c.in_err-version.field-0.0) c.in_err-version.ensures.why)

-- ---- a run with some

some_left : (c : Else-is_empty) → map named_entry c.args.chosen.run.entries.items ≢ []
some_left c = some_of named_entry c.args.chosen.run.entries.items (λ none. eqb-false _ 0 (sym c.is_empty.ensures ∙ c.if-is_empty.false) (omega (arith, c.args.chosen.run.entries.ok.0, none)))

pub overflow_sub-left : goal.overflow_sub-left
overflow_sub-left c =
    let inside = rw (← c.self.view_is) at c.requires.inside in
    omega (arith, inside, c.len.ensures, c.self.inside.runs.ok.0, length-newest c.self.inside.runs.items)

-- so many runs stay and so many don't
split : (c : After-named_after-named) → (c.len.result - c.args.chosen.portion.newest) + c.args.chosen.portion.newest ≡ length c.self.inside.runs.items
split c =
    let inside = rw (← c.self.view_is) at c.requires.inside in
    omega (arith, inside, c.len.ensures, c.self.inside.runs.ok.0, length-newest c.self.inside.runs.items)

-- the run's entries weigh no more than they may
light : (c : After-named_after-named) → run_weight (weigh_in c.args.extents.now.format) (map named_entry c.args.chosen.run.entries.items) ≤ (shape c.args.extents.now).most_weight
light c = shape_light c.args.self.now c.args.extents.now (map named_entry c.args.chosen.run.entries.items) c.requires.format c.requires.limit c.requires.run.light

pub stage_run-requires-clause-weight : goal.stage_run-requires-clause-weight
stage_run-requires-clause-weight c = light (goal.at.stage_run-requires-clause-weight c).After-named_after-named

pub stage_run-requires-clause-run : goal.stage_run-requires-clause-run
stage_run-requires-clause-run c =
    let format = rw (← c.self.view_is) at c.requires.format in
    let run = rw (← c.self.view_is) at c.requires.run.merged in
    is_run c.args.chosen.run c.args.extents.now.format c.args.extents.now.pages c.requires.run.ids c.requires.run.merged.0 c.requires.run.short (some_left (goal.at.stage_run-requires-clause-run c).Else-is_empty) (bounds _ _ _ _ c.geometry.ensures.whole.geometry).most_pages (light (goal.at.stage_run-requires-clause-run c).After-named_after-named)
    (subst (λ (f : Format). AllByRecursion (λ x. KeepTo f x.locators) (map named_entry c.args.chosen.run.entries.items)) format
    (part_keeps c.args.chosen.portion.without_deletions (the_view c.self.inside) c.args.chosen.portion.newest (map named_entry c.args.chosen.run.entries.items) c.self.invariant.whole run))

pub stage_run-requires-clause-marks : goal.stage_run-requires-clause-marks
stage_run-requires-clause-marks c =
    let format = rw (← c.self.view_is) at c.requires.format in
    let n : ℕ = c.len.result - c.args.chosen.portion.newest in
    subst (λ (rs : List StoredRun). KeepFormat c.args.extents.now.format (map (λ run. run.place) (take n rs))) (sym (c.deref.ensures.value ∙ c.in_ok-reserve.ensures.items))
    (left_places c.self.inside.runs.items n c.args.chosen.portion.newest (split (goal.at.stage_run-requires-clause-marks c).After-named_after-named) c.args.extents.now.format
    (subst (λ (f : Format). RunsKeepTo f (newest_first c.self.inside.runs.items)) format c.self.invariant.whole.placed))

-- the run's place keeps to the format
placed : (c : In-Ok) → KeepTo c.self.inside.format (place_of c.in-Ok.place ∷ [])
placed c =
    let format = rw (← c.self.view_is) at c.requires.format in
    subst (λ (f : Format). KeepTo f (place_of c.in-Ok.place ∷ [])) (sym format)
    (run_placed (shape c.args.extents.now).apart c.args.extents.now c.args.graph.now (reason_of c.args.chosen.purpose) (map named_entry c.args.chosen.run.entries.items) (place_of c.in-Ok.place) c.stage_run.new.extents c.in-Ok.ensures.staged.0 c.in-Ok.ensures.staged.1)

pub stage_run-requires-clause-few : goal.stage_run-requires-clause-few
stage_run-requires-clause-few c =
    let left = rw (← c.self.view_is) at c.requires.left in
    let n : ℕ = c.len.result - c.args.chosen.portion.newest in
    subst (λ (rs : List StoredRun). length (take n rs) < most_runs_in c.args.extents.now.format) (sym (c.deref.ensures.value ∙ c.in_ok-reserve.ensures.items))
    (few_left c.self.inside.runs.items n c.args.chosen.portion.newest (split (goal.at.stage_run-requires-clause-few c).After-named_after-named) (most_runs_in c.args.extents.now.format) left)

pub invariant_of-self-in-Ok : goal.invariant_of-self-in-Ok
invariant_of-self-in-Ok c =
    let i = c.self.inside in
    let at = (goal.at.invariant_of-self-in-Ok c).After-named_after-named in
    let left = rw (← c.self.view_is) at c.requires.left in
    let alone = rw (← c.self.view_is) at c.requires.alone in
    let run = rw (← c.self.view_is) at c.requires.run.merged in
    let n : ℕ = c.len.result - c.args.chosen.portion.newest in
    let k : ℕ = c.args.chosen.portion.newest in
    let r : StoredRun = record { place = c.in-Ok.place; entries = c.args.chosen.run.entries } in
    let kept : c.truncate.new.self.items ≡ take n i.runs.items = c.truncate.ensures.items ∙ ap (take n) c.in_ok-reserve.ensures.items in
    record {
      whole = parted_whole i.table.entries.items c.new-in-Ok.result.items i.runs.items c.truncate.new.self.items c.push_reserved.new.self.items r n k (split at) c.push_reserved.ensures.items kept c.new-in-Ok.ensures.items
          i.format i.limit i.room c.args.chosen.portion.without_deletions run alone (some_left (goal.at.invariant_of-self-in-Ok c).Else-is_empty) c.requires.run.short (omega (arith, left, most_runs c.args.extents.now.format)) (placed (goal.at.invariant_of-self-in-Ok c).In-Ok) c.self.invariant.whole;
      ids = no_ids c.new-in-Ok.result.items c.new-in-Ok.ensures.items;
      count = parted_names i.table.entries.items c.new-in-Ok.result.items i.runs.items c.truncate.new.self.items c.push_reserved.new.self.items r n k (split at) c.push_reserved.ensures.items kept c.new-in-Ok.ensures.items
          i.format i.limit i.room c.args.chosen.portion.without_deletions run alone c.named_after-named.result i.named c.self.invariant.count c.named_after-named.ensures;
      lives = c.self.invariant.lives
          ∙ sym (shards_same (index_of (state_of c.new-in-Ok.result.items c.push_reserved.new.self.items i.format i.limit 0)) (index_of (state_of i.table.entries.items i.runs.items i.format i.limit i.room))
          (parted_live i.table.entries.items c.new-in-Ok.result.items i.runs.items c.truncate.new.self.items c.push_reserved.new.self.items r n k (split at) c.push_reserved.ensures.items kept c.new-in-Ok.ensures.items
          i.format i.limit i.room c.args.chosen.portion.without_deletions run alone));
      weighs = parted_weight i.table.entries.items c.new-in-Ok.result.items i.runs.items c.truncate.new.self.items c.push_reserved.new.self.items r n k (split at) c.push_reserved.ensures.items kept c.new-in-Ok.ensures.items
          i.format i.limit i.room c.args.chosen.portion.without_deletions run alone c.weight_after-weight.result (rw (← c.self.view_is) at c.weight_after-weight.ensures);
      counts = counts_as i.on.items (index_of (state_of i.table.entries.items i.runs.items i.format i.limit i.room)) (index_of (state_of c.new-in-Ok.result.items c.push_reserved.new.self.items i.format i.limit 0))
          (parted_live i.table.entries.items c.new-in-Ok.result.items i.runs.items c.truncate.new.self.items c.push_reserved.new.self.items r n k (split at) c.push_reserved.ensures.items kept c.new-in-Ok.ensures.items
          i.format i.limit i.room c.args.chosen.portion.without_deletions run alone)
          c.self.invariant.counts;
      small = c.self.invariant.small;
      fits = omega (arith, c.new-in-Ok.ensures.len);
      clear = none_at_first (index_of (state_of c.new-in-Ok.result.items c.push_reserved.new.self.items i.format i.limit 0)) 0;
    }

pub stage_run-requires-clause-placed : goal.stage_run-requires-clause-placed
stage_run-requires-clause-placed c =
    goes_some ((e : ℕ) × GoesIn c.args.extents.now (reason_of c.args.chosen.purpose) (length (run_frame c.args.extents.now (map named_entry c.args.chosen.run.entries.items))) e) (map named_entry c.args.chosen.run.entries.items)
    (some_left (goal.at.stage_run-requires-clause-placed c).Else-is_empty) c.requires.placed

pub returns-in-Ok-clause-staged : goal.returns-in-Ok-clause-staged
returns-in-Ok-clause-staged c =
    let i = c.self.inside in
    let at = (goal.at.returns-in-Ok-clause-staged c).After-named_after-named in
    let some = some_left (goal.at.returns-in-Ok-clause-staged c).Else-is_empty in
    let run = rw (← c.self.view_is) at c.requires.run.merged in
    let n : ℕ = c.len.result - c.args.chosen.portion.newest in
    let k : ℕ = c.args.chosen.portion.newest in
    let r : StoredRun = record { place = c.in-Ok.place; entries = c.args.chosen.run.entries } in
    let kept : c.truncate.new.self.items ≡ take n i.runs.items = c.truncate.ensures.items ∙ ap (take n) c.in_ok-reserve.ensures.items in
    let older : newest_first (take n c.deref.result.now) ≡ drop k (newest_first i.runs.items)
    = ap (λ (rs : List StoredRun). newest_first (take n rs)) (c.deref.ensures.value ∙ c.in_ok-reserve.ensures.items) ∙ newest_left i.runs.items n k (split at) in
    rw (← c.self.view_is) (part_one (shape c.args.extents.now).apart c.args.chosen.portion.without_deletions k (the_view c.self.inside) c.args.extents.now c.args.graph.now (reason_of c.args.chosen.purpose) c.in-Ok.version c.args.commands
    (state_of c.new-in-Ok.result.items c.push_reserved.new.self.items i.format i.limit 0) c.stage_run.new.extents c.stage_run.new.graph (map named_entry c.args.chosen.run.entries.items) run (place_of c.in-Ok.place) some
    (subst (λ (rs : List Run). IsRunStagedBy (shape c.args.extents.now).apart c.args.extents.now c.args.graph.now (reason_of c.args.chosen.purpose) (map named_entry c.args.chosen.run.entries.items) rs (place_of c.in-Ok.place) c.in-Ok.version c.args.commands c.stage_run.new.extents c.stage_run.new.graph)
    older c.in-Ok.ensures.staged)
    (parted_state i.table.entries.items c.new-in-Ok.result.items i.runs.items c.truncate.new.self.items c.push_reserved.new.self.items r n k (split at) c.push_reserved.ensures.items kept c.new-in-Ok.ensures.items i.format i.limit))

pub returns-in-Ok-clause-why : goal.returns-in-Ok-clause-why
returns-in-Ok-clause-why c =
    exact_written (shape c.args.extents.now).apart (WritesPart c.args.chosen.portion.without_deletions c.args.self.now c.args.chosen.portion.newest) c.args.extents.now (reason_of c.args.chosen.purpose) c.args.graph.now.staging (map named_entry c.args.chosen.run.entries.items)
    (c.requires.run.merged, some_left (goal.at.returns-in-Ok-clause-why c).Else-is_empty)
    (λ es writes. part_writes c.args.chosen.portion.without_deletions c.args.self.now c.args.chosen.portion.newest (map named_entry c.args.chosen.run.entries.items) es c.requires.run.merged writes)
    (Ok c.in-Ok.version) c.in-Ok.ensures.why

pub returns-in-Err-clause-why : goal.returns-in-Err-clause-why
returns-in-Err-clause-why c =
    exact_written (shape c.args.extents.now).apart (WritesPart c.args.chosen.portion.without_deletions c.args.self.now c.args.chosen.portion.newest) c.args.extents.now (reason_of c.args.chosen.purpose) c.args.graph.now.staging (map named_entry c.args.chosen.run.entries.items)
    (c.requires.run.merged, some_left (goal.at.returns-in-Err-clause-why c).Else-is_empty)
    (λ es writes. part_writes c.args.chosen.portion.without_deletions c.args.self.now c.args.chosen.portion.newest (map named_entry c.args.chosen.run.entries.items) es c.requires.run.merged writes)
    {T = ℕ} (Err c.in-Err.refusal) c.in-Err.ensures.why
