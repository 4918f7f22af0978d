use Rattle.std.proofs.Common.{Bool, ◌∙◌, ◌≡◌, ◌≢◌, ◌<◌, ◌≤◌, [], ◌∷◌, Ok, Err, false, arith, ap, length, map, subst, sym, List, ℕ, Vec, vec_len}
use Rattle.std.specs.List.{AllByRecursion}
use Rattle.std.specs.declared.alloc.Global.{Global}
use Rattle.cs_frame.specs.declared.identifiers.ShardId.{ShardId}
use Rattle.law_machine.specs.Format.{Format}
use Rattle.law_machine.specs.Element.{Entry, Run}
use Rattle.law_machine.specs.Extents.{ForRun}
use Rattle.law_machine.specs.Geometry.{most_runs_in, weigh_in}
use Rattle.law_machine.specs.Index.{named_weight, names, run_weight}
use Rattle.cs_extent.specs.Places.{GoesIn}
use Rattle.cs_extent.specs.State.{shape}
use Rattle.cs_frame.proofs.GeometryLaws.{bounds}
use Rattle.cs_index.proofs.OfFormat.{most_runs}
use Rattle.law_machine.specs.Tally.{shards}
use Rattle.cs_index.specs.contracts.indexes.Index.{the_view}
use Rattle.cs_index.specs.declared.stored_runs.StoredRun.{StoredRun}
use Rattle.cs_frame.specs.Formats.{place_of}
use Rattle.cs_frame.specs.Locators.{KeepFormat}
use Rattle.cs_frame.specs.Places.{Listed}
use Rattle.cs_index.specs.Held.{AreCounts}
use Rattle.cs_index.specs.Live.{IsClear}
use Rattle.cs_index.specs.Staged.{IsPartStagedBy, IsRunStagedBy, WritesPart, run_frame}
use Rattle.cs_index.specs.State.{KeepTo, RunsKeepTo, index_of, named_entry, newest_first, state_of}
use Rattle.cs_index.proofs.Marks.{places_keep, run_placed}
use Rattle.cs_index.proofs.Exact.{exact_table, full_one, goes_some, part_one, part_writes, table_run}
use Rattle.cs_index.proofs.Staging.{is_run, pushed_index, pushed_runs, pushed_whole, table_keeps, table_light}
use Rattle.cs_index.proofs.Weights.{shape_light}
use Rattle.cs_index.proofs.Whole.{length-newest, no_ids}
use Rattle.cs_index.proofs.indexes.Index.stage_table.Goals as goal
use Rattle.cs_index.proofs.indexes.Index.stage_table.Goals.{After-deref, After-push_reserved}

few_runs : (c : After-deref) → length (newest_first c.self.inside.runs.items) < most_runs_in c.args.extents.now.format
few_runs c = rw (← c.self.view_is) at c.requires.few

some_entries : (c : After-deref) → map named_entry c.self.inside.table.entries.items ≢ []
some_entries c = rw (← c.self.view_is) at c.requires.some

light : (c : After-deref) → run_weight (weigh_in c.args.extents.now.format) (map named_entry c.self.inside.table.entries.items) ≤ (shape c.args.extents.now).most_weight
light c =
    let limit = rw (← c.self.view_is) at c.requires.limit in
    let format = rw (← c.self.view_is) at c.requires.format in
    let i = c.self.inside in
    shape_light (the_view i) c.args.extents.now (map named_entry i.table.entries.items) format limit (table_light i.table.entries.items i.runs.items i.format i.limit i.room c.self.invariant.whole)

pub stage_run-requires-clause-run : goal.stage_run-requires-clause-run
stage_run-requires-clause-run c =
    let format = rw (← c.self.view_is) at c.requires.format in
    let i = c.self.inside in
    is_run (record { entries = c.self.inside.table.entries }) c.args.extents.now.format c.args.extents.now.pages c.self.invariant.ids c.self.invariant.whole.ascending c.self.invariant.whole.short (some_entries c)
    (bounds _ _ _ _ c.extent_count-extents.ensures.whole.geometry).most_pages (light c)
    (subst (λ (f : Format). AllByRecursion (λ x. KeepTo f x.locators) (map named_entry i.table.entries.items)) format (table_keeps i.table.entries.items i.runs.items i.format i.limit i.room c.self.invariant.whole))

pub stage_run-requires-clause-marks : goal.stage_run-requires-clause-marks
stage_run-requires-clause-marks c =
    let format = rw (← c.self.view_is) at c.requires.format in
    subst (λ (rs : List StoredRun). KeepFormat c.args.extents.now.format (map (λ run. run.place) rs)) (sym (c.deref.ensures.value ∙ c.in_ok-reserve.ensures.items))
    (places_keep c.args.extents.now.format c.self.inside.runs.items (subst (λ (f : Format). RunsKeepTo f (newest_first c.self.inside.runs.items)) format c.self.invariant.whole.placed))

pub run_fits-requires-clause-weight : goal.run_fits-requires-clause-weight
run_fits-requires-clause-weight c =
    let limit = rw (← c.self.view_is) at c.requires.limit in
    let format = rw (← c.self.view_is) at c.requires.format in
    let i = c.self.inside in
    shape_light (the_view i) c.args.extents.now (map named_entry i.table.entries.items) format limit (table_light i.table.entries.items i.runs.items i.format i.limit i.room c.self.invariant.whole)

pub returns-then-not-run_fits-clause-why : goal.returns-then-not-run_fits-clause-why
returns-then-not-run_fits-clause-why c =
    rw (← c.self.view_is) (full_one (WritesPart false (the_view c.self.inside) 0) c.args.extents.now ForRun (map named_entry c.self.inside.table.entries.items)
    (λ es writes. (part_writes false (the_view c.self.inside) 0 (map named_entry c.self.inside.table.entries.items) es (table_run (the_view c.self.inside) c.self.invariant.whole.ascending) writes, writes.1))
    (shape c.args.extents.now).apart c.requires.together (table_run (the_view c.self.inside) c.self.invariant.whole.ascending, c.if-not-run_fits.ensures.0) c.if-not-run_fits.ensures.1)

pub stage_run-requires-clause-placed : goal.stage_run-requires-clause-placed
stage_run-requires-clause-placed c =
    goes_some ((e : ℕ) × GoesIn c.args.extents.now ForRun (length (run_frame c.args.extents.now (map named_entry c.self.inside.table.entries.items))) e) (map named_entry c.self.inside.table.entries.items) (some_entries c) c.if-not-run_fits.ensures

pub stage_run-requires-clause-weight : goal.stage_run-requires-clause-weight
stage_run-requires-clause-weight c = light c

pub stage_run-requires-clause-few : goal.stage_run-requires-clause-few
stage_run-requires-clause-few c =
    omega (arith, few_runs c, length-newest c.self.inside.runs.items, ap length (c.deref.ensures.value ∙ c.in_ok-reserve.ensures.items))

pub returns-in-Err-clause-why : goal.returns-in-Err-clause-why
returns-in-Err-clause-why c =
    let some = some_entries (goal.at.returns-in-Err-clause-why c).After-deref in
    rw (← c.self.view_is) (exact_table {T = ℕ} (shape c.args.extents.now).apart (the_view c.self.inside) c.args.extents.now c.args.graph.now.staging (Err c.in-Err.refusal) c.requires.together c.self.invariant.whole.ascending some c.if-not-run_fits.ensures c.in-Err.ensures.why)

none_left : (c : After-push_reserved) → c.replace-entries.new.dest.items ≡ []
none_left c = ap (λ (v : Vec (ShardId × Listed) Global). v.items) c.replace-entries.ensures.after ∙ c.new.ensures.items

taken : (c : After-push_reserved) → c.replace-entries.result.items ≡ c.self.inside.table.entries.items
taken c = ap (λ (v : Vec (ShardId × Listed) Global). v.items) c.replace-entries.ensures.value

runs_are : (c : After-push_reserved) → newest_first c.push_reserved.new.self.items ≡ record { place = place_of c.in-Ok.place; entries = map named_entry c.self.inside.table.entries.items } ∷ newest_first c.self.inside.runs.items
runs_are c =
    pushed_runs c.self.inside.table.entries.items c.replace-entries.new.dest.items c.self.inside.runs.items c.reserve.new.self.items c.push_reserved.new.self.items (record { place = c.in-Ok.place; entries = c.replace-entries.result })
    c.push_reserved.ensures.items c.in_ok-reserve.ensures.items (taken c) (none_left c)

index_is : (c : After-push_reserved) → index_of (state_of c.replace-entries.new.dest.items c.push_reserved.new.self.items c.self.inside.format c.self.inside.limit 0) ≡ index_of (state_of c.self.inside.table.entries.items c.self.inside.runs.items c.self.inside.format c.self.inside.limit c.self.inside.room)
index_is c =
    pushed_index c.self.inside.table.entries.items c.replace-entries.new.dest.items c.self.inside.runs.items c.reserve.new.self.items c.push_reserved.new.self.items (record { place = c.in-Ok.place; entries = c.replace-entries.result })
    c.push_reserved.ensures.items c.in_ok-reserve.ensures.items (taken c) (none_left c) c.self.inside.format c.self.inside.limit c.self.inside.room

state_is : (c : After-push_reserved) → state_of c.replace-entries.new.dest.items c.push_reserved.new.self.items c.self.inside.format c.self.inside.limit 0
    ≡ record { table = []; runs = record { place = place_of c.in-Ok.place; entries = map named_entry c.self.inside.table.entries.items } ∷ newest_first c.self.inside.runs.items; format = c.self.inside.format; limit = c.self.inside.limit; room = 0 }
state_is c =
    let table : map named_entry c.replace-entries.new.dest.items ≡ [] = ap (map named_entry) (none_left c) in
    let runs = runs_are c in
    λ i. record { table = table i; runs = runs i; format = c.self.inside.format; limit = c.self.inside.limit; room = 0 }

pub invariant_of-self-in-Ok : goal.invariant_of-self-in-Ok
invariant_of-self-in-Ok c =
    let i = c.self.inside in
    let at = (goal.at.invariant_of-self-in-Ok c).After-push_reserved in
    let some = rw (← c.self.view_is) at c.requires.some in
    let format = rw (← c.self.view_is) at c.requires.format in
    let placed = subst (λ (f : Format). KeepTo f (place_of c.in-Ok.place ∷ [])) (sym format)
    (run_placed (shape c.args.extents.now).apart c.args.extents.now c.args.graph.now ForRun (map named_entry c.self.inside.table.entries.items) (place_of c.in-Ok.place) c.stage_run.new.extents c.in-Ok.ensures.staged.0 c.in-Ok.ensures.staged.1) in
    let few : length (newest_first i.runs.items) < 24 = omega (arith, few_runs (goal.at.invariant_of-self-in-Ok c).After-deref, most_runs c.args.extents.now.format) in
    record {
      whole = pushed_whole i.table.entries.items c.replace-entries.new.dest.items i.runs.items c.reserve.new.self.items c.push_reserved.new.self.items (record { place = c.in-Ok.place; entries = c.replace-entries.result })
          c.push_reserved.ensures.items c.in_ok-reserve.ensures.items (taken at) (none_left at) i.format i.limit i.room some few placed c.self.invariant.whole;
      ids = no_ids c.replace-entries.new.dest.items (none_left at);
      count = c.self.invariant.count ∙ ap (λ (es : List Entry). names es) (sym (index_is at));
      lives = c.self.invariant.lives ∙ ap (λ (es : List Entry). shards es) (sym (index_is at));
      weighs = c.self.invariant.weighs ∙ ap (λ (es : List Entry). named_weight (weigh_in i.format) es) (sym (index_is at));
      counts = subst (λ (es : List Entry). AreCounts i.on.items es) (sym (index_is at)) c.self.invariant.counts;
      small = c.self.invariant.small;
      fits = (let e : vec_len c.replace-entries.new.dest ≡ 0 = ap (λ (v : Vec (ShardId × Listed) Global). vec_len v) c.replace-entries.ensures.after ∙ c.new.ensures.len in omega (arith, e));
      clear = subst (λ (es : List Entry). IsClear es i.cleared) (sym (index_is at)) c.self.invariant.clear;
    }

pub returns-in-Ok-clause-staged : goal.returns-in-Ok-clause-staged
returns-in-Ok-clause-staged c =
    let at = (goal.at.returns-in-Ok-clause-staged c).After-push_reserved in
    let was = (goal.at.returns-in-Ok-clause-staged c).After-deref in
    rw (← c.self.view_is) (subst (λ (b : Bool). IsPartStagedBy b false 0 (the_view c.self.inside) c.args.extents.now c.args.graph.now ForRun c.in-Ok.version c.args.commands (state_of c.replace-entries.new.dest.items c.push_reserved.new.self.items c.self.inside.format c.self.inside.limit 0) c.stage_run.new.extents c.stage_run.new.graph) c.requires.together
    (part_one (shape c.args.extents.now).apart false 0 (the_view c.self.inside) c.args.extents.now c.args.graph.now ForRun c.in-Ok.version c.args.commands
    (state_of c.replace-entries.new.dest.items c.push_reserved.new.self.items c.self.inside.format c.self.inside.limit 0) c.stage_run.new.extents c.stage_run.new.graph (map named_entry c.self.inside.table.entries.items) (table_run (the_view c.self.inside) c.self.invariant.whole.ascending)
    (place_of c.in-Ok.place) (some_entries was)
    (subst (λ (rs : List Run). IsRunStagedBy (shape c.args.extents.now).apart c.args.extents.now c.args.graph.now ForRun (map named_entry c.self.inside.table.entries.items) rs (place_of c.in-Ok.place) c.in-Ok.version c.args.commands c.stage_run.new.extents c.stage_run.new.graph)
    (ap newest_first (c.deref.ensures.value ∙ c.in_ok-reserve.ensures.items)) c.in-Ok.ensures.staged)
    (state_is at)))

pub returns-in-Ok-clause-why : goal.returns-in-Ok-clause-why
returns-in-Ok-clause-why c =
    let some = some_entries (goal.at.returns-in-Ok-clause-why c).After-deref in
    rw (← c.self.view_is) (exact_table {T = ℕ} (shape c.args.extents.now).apart (the_view c.self.inside) c.args.extents.now c.args.graph.now.staging (Ok c.in-Ok.version) c.requires.together c.self.invariant.whole.ascending some c.if-not-run_fits.ensures c.in-Ok.ensures.why)
