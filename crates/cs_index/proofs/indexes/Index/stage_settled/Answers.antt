use Rattle.std.proofs.Common.{◌≡◌, ◌∙◌, ap, arith, false, map, refl, subst, sym, List, Vec, ℕ}
use Rattle.std.proofs.lemmas.Result.{err_from_is_err_and}
use Rattle.std.specs.declared.alloc.Global.{Global}
use Rattle.law_machine.specs.Element.{Entry}
use Rattle.law_machine.specs.Geometry.{weigh_in}
use Rattle.law_machine.specs.Index.{entries_of, live_at, named_weight, names}
use Rattle.law_machine.specs.Tally.{shards}
use Rattle.cs_index.specs.contracts.indexes.Index.{the_view}
use Rattle.cs_index.specs.Copies.{newest_copies, settle_table}
use Rattle.cs_index.specs.declared.stored_runs.StoredRun.{StoredRun}
use Rattle.cs_index.specs.Merges.{part}
use Rattle.cs_index.specs.Apart.{IsStagedApart}
use Rattle.cs_index.specs.State.{State, index_of, named_entry, newest_first, state_of}
use Rattle.cs_index.proofs.Exact.{table_run}
use Rattle.cs_index.proofs.Living.{none_at_first}
use Rattle.cs_index.proofs.Merged.{run_one}
use Rattle.cs_index.proofs.Settled.{settled_from, settled_so, table_is, whole_again}
use Rattle.cs_index.proofs.Tallies.{counts_as}
use Rattle.cs_index.proofs.indexes.Index.stage_settled.Goals as goal
use Rattle.cs_index.proofs.indexes.Index.stage_settled.Goals.{After-replace-runs}

same : (c : After-replace-runs) → map named_entry c.in_ok-copied.copied.table.entries.items ≡ map named_entry c.self.inside.table.entries.items
same c =
    let copy = rw (← c.self.view_is) at c.in_ok-copied.ensures.copy in
    run_one false (part (the_view c.self.inside) 0) (map named_entry c.in_ok-copied.copied.table.entries.items) (map named_entry c.self.inside.table.entries.items) copy (table_run (the_view c.self.inside) c.self.invariant.whole.ascending)

taken : (c : After-replace-runs) → c.replace-runs.result.items ≡ c.self.inside.runs.items
taken c = ap (λ (v : Vec StoredRun Global). v.items) c.replace-runs.ensures.value

pub invariant_of-settled : goal.invariant_of-settled
invariant_of-settled c =
    let i = c.self.inside in
    let at = (goal.at.invariant_of-settled c).After-replace-runs in
    let is : index_of (state_of c.in_ok-copied.copied.table.entries.items c.replace-runs.result.items i.format i.limit 0) ≡ index_of (state_of i.table.entries.items i.runs.items i.format i.limit i.room)
    = table_is i.table.entries.items c.in_ok-copied.copied.table.entries.items i.runs.items c.replace-runs.result.items i.format i.limit i.room (same at) (ap newest_first (taken at)) in
    record {
      whole = whole_again i.table.entries.items c.in_ok-copied.copied.table.entries.items i.runs.items c.replace-runs.result.items i.format i.limit i.room (same at) (ap newest_first (taken at)) c.self.invariant.whole;
      ids = c.in_ok-copied.ensures.ids;
      count = c.self.invariant.count ∙ ap (λ (es : List Entry). names es) (sym is);
      lives = c.self.invariant.lives ∙ ap (λ (es : List Entry). shards es) (sym is);
      weighs = c.self.invariant.weighs ∙ ap (λ (es : List Entry). named_weight (weigh_in i.format) es) (sym is);
      counts = (let counts = rw (← c.self.view_is) at c.in_ok-copied.ensures.counts in counts_as c.in_ok-copied.copied.on.items (index_of (the_view c.self.inside)) (index_of (state_of c.in_ok-copied.copied.table.entries.items c.replace-runs.result.items i.format i.limit 0)) (λ id. ap (λ (es : List Entry). live_at es id) is) counts);
      small = c.self.invariant.small;
      fits = omega (arith, c.in_ok-copied.copied.table.entries.ok.1);
      clear = none_at_first (index_of (state_of c.in_ok-copied.copied.table.entries.items c.replace-runs.result.items i.format i.limit 0)) 0;
    }

pub returns-in-Ok-clause-settled : goal.returns-in-Ok-clause-settled
returns-in-Ok-clause-settled c =
    let at = (goal.at.returns-in-Ok-clause-settled c).After-replace-runs in
    let done = c.in-Ok.ensures.settled in
    rw (← c.self.view_is) (
      done.0,
      settled_from (the_view c.self.inside) _ done.0 (newest_copies c.args.copies.now) (same at) (ap newest_first (taken at)) refl refl done.1,
      subst (λ (t : State). IsStagedApart c.in-Ok.ensures.settled.0 c.args.extents.now c.args.graph.now c.in-Ok.version c.args.commands t c.settle_and_stage.new.extents c.settle_and_stage.new.graph × ((id : ℕ) → live_at (index_of t) id ≡ live_at (index_of c.in-Ok.ensures.settled.0) id))
          (sym c.settled.view_is) done.2,
      done.3,
    )

pub returns-in-Err-clause-settled : goal.returns-in-Err-clause-settled
returns-in-Err-clause-settled c =
    let at = (goal.at.returns-in-Err-clause-settled c).After-replace-runs in
    let done = c.in-Err.ensures.settled in
    rw (← c.self.view_is) (done.0, settled_from (the_view c.self.inside) _ done.0 (newest_copies c.args.copies.now) (same at) (ap newest_first (taken at)) refl refl done.1, done.2, done.3)

pub returns-in_err-copied-clause-settled : goal.returns-in_err-copied-clause-settled
returns-in_err-copied-clause-settled c =
    let p = err_from_is_err_and c.from_residual.result c.from_residual.ensures.1 in
    rw (p.1, p.2) (
      record c.args.self.now { table = settle_table (entries_of c.args.self.now.runs) c.args.self.now.table (newest_copies c.args.copies.now) },
      settled_so c.args.self.now (newest_copies c.args.copies.now),
      tt,
      tt,
    )
