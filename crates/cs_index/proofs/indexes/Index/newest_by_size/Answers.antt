use Rattle.std.proofs.Common.{◌≡◌, ◌<◌, ◌^◌, ◌∙◌, ap, arith, length, map, subst, sym, ℕ, List}
use Rattle.std.specs.List.{AllByRecursion}
use Rattle.std.proofs.lemmas.List.{length-map}
use Rattle.cs_index.specs.contracts.indexes.Index.{the_view}
use Rattle.cs_index.specs.declared.stored_runs.StoredRun.{StoredRun}
use Rattle.cs_index.specs.State.{named_entry, newest_first}
use Rattle.law_machine.proofs.Counting.{ascending_names}
use Rattle.law_machine.specs.Geometry.{weigh_in}
use Rattle.law_machine.specs.Index.{names}
use Rattle.law_machine.specs.Merges.{reaching, sizes}
use Rattle.cs_index.proofs.Sizes.{reached_by_quarter, reached_by_runs, runs_small}
use Rattle.cs_index.proofs.Staging.{table_few}
use Rattle.cs_index.proofs.Whole.{length-newest}
use Rattle.cs_index.proofs.indexes.Index.newest_by_size.Goals as goal

pub overflow_mul-fourfold : goal.overflow_mul-fourfold
overflow_mul-fourfold c = omega (arith, c.requires, c.dead_weight-fourfold.ensures.limit)

pub returns-then-self-fourfold : goal.returns-then-self-fourfold
returns-then-self-fourfold c = rw (← c.self.view_is) (λ S rule most_is runs_is.
    let dead = rw (← c.self.view_is) at c.dead_weight-fourfold.ensures.value in
    let all = reached_by_quarter S (the_view c.self.inside) c.dead_weight-fourfold.result c.self.inside.limit (weigh_in c.self.inside.format) rule dead most_is c.if-self-fourfold.true in
    omega (arith, all, c.len.ensures, c.self.inside.runs.ok.0, length-newest c.self.inside.runs.items))

pub newest_reached-requires-clause-short : goal.newest_reached-requires-clause-short
newest_reached-requires-clause-short c =
    let small = rw (← c.self.view_is) at c.requires in
    let i = c.self.inside in
    subst (λ (rs : List StoredRun). AllByRecursion (λ (run : StoredRun). length run.entries.items < 2 ^ 32) rs) (sym c.deref.ensures.value) (runs_small i.table.entries.items i.runs.items i.format i.limit i.room small c.self.invariant.whole)

pub newest_reached-requires-clause-few : goal.newest_reached-requires-clause-few
newest_reached-requires-clause-few c =
    omega (arith, ap (λ (rs : List StoredRun). length rs) c.deref.ensures.value, length-newest c.self.inside.runs.items, c.self.invariant.whole.few)

pub newest_reached-requires-clause-entries : goal.newest_reached-requires-clause-entries
newest_reached-requires-clause-entries c =
    let small = rw (← c.self.view_is) at c.requires in
    let i = c.self.inside in
    omega (arith, small, c.len-2.ensures, i.table.entries.ok.0, table_few i.table.entries.items i.runs.items i.format i.limit i.room c.self.invariant.whole)

pub returns : goal.returns
returns c = rw (← c.self.view_is) (λ S rule most_is runs_is.
    let i = c.self.inside in
    let dead = rw (← c.self.view_is) at c.dead_weight-fourfold.ensures.value in
    let few = reached_by_runs S (the_view c.self.inside) c.dead_weight-fourfold.result i.limit (weigh_in i.format) rule dead most_is c.if-self-fourfold.false in
    let entries : c.len-2.result ≡ names (map named_entry i.table.entries.items) = omega (arith, c.len-2.ensures, i.table.entries.ok.0, length-map i.table.entries.items named_entry, ascending_names (map named_entry i.table.entries.items) c.self.invariant.whole.ascending) in
    c.newest_reached.ensures S runs_is
    ∙ ap (λ (rs : List StoredRun). reaching S (sizes (newest_first rs)) c.len-2.result) c.deref.ensures.value
    ∙ ap (λ (n : ℕ). reaching S (sizes (newest_first i.runs.items)) n) entries
    ∙ sym few)
