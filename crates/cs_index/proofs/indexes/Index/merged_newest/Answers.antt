use Rattle.std.proofs.Common.{◌≡◌, ◌+◌, ◌-◌, ◌∙◌, ◌++◌, ap, ap₂, arith, length, map, subst, sym, take, drop, ℕ, List}
use Rattle.cs_frame.specs.declared.identifiers.ShardId.{ShardId}
use Rattle.cs_frame.specs.Places.{Listed}
use Rattle.cs_index.specs.contracts.indexes.Index.{the_view}
use Rattle.cs_index.specs.declared.stored_runs.StoredRun.{StoredRun}
use Rattle.law_machine.specs.Element.{Entry, Run}
use Rattle.law_machine.specs.Index.{entries_of}
use Rattle.law_machine.specs.Merges.{IsRunOf}
use Rattle.cs_index.specs.Merges.{part}
use Rattle.cs_index.specs.Read.{IsReadable}
use Rattle.cs_index.specs.State.{named_entry, newest_first}
use Rattle.cs_index.proofs.Parts.{all_three, behind_place, few_newest, newest_taken, part_light, stored_newest}
use Rattle.cs_index.proofs.Whole.{length-newest}
use Rattle.cs_index.proofs.indexes.Index.merged_newest.Goals as goal
use Rattle.cs_index.proofs.indexes.Index.merged_newest.Goals.{After-deref-2, After-merged_part}

pub overflow_sub-left : goal.overflow_sub-left
overflow_sub-left c =
    let inside = rw (← c.self.view_is) at c.requires in
    omega (arith, inside, c.len.ensures, c.self.inside.runs.ok.0, length-newest c.self.inside.runs.items)

-- the runs that are merged
slice_is : (c : After-deref-2) → take (length c.deref-2.result.now - (c.len.result - c.args.portion.newest)) (drop (c.len.result - c.args.portion.newest) c.deref-2.result.now) ≡ drop (c.len.result - c.args.portion.newest) c.self.inside.runs.items
slice_is c = behind_place (c.len.result - c.args.portion.newest) c.deref-2.result.now ∙ ap (drop (c.len.result - c.args.portion.newest)) c.deref-2.ensures.value

pub merged_part-requires : goal.merged_part-requires
merged_part-requires c =
    let whole = c.self.invariant.whole in
    let inside = rw (← c.self.view_is) at c.requires in
    let n : ℕ = c.len.result - c.args.portion.newest in
    let split : (c.len.result - c.args.portion.newest) + c.args.portion.newest ≡ length c.self.inside.runs.items = omega (arith, inside, c.len.ensures, c.self.inside.runs.ok.0, length-newest c.self.inside.runs.items) in
    subst (λ (rs : List StoredRun). IsReadable c.deref.result.now rs) (sym (slice_is (goal.at.merged_part-requires c).After-deref-2))
    (subst (λ (t : List (ShardId × Listed)). IsReadable t (drop n c.self.inside.runs.items)) (sym c.deref.ensures.value) (record {
      ascending = whole.ascending;
      short = whole.short;
      stored = stored_newest c.self.inside.runs.items n c.args.portion.newest split whole.runs;
      few = few_newest c.self.inside.runs.items n c.args.portion.newest split (omega (arith, whole.few, length-newest c.self.inside.runs.items));
    }))

-- what was merged is the part
part_is : (c : After-merged_part)
    → map named_entry c.deref.result.now ++ entries_of (newest_first (take (length c.deref-2.result.now - (c.len.result - c.args.portion.newest)) (drop (c.len.result - c.args.portion.newest) c.deref-2.result.now))) ≡ part (the_view c.self.inside) c.args.portion.newest
part_is c =
    let inside = rw (← c.self.view_is) at c.requires in
    let n : ℕ = c.len.result - c.args.portion.newest in
    let split : (c.len.result - c.args.portion.newest) + c.args.portion.newest ≡ length c.self.inside.runs.items = omega (arith, inside, c.len.ensures, c.self.inside.runs.ok.0, length-newest c.self.inside.runs.items) in
    ap₂ (λ (t : List (ShardId × Listed)) (rs : List StoredRun). map named_entry t ++ entries_of (newest_first rs)) c.deref.ensures.value
    (behind_place n c.deref-2.result.now ∙ ap (drop n) c.deref-2.ensures.value)
    ∙ ap (λ (rs : List Run). map named_entry c.self.inside.table.entries.items ++ entries_of rs) (newest_taken c.self.inside.runs.items n c.args.portion.newest split)

pub returns : goal.returns
returns c =
    let is = part_is (goal.at.returns c).After-merged_part in
    rw (← c.self.view_is) (all_three c.merged_part.result _ _ _ _
    (λ run merged ids short.
    let of = subst (λ (es : List Entry). IsRunOf c.args.portion.without_deletions es (map named_entry run.entries.items)) is merged in
    record {
      merged = of;
      ids = ids;
      short = short;
      light = part_light c.args.portion.without_deletions (the_view c.self.inside) c.args.portion.newest (map named_entry run.entries.items) c.self.invariant.whole of;
    })
    c.merged_part.ensures.merged c.merged_part.ensures.ids c.merged_part.ensures.short)
