use Rattle.std.proofs.Common.{◌≡◌, ◌∙◌, List, ap, get_or, map, subst, sym}
use Rattle.std.specs.Prelude.{option_copied, option_map}
use Rattle.std.proofs.lemmas.Option.{slice_get-get_or, slice_get-map}
use Rattle.cs_frame.specs.declared.identifiers.ShardId.{ShardId}
use Rattle.cs_frame.specs.Places.{Listed}
use Rattle.cs_index.specs.declared.stored_runs.StoredRun.{StoredRun}
use Rattle.cs_index.specs.Sorted.{IsStart}
use Rattle.cs_index.specs.State.{named_entry}
use Rattle.cs_index.proofs.Merging.{next_at, next_run}
use Rattle.cs_index.proofs.Newest.{ascending_at}
use Rattle.cs_index.proofs.stored_runs.first_in_runs.Goals as goal

pub loop-k-preserved : goal.loop-k-preserved
loop-k-preserved c =
    let entries_are : c.deref.result.now ≡ (get_or c.args.runs.now c.loop-k.k c.index-runs-k.result).entries.items = c.deref.ensures.value ∙ ap (λ (r : StoredRun). r.entries.items) c.index-runs-k.is in
    λ after starts.
    next_run c.args.runs.now c.loop-k.k c.index-runs-k.result c.deref.result.now after (option_map named_entry (option_copied c.entry_at.result)) (option_map named_entry (option_copied c.loop-k.first))
    (option_map named_entry (option_copied c.lesser-first.result)) c.loop-k-test.true entries_are (c.loop-k.invariant after starts)
    (next_at after (get_or c.args.places.now c.loop-k.k 0) (map named_entry c.deref.result.now) (option_map named_entry (option_copied c.entry_at.result))
    (ascending_at c.args.runs.now c.loop-k.k c.index-runs-k.result c.deref.result.now c.loop-k-test.true entries_are c.requires.stored)
    (subst (λ (es : List (ShardId × Listed)). IsStart after (get_or c.args.places.now c.loop-k.k 0) (map named_entry es)) (sym entries_are)
    (starts c.loop-k.k (get_or c.args.runs.now c.loop-k.k c.index-runs-k.result) (slice_get-get_or c.args.runs.now c.loop-k.k c.index-runs-k.result c.loop-k-test.true)))
    (slice_get-map named_entry c.deref.result.now (get_or c.args.places.now c.loop-k.k 0) ∙ ap (option_map named_entry) (sym c.entry_at.ensures)))
    c.lesser-first.ensures
