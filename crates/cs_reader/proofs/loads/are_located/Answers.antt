use Rattle.std.proofs.Common.{List, length, refl, subst}
use Rattle.std.specs.List.{AllByRecursion}
use Rattle.std.proofs.lemmas.Option.{slice_get_read}
use Rattle.cs_frame.specs.declared.identifiers.ShardId.{ShardId}
use Rattle.cs_frame.specs.Places.{Listed}
use Rattle.cs_reader.specs.ImageReads.{IsLocated}
use Rattle.cs_reader.proofs.Loading.{all_more}
use Rattle.cs_reader.proofs.loads.are_located.Goals as goal

pub loop-k-preserved : goal.loop-k-preserved
loop-k-preserved c =
    all_more (λ run. AllByRecursion (λ entry. AllByRecursion (IsLocated c.args.extents.now) entry.1.items) run.entries.items) c.args.runs.now c.loop-k.k c.index-runs-k.result c.loop-k.invariant
    (slice_get_read c.args.runs.now (length c.args.runs.now) c.loop-k.k c.index-runs-k.result refl c.loop-k-test.true c.index-runs-k.is)
    (subst (λ (es : List (ShardId × Listed)). AllByRecursion (λ entry. AllByRecursion (IsLocated c.args.extents.now) entry.1.items) es) c.deref.ensures.value c.if-not-are_entries_located.ensures)
