use Rattle.std.proofs.Common.{◌≡◌, ◌∙◌, ℕ, IfOk, List, ap, length, map, subst, sym}
use Rattle.std.specs.List.{AllByRecursion}
use Rattle.std.proofs.lemmas.Result.{IfOk-weaker}
use Rattle.cs_chunk.specs.Newest.{AreNewest}
use Rattle.cs_core.specs.Views.{View}
use Rattle.cs_disk.specs.Disk.{seen}
use Rattle.cs_extent.specs.State.{State as Extents, extents_of, shape}
use Rattle.cs_index.specs.declared.live.LiveChunk.{LiveChunk}
use Rattle.cs_index.specs.State.{index_of}
use Rattle.cs_inspect.specs.Chunks.{AreLiveChunks, BeginsInside, Chunk, chunk_of}
use Rattle.cs_inspect.specs.Uses.{AreCountedAsRead, AreExtents, heads_of}
use Rattle.cs_inspect.proofs.Inside.{begin_inside, read_of}
use Rattle.cs_inspect.proofs.Reading.{shape_there, tallied_so}
use Rattle.cs_inspect.proofs.Tallied.{bounded_then, counted_as_read, counted_then, extents_so}
use Rattle.cs_inspect.proofs.surveys.uses.Goals as goal
use Rattle.cs_inspect.proofs.surveys.uses.Goals.{After-uses_with}
use Rattle.cs_inspect.proofs.surveys.uses.Given.{Over}

pub tally_chunks-requires : goal.tally_chunks-requires
tally_chunks-requires g c = record {
  inside = subst (λ (cs : List LiveChunk). AllByRecursion (BeginsInside (shape c.args.core.now.store.extents)) (map chunk_of cs)) (sym c.deref.ensures.value)
      (begin_inside (shape c.args.core.now.store.extents) (index_of c.index.result.now) (map chunk_of c.in_ok-chunks.chunks.items) c.index.ensures.places c.in_ok-chunks.ensures);
}

-- the counts of failures before and after the reads
abbrev count_before : (g : Over) (c : After-uses_with g) → ℕ
count_before g c = g.D.PageDisk.failure_count c.args.core.now.disk

abbrev count_after : (g : Over) (c : After-uses_with g) → ℕ
count_after g c = g.D.PageDisk.failure_count c.tally_chunks.new.core.disk

-- what a list of all live chunks is counted as
counts : (g : Over) (c : After-uses_with g) → g.D.PageDisk.honest c.args.core.now.disk → (view : ℕ → List ℕ) (chunks : List Chunk)
    → AreNewest c.args.core.now.store.graph (seen (g.D.PageDisk.state c.args.core.now.disk)) view → AreLiveChunks (index_of c.args.core.now.store.index) chunks
    → IfOk c.uses_with.result (λ uses. AreCountedAsRead (count_before g c) (count_after g c) (heads_of c.args.core.now.store.extents view chunks) uses.items)
counts g c honest view chunks are live =
    let first = c.args.core.now in
    let S = shape first.store.extents in
    let x = c.extents.result.now in
    let tally = c.in_ok-tally.ensures in
    let sizes : S.extents ≡ (shape x).extents = sym (ap (λ (y : Extents). (shape y).extents) c.extents.ensures ∙ ap (λ S. S.extents) (shape_there first c.tally_chunks.new.core tally.same)) in
    let read = tally.tallied.0 in
    let found = read_of first.store.extents view first.store.index c.index.result.now c.in_ok-chunks.chunks.items c.deref.result.now chunks (count_before g c) (count_after g c) read c.index.ensures.index c.deref.ensures.value c.in_ok-chunks.ensures live (tally.tallied.2 honest view are) in
    IfOk-weaker c.uses_with.result _ _
    (λ uses of. counted_as_read (shape x).extents (extents_of x) c.deref-2.result.now c.deref-3.result.now uses.items (count_before g c) (count_after g c) (heads_of first.store.extents view chunks) read of
    (ap length c.deref-2.ensures.value ∙ tally.live ∙ sizes) (ap length c.deref-3.ensures.value ∙ tally.unreadable ∙ sizes)
    (tallied_so read c.in_ok-tally.tally.live.items c.in_ok-tally.tally.unreadable.items _ _ c.deref-2.ensures.value c.deref-3.ensures.value tally.tallied.1) found)
    c.uses_with.ensures

pub returns-clause-read : goal.returns-clause-read
returns-clause-read g c = λ honest view chunks are live. counts g (goal.at.returns-clause-read g c).After-uses_with honest view chunks are live

pub returns-clause-counted : goal.returns-clause-counted
returns-clause-counted g c = λ honest still view chunks are live.
    let end = (goal.at.returns-clause-counted g c).After-uses_with in
    IfOk-weaker c.uses_with.result _ _ (λ uses read. counted_then (count_before g end) (count_after g end) (heads_of c.args.core.now.store.extents view chunks) uses.items read still) (counts g end honest view chunks are live)

pub returns-clause-bounded : goal.returns-clause-bounded
returns-clause-bounded g c = λ honest view chunks are live.
    let end = (goal.at.returns-clause-bounded g c).After-uses_with in
    IfOk-weaker c.uses_with.result _ _ (λ uses read. bounded_then (count_before g end) (count_after g end) (heads_of c.args.core.now.store.extents view chunks) uses.items read) (counts g end honest view chunks are live)

pub returns-clause-extents : goal.returns-clause-extents
returns-clause-extents g c = IfOk-weaker c.uses_with.result _ _
    (λ uses of. subst (λ (y : Extents). AreExtents (shape y).extents (extents_of y) uses.items) (c.extents.ensures ∙ ap (λ (v : View g.row.D.Denot). v.store.extents) c.tally_chunks.ensures.same)
    (extents_so (shape c.extents.result.now).extents (extents_of c.extents.result.now) c.deref-2.result.now c.deref-3.result.now uses.items of))
    c.uses_with.ensures
