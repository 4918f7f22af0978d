use Rattle.std.proofs.Common.{◌≡◌, ◌∙◌, List, ap, length, map, subst, sym}
use Rattle.std.specs.List.{AllByRecursion}
use Rattle.cs_core.specs.Views.{View}
use Rattle.cs_extent.specs.State.{State as Extents, extents_of, shape}
use Rattle.cs_index.specs.declared.live.LiveChunk.{LiveChunk}
use Rattle.cs_index.specs.State.{index_of}
use Rattle.cs_inspect.specs.Chunks.{BeginsInside, chunk_of}
use Rattle.cs_inspect.specs.Uses.{AreExtents, heads_of}
use Rattle.cs_inspect.proofs.Inside.{begin_inside, read_of}
use Rattle.cs_inspect.proofs.Reading.{shape_there, tallied_so}
use Rattle.cs_inspect.proofs.Tallied.{extents_so, surveyed}
use Rattle.cs_inspect.proofs.surveys.survey_extents.Goals as goal

pub tally_chunks-requires : goal.tally_chunks-requires
tally_chunks-requires g c = record {
  inside = subst (λ (cs : List LiveChunk). AllByRecursion (BeginsInside (shape c.args.core.now.store.extents)) (map chunk_of cs)) (sym c.deref.ensures.value)
      (begin_inside (shape c.args.core.now.store.extents) (index_of c.index.result.now) (map chunk_of c.in_ok-chunks.chunks.items) c.index.ensures.places c.in_ok-chunks.ensures);
}

pub returns-clause-extents : goal.returns-clause-extents
returns-clause-extents g c = subst (λ (y : Extents). AreExtents (shape y).extents (extents_of y) c.in_ok-uses.uses.items) (c.extents.ensures ∙ ap (λ (v : View g.row.D.Denot). v.store.extents) c.in_ok-tally.ensures.same)
    (extents_so (shape c.extents.result.now).extents (extents_of c.extents.result.now) c.deref-2.result.now c.deref-3.result.now c.in_ok-uses.uses.items c.in_ok-uses.ensures)

pub returns-clause-read : goal.returns-clause-read
returns-clause-read g c = λ honest view chunks are live.
    let first = c.args.core.now in
    let S = shape first.store.extents in
    let x = c.extents.result.now in
    let tally = c.in_ok-tally.ensures in
    let before = g.D.PageDisk.failure_count first.disk in
    let after = g.D.PageDisk.failure_count c.tally_chunks.new.core.disk in
    let sizes : S.extents ≡ (shape x).extents = sym (ap (λ (y : Extents). (shape y).extents) c.extents.ensures ∙ ap (λ S. S.extents) (shape_there first c.tally_chunks.new.core tally.same)) in
    let read = tally.tallied.0 in
    let found = read_of first.store.extents view first.store.index c.index.result.now c.in_ok-chunks.chunks.items c.deref.result.now chunks before after read c.index.ensures.index c.deref.ensures.value c.in_ok-chunks.ensures live (tally.tallied.2 honest view are) in
    surveyed (shape x).extents (extents_of x) c.deref-2.result.now c.deref-3.result.now c.in_ok-uses.uses.items before after (heads_of first.store.extents view chunks) read c.in_ok-uses.ensures
    (ap length c.deref-2.ensures.value ∙ tally.live ∙ sizes) (ap length c.deref-3.ensures.value ∙ tally.unreadable ∙ sizes)
    (tallied_so read c.in_ok-tally.tally.live.items c.in_ok-tally.tally.unreadable.items _ _ c.deref-2.ensures.value c.deref-3.ensures.value tally.tallied.1) found
    c.in_ok-tally.tally.greatest tally.tallied.3
