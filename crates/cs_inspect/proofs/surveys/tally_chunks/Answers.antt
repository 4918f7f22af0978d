use Rattle.std.proofs.Common.{◌≡◌, ◌∙◌, ◌<◌, ◌∷◌, ◌++◌, [], ℕ, List, ap, arith, get_or, length, map, refl, replicate, rules, subst, sym, take_all}
use Rattle.std.proofs.lemmas.Option.{slice_get-get_or}
use Rattle.cs_disk.proofs.OnlyRead.{reads_on}
use Rattle.cs_extent.specs.State.{shape}
use Rattle.cs_index.specs.declared.live.LiveChunk.{LiveChunk}
use Rattle.law_machine.specs.Device.{Shape}
use Rattle.cs_inspect.specs.Chunks.{chunk_of}
use Rattle.cs_inspect.specs.Uses.{AreRead, AreTallied, heads_of, missing_in, pages_in}
use Rattle.cs_inspect.proofs.Brim.{greatest_read}
use Rattle.cs_inspect.proofs.Reading.{all_written, extents_there, heads_step, newest_there, no_sums, none_read, place_inside, same_on, shape_there, tallied_so}
use Rattle.cs_inspect.proofs.surveys.tally_chunks.Goals as goal

-- the chunk at a place
abbrev at_place : List LiveChunk → ℕ → LiveChunk
at_place xs k = get_or xs k (record { id = record { 0 = [] }; chunk = 0; place = record { extent = 0; page = 0; generation = 0; mark = 0 } })

pub loop-k-init : goal.loop-k-init
loop-k-init g c =
    let n = c.extent_count-extents.result in record {
      live_size = search rules;
      unreadable_size = search rules;
      same = refl;
      disk = search rules;
      tallied = (
        [],
        tallied_so [] (replicate n 0) (replicate n 0) c.in_ok-live.live.items c.in_ok-unreadable.unreadable.items (c.in_ok-live.ensures.items_if_clones_equal (λ y is. is)) (c.in_ok-unreadable.ensures.items_if_clones_equal (λ y is. is))
            (no_sums pages_in n, no_sums missing_in n),
        λ h view are. none_read (g.D.PageDisk.failure_count c.args.core.now.disk),
        refl,
      );
    }

pub pages_at-requires-clause-extent : goal.pages_at-requires-clause-extent
pages_at-requires-clause-extent g c =
    let first = c.args.core.now in
    let chunk = at_place c.args.chunks.now c.loop-k.k in
    subst (λ (S : Shape). chunk.place.extent < S.extents) (sym (shape_there first c.loop-k.core c.loop-k.invariant.same)) (place_inside (shape first.store.extents) c.args.chunks.now c.loop-k.k _ c.loop-k-test.true c.requires.inside).0

pub pages_at-requires-clause-page : goal.pages_at-requires-clause-page
pages_at-requires-clause-page g c =
    let first = c.args.core.now in
    let chunk = at_place c.args.chunks.now c.loop-k.k in
    subst (λ (S : Shape). chunk.place.page < S.pages) (sym (shape_there first c.loop-k.core c.loop-k.invariant.same)) (place_inside (shape first.store.extents) c.args.chunks.now c.loop-k.k _ c.loop-k-test.true c.requires.inside).1

pub count-requires-clause-live : goal.count-requires-clause-live
count-requires-clause-live g c =
    let S = shape c.args.core.now.store.extents in
    let there : (at_place c.args.chunks.now c.loop-k.k).place.extent < S.extents = (place_inside S c.args.chunks.now c.loop-k.k _ c.loop-k-test.true c.requires.inside).0 in
    let size : length c.deref_mut.result.now ≡ S.extents = ap length c.deref_mut.ensures.value ∙ c.loop-k.invariant.live_size in
    omega (arith, there, size, c.from.ensures)

pub count-requires-clause-unreadable : goal.count-requires-clause-unreadable
count-requires-clause-unreadable g c =
    let S = shape c.args.core.now.store.extents in
    let there : (at_place c.args.chunks.now c.loop-k.k).place.extent < S.extents = (place_inside S c.args.chunks.now c.loop-k.k _ c.loop-k-test.true c.requires.inside).0 in
    let size : length c.deref_mut-in-loop-k.result.now ≡ S.extents = ap length c.deref_mut-in-loop-k.ensures.value ∙ c.loop-k.invariant.unreadable_size in
    omega (arith, there, size, c.from.ensures)

pub loop-k-preserved : goal.loop-k-preserved
loop-k-preserved g c =
    let first = c.args.core.now in
    let mid = c.loop-k.core in
    let was = c.loop-k.invariant in
    let chunks = c.args.chunks.now in
    let k = c.loop-k.k in
    let chunk = at_place chunks k in
    let pages = c.in_ok-pages.pages in
    let read = was.tallied.0 in
    let live_kept = c.count.auto.live ∙ ap length c.deref_mut.ensures.value in
    let unreadable_kept = c.count.auto.unreadable ∙ ap length c.deref_mut-in-loop-k.ensures.value in
    let live = all_written c.loop-k.live.items c.count.new.live c.loop-k.live.len c.loop-k.live.ok.0 live_kept in
    let unreadable = all_written c.loop-k.unreadable.items c.count.new.unreadable c.loop-k.unreadable.len c.loop-k.unreadable.ok.0 unreadable_kept in
    record {
      live_size = ap length live ∙ live_kept ∙ was.live_size;
      unreadable_size = ap length unreadable ∙ unreadable_kept ∙ was.unreadable_size;
      same = same_on first mid was.same c.pages_at.new.core c.in_ok-pages.ensures.same;
      disk = reads_on g.D.PageDisk first.disk mid.disk c.pages_at.new.core.disk was.disk c.in_ok-pages.ensures.disk;
      tallied = (
        read ++ (chunk.place.extent, pages) ∷ [],
        tallied_so (read ++ (chunk.place.extent, pages) ∷ []) c.count.new.live c.count.new.unreadable _ _ live unreadable
            (subst (λ (e : ℕ). AreTallied (read ++ (e, pages) ∷ []) c.count.new.live c.count.new.unreadable) c.from.ensures
            (c.count.ensures read (tallied_so read c.loop-k.live.items c.loop-k.unreadable.items c.deref_mut.result.now c.deref_mut-in-loop-k.result.now c.deref_mut.ensures.value c.deref_mut-in-loop-k.ensures.value was.tallied.1))),
        λ h view are. heads_step first.store.extents mid.store.extents view chunks k chunk read pages (g.D.PageDisk.failure_count first.disk) (g.D.PageDisk.failure_count mid.disk) (g.D.PageDisk.failure_count c.pages_at.new.core.disk)
            (extents_there first mid was.same) (slice_get-get_or chunks k _ c.loop-k-test.true) was.disk.failures c.in_ok-pages.ensures.disk.failures (was.tallied.2 h view are)
            (c.in_ok-pages.ensures.read (was.disk.honesty.0 h) view (newest_there first mid was.same g.D.PageDisk was.disk h view are)),
        greatest_read read chunk.place.extent pages c.loop-k.greatest _ _ was.tallied.3 c.unwrap_or.ensures c.max-greatest.ensures,
      );
    }

pub returns-clause-tallied : goal.returns-clause-tallied
returns-clause-tallied g c =
    let tallied = c.loop-k.invariant.tallied in (
      tallied.0,
      tallied.1,
      λ h view are. subst (λ (chunks : List LiveChunk). AreRead (g.D.PageDisk.failure_count c.args.core.now.disk) (g.D.PageDisk.failure_count c.loop-k.core.disk) (heads_of c.args.core.now.store.extents view (map chunk_of chunks)) tallied.0)
          (take_all c.loop-k.k c.args.chunks.now c.loop-k-test.false) (tallied.2 h view are),
      tallied.3,
    )
