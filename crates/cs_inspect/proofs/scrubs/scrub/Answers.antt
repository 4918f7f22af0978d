use Rattle.std.proofs.Common.{◌∙◌, map, sym, subst}
use Rattle.std.proofs.lemmas.List.{length-map}
use Rattle.cs_core.specs.Stored.{Stored}
use Rattle.cs_disk.proofs.OnlyRead.{reads_on}
use Rattle.cs_frame.specs.Formats.{place_of}
use Rattle.cs_inspect.specs.Chunks.{chunk_of}
use Rattle.cs_inspect.specs.Failures.{RisesBy}
use Rattle.cs_inspect.specs.Scrubs.{AreCaused, AreNamed, OfChunk, OfRun, device_faults}
use Rattle.cs_inspect.proofs.Counting.{counted_both}
use Rattle.cs_inspect.proofs.Crashing.{crash_now, crash_still}
use Rattle.cs_inspect.proofs.Naming.{caused_both, caused_earlier, caused_later}
use Rattle.cs_inspect.proofs.Scrubbing.{run_count, run_places_are, scrubbed}
use Rattle.cs_inspect.proofs.Telling.{newest_here, same_on, same_store}
use Rattle.cs_inspect.proofs.scrubs.scrub.Goals as goal

pub returns-in_err-chunks-clause-crash : goal.returns-in_err-chunks-clause-crash
returns-in_err-chunks-clause-crash g c = λ honest. crash_now g.D.PageDisk c.args.core.now.disk _ (c.progress.ensures.left honest) (λ image since. g.met.D.PageDisk.only_now c.args.core.now.disk image honest since)

pub returns-in_err-runs-clause-crash : goal.returns-in_err-runs-clause-crash
returns-in_err-runs-clause-crash g c = λ honest. crash_now g.D.PageDisk c.args.core.now.disk _ (c.progress.ensures.left honest) (λ image since. g.met.D.PageDisk.only_now c.args.core.now.disk image honest since)

pub returns-in_err-damages-clause-crash : goal.returns-in_err-damages-clause-crash
returns-in_err-damages-clause-crash g c = λ honest. crash_still g.D.PageDisk c.args.core.now.disk c.damaged_chunks.new.core.disk _ c.damaged_chunks.ensures.disk honest (c.progress.ensures.left honest) (λ image since. g.met.D.PageDisk.only_now c.args.core.now.disk image honest since)

pub returns-in_err-of_runs-clause-crash : goal.returns-in_err-of_runs-clause-crash
returns-in_err-of_runs-clause-crash g c = λ honest. crash_still g.D.PageDisk c.args.core.now.disk c.damaged_runs.new.core.disk _ (reads_on g.D.PageDisk c.args.core.now.disk c.damaged_chunks.new.core.disk c.damaged_runs.new.core.disk c.damaged_chunks.ensures.disk c.damaged_runs.ensures.disk) honest (c.progress.ensures.left honest) (λ image since. g.met.D.PageDisk.only_now c.args.core.now.disk image honest since)

pub returns-in_err-of_runs-clause-same : goal.returns-in_err-of_runs-clause-same
returns-in_err-of_runs-clause-same g c = same_on c.args.core.now c.damaged_chunks.new.core c.damaged_runs.new.core c.damaged_chunks.ensures.same c.damaged_runs.ensures.same

pub returns-in_err-of_runs-clause-disk : goal.returns-in_err-of_runs-clause-disk
returns-in_err-of_runs-clause-disk g c = (reads_on g.D.PageDisk c.args.core.now.disk c.damaged_chunks.new.core.disk c.damaged_runs.new.core.disk c.damaged_chunks.ensures.disk c.damaged_runs.ensures.disk)

pub returns-in_err-append-clause-crash : goal.returns-in_err-append-clause-crash
returns-in_err-append-clause-crash g c = λ honest. crash_still g.D.PageDisk c.args.core.now.disk c.damaged_runs.new.core.disk _ (reads_on g.D.PageDisk c.args.core.now.disk c.damaged_chunks.new.core.disk c.damaged_runs.new.core.disk c.damaged_chunks.ensures.disk c.damaged_runs.ensures.disk) honest (c.progress.ensures.left honest) (λ image since. g.met.D.PageDisk.only_now c.args.core.now.disk image honest since)

pub returns-in_err-append-clause-same : goal.returns-in_err-append-clause-same
returns-in_err-append-clause-same g c = same_on c.args.core.now c.damaged_chunks.new.core c.damaged_runs.new.core c.damaged_chunks.ensures.same c.damaged_runs.ensures.same

pub returns-in_err-append-clause-disk : goal.returns-in_err-append-clause-disk
returns-in_err-append-clause-disk g c = (reads_on g.D.PageDisk c.args.core.now.disk c.damaged_chunks.new.core.disk c.damaged_runs.new.core.disk c.damaged_chunks.ensures.disk c.damaged_runs.ensures.disk)

pub returns-clause-crash : goal.returns-clause-crash
returns-clause-crash g c = λ honest. crash_still g.D.PageDisk c.args.core.now.disk c.damaged_runs.new.core.disk _ (reads_on g.D.PageDisk c.args.core.now.disk c.damaged_chunks.new.core.disk c.damaged_runs.new.core.disk c.damaged_chunks.ensures.disk c.damaged_runs.ensures.disk) honest (c.progress.ensures.left honest) (λ image since. g.met.D.PageDisk.only_now c.args.core.now.disk image honest since)

pub returns-clause-same : goal.returns-clause-same
returns-clause-same g c = same_on c.args.core.now c.damaged_chunks.new.core c.damaged_runs.new.core c.damaged_chunks.ensures.same c.damaged_runs.ensures.same

pub returns-clause-disk : goal.returns-clause-disk
returns-clause-disk g c = (reads_on g.D.PageDisk c.args.core.now.disk c.damaged_chunks.new.core.disk c.damaged_runs.new.core.disk c.damaged_chunks.ensures.disk c.damaged_runs.ensures.disk)

pub returns-clause-caused : goal.returns-clause-caused
returns-clause-caused g c =
    subst (λ ds. AreCaused (g.D.PageDisk.failure_count c.args.core.now.disk) (g.D.PageDisk.failure_count c.damaged_runs.new.core.disk) ds) (sym c.in_ok-append.ensures.items)
    (caused_both (g.D.PageDisk.failure_count c.args.core.now.disk) (g.D.PageDisk.failure_count c.damaged_runs.new.core.disk) c.in_ok-damages.damages.items c.in_ok-of_runs.of_runs.items
    (caused_later (g.D.PageDisk.failure_count c.args.core.now.disk) (g.D.PageDisk.failure_count c.damaged_chunks.new.core.disk) (g.D.PageDisk.failure_count c.damaged_runs.new.core.disk) c.in_ok-damages.damages.items c.damaged_runs.ensures.disk.failures c.in_ok-damages.ensures.caused)
    (caused_earlier (g.D.PageDisk.failure_count c.args.core.now.disk) (g.D.PageDisk.failure_count c.damaged_chunks.new.core.disk) (g.D.PageDisk.failure_count c.damaged_runs.new.core.disk) c.in_ok-of_runs.of_runs.items c.damaged_chunks.ensures.disk.failures c.in_ok-of_runs.ensures.caused))

pub returns-clause-counted : goal.returns-clause-counted
returns-clause-counted g c =
    subst (λ ds. RisesBy (device_faults ds) (g.D.PageDisk.failure_count c.args.core.now.disk) (g.D.PageDisk.failure_count c.damaged_runs.new.core.disk)) (sym c.in_ok-append.ensures.items)
    (counted_both (g.D.PageDisk.failure_count c.args.core.now.disk) (g.D.PageDisk.failure_count c.damaged_chunks.new.core.disk) (g.D.PageDisk.failure_count c.damaged_runs.new.core.disk) c.in_ok-damages.damages.items c.in_ok-of_runs.of_runs.items
    c.in_ok-damages.ensures.counted c.in_ok-of_runs.ensures.counted)

pub returns-clause-runs : goal.returns-clause-runs
returns-clause-runs g c =
    c.len-2.ensures ∙ c.in_ok-runs.runs.ok.0
    ∙ run_count c.args.core.now.store.index c.index-2.result.now c.runs.result.now c.in_ok-runs.runs.items c.index-2.ensures.index c.runs.ensures c.in_ok-runs.ensures

pub returns-clause-named : goal.returns-clause-named
returns-clause-named g c = λ honest view are.
    let extents = c.args.core.now.store.extents in
    let store = same_store g.D.PageDisk c.args.core.now c.damaged_chunks.new.core c.damaged_chunks.ensures.same c.damaged_chunks.ensures.disk in
    let of_runs = c.in_ok-of_runs.ensures.named (c.damaged_chunks.ensures.disk.honesty.0 honest) view
    (newest_here g.D.PageDisk c.args.core.now c.damaged_chunks.new.core c.damaged_chunks.ensures.same c.damaged_chunks.ensures.disk honest view are) in
    scrubbed extents view c.args.core.now.store.index c.index.result.now c.index.ensures.index (map chunk_of c.in_ok-chunks.chunks.items) (map place_of c.deref-2.result.now)
    c.in_ok-damages.damages.items c.in_ok-of_runs.of_runs.items _ c.in_ok-chunks.ensures c.index.ensures.places
    (run_places_are c.args.core.now.store.index c.index-2.result.now c.runs.result.now c.in_ok-runs.runs.items c.deref-2.result.now c.index-2.ensures.index c.runs.ensures c.in_ok-runs.ensures c.deref-2.ensures.value)
    (subst (λ xs. AreNamed extents view (map OfChunk (map chunk_of xs)) c.in_ok-damages.damages.items) c.deref.ensures.value (c.in_ok-damages.ensures.named honest view are))
    (subst (λ (s : Stored). AreNamed s.extents view (map OfRun (map place_of c.deref-2.result.now)) c.in_ok-of_runs.of_runs.items) store of_runs)
    (c.len.ensures ∙ c.in_ok-chunks.chunks.ok.0 ∙ sym (length-map c.in_ok-chunks.chunks.items chunk_of))
    c.in_ok-append.ensures.items
