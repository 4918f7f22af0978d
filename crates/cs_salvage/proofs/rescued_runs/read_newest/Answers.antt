use Rattle.std.proofs.Common.{◌≡◌, ◌+◌, ◌-◌, ◌⊎◌, ◌∷◌, List, Some, drop, length, map, refl, subst, sym}
use Rattle.std.specs.List.{AllByRecursion}
use Rattle.std.specs.Prelude.{slice_get}
use Rattle.cs_chunk.specs.Reads.{IsNoAnswer}
use Rattle.cs_disk.proofs.OnlyRead.{reads_none, reads_on}
use Rattle.cs_disk.specs.Disk.{State, page, seen}
use Rattle.cs_extent.specs.State.{shape}
use Rattle.cs_frame.specs.declared.locators.Locator.{Locator}
use Rattle.cs_frame.specs.Runs.{IsRun}
use Rattle.cs_index.specs.declared.stored_runs.StoredRun.{StoredRun}
use Rattle.cs_salvage.specs.Runs.{IsRunRescued, IsWhyNoRun}
use Rattle.cs_salvage.proofs.Newest.{listed_more, listed_none, newest_all, newest_stopped, told_caused, told_runs}
use Rattle.cs_salvage.proofs.rescued_runs.read_newest.Goals as goal

pub loop-k-init : goal.loop-k-init
loop-k-init g c = record {
  disk = reads_none g.D.PageDisk c.args.disk.now;
  listed = listed_none c.args.places.now c.no_runs-runs.result.items c.no_runs-runs.ensures;
  runs = subst (λ (rs : List StoredRun). AllByRecursion (λ run. IsRun (shape c.args.extents.now).format (record { entries = run.entries })) rs) (sym c.no_runs-runs.ensures) tt;
  read = λ h. subst (λ (rs : List StoredRun). AllByRecursion (IsRunRescued c.args.extents.now (page (seen (g.D.PageDisk.state c.args.disk.now)))) rs) (sym c.no_runs-runs.ensures) tt;
}

pub loop-k-preserved : goal.loop-k-preserved
loop-k-preserved g c =
    let places : List Locator = c.args.places.now in
    let run : StoredRun = c.in-Ok.run' in
    let items : c.put_first.new.runs.items ≡ run ∷ c.loop-k.runs.items = c.in_ok-put_first-in-Ok.ensures in
    let at : slice_get places (length places - 1 - c.loop-k.k) ≡ Some run.place =
    subst (λ (l : Locator). slice_get places (length places - 1 - c.loop-k.k) ≡ Some l) (sym c.in-Ok.ensures.place) c.place_from_end-place.ensures in
    record {
      disk = reads_on g.D.PageDisk c.args.disk.now c.loop-k.disk c.read_located.new.disk c.loop-k.invariant.disk c.read_located.ensures.disk;
      listed = subst (λ (rs : List StoredRun). map (λ run. run.place) rs ≡ drop (length places - (c.loop-k.k + 1)) places) (sym items)
          (listed_more places c.loop-k.k (length places - 1 - c.loop-k.k) run c.loop-k.runs.items c.loop-k-test.true refl at c.loop-k.invariant.listed);
      runs = subst (λ (rs : List StoredRun). AllByRecursion (λ run. IsRun (shape c.args.extents.now).format (record { entries = run.entries })) rs) (sym items) (c.in-Ok.ensures.run, c.loop-k.invariant.runs);
      read = λ h. subst (λ (rs : List StoredRun). AllByRecursion (IsRunRescued c.args.extents.now (page (seen (g.D.PageDisk.state c.args.disk.now)))) rs) (sym items) (
        subst (λ (s : State). IsRunRescued c.args.extents.now (page (seen s)) run) (c.loop-k.invariant.disk.same h) (c.in-Ok.ensures.read (c.loop-k.invariant.disk.honesty.0 h)),
        c.loop-k.invariant.read h,
      );
    }

pub returns-in_err-put_first-in-Ok-clause-disk : goal.returns-in_err-put_first-in-Ok-clause-disk
returns-in_err-put_first-in-Ok-clause-disk g c = reads_on g.D.PageDisk c.args.disk.now c.loop-k.disk c.read_located.new.disk c.loop-k.invariant.disk c.read_located.ensures.disk

pub returns-in-Err-clause-disk : goal.returns-in-Err-clause-disk
returns-in-Err-clause-disk g c = reads_on g.D.PageDisk c.args.disk.now c.loop-k.disk c.read_located.new.disk c.loop-k.invariant.disk c.read_located.ensures.disk

pub returns-in-Err-clause-newest : goal.returns-in-Err-clause-newest
returns-in-Err-clause-newest g c =
    let place : Locator = c.place_from_end-place.result in
    newest_stopped (g.D.PageDisk.honest c.args.disk.now) c.args.extents.now (page (seen (g.D.PageDisk.state c.args.disk.now))) c.args.places.now c.loop-k.k place c.in-Err.refusal c.loop-k.runs
    c.loop-k-test.true c.place_from_end-place.ensures c.loop-k.invariant.listed c.loop-k.invariant.read
    (λ h. subst (λ (s : State). IsNoAnswer c.in-Err.refusal ⊎ IsWhyNoRun c.args.extents.now (page (seen s)) place c.in-Err.refusal) (c.loop-k.invariant.disk.same h) (c.in-Err.ensures.why (c.loop-k.invariant.disk.honesty.0 h)))
    c.stopped_at.result c.stopped_at.ensures.runs c.stopped_at.ensures.damaged c.stopped_at.ensures.answered

pub returns-in-Err-clause-runs : goal.returns-in-Err-clause-runs
returns-in-Err-clause-runs g c = told_runs (λ run. IsRun (shape c.args.extents.now).format (record { entries = run.entries })) c.loop-k.runs c.stopped_at.result c.stopped_at.ensures.runs c.loop-k.invariant.runs

pub returns-in-Err-clause-cause : goal.returns-in-Err-clause-cause
returns-in-Err-clause-cause g c = told_caused (g.D.PageDisk.failure_count c.args.disk.now) (g.D.PageDisk.failure_count c.loop-k.disk) (g.D.PageDisk.failure_count c.read_located.new.disk) c.loop-k.invariant.disk.failures c.read_located.result c.read_located.ensures.cause
    c.place_from_end-place.result c.in-Err.refusal c.in-Err.is c.stopped_at.result c.stopped_at.ensures.damaged

pub returns-clause-newest : goal.returns-clause-newest
returns-clause-newest g c =
    newest_all (g.D.PageDisk.honest c.args.disk.now) c.args.extents.now (page (seen (g.D.PageDisk.state c.args.disk.now))) c.args.places.now c.loop-k.k c.loop-k.runs.items
    c.loop-k-test.false c.loop-k.invariant.listed c.loop-k.invariant.read
