use Rattle.std.proofs.Common.{◌≡◌, ◌≤◌, inl, inr, ⊎_elim, List, Option, ap, arith, drop, length, refl, subst, sym}
use Rattle.std.specs.List.{AllByRecursion}
use Rattle.cs_disk.specs.Disk.{page, seen}
use Rattle.cs_frame.specs.declared.locators.Locator.{Locator}
use Rattle.cs_frame.specs.Locators.{FitsLocator, KeepFormat}
use Rattle.cs_index.specs.declared.stored_runs.StoredRun.{StoredRun}
use Rattle.law_machine.specs.Geometry.{marks_in}
use Rattle.cs_reader.proofs.HeadReads.{few_runs, none_waits, places_fit, room_for}
use Rattle.cs_reader.proofs.Loading.{fits_keep}
use Rattle.cs_salvage.specs.declared.rescued_runs.DamagedRun.{DamagedRun}
use Rattle.cs_salvage.specs.Runs.{AreNewestRead}
use Rattle.cs_salvage.proofs.Newest.{few_read, newest_before, of_all}
use Rattle.cs_salvage.proofs.Opening.{caused_otherwise, rescued, too_heavy}
use Rattle.cs_salvage.proofs.rescues.read_index.Goals as goal

pub read_newest-requires-clause-device : goal.read_newest-requires-clause-device
read_newest-requires-clause-device g c = room_for (g.D.PageDisk.honest c.args.disk.now) (g.D.PageDisk.page_count c.args.disk.now) (page (seen (g.D.PageDisk.state c.args.disk.now))) c.args.head c.requires

pub read_newest-requires-clause-none : goal.read_newest-requires-clause-none
read_newest-requires-clause-none g c = none_waits (g.D.PageDisk.honest c.args.disk.now) (g.D.PageDisk.page_count c.args.disk.now) (page (seen (g.D.PageDisk.state c.args.disk.now))) c.args.head c.requires

pub invariant_of-result : goal.invariant_of-result
invariant_of-result g c = none_waits (g.D.PageDisk.honest c.args.disk.now) (g.D.PageDisk.page_count c.args.disk.now) (page (seen (g.D.PageDisk.state c.args.disk.now))) c.args.head c.requires

pub load_runs-requires-clause-few : goal.load_runs-requires-clause-few
load_runs-requires-clause-few g c =
    let honest = g.D.PageDisk.honest c.args.disk.now in
    let view = page (seen (g.D.PageDisk.state c.args.disk.now)) in
    let newest = c.in-Ok.newest in
    let many : length c.deref.result.now ≡ length c.args.head.root.runs.items = ap length c.deref.ensures.value in
    let few : length c.deref.result.now ≤ 24 = omega (arith, many, few_runs honest (g.D.PageDisk.page_count c.args.disk.now) view c.args.head c.requires) in
    few_read honest c.args.head.extents view c.deref.result.now newest.runs.items newest.damaged c.in-Ok.ensures.newest 24 few

pub load_runs-requires-clause-runs : goal.load_runs-requires-clause-runs
load_runs-requires-clause-runs g c = c.in-Ok.ensures.runs

pub load_runs-requires-clause-marks : goal.load_runs-requires-clause-marks
load_runs-requires-clause-marks g c =
    let head = c.args.head in
    let fits = places_fit (g.D.PageDisk.honest c.args.disk.now) (g.D.PageDisk.page_count c.args.disk.now) (page (seen (g.D.PageDisk.state c.args.disk.now))) head c.requires in
    let each : AllByRecursion (FitsLocator (marks_in head.extents.format)) c.deref.result.now = subst (λ (ls : List Locator). AllByRecursion (FitsLocator (marks_in head.extents.format)) ls) (sym c.deref.ensures.value) fits in
    let read = c.in-Ok.ensures.newest in
    subst (λ (ls : List Locator). KeepFormat head.extents.format ls) (sym read.listed)
    (fits_keep head.extents.format (drop read.left c.deref.result.now) (of_all (FitsLocator (marks_in head.extents.format)) read.left c.deref.result.now each))

pub returns-clause-found : goal.returns-clause-found
returns-clause-found g c =
    let honest = g.D.PageDisk.honest c.args.disk.now in
    let view = page (seen (g.D.PageDisk.state c.args.disk.now)) in
    let newest = c.in-Ok.newest in
    rescued honest (g.D.PageDisk.page_count c.args.disk.now) view c.args.head c.requires c.in-Ok-load_runs.index newest.damaged newest.runs.items
    (subst (λ (ls : List Locator). AreNewestRead honest c.args.head.extents view ls newest.runs.items newest.damaged) c.deref.ensures.value c.in-Ok.ensures.newest) c.in-Ok-load_runs.ensures.loaded

pub returns-in-Err-load_runs-clause-why : goal.returns-in-Err-load_runs-clause-why
returns-in-Err-load_runs-clause-why g c = λ h.
    let honest = g.D.PageDisk.honest c.args.disk.now in
    let view = page (seen (g.D.PageDisk.state c.args.disk.now)) in
    let head = c.args.head in
    let runs : List StoredRun = c.in-Ok.newest.runs.items in
    let damaged : Option DamagedRun = c.in-Ok.newest.damaged in
    let read : AreNewestRead (Unit {0}) head.extents view c.deref.result.now runs damaged =
    newest_before (Unit {0}) honest (λ u. h) head.extents view view (λ u. refl) c.deref.result.now runs damaged c.in-Ok.ensures.newest in
    too_heavy honest (g.D.PageDisk.page_count c.args.disk.now) view head c.requires h runs damaged
    (subst (λ (ls : List Locator). AreNewestRead (Unit {0}) head.extents view ls runs damaged) c.deref.ensures.value read) c.in-Err-load_runs.refusal c.in-Err-load_runs.ensures.why

pub returns-in-Err-load_runs-clause-number : goal.returns-in-Err-load_runs-clause-number
returns-in-Err-load_runs-clause-number g c = ⊎_elim (λ m. inl (inr m)) (λ w. inr (inr w.0)) c.in-Err-load_runs.ensures.why

pub returns-in-Err-load_runs-clause-cause : goal.returns-in-Err-load_runs-clause-cause
returns-in-Err-load_runs-clause-cause g c = caused_otherwise _ _ c.read_newest.ensures.disk.failures c.in-Err-load_runs.refusal (⊎_elim (λ m. inl m) (λ w. inr w.0) c.in-Err-load_runs.ensures.why)

pub returns-in-Err-clause-cause : goal.returns-in-Err-clause-cause
returns-in-Err-clause-cause g c = caused_otherwise _ _ c.read_newest.ensures.disk.failures c.in-Err.refusal (inl c.in-Err.ensures.memory)
