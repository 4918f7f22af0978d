use Rattle.std.proofs.Common.{List, inl, inr, arith, sym, ap, ◌∙◌, subst}
use Rattle.cs_disk.specs.Disk.{page, seen}
use Rattle.cs_extent.specs.State.{State as ExtentsState}
use Rattle.cs_frame.specs.declared.locators.Locator.{Locator}
use Rattle.cs_frame.specs.Locators.{KeepFormat}
use Rattle.cs_reader.proofs.Causes.{caused_loaded}
use Rattle.cs_reader.proofs.HeadReads.{few_runs, none_waits, places_fit, room_for}
use Rattle.cs_reader.proofs.Loading.{fits_keep}
use Rattle.cs_reader.proofs.Located.{extents_again}
use Rattle.cs_core.proofs.Opening.{caused_still, index_damaged, is_newest, root_lost, run_damaged, store_made}
use Rattle.cs_core.proofs.core_openings.read_rest.Goals as goal

pub read_runs-requires-clause-device : goal.read_runs-requires-clause-device
read_runs-requires-clause-device g c = room_for (g.D.PageDisk.honest c.args.disk.now) (g.D.PageDisk.page_count c.args.disk.now) (page (seen (g.D.PageDisk.state c.args.disk.now))) c.args.head c.requires

pub read_runs-requires-clause-none : goal.read_runs-requires-clause-none
read_runs-requires-clause-none g c = none_waits (g.D.PageDisk.honest c.args.disk.now) (g.D.PageDisk.page_count c.args.disk.now) (page (seen (g.D.PageDisk.state c.args.disk.now))) c.args.head c.requires

pub load_store-requires-clause-extents : goal.load_store-requires-clause-extents
load_store-requires-clause-extents g c = extents_again c.args.head.extents c.requires.format c.requires.pages _ c.requires.written c.requires.extents

pub load_store-requires-clause-graph : goal.load_store-requires-clause-graph
load_store-requires-clause-graph g c = (c.requires.versions, sym (ap (λ (y : ExtentsState). y.sections) c.requires.extents), c.requires.graph)

pub load_store-requires-clause-few : goal.load_store-requires-clause-few
load_store-requires-clause-few g c =
    let few = few_runs (g.D.PageDisk.honest c.args.disk.now) (g.D.PageDisk.page_count c.args.disk.now) (page (seen (g.D.PageDisk.state c.args.disk.now))) c.args.head c.requires in
    omega (arith, c.in-Ok.ensures.count, few)

pub load_store-requires-clause-commands : goal.load_store-requires-clause-commands
load_store-requires-clause-commands g c = c.requires.some_root.1.fits.last_command

pub load_store-requires-clause-version : goal.load_store-requires-clause-version
load_store-requires-clause-version g c = c.requires.some_root.1.fits.last_version

pub load_store-requires-clause-marks : goal.load_store-requires-clause-marks
load_store-requires-clause-marks g c =
    let head = c.args.head in
    let fits = places_fit (g.D.PageDisk.honest c.args.disk.now) (g.D.PageDisk.page_count c.args.disk.now) (page (seen (g.D.PageDisk.state c.args.disk.now))) head c.requires in
    subst (λ (ls : List Locator). KeepFormat head.extents.format ls) (sym (c.in-Ok.ensures.listed ∙ c.deref.ensures.value)) (fits_keep head.extents.format head.root.runs.items fits)

pub load_store-requires-clause-places : goal.load_store-requires-clause-places
load_store-requires-clause-places g c = c.in-Ok.ensures.places

pub returns-in-Ok-clause-made : goal.returns-in-Ok-clause-made
returns-in-Ok-clause-made g c =
    let honest = g.D.PageDisk.honest c.args.disk.now in
    let count = g.D.PageDisk.page_count c.args.disk.now in
    let view = page (seen (g.D.PageDisk.state c.args.disk.now)) in
    store_made honest count view c.args.head c.requires (is_newest honest count view c.args.head c.requires c.if-head.false) c.deref.result.now c.deref.ensures.value c.in-Ok.runs.items c.in-Ok.ensures.read
    c.load_store.result c.load_store.ensures.made c.load_store.ensures.commands c.load_store.ensures.live c.load_store.ensures.located c.load_store.ensures.named

pub returns-in-Ok-clause-why : goal.returns-in-Ok-clause-why
returns-in-Ok-clause-why g c = λ h.
    let honest = g.D.PageDisk.honest c.args.disk.now in
    let count = g.D.PageDisk.page_count c.args.disk.now in
    let view = page (seen (g.D.PageDisk.state c.args.disk.now)) in
    index_damaged honest count view c.args.head c.requires (is_newest honest count view c.args.head c.requires c.if-head.false) c.deref.result.now c.deref.ensures.value c.in-Ok.runs.items c.in-Ok.ensures.read
    h c.load_store.result c.load_store.ensures.why

pub returns-in-Err-clause-why : goal.returns-in-Err-clause-why
returns-in-Err-clause-why g c = λ h.
    let honest = g.D.PageDisk.honest c.args.disk.now in
    let count = g.D.PageDisk.page_count c.args.disk.now in
    let view = page (seen (g.D.PageDisk.state c.args.disk.now)) in
    run_damaged honest count view c.args.head c.requires (is_newest honest count view c.args.head c.requires c.if-head.false) c.deref.result.now c.deref.ensures.value
    h c.in-Err.refusal (c.in-Err.ensures.why h)

pub returns-in-Ok-clause-cause : goal.returns-in-Ok-clause-cause
returns-in-Ok-clause-cause g c = caused_loaded _ _ _ c.read_runs.result c.load_store.result c.read_runs.ensures.cause c.load_store.ensures.why

pub returns-in-Err-clause-cause : goal.returns-in-Err-clause-cause
returns-in-Err-clause-cause g c = caused_still _ _ c.read_runs.result c.in-Err.refusal c.in-Err.is c.read_runs.ensures.cause

pub returns-then-head-clause-why : goal.returns-then-head-clause-why
returns-then-head-clause-why g c = λ h.
    root_lost (g.D.PageDisk.honest c.args.disk.now) (g.D.PageDisk.page_count c.args.disk.now) (page (seen (g.D.PageDisk.state c.args.disk.now))) c.args.head c.requires h c.if-head.true

pub returns-then-head-clause-number : goal.returns-then-head-clause-number
returns-then-head-clause-number g c = inr (inl (omega arith, omega arith))
