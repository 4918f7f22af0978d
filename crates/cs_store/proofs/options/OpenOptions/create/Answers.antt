use Rattle.std.proofs.Common.{None, Some, ap, subst, sym, true, ◌≡◌}
use Rattle.cs_core.specs.Started.{IsNewOn, new_stored}
use Rattle.cs_disk.specs.Disk.{Image, Leaves, flushed, seen}
use Rattle.cs_frame.specs.Geometries.{Dimensions}
use Rattle.cs_mount.specs.Looks.{IsTaken}
use Rattle.cs_mount.specs.Makings.{HoldsBoth, LeavesLaying}
use Rattle.cs_mount.specs.StorePairs.{store_pairs, store_version}
use Rattle.cs_twin.specs.Paired.{disk_below, left_as_shown, state_shown}
use Rattle.cs_twin.specs.Pairs.{Shows, shown_state}
use Rattle.law_machine.specs.Geometry.{twins_in}
use Rattle.cs_store.specs.Opening.{Opening}
use Rattle.cs_store.proofs.Maps.{made_map}
use Rattle.cs_store.proofs.options.OpenOptions.create.Goals as goal

pub returns-in-Ok-clause-map : goal.returns-in-Ok-clause-map
returns-in-Ok-clause-map g c = λ honest.
    let e = c.in-Ok.ensures in
    made_map c.in-Ok.core (λ id. None) (e.found honest) e.new.0 (e.start honest)

pub returns-in-Ok-clause-written : goal.returns-in-Ok-clause-written
returns-in-Ok-clause-written g c = λ honest.
    subst (λ (d : Dimensions). IsNewOn d.format d.extents d.pages d.sections (shown_state (store_version (Some d)) (store_pairs d) (flushed (g.D.PageDisk.state c.args.disk))) (state_shown c.in-Ok.core.disk))
    (ap (λ (o : Opening). o.geometry) c.self.view_is) (c.in-Ok.ensures.written honest)

pub returns-in-Ok-clause-taken : goal.returns-in-Ok-clause-taken
returns-in-Ok-clause-taken g c = λ honest taken.
    let D = g.D.PageDisk in
    c.in-Ok.ensures.taken honest
    (subst (λ (d : Dimensions). IsTaken (D.page_count c.args.disk) (seen (D.state c.args.disk)) (store_version (Some d)) (store_pairs d)) (sym (ap (λ (o : Opening). o.geometry) c.self.view_is)) taken)

pub returns-in-Err-clause-taken : goal.returns-in-Err-clause-taken
returns-in-Err-clause-taken g c = λ honest taken.
    let D = g.D.PageDisk in
    c.in-Err.ensures.taken honest
    (subst (λ (d : Dimensions). IsTaken (D.page_count c.args.disk) (seen (D.state c.args.disk)) (store_version (Some d)) (store_pairs d)) (sym (ap (λ (o : Opening). o.geometry) c.self.view_is)) taken)

pub returns-in-Err-clause-occupied : goal.returns-in-Err-clause-occupied
returns-in-Err-clause-occupied g c = λ honest is.
    let D = g.D.PageDisk in
    subst (λ (d : Dimensions). IsTaken (D.page_count c.args.disk) (seen (D.state c.args.disk)) (store_version (Some d)) (store_pairs d)) (ap (λ (o : Opening). o.geometry) c.self.view_is)
    (c.in-Err.ensures.occupied honest is)

pub returns-in-Ok-clause-both : goal.returns-in-Ok-clause-both
returns-in-Ok-clause-both g c =
    let D = g.D.PageDisk in
    subst (λ (d : Dimensions). D.honest c.args.disk → twins_in d.format ≡ true → HoldsBoth d (D.state (disk_below c.in-Ok.core.disk))) (ap (λ (o : Opening). o.geometry) c.self.view_is) c.in-Ok.ensures.both

pub returns-in-Ok-clause-crash : goal.returns-in-Ok-clause-crash
returns-in-Ok-clause-crash g c =
    let D = g.D.PageDisk in
    let s = D.state c.args.disk in
    subst
    (λ (d : Dimensions). D.honest c.args.disk → twins_in d.format ≡ true → (left : Image) → left_as_shown c.in-Ok.core.disk (D.moment c.args.disk) left → Shows (store_version (Some d)) (store_pairs d) (LeavesLaying d s) left)
    (ap (λ (o : Opening). o.geometry) c.self.view_is) c.in-Ok.ensures.crash

pub returns-in-Err-clause-left : goal.returns-in-Err-clause-left
returns-in-Err-clause-left g c =
    let D = g.D.PageDisk in
    subst (λ (d : Dimensions). D.honest c.args.disk → twins_in d.format ≡ true → Leaves (D.state c.in-Err.refused.1) (LeavesLaying d (D.state c.args.disk))) (ap (λ (o : Opening). o.geometry) c.self.view_is) c.in-Err.ensures.left

pub returns-in-Ok-clause-store : goal.returns-in-Ok-clause-store
returns-in-Ok-clause-store g c =
    subst (λ (d : Dimensions). g.D.PageDisk.honest c.args.disk → c.in-Ok.core.store ≡ new_stored d.format d.extents d.pages d.sections) (ap (λ (o : Opening). o.geometry) c.self.view_is) c.in-Ok.ensures.store
