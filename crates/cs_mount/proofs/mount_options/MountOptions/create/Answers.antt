use Rattle.std.proofs.Common.{rules, ℕ, ◌≡◌, ◌↔◌, ◌∙◌, ◌⊎◌, ap, arith, IfErr, IfOk, inr, IsTrue, List, None, Some, refl, subst, sym}
use Rattle.cs_core.specs.Started.{IsNewOn}
use Rattle.cs_disk.specs.Disk.{Image, Leaves, Rises, State, flushed, page, seen}
use Rattle.cs_disk.proofs.Images.{length-applied}
use Rattle.cs_frame.proofs.GeometryLaws.{pages_on_device}
use Rattle.cs_frame.specs.Geometries.{device_pages}
use Rattle.cs_refusal.specs.declared.refusals.Refusal.TheVariants.{DeviceFault, Occupied, OutOfMemory}
use Rattle.cs_twin.specs.declared.pairs.Pair.{Pair}
use Rattle.cs_twin.proofs.Opening.{match_weaker}
use Rattle.cs_mount.specs.Makings.{LeavesLaying}
use Rattle.cs_mount.specs.Looks.{IsTaken}
use Rattle.cs_mount.specs.OfStores.{IsOfStore}
use Rattle.cs_twin.specs.Paired.{disk_below, left_as_shown, state_shown}
use Rattle.cs_twin.specs.Pairs.{Shows, shown_state}
use Rattle.cs_mount.specs.StorePairs.{store_pairs, store_version}
use Rattle.cs_mount.proofs.Blank.{new_shows}
use Rattle.cs_mount.proofs.Looking.{free, free_fits, never_occupied}
use Rattle.cs_mount.proofs.Mounting.{err_weaker, ok_if}
use Rattle.cs_mount.proofs.Laying.{not_laid}
use Rattle.law_machine.specs.Recovery.{Recovers}
use Rattle.cs_core.specs.cs_extent.State.{shape}
use Rattle.cs_frame.specs.Formats.{formats_of}
use Rattle.cs_mount.proofs.mount_options.MountOptions.create.Goals as goal

pub is_taken-requires-clause-some : goal.is_taken-requires-clause-some
is_taken-requires-clause-some g c =
    let d = c.args.geometry in
    let counted : g.D.PageDisk.page_count c.args.disk ≡ device_pages d.format d.extents d.pages d.sections = search rules in
    omega (arith, counted, pages_on_device d.format d.extents d.pages d.sections c.extents.ensures.geometry)

pub make_once-requires-clause-fits : goal.make_once-requires-clause-fits
make_once-requires-clause-fits g c = λ h.
    let D = g.D.PageDisk in
    let disk = c.args.disk in
    let mid = c.is_taken.new.disk in
    let reads = c.is_taken.ensures.disk in
    let old = reads.honesty.1 h in
    let n = D.page_count disk in
    let d = c.args.geometry in
    let pairs = c.in-Ok.pairs.items in
    let V = store_version (Some d) in
    let test = c.in-Ok-false in
    let counted : n ≡ device_pages d.format d.extents d.pages d.sections = search rules in
    let size = length-applied (D.state disk).durable (D.state disk).volatile ∙ g.met.D.PageDisk.sized disk old in
    let fits : IsOfStore (Some d) pairs n (seen (D.state disk)) =
    free_fits d pairs n (seen (D.state disk)) test.field-0 (omega (arith, counted, pages_on_device d.format d.extents d.pages d.sections c.extents.ensures.geometry)) size c.in-Ok.ensures.pairs (sym counted) (search rules) test.field-0-test
    (subst (λ (l : List Pair). IsTrue test.field-0 ↔ IsTaken n (seen (D.state disk)) V l) c.deref.ensures.value (test.ensures.taken old)) in
    subst (λ m. IsOfStore (Some d) pairs m (seen (D.state mid))) (sym reads.pages) (subst (λ (s : State). IsOfStore (Some d) pairs n (seen s)) (sym (reads.same old)) fits)

pub returns-in-Ok-true-clause-occupied : goal.returns-in-Ok-true-clause-occupied
returns-in-Ok-true-clause-occupied g c = λ h is.
    let D = g.D.PageDisk in
    let V = store_version (Some c.args.geometry) in
    let n = D.page_count c.args.disk in
    let image = seen (D.state c.args.disk) in
    let test = c.in-Ok-true in
    subst (λ (l : List Pair). IsTaken n image V l) (c.deref.ensures.value ∙ c.in-Ok.ensures.pairs) ((test.ensures.taken h).0 test.field-0-test)

pub returns-then-has_twins-clause-written : goal.returns-then-has_twins-clause-written
returns-then-has_twins-clause-written g c = λ h.
    let d = c.args.geometry in
    let reads = c.is_taken.ensures.disk in
    subst (λ (s : State). IfOk c.make_twice.result (λ core. IsNewOn d.format d.extents d.pages d.sections (shown_state (store_version (Some d)) (store_pairs d) (flushed s)) (state_shown core.disk))) (reads.same h) (c.make_twice.ensures.written (reads.honesty.0 h))

pub returns-then-has_twins-clause-zeros : goal.returns-then-has_twins-clause-zeros
returns-then-has_twins-clause-zeros g c = λ h blank.
    let d = c.args.geometry in
    subst (λ (s : State). IfOk c.make_twice.result (λ core. IsNewOn d.format d.extents d.pages d.sections s (state_shown core.disk)))
    (new_shows (store_version (Some d)) d (g.D.PageDisk.state c.args.disk) c.extents.ensures.geometry (ap (λ (s : State). s.durable) blank) (ap (λ (s : State). s.volatile) blank)) (returns-then-has_twins-clause-written g c h)

pub returns-then-has_twins-clause-honest : goal.returns-then-has_twins-clause-honest
returns-then-has_twins-clause-honest g c =
    let D = g.D.PageDisk in
    let looked = c.is_taken.ensures.disk.honesty in
    match_weaker c.make_twice.result (λ core. D.honest c.is_taken.new.disk ↔ D.honest (disk_below core.disk)) (λ core. D.honest c.args.disk ↔ D.honest (disk_below core.disk))
    (λ refused. D.honest c.is_taken.new.disk ↔ D.honest refused.1) (λ refused. D.honest c.args.disk ↔ D.honest refused.1)
    (λ core same. ((λ h. same.0 (looked.0 h)), (λ h. looked.1 (same.1 h)))) (λ refused same. ((λ h. same.0 (looked.0 h)), (λ h. looked.1 (same.1 h)))) c.make_twice.ensures.honest

pub returns-then-has_twins-clause-occupied : goal.returns-then-has_twins-clause-occupied
returns-then-has_twins-clause-occupied g c = λ h.
    let D = g.D.PageDisk in
    err_weaker c.make_twice.result (λ refused. (refused.0 ≡ DeviceFault) ⊎ (refused.0 ≡ OutOfMemory))
    (λ refused. refused.0 ≡ Occupied → IsTaken (D.page_count c.args.disk) (seen (D.state c.args.disk)) (store_version (Some c.args.geometry)) (store_pairs c.args.geometry))
    (λ refused why is. absurd (never_occupied refused.0 (inr why) is)) c.make_twice.ensures.refusals

pub returns-then-has_twins-clause-cause : goal.returns-then-has_twins-clause-cause
returns-then-has_twins-clause-cause g c = λ h.
    let D = g.D.PageDisk in
    let reads = c.is_taken.ensures.disk in
    err_weaker c.make_twice.result (λ refused. refused.0 ≡ DeviceFault → Rises (D.failure_count c.is_taken.new.disk) (D.failure_count refused.1)) (λ refused. refused.0 ≡ DeviceFault → Rises (D.failure_count c.args.disk) (D.failure_count refused.1))
    (λ refused rises is. let more = rises is in omega (arith, more, reads.failures)) (c.make_twice.ensures.cause (reads.honesty.0 h))

pub returns-then-has_twins-clause-taken : goal.returns-then-has_twins-clause-taken
returns-then-has_twins-clause-taken g c = λ h taken.
    let D = g.D.PageDisk in
    let V = store_version (Some c.args.geometry) in
    let n = D.page_count c.args.disk in
    let image = seen (D.state c.args.disk) in
    let test = c.in-Ok-false in
    absurd (free n image V c.deref.result.now test.field-0 test.field-0-test (test.ensures.taken h) (subst (λ (l : List Pair). IsTaken n image V l) (sym (c.deref.ensures.value ∙ c.in-Ok.ensures.pairs)) taken))

pub returns-else-has_twins-clause-written : goal.returns-else-has_twins-clause-written
returns-else-has_twins-clause-written g c = λ h.
    let d = c.args.geometry in
    let reads = c.is_taken.ensures.disk in
    subst (λ (s : State). IfOk c.make_once.result (λ core. IsNewOn d.format d.extents d.pages d.sections (shown_state (store_version (Some d)) (store_pairs d) (flushed s)) (state_shown core.disk))) (reads.same h) (c.make_once.ensures.written (reads.honesty.0 h))

pub returns-else-has_twins-clause-zeros : goal.returns-else-has_twins-clause-zeros
returns-else-has_twins-clause-zeros g c = λ h blank.
    let d = c.args.geometry in
    subst (λ (s : State). IfOk c.make_once.result (λ core. IsNewOn d.format d.extents d.pages d.sections s (state_shown core.disk)))
    (new_shows (store_version (Some d)) d (g.D.PageDisk.state c.args.disk) c.extents.ensures.geometry (ap (λ (s : State). s.durable) blank) (ap (λ (s : State). s.volatile) blank)) (returns-else-has_twins-clause-written g c h)

pub returns-else-has_twins-clause-honest : goal.returns-else-has_twins-clause-honest
returns-else-has_twins-clause-honest g c =
    let D = g.D.PageDisk in
    let looked = c.is_taken.ensures.disk.honesty in
    match_weaker c.make_once.result (λ core. D.honest c.is_taken.new.disk ↔ D.honest (disk_below core.disk)) (λ core. D.honest c.args.disk ↔ D.honest (disk_below core.disk))
    (λ refused. D.honest c.is_taken.new.disk ↔ D.honest refused.1) (λ refused. D.honest c.args.disk ↔ D.honest refused.1)
    (λ core same. ((λ h. same.0 (looked.0 h)), (λ h. looked.1 (same.1 h)))) (λ refused same. ((λ h. same.0 (looked.0 h)), (λ h. looked.1 (same.1 h)))) c.make_once.ensures.honest

pub returns-else-has_twins-clause-occupied : goal.returns-else-has_twins-clause-occupied
returns-else-has_twins-clause-occupied g c = λ h.
    let D = g.D.PageDisk in
    err_weaker c.make_once.result (λ refused. (refused.0 ≡ DeviceFault) ⊎ (refused.0 ≡ OutOfMemory))
    (λ refused. refused.0 ≡ Occupied → IsTaken (D.page_count c.args.disk) (seen (D.state c.args.disk)) (store_version (Some c.args.geometry)) (store_pairs c.args.geometry))
    (λ refused why is. absurd (never_occupied refused.0 (inr why) is)) c.make_once.ensures.refusals

pub returns-else-has_twins-clause-cause : goal.returns-else-has_twins-clause-cause
returns-else-has_twins-clause-cause g c = λ h.
    let D = g.D.PageDisk in
    let reads = c.is_taken.ensures.disk in
    err_weaker c.make_once.result (λ refused. refused.0 ≡ DeviceFault → Rises (D.failure_count c.is_taken.new.disk) (D.failure_count refused.1)) (λ refused. refused.0 ≡ DeviceFault → Rises (D.failure_count c.args.disk) (D.failure_count refused.1))
    (λ refused rises is. let more = rises is in omega (arith, more, reads.failures)) (c.make_once.ensures.cause (reads.honesty.0 h))

pub returns-else-has_twins-clause-taken : goal.returns-else-has_twins-clause-taken
returns-else-has_twins-clause-taken g c = λ h taken.
    let D = g.D.PageDisk in
    let V = store_version (Some c.args.geometry) in
    let n = D.page_count c.args.disk in
    let image = seen (D.state c.args.disk) in
    let test = c.in-Ok-false in
    absurd (free n image V c.deref.result.now test.field-0 test.field-0-test (test.ensures.taken h) (subst (λ (l : List Pair). IsTaken n image V l) (sym (c.deref.ensures.value ∙ c.in-Ok.ensures.pairs)) taken))

pub returns-then-has_twins-clause-crash : goal.returns-then-has_twins-clause-crash
returns-then-has_twins-clause-crash g c = λ h twins.
    let D = g.D.PageDisk in
    let d = c.args.geometry in
    let reads = c.is_taken.ensures.disk in
    subst (λ (t : ℕ). IfOk c.make_twice.result (λ core. (left : Image) → left_as_shown core.disk t left → Shows (store_version (Some d)) (store_pairs d) (LeavesLaying d (D.state c.args.disk)) left)) (reads.still h)
    (subst (λ (s : State). IfOk c.make_twice.result (λ core. (left : Image) → left_as_shown core.disk (D.moment c.is_taken.new.disk) left → Shows (store_version (Some d)) (store_pairs d) (LeavesLaying d s) left)) (reads.same h)
    (c.make_twice.ensures.crash (reads.honesty.0 h)))

pub returns-then-has_twins-clause-left : goal.returns-then-has_twins-clause-left
returns-then-has_twins-clause-left g c = λ h twins.
    let D = g.D.PageDisk in
    let reads = c.is_taken.ensures.disk in
    subst (λ (s : State). IfErr c.make_twice.result (λ refused. Leaves (D.state refused.1) (LeavesLaying c.args.geometry s))) (reads.same h) (c.make_twice.ensures.left (reads.honesty.0 h))

pub returns-then-has_twins-clause-start : goal.returns-then-has_twins-clause-start
returns-then-has_twins-clause-start g c =
    ok_if c.make_twice.result (g.D.PageDisk.honest c.args.disk) (λ core. Recovers (shape core.store.extents) (formats_of (shape core.store.extents)) (page core.opened) 0 (λ id. None)) (λ h. c.make_twice.ensures.start (c.is_taken.ensures.disk.honesty.0 h))

pub returns-else-has_twins-clause-start : goal.returns-else-has_twins-clause-start
returns-else-has_twins-clause-start g c =
    ok_if c.make_once.result (g.D.PageDisk.honest c.args.disk) (λ core. Recovers (shape core.store.extents) (formats_of (shape core.store.extents)) (page core.opened) 0 (λ id. None)) (λ h. c.make_once.ensures.start (c.is_taken.ensures.disk.honesty.0 h))

pub returns-then-pages-device_pages-clause-left : goal.returns-then-pages-device_pages-clause-left
returns-then-pages-device_pages-clause-left g c = λ h twins. let s = g.D.PageDisk.state c.args.disk in not_laid c.args.geometry s s refl

pub returns-in_default-clause-left : goal.returns-in_default-clause-left
returns-in_default-clause-left g c = λ h twins. let s = g.D.PageDisk.state c.args.disk in not_laid c.args.geometry s s refl

pub returns-in-Ok-true-clause-left : goal.returns-in-Ok-true-clause-left
returns-in-Ok-true-clause-left g c = λ h twins. not_laid c.args.geometry (g.D.PageDisk.state c.args.disk) (g.D.PageDisk.state c.is_taken.new.disk) (c.is_taken.ensures.disk.same h)

pub returns-in-Err-clause-left : goal.returns-in-Err-clause-left
returns-in-Err-clause-left g c = λ h twins. not_laid c.args.geometry (g.D.PageDisk.state c.args.disk) (g.D.PageDisk.state c.is_taken.new.disk) (c.is_taken.ensures.disk.same h)
