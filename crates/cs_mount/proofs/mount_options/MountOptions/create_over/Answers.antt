use Rattle.std.proofs.Common.{None, Some, ap, IfOk, refl, subst}
use Rattle.cs_core.specs.Started.{IsNewOn}
use Rattle.cs_disk.specs.Disk.{State, page}
use Rattle.cs_twin.specs.Paired.{state_shown}
use Rattle.cs_mount.specs.StorePairs.{store_version}
use Rattle.cs_mount.proofs.Laying.{not_laid}
use Rattle.cs_mount.proofs.Mounting.{ok_if}
use Rattle.law_machine.specs.Recovery.{Recovers}
use Rattle.cs_core.specs.cs_extent.State.{shape}
use Rattle.cs_frame.specs.Formats.{formats_of}
use Rattle.cs_mount.proofs.Blank.{new_shows}
use Rattle.cs_mount.proofs.mount_options.MountOptions.create_over.Goals as goal

pub returns-then-has_twins-clause-zeros : goal.returns-then-has_twins-clause-zeros
returns-then-has_twins-clause-zeros g c = λ h blank.
    let d = c.args.geometry in
    subst (λ (s : State). IfOk c.make_twice.result (λ core. IsNewOn d.format d.extents d.pages d.sections s (state_shown core.disk)))
    (new_shows (store_version (Some d)) d (g.D.PageDisk.state c.args.disk) c.extents.ensures.geometry (ap (λ (s : State). s.durable) blank) (ap (λ (s : State). s.volatile) blank)) (c.make_twice.ensures.written h)

pub returns-then-has_twins-clause-start : goal.returns-then-has_twins-clause-start
returns-then-has_twins-clause-start g c =
    ok_if c.make_twice.result (g.D.PageDisk.honest c.args.disk) (λ core. Recovers (shape core.store.extents) (formats_of (shape core.store.extents)) (page core.opened) 0 (λ id. None)) c.make_twice.ensures.start

pub returns-then-pages-device_pages-clause-left : goal.returns-then-pages-device_pages-clause-left
returns-then-pages-device_pages-clause-left g c = λ h twins. let s = g.D.PageDisk.state c.args.disk in not_laid c.args.geometry s s refl
