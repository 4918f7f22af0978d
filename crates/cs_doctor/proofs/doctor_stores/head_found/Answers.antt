use Rattle.std.proofs.Common.{List, subst}
use Rattle.cs_disk.specs.Disk.{page, seen}
use Rattle.cs_frame.specs.declared.locators.Locator.{Locator}
use Rattle.cs_reader.proofs.HeadReads.{none_waits, room_for}
use Rattle.cs_doctor.specs.DoctorStores.{AreRunsFound}
use Rattle.cs_doctor.proofs.DoctorOpening.{head_known}
use Rattle.cs_doctor.proofs.doctor_stores.head_found.Goals as goal

pub read_each-requires-clause-device : goal.read_each-requires-clause-device
read_each-requires-clause-device g c = room_for (g.D.PageDisk.honest c.args.disk.now) (g.D.PageDisk.page_count c.args.disk.now) (page (seen (g.D.PageDisk.state c.args.disk.now))) c.args.head.now c.requires

pub read_each-requires-clause-none : goal.read_each-requires-clause-none
read_each-requires-clause-none g c = none_waits (g.D.PageDisk.honest c.args.disk.now) (g.D.PageDisk.page_count c.args.disk.now) (page (seen (g.D.PageDisk.state c.args.disk.now))) c.args.head.now c.requires

pub returns-clause-found : goal.returns-clause-found
returns-clause-found g c = λ h.
    let disks = g.D.PageDisk in
    let view = page (seen (disks.state c.args.disk.now)) in
    let head = c.args.head.now in
    record {
      head = head;
      read = head_known (disks.honest c.args.disk.now) (disks.state c.args.disk.now) (disks.page_count c.args.disk.now) head h c.requires;
      root_is = c.root_of.ensures;
      runs_are = subst (λ (ls : List Locator). AreRunsFound head.extents view (disks.failure_count c.args.disk.now) (disks.failure_count c.read_each.new.disk) ls c.in_ok-runs.runs.items) c.deref.ensures.value (c.in_ok-runs.ensures.found h);
      worn_are = c.in_ok-worn.ensures;
    }
