use Rattle.std.proofs.Common.{[], ap}
use Rattle.std.proofs.lemmas.List.{get_or_default}
use Rattle.cs_disk.proofs.OnlyRead.{reads_on}
use Rattle.cs_disk.specs.Disk.{seen}
use Rattle.cs_doctor.proofs.DoctorOpening.{runs_end, runs_step}
use Rattle.cs_doctor.proofs.doctor_stores.read_each.Goals as goal

pub loop-k-preserved : goal.loop-k-preserved
loop-k-preserved g c =
    let disks = g.D.PageDisk in
    let first = c.args.disk.now in
    let here = c.loop-k.disk in
    let next = c.read_one.new.disk in
    let was = c.loop-k.invariant in
    let places = c.args.places.now in
    let k = c.loop-k.k in
    record {
      disk = reads_on disks first here next was.disk c.read_one.ensures.disk;
      found = λ h. runs_step c.args.extents.now (disks.failure_count first) (disks.failure_count here) (disks.failure_count next) (seen (disks.state here)) (seen (disks.state first)) places k c.loop-k.found.items c.push.new.self.items
          _ c.in_ok-run.run' c.loop-k-test.true (get_or_default places k _ _ c.loop-k-test.true) was.disk.failures c.read_one.ensures.disk.failures (ap seen (was.disk.same h)) (was.found h) (c.in_ok-run.ensures.found (was.disk.honesty.0 h)) c.in_ok-push.ensures.items;
    }

pub returns-in_err-run-clause-disk : goal.returns-in_err-run-clause-disk
returns-in_err-run-clause-disk g c = reads_on g.D.PageDisk c.args.disk.now c.loop-k.disk c.read_one.new.disk c.loop-k.invariant.disk c.read_one.ensures.disk

pub returns-in_err-push-clause-disk : goal.returns-in_err-push-clause-disk
returns-in_err-push-clause-disk g c = reads_on g.D.PageDisk c.args.disk.now c.loop-k.disk c.read_one.new.disk c.loop-k.invariant.disk c.read_one.ensures.disk

pub returns-clause-found : goal.returns-clause-found
returns-clause-found g c = λ h.
    let disks = g.D.PageDisk in
    let image = seen (disks.state c.args.disk.now) in
    runs_end c.args.extents.now (disks.failure_count c.args.disk.now) (disks.failure_count c.loop-k.disk) 0 image image c.args.places.now c.loop-k.k c.loop-k.found.items [] c.loop-k-test.false (c.loop-k.invariant.found h)
