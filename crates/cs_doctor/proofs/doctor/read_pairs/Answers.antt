use Rattle.std.proofs.Common.{[], ap, false, true}
use Rattle.std.proofs.lemmas.List.{get_or_default}
use Rattle.cs_disk.proofs.OnlyRead.{reads_on}
use Rattle.cs_disk.specs.Disk.{seen}
use Rattle.cs_mount.specs.StorePairs.{store_version}
use Rattle.cs_twin.proofs.Holding.{inside_at}
use Rattle.cs_doctor.proofs.Doctoring.{pairs_end, pairs_step}
use Rattle.cs_doctor.proofs.doctor.read_pairs.Goals as goal

pub loop-k-preserved : goal.loop-k-preserved
loop-k-preserved g c =
    let disks = g.D.PageDisk in
    let first = c.args.disk.now in
    let here = c.loop-k.disk in
    let next = c.read_pair.new.disk in
    let was = c.loop-k.invariant in
    let pairs = c.args.pairs.now in
    let k = c.loop-k.k in
    record {
      disk = reads_on disks first here next was.disk c.read_pair.ensures.disk;
      found = λ h. pairs_step (store_version c.args.rules.now.geometry) (disks.failure_count first) (disks.failure_count here) (disks.failure_count next) (seen (disks.state here)) (seen (disks.state first)) pairs k c.loop-k.found.items c.push.new.self.items
          _ c.in_ok-read.read c.loop-k-test.true (get_or_default pairs k _ _ c.loop-k-test.true) was.disk.failures c.read_pair.ensures.disk.failures (ap seen (was.disk.same h)) (was.found h) (c.in_ok-read.ensures.found (was.disk.honesty.0 h)) c.in_ok-push.ensures.items;
    }

pub read_pair-requires-clause-own : goal.read_pair-requires-clause-own
read_pair-requires-clause-own g c = inside_at c.args.pairs.now _ _ c.loop-k.k _ false c.requires c.loop-k.invariant.disk.pages c.loop-k-test.true

pub read_pair-requires-clause-twin : goal.read_pair-requires-clause-twin
read_pair-requires-clause-twin g c = inside_at c.args.pairs.now _ _ c.loop-k.k _ true c.requires c.loop-k.invariant.disk.pages c.loop-k-test.true

pub returns-in_err-read-clause-disk : goal.returns-in_err-read-clause-disk
returns-in_err-read-clause-disk g c = reads_on g.D.PageDisk c.args.disk.now c.loop-k.disk c.read_pair.new.disk c.loop-k.invariant.disk c.read_pair.ensures.disk

pub returns-in_err-push-clause-disk : goal.returns-in_err-push-clause-disk
returns-in_err-push-clause-disk g c = reads_on g.D.PageDisk c.args.disk.now c.loop-k.disk c.read_pair.new.disk c.loop-k.invariant.disk c.read_pair.ensures.disk

pub returns-clause-found : goal.returns-clause-found
returns-clause-found g c = λ h.
    let disks = g.D.PageDisk in
    pairs_end (store_version c.args.rules.now.geometry) (disks.failure_count c.args.disk.now) (disks.failure_count c.loop-k.disk) 0 (seen (disks.state c.args.disk.now)) (seen (disks.state c.args.disk.now)) c.args.pairs.now c.loop-k.k c.loop-k.found.items [] c.loop-k-test.false (c.loop-k.invariant.found h)
