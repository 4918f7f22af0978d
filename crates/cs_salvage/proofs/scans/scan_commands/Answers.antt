use Rattle.std.proofs.Common.{◌≤◌, ℕ, [], arith, subst, sym}
use Rattle.cs_disk.proofs.OnlyRead.{reads_on}
use Rattle.cs_disk.specs.Disk.{State, seen}
use Rattle.cs_salvage.specs.Greatest.{IsGreatestBefore}
use Rattle.cs_salvage.specs.Looks.{AreApart, look_end}
use Rattle.cs_salvage.proofs.Scanning.{scan_of}
use Rattle.cs_salvage.proofs.Stretches.{length_seen}
use Rattle.cs_salvage.proofs.scans.scan_commands.Goals as goal

pub loop-scan-preserved : goal.loop-scan-preserved
loop-scan-preserved g c =
    let was = c.loop-scan.invariant in
    let it = c.in_ok-scan.ensures in
    let now = c.in_ok-scan.scan in
    record {
      disk = reads_on g.D.PageDisk c.args.disk.now c.loop-scan.disk c.scan_on.new.disk was.disk it.disk;
      from = omega (arith, it.next.0, was.from);
      scanned = λ h.
          let same = was.disk.same h in
          let before = subst (λ (s : State). IsGreatestBefore c.args.sought.now (seen s) c.loop-scan.scan.page c.loop-scan.scan.unreadable.items c.loop-scan.scan.greatest) (sym same) (was.scanned h) in
          subst (λ (s : State). IsGreatestBefore c.args.sought.now (seen s) now.page now.unreadable.items now.greatest) same (it.scanned (was.disk.honesty.0 h) before);
      apart = subst (λ (n : ℕ). AreApart c.args.sought.now.geometry 0 n now.page now.unreadable.items []) was.disk.pages it.apart;
      spelled = it.spelled was.spelled;
      cause = it.cause (g.D.PageDisk.failure_count c.args.disk.now) was.cause;
    }

pub returns-then-not-goes_on-clause-scanned : goal.returns-then-not-goes_on-clause-scanned
returns-then-not-goes_on-clause-scanned g c = λ h.
    let count = g.D.PageDisk.page_count c.args.disk.now in
    scan_of c.args.sought.now (seen (g.D.PageDisk.state c.args.disk.now)) c.loop-scan.scan.page count c.loop-scan.scan.unreadable.items _
    (length_seen (g.D.PageDisk.state c.args.disk.now) count (g.met.D.PageDisk.sized c.args.disk.now h)) (c.loop-scan.invariant.scanned h) (λ is. absurd (cc is))

pub returns-clause-scanned : goal.returns-clause-scanned
returns-clause-scanned g c = λ h.
    let count = g.D.PageDisk.page_count c.args.disk.now in
    let ends : look_end c.args.sought.now.geometry count ≤ c.loop-scan.scan.page = omega (arith, c.loop-scan-test.false, c.end_of_scan-end.ensures, c.pages.ensures) in
    scan_of c.args.sought.now (seen (g.D.PageDisk.state c.args.disk.now)) c.loop-scan.scan.page count c.loop-scan.scan.unreadable.items _
    (length_seen (g.D.PageDisk.state c.args.disk.now) count (g.met.D.PageDisk.sized c.args.disk.now h)) (c.loop-scan.invariant.scanned h) (λ is. ends)
