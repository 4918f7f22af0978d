use Rattle.std.proofs.Common.{◌≡◌, ◌≤◌, arith, subst, sym, ℕ}
use Rattle.cs_disk.proofs.OnlyRead.{reads_on}
use Rattle.cs_disk.specs.Disk.{State, seen}
use Rattle.cs_salvage.specs.Looks.{AreApart, AreFoundBefore, look_end}
use Rattle.cs_salvage.proofs.Stretches.{all_found, length_seen}
use Rattle.cs_salvage.proofs.finds.find_parts.Goals as goal

pub loop-page-preserved : goal.loop-page-preserved
loop-page-preserved g c =
    let was = c.loop-page.invariant in
    let count : g.D.PageDisk.page_count c.loop-page.disk ≡ g.D.PageDisk.page_count c.args.disk.now = was.disk.pages in
    let next = c.in_ok-page.ensures.next in
    record {
      disk = reads_on g.D.PageDisk c.args.disk.now c.loop-page.disk c.scan_stretch.new.disk was.disk c.scan_stretch.ensures.disk;
      from = omega (arith, next.0, was.from);
      above = omega (arith, next.0, was.above);
      parts = λ h.
          let same = was.disk.same h in
          let before = subst (λ (s : State). AreFoundBefore c.args.sought.now (seen s) c.args.from_page c.loop-page.page c.loop-page.finds.unreadable.items c.loop-page.finds.parts.items) (sym same) (was.parts h) in
          subst (λ (s : State). AreFoundBefore c.args.sought.now (seen s) c.args.from_page c.in_ok-page.page c.scan_stretch.new.finds.unreadable.items c.scan_stretch.new.finds.parts.items) same
          (c.in_ok-page.ensures.parts (was.disk.honesty.0 h) c.args.from_page was.from before);
      apart = subst (λ (n : ℕ). AreApart c.args.sought.now.geometry c.args.from_page n c.in_ok-page.page c.scan_stretch.new.finds.unreadable.items c.scan_stretch.new.finds.parts.items) count
          (c.in_ok-page.ensures.apart c.args.from_page was.from
          (subst (λ (n : ℕ). AreApart c.args.sought.now.geometry c.args.from_page n c.loop-page.page c.loop-page.finds.unreadable.items c.loop-page.finds.parts.items) (sym count) was.apart));
      spelled = c.in_ok-page.ensures.spelled was.spelled;
      taken = c.in_ok-page.ensures.taken was.taken;
      cause = c.in_ok-page.ensures.cause (g.D.PageDisk.failure_count c.args.disk.now) was.cause;
    }

pub returns-clause-parts : goal.returns-clause-parts
returns-clause-parts g c = λ h.
    let was = c.loop-page.invariant in
    let image = seen (g.D.PageDisk.state c.args.disk.now) in
    let count : ℕ = g.D.PageDisk.page_count c.args.disk.now in
    let ends : look_end c.args.sought.now.geometry count ≤ c.loop-page.page = omega (arith, c.loop-page-test.false, c.end_of_scan-end.ensures, c.pages.ensures) in
    all_found c.args.sought.now image c.args.from_page c.loop-page.page count c.loop-page.finds.unreadable.items c.loop-page.finds.parts.items
    (length_seen (g.D.PageDisk.state c.args.disk.now) count (g.met.D.PageDisk.sized c.args.disk.now h)) ends (was.parts h) was.apart.avoid
