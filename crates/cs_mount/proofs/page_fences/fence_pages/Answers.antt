use Rattle.cs_disk.proofs.Crashes.{seen_MayLeave}
use Rattle.cs_mount.specs.Makings.{after_writes}
use Rattle.cs_mount.specs.Unreadable.{fences_on}
use Rattle.cs_mount.proofs.Laying.{and_flush, flush_made}
use Rattle.cs_mount.proofs.page_fences.fence_pages.Goals as goal

pub returns-in-Ok-clause-fenced : goal.returns-in-Ok-clause-fenced
returns-in-Ok-clause-fenced g c = λ h.
    let D = g.D.PageDisk in
    flush_made c.flush.result (D.state c.write_fences.new.disk) (D.state c.flush.new.self) (after_writes (D.state c.args.disk.now) (fences_on c.args.pages.now)) (c.in-Ok.ensures.written h) (c.flush.ensures.ok (c.write_fences.ensures.honest.0 h))

pub returns-in-Ok-clause-crash : goal.returns-in-Ok-clause-crash
returns-in-Ok-clause-crash g c = λ h.
    let there = c.write_fences.ensures.honest.0 h in
    (and_flush g.D.PageDisk c.flush.result c.args.disk.now c.write_fences.new.disk c.flush.new.self (fences_on c.args.pages.now) (c.write_fences.ensures.some h) (c.in-Ok.ensures.written h) (c.flush.ensures.time there) (c.flush.ensures.ok there) (c.flush.ensures.err there)).meanwhile

pub returns-in-Ok-clause-left : goal.returns-in-Ok-clause-left
returns-in-Ok-clause-left g c = λ h.
    let there = c.write_fences.ensures.honest.0 h in
    (and_flush g.D.PageDisk c.flush.result c.args.disk.now c.write_fences.new.disk c.flush.new.self (fences_on c.args.pages.now) (c.write_fences.ensures.some h) (c.in-Ok.ensures.written h) (c.flush.ensures.time there) (c.flush.ensures.ok there) (c.flush.ensures.err there)).now

pub returns-in-Ok-clause-seen : goal.returns-in-Ok-clause-seen
returns-in-Ok-clause-seen g c = λ h.
    let there = c.write_fences.ensures.honest.0 h in
    (and_flush g.D.PageDisk c.flush.result c.args.disk.now c.write_fences.new.disk c.flush.new.self (fences_on c.args.pages.now) (c.write_fences.ensures.some h) (c.in-Ok.ensures.written h) (c.flush.ensures.time there) (c.flush.ensures.ok there) (c.flush.ensures.err there)).now _ (seen_MayLeave (g.D.PageDisk.state c.flush.new.self))

pub returns-in-Err-clause-crash : goal.returns-in-Err-clause-crash
returns-in-Err-clause-crash g c = λ h. (c.write_fences.ensures.some h).meanwhile

pub returns-in-Err-clause-left : goal.returns-in-Err-clause-left
returns-in-Err-clause-left g c = λ h. (c.write_fences.ensures.some h).now

pub returns-in-Err-clause-seen : goal.returns-in-Err-clause-seen
returns-in-Err-clause-seen g c = λ h. (c.write_fences.ensures.some h).now _ (seen_MayLeave (g.D.PageDisk.state c.write_fences.new.disk))
