use Rattle.cs_mount.proofs.PagesRemade.{remade_is, safe_fenced, safe_written, seen_then}
use Rattle.cs_mount.proofs.remakes.remake.Goals as goal

pub returns-in-Ok-clause-remade : goal.returns-in-Ok-clause-remade
returns-in-Ok-clause-remade g c = λ h.
    let D = g.D.PageDisk in
    remade_is c.write_then.result c.args.pages.now (D.state c.args.disk.now) (D.state c.fence_first.new.disk) (D.state c.write_then.new.disk) (c.in-Ok.ensures.fenced h) (c.write_then.ensures.written (c.fence_first.ensures.honest.0 h))

pub returns-in-Ok-clause-seen : goal.returns-in-Ok-clause-seen
returns-in-Ok-clause-seen g c = λ h.
    let D = g.D.PageDisk in
    seen_then c.write_then.result c.args.pages.now (D.state c.args.disk.now) (D.state c.write_then.new.disk)
    (remade_is c.write_then.result c.args.pages.now (D.state c.args.disk.now) (D.state c.fence_first.new.disk) (D.state c.write_then.new.disk) (c.in-Ok.ensures.fenced h) (c.write_then.ensures.written (c.fence_first.ensures.honest.0 h)))

pub returns-in-Ok-clause-crash : goal.returns-in-Ok-clause-crash
returns-in-Ok-clause-crash g c = λ h.
    let D = g.D.PageDisk in
    (safe_written D c.args.pages.now c.args.disk.now c.fence_first.new.disk c.write_then.new.disk (safe_fenced D c.args.pages.now c.args.disk.now c.fence_first.new.disk (c.fence_first.ensures.some h)) (c.in-Ok.ensures.fenced h)
    (c.write_then.ensures.some (c.fence_first.ensures.honest.0 h))).any_moment

pub returns-in-Ok-clause-left : goal.returns-in-Ok-clause-left
returns-in-Ok-clause-left g c = λ h.
    let D = g.D.PageDisk in
    (safe_written D c.args.pages.now c.args.disk.now c.fence_first.new.disk c.write_then.new.disk (safe_fenced D c.args.pages.now c.args.disk.now c.fence_first.new.disk (c.fence_first.ensures.some h)) (c.in-Ok.ensures.fenced h)
    (c.write_then.ensures.some (c.fence_first.ensures.honest.0 h))).now
