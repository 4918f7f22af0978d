use Rattle.cs_twin.specs.Pairs.{fence}
use Rattle.cs_twin.proofs.Filled.{copy_done, copy_failed, copy_leaves, fence_done, fence_failed, fence_leaves}
use Rattle.cs_twin.proofs.findings.fill.Goals as goal

pub returns-in-Fence-clause-ok : goal.returns-in-Fence-clause-ok
unfolding fence
returns-in-Fence-clause-ok g c = λ h. fence_done c.args.filling (g.D.PageDisk.state c.args.disk.now) c.args.number c.args.bytes.now _ c.in-Fence.is (c.in-Ok.ensures.ok h)

pub returns-in-Fence-clause-crash : goal.returns-in-Fence-clause-crash
unfolding fence
returns-in-Fence-clause-crash g c = λ h.
    fence_leaves c.args.filling (g.D.PageDisk.state c.args.disk.now) c.args.number c.args.bytes.now g.D.PageDisk.moment g.D.PageDisk.left_since c.args.disk.now c.write_through.new.disk (c.write_through.ensures.crash h)

pub returns-in-Copy-clause-ok : goal.returns-in-Copy-clause-ok
unfolding fence
returns-in-Copy-clause-ok g c = λ h.
    copy_done c.args.filling (g.D.PageDisk.state c.args.disk.now) c.args.number c.args.bytes.now c.write_through-in-Copy.result (g.D.PageDisk.state c.write_through.new.disk) _ c.in-Copy.is (c.in-Ok.ensures.ok h)
    (c.write_through-in-Copy.ensures.ok (c.write_through.ensures.honest.0 h))

pub returns-in-Copy-clause-err : goal.returns-in-Copy-clause-err
unfolding fence
returns-in-Copy-clause-err g c = λ h.
    copy_failed c.args.filling (g.D.PageDisk.state c.args.disk.now) c.args.number c.args.bytes.now c.write_through-in-Copy.result (g.D.PageDisk.state c.write_through.new.disk) _ c.in-Copy.is (c.in-Ok.ensures.ok h)
    (c.write_through-in-Copy.ensures.err (c.write_through.ensures.honest.0 h))

pub returns-in-Copy-clause-crash : goal.returns-in-Copy-clause-crash
unfolding fence
returns-in-Copy-clause-crash g c = λ h.
    copy_leaves c.args.filling (g.D.PageDisk.state c.args.disk.now) c.args.number c.args.bytes.now g.D.PageDisk.moment g.D.PageDisk.left_since c.args.disk.now c.write_through.new.disk c.write_through-in-Copy.new.disk
    (g.D.PageDisk.state c.write_through.new.disk) c.in-Copy.is (c.in-Ok.ensures.ok h) (c.write_through.ensures.crash h) (c.write_through-in-Copy.ensures.crash (c.write_through.ensures.honest.0 h))

pub returns-in-Err-clause-err : goal.returns-in-Err-clause-err
unfolding fence
returns-in-Err-clause-err g c = λ h. fence_failed c.args.filling (g.D.PageDisk.state c.args.disk.now) c.args.number c.args.bytes.now _ (c.in-Err.ensures.err h)

pub returns-in-Err-clause-crash : goal.returns-in-Err-clause-crash
unfolding fence
returns-in-Err-clause-crash g c = λ h.
    fence_leaves c.args.filling (g.D.PageDisk.state c.args.disk.now) c.args.number c.args.bytes.now g.D.PageDisk.moment g.D.PageDisk.left_since c.args.disk.now c.write_through.new.disk (c.write_through.ensures.crash h)
