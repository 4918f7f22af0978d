use Rattle.std.proofs.Common.{arith}
use Rattle.cs_advice.proofs.Knowing.{named_back}
use Rattle.cs_advice.proofs.knowns.named_at_end.Goals as goal

pub returns-in-Some-clause-named : goal.returns-in-Some-clause-named
returns-in-Some-clause-named g c = λ h.
    let disks = g.D.PageDisk in
    let was = c.loop-back.invariant in
    let named = c.in-Some.named in
    named_back disks c.args.disk.now c.loop-back.disk c.pages-pages.result c.loop-back.back named.format named.pages was.disk h c.pages-pages.ensures was.some (omega (arith, c.loop-back-test.true, c.min-back-end.ensures)) (c.in-Some.ensures.named (was.disk.honesty.0 h))
