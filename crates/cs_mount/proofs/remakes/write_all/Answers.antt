use Rattle.std.proofs.Common.{◌∙◌, ◌+◌, [], arith, get_or, take}
use Rattle.std.proofs.lemmas.Option.{slice_get-get_or}
use Rattle.cs_mount.proofs.PagesRemade.{next_write, some_more, some_of_writes, state_more}
use Rattle.cs_mount.proofs.remakes.write_all.Goals as goal

pub loop-k-preserved : goal.loop-k-preserved
loop-k-preserved g c =
    let D = g.D.PageDisk in
    let so_far = c.loop-k.invariant in
    record {
      honesty = ((λ h. c.write.ensures.honest.0 (so_far.honesty.0 h)), (λ h. so_far.honesty.1 (c.write.ensures.honest.1 h)));
      size = c.write.ensures.pages ∙ so_far.size;
      failures = omega (arith, so_far.failures, c.write.ensures.cause.later);
      written = λ h. state_more D (D.state c.args.disk.now) (D.state c.loop-k.disk) (D.state c.write.new.self) (take c.loop-k.k c.args.pages.now) (take (c.loop-k.k + 1) c.args.pages.now) (get_or c.args.pages.now c.loop-k.k (0, [])).0 (get_or c.args.pages.now c.loop-k.k (0, [])).1 (next_write c.args.pages.now c.loop-k.k (get_or c.args.pages.now c.loop-k.k (0, [])) (slice_get-get_or c.args.pages.now c.loop-k.k (0, []) c.loop-k-test.true)) (so_far.written h) (c.in-Ok.ensures.ok (so_far.honesty.0 h));
      some = λ h. let there = so_far.honesty.0 h in some_more D c.args.disk.now c.loop-k.disk c.write.new.self (take c.loop-k.k c.args.pages.now) (take (c.loop-k.k + 1) c.args.pages.now) (get_or c.args.pages.now c.loop-k.k (0, [])).0 (get_or c.args.pages.now c.loop-k.k (0, [])).1 (next_write c.args.pages.now c.loop-k.k (get_or c.args.pages.now c.loop-k.k (0, [])) (slice_get-get_or c.args.pages.now c.loop-k.k (0, []) c.loop-k-test.true)) (so_far.some h) (so_far.written h)
          (λ image left. g.met.D.PageDisk.only_now c.loop-k.disk image there left) (c.write.ensures.time there) (c.write.ensures.fault there);
    }

pub returns-in-Err-clause-some : goal.returns-in-Err-clause-some
returns-in-Err-clause-some g c = λ h.
    let D = g.D.PageDisk in
    let so_far = c.loop-k.invariant in
    let there = so_far.honesty.0 h in
    some_of_writes D c.args.disk.now c.write.new.self c.args.pages.now (c.loop-k.k + 1)
    (some_more D c.args.disk.now c.loop-k.disk c.write.new.self (take c.loop-k.k c.args.pages.now) (take (c.loop-k.k + 1) c.args.pages.now) (get_or c.args.pages.now c.loop-k.k (0, [])).0 (get_or c.args.pages.now c.loop-k.k (0, [])).1 (next_write c.args.pages.now c.loop-k.k (get_or c.args.pages.now c.loop-k.k (0, [])) (slice_get-get_or c.args.pages.now c.loop-k.k (0, []) c.loop-k-test.true)) (so_far.some h) (so_far.written h)
    (λ image left. g.met.D.PageDisk.only_now c.loop-k.disk image there left) (c.write.ensures.time there) (c.write.ensures.fault there))
