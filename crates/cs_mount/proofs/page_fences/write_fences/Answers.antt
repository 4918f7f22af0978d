use Rattle.std.proofs.Common.{◌∙◌, ◌+◌, ℕ, List, [], ◌∷◌, ap, arith, get_or, refl, subst, sym}
use Rattle.cs_disk.specs.Disk.{Write, written}
use Rattle.cs_mount.specs.Makings.{LeavesSome, after_writes}
use Rattle.cs_mount.proofs.Fenced.{all_written, among_at, fence_is, none_written, some_next, some_of_fences, state_next}
use Rattle.cs_mount.proofs.Laying.{none_yet, one_write}
use Rattle.cs_mount.proofs.page_fences.write_fences.Goals as goal

pub loop-number-init : goal.loop-number-init
loop-number-init g c = record {
  honesty = ((λ h. h), (λ h. h));
  size = refl;
  failures = omega arith;
  written = λ h. none_written (g.D.PageDisk.state c.args.disk.now) c.args.pages.now;
  some = λ h. none_yet g.D.PageDisk c.args.disk.now [] (λ image left. g.met.D.PageDisk.only_now c.args.disk.now image h left);
}

pub write-requires : goal.write-requires
write-requires g c = let size = c.loop-number.invariant.size in let inside = c.requires (get_or c.args.pages.now c.loop-number.number-index 0) (among_at c.args.pages.now c.loop-number.number-index 0 c.loop-number-test.true) in omega (arith, size, inside)

pub returns-in-Err-clause-some : goal.returns-in-Err-clause-some
returns-in-Err-clause-some g c = λ h.
    let D = g.D.PageDisk in
    let so_far = c.loop-number.invariant in
    let there = so_far.honesty.0 h in
    let k = c.loop-number.number-index in
    some_of_fences D c.args.pages.now c.args.disk.now c.write.new.self (k + 1)
    (some_next D c.args.pages.now c.args.disk.now c.loop-number.disk c.write.new.self k 0 c.loop-number-test.true (so_far.some h) (so_far.written h)
    (subst (λ (bytes : List ℕ). LeavesSome D c.loop-number.disk c.write.new.self ((get_or c.args.pages.now k 0, bytes) ∷ [])) (sym fence_is)
    (one_write D c.loop-number.disk c.write.new.self (get_or c.args.pages.now k 0) _ (λ image left. g.met.D.PageDisk.only_now c.loop-number.disk image there left) (c.write.ensures.time there) (c.write.ensures.fault there))))

pub loop-number-preserved : goal.loop-number-preserved
loop-number-preserved g c =
    let D = g.D.PageDisk in
    let so_far = c.loop-number.invariant in
    let k = c.loop-number.number-index in
    record {
      honesty = ((λ h. c.write.ensures.honest.0 (so_far.honesty.0 h)), (λ h. so_far.honesty.1 (c.write.ensures.honest.1 h)));
      size = c.write.ensures.pages ∙ so_far.size;
      failures = omega (arith, so_far.failures, c.write.ensures.cause.later);
      written = λ h. state_next c.args.pages.now (D.state c.args.disk.now) (D.state c.loop-number.disk) (D.state c.write.new.self) k 0 c.loop-number-test.true (so_far.written h)
          (c.in-Ok.ensures.ok (so_far.honesty.0 h) ∙ ap (λ (bytes : List ℕ). written (D.state c.loop-number.disk) (get_or c.args.pages.now k 0) bytes) (sym fence_is));
      some = λ h.
          let there = so_far.honesty.0 h in
          some_next D c.args.pages.now c.args.disk.now c.loop-number.disk c.write.new.self k 0 c.loop-number-test.true (so_far.some h) (so_far.written h)
          (subst (λ (bytes : List ℕ). LeavesSome D c.loop-number.disk c.write.new.self ((get_or c.args.pages.now k 0, bytes) ∷ [])) (sym fence_is)
          (one_write D c.loop-number.disk c.write.new.self (get_or c.args.pages.now k 0) _ (λ image left. g.met.D.PageDisk.only_now c.loop-number.disk image there left) (c.write.ensures.time there) (c.write.ensures.fault there)));
    }

pub returns-clause-written : goal.returns-clause-written
returns-clause-written g c = λ h. c.loop-number.invariant.written h ∙ ap (λ (l : List Write). after_writes (g.D.PageDisk.state c.args.disk.now) l) (all_written c.args.pages.now c.loop-number.number-index c.loop-number-test.false)

pub returns-clause-some : goal.returns-clause-some
returns-clause-some g c = λ h. some_of_fences g.D.PageDisk c.args.pages.now c.args.disk.now c.loop-number.disk c.loop-number.number-index (c.loop-number.invariant.some h)
