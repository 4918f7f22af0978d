use Rattle.std.proofs.Common.{refl, subst, take_all, arith}
use Rattle.cs_disk.proofs.OnlyRead.{reads_none, reads_on}
use Rattle.cs_tools.specs.Copies.{HasBytes, MayStopCopy}
use Rattle.cs_tools.proofs.Copying.{AgreeOn, agree_more, has_still, numbers_at, same_more}
use Rattle.cs_tools.proofs.Still.{same_on}
use Rattle.cs_index.specs.State.{id_number}
use Rattle.cs_tools.proofs.Exporting.{all_at}
use Rattle.cs_tools.proofs.copy_command.compare_each.Goals as goal

pub loop-k-init : goal.loop-k-init
loop-k-init g c = record {
  same = refl;
  disk = reads_none g.D.PageDisk c.args.from.now.disk;
  to_same = refl;
  to_disk = reads_none g.E.PageDisk c.args.to.now.disk;
  ids = refl;
  agree = λ m n has_m has_n h k. tt;
}

pub loop-k-preserved : goal.loop-k-preserved
loop-k-preserved g c =
    let was = c.loop-k.invariant in
    let ids = c.args.ids.now in
    record {
      same = same_on c.args.from.now c.loop-k.from c.compare_one.new.from was.same c.compare_one.ensures.same;
      disk = reads_on g.D.PageDisk c.args.from.now.disk c.loop-k.from.disk c.compare_one.new.from.disk was.disk c.compare_one.ensures.disk;
      to_same = same_on c.args.to.now c.loop-k.to c.compare_one.new.to was.to_same c.compare_one.ensures.to_same;
      to_disk = reads_on g.E.PageDisk c.args.to.now.disk c.loop-k.to.disk c.compare_one.new.to.disk was.to_disk c.compare_one.ensures.to_disk;
      ids = same_more c.args.copied.now ids c.loop-k.k _ (omega (arith, c.loop-k-test.true, c.requires)) c.loop-k-test.true was.ids c.in-Ok.ensures.id;
      agree = λ m n has_m has_n h k. agree_more m n ids c.loop-k.k _ c.loop-k-test.true (was.agree m n has_m has_n h k)
          (c.in-Ok.ensures.agree m n (has_still c.args.from.now c.loop-k.from was.same m has_m) (has_still c.args.to.now c.loop-k.to was.to_same n has_n) (was.disk.honesty.0 h) (was.to_disk.honesty.0 k));
    }

pub returns-in-Err-clause-ids : goal.returns-in-Err-clause-ids
returns-in-Err-clause-ids g c = λ done. absurd (subst MayStopCopy done c.in-Err.ensures.ends)

pub returns-in-Err-clause-agree : goal.returns-in-Err-clause-agree
returns-in-Err-clause-agree g c = λ m n has_m has_n h k done. absurd (subst MayStopCopy done c.in-Err.ensures.ends)

pub returns-clause-agree : goal.returns-clause-agree
returns-clause-agree g c = λ m n has_m has_n h k done.
    subst (AgreeOn m n) (take_all c.loop-k.k c.args.ids.now c.loop-k-test.false) (c.loop-k.invariant.agree m n has_m has_n h k)

pub returns-in-Err-clause-whole : goal.returns-in-Err-clause-whole
returns-in-Err-clause-whole g c = λ m has_from has_to h k each same.
    let was = c.loop-k.invariant in
    let ids = c.args.ids.now in
    c.in-Err.ensures.whole m (has_still c.args.from.now c.loop-k.from was.same m has_from) (has_still c.args.to.now c.loop-k.to was.to_same m has_to) (was.disk.honesty.0 h) (was.to_disk.honesty.0 k)
    (all_at (λ id. HasBytes m (id_number id)) ids c.loop-k.k _ c.loop-k-test.true each) (numbers_at c.args.copied.now ids c.loop-k.k _ c.loop-k-test.true same)
