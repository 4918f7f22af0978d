use Rattle.std.proofs.Common.{List, refl, subst, take, take_all}
use Rattle.cs_disk.proofs.OnlyRead.{reads_none, reads_on}
use Rattle.cs_tools.proofs.Still.{same_on}
use Rattle.cs_frame.specs.declared.identifiers.ShardId.{ShardId}
use Rattle.cs_index.specs.State.{id_number}
use Rattle.cs_store.specs.Maps.{HasMap}
use Rattle.cs_tools.specs.Copies.{HasBytes, over_all}
use Rattle.cs_advice.proofs.Appended.{whatever}
use Rattle.cs_tools.proofs.Copying.{has_still, over_more}
use Rattle.cs_tools.proofs.Exporting.{all_at}
use Rattle.cs_tools.proofs.copy_command.put_all.Goals as goal

pub loop-k-init : goal.loop-k-init
loop-k-init g c = record {
  same = refl;
  disk = reads_none g.D.PageDisk c.args.from.now.disk;
  map = λ has. has;
  put = λ m n has_m has_n h. has_n;
  honest = (λ h. h, λ h. h);
}

pub loop-k-preserved : goal.loop-k-preserved
loop-k-preserved g c =
    let was = c.loop-k.invariant in
    record {
      same = same_on c.args.from.now c.loop-k.from c.put_next.new.from was.same c.put_next.ensures.same;
      disk = reads_on g.D.PageDisk c.args.from.now.disk c.loop-k.from.disk c.put_next.new.from.disk was.disk c.put_next.ensures.disk;
      map = λ has. c.put_next.ensures.map (was.map has);
      put = λ m n has_m has_n h. over_more c.put_next.new.to n m c.args.ids.now c.loop-k.k _ c.loop-k-test.true
          (c.in-Ok.ensures.put m (over_all n m (take c.loop-k.k c.args.ids.now)) (has_still c.args.from.now c.loop-k.from was.same m has_m) (was.put m n has_m has_n h) (was.disk.honesty.0 h));
      honest = (λ h. c.put_next.ensures.honest.0 (was.honest.0 h), λ h. was.honest.1 (c.put_next.ensures.honest.1 h));
    }

pub returns-in-Err-clause-disk : goal.returns-in-Err-clause-disk
returns-in-Err-clause-disk g c = reads_on g.D.PageDisk c.args.from.now.disk c.loop-k.from.disk c.put_next.new.from.disk c.loop-k.invariant.disk c.put_next.ensures.disk

pub returns-in-Err-clause-whole : goal.returns-in-Err-clause-whole
returns-in-Err-clause-whole g c = λ m has h each.
    let was = c.loop-k.invariant in
    c.in-Err.ensures.whole m (has_still c.args.from.now c.loop-k.from was.same m has) (was.disk.honesty.0 h) (all_at (λ id. HasBytes m (id_number id)) c.args.ids.now c.loop-k.k _ c.loop-k-test.true each)

pub returns-clause-put : goal.returns-clause-put
returns-clause-put g c = λ m n has_m has_n h.
    let put = subst (λ (l : List ShardId). HasMap c.loop-k.to (over_all n m l)) (take_all c.loop-k.k c.args.ids.now c.loop-k-test.false) (c.loop-k.invariant.put m n has_m has_n h) in
    whatever c.finish.result (c.finish.ensures.kept (over_all n m c.args.ids.now) put)
