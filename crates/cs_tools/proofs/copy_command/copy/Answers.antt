use Rattle.std.proofs.Common.{◌≢◌, List, None, map, subst, sym}
use Rattle.cs_frame.specs.declared.identifiers.ShardId.{ShardId}
use Rattle.cs_index.specs.State.{id_number}
use Rattle.cs_inspect.specs.Listings.{AreAll}
use Rattle.cs_tools.specs.Copies.{MayStopCopy, over_all}
use Rattle.cs_tools.proofs.Copying.{all_bytes, has_agreed, has_still, over_nothing}
use Rattle.cs_tools.proofs.Resting.{persists, store_read}
use Rattle.cs_tools.proofs.copy_command.copy.Goals as goal

pub returns-in-Ok-put_all-clause-copied : goal.returns-in-Ok-put_all-clause-copied
returns-in-Ok-put_all-clause-copied g c = λ m has_m some h k done.
    let put = c.put_all.new.to in
    let now = c.compare_all.new.to in
    let has_n = c.put_all.ensures.map some in
    let listed = subst (λ (l : List ShardId). AreAll (λ id. m id ≢ None) (map id_number l)) (sym c.deref-in-Ok-put_all.ensures.value) (c.in-Ok.ensures.map m has_m h) in
    let agree = c.compare_all.ensures.agree m has_n.0 (has_still c.args.from.now c.put_all.new.from c.put_all.ensures.same m has_m) has_n.1 (c.put_all.ensures.disk.honesty.0 h) (c.put_all.ensures.honest.0 k) listed done in (
      has_agreed now m has_n.0 agree (has_still put now c.compare_all.ensures.to_same has_n.0 has_n.1),
      persists put now (store_read put now c.compare_all.ensures.to_same) (c.in-Ok-put_all.ensures.persistent k),
    )

pub returns-clause-copied : goal.returns-clause-copied
returns-clause-copied g c = λ m has_m some h k done. absurd (subst MayStopCopy done c.in-Err.ensures.ends)

pub returns-in-Ok-put_all-clause-whole : goal.returns-in-Ok-put_all-clause-whole
returns-in-Ok-put_all-clause-whole g c = λ m n has_from has_to whole nothing h k.
    let put = c.put_all.new.to in
    let ids = c.deref-in-Ok-put_all.result.now in
    let listed = subst (λ (l : List ShardId). AreAll (λ id. m id ≢ None) (map id_number l)) (sym c.deref-in-Ok-put_all.ensures.value) (c.in-Ok.ensures.map m has_from h) in
    let has_put = has_agreed put m (over_all n m c.deref.result.now) (over_nothing n m c.deref.result.now nothing
    (subst (λ (l : List ShardId). AreAll (λ id. m id ≢ None) (map id_number l)) (sym c.deref.ensures.value) (c.in-Ok.ensures.map m has_from h))) (c.in-Ok-put_all.ensures.put m n has_from has_to h) in
    c.compare_all.ensures.whole m (has_still c.args.from.now c.put_all.new.from c.put_all.ensures.same m has_from) has_put whole (c.put_all.ensures.disk.honesty.0 h) (c.put_all.ensures.honest.0 k) listed

pub returns-clause-whole : goal.returns-clause-whole
returns-clause-whole g c = λ m n has_from has_to whole nothing h k.
    let ids = c.deref.result.now in
    let listed = subst (λ (l : List ShardId). AreAll (λ id. m id ≢ None) (map id_number l)) (sym c.deref.ensures.value) (c.in-Ok.ensures.map m has_from h) in
    c.in-Err.ensures.whole m has_from h (all_bytes m ids whole (λ id there. (listed.each id).0 there))
