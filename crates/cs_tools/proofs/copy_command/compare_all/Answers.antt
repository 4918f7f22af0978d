use Rattle.std.proofs.Common.{◌≡◌, ◌≢◌, ◌∙◌, List, None, arith, length, map, subst, sym}
use Rattle.cs_frame.specs.declared.identifiers.ShardId.{ShardId}
use Rattle.cs_index.specs.State.{id_number}
use Rattle.cs_inspect.specs.Listings.{AreAll}
use Rattle.cs_tools.proofs.Copying.{agree_all, all_bytes, length_same, listed_same}
use Rattle.cs_tools.proofs.copy_command.compare_all.Goals as goal

pub returns-clause-agree : goal.returns-clause-agree
returns-clause-agree g c = λ m n has_m has_n h k all done.
    agree_all m n c.args.ids.now all
    (subst (λ (l : List ShardId). AreAll (λ id. n id ≢ None) (map id_number l)) (sym c.deref.ensures.value ∙ c.compare_each.ensures.ids done) (c.in-Ok.ensures.map n has_n k))
    (c.compare_each.ensures.agree m n has_m has_n h k done)

pub returns-then-len-ids-clause-whole : goal.returns-then-len-ids-clause-whole
returns-then-len-ids-clause-whole g c = λ m has_from has_to whole h k all.
    let ids = c.args.ids.now in
    let copied = c.in-Ok.copied.items in
    let same : length copied ≡ length ids = length_same copied ids (listed_same m (map id_number copied) (map id_number ids) (c.in-Ok.ensures.map m has_to k) all) in
    c.if-len-ids.true (omega (arith, c.len.ensures, c.in-Ok.copied.ok.0, same))

pub returns-clause-whole : goal.returns-clause-whole
returns-clause-whole g c = λ m has_from has_to whole h k all.
    let ids = c.args.ids.now in
    let listed = subst (λ (l : List ShardId). AreAll (λ id. m id ≢ None) (map id_number l)) (sym c.deref.ensures.value) (c.in-Ok.ensures.map m has_to k) in
    c.compare_each.ensures.whole m has_from has_to h k (all_bytes m ids whole (λ id there. (all.each id).0 there)) (listed_same m (map id_number c.deref.result.now) (map id_number ids) listed all)
