use Rattle.std.proofs.Common.{List, [], arith, subst, sym, take}
use Rattle.std.proofs.lemmas.List.{take_all}
use Rattle.cs_salvage.specs.declared.parts.Part.{Part}
use Rattle.cs_salvage.specs.declared.whole_shards.WholeShard.{WholeShard}
use Rattle.cs_salvage.specs.Shards.{AreNewest}
use Rattle.cs_salvage.proofs.Grouping.{first_cut, newest_none, next_found}
use Rattle.cs_salvage.proofs.Groups.{newest_of_permuted}
use Rattle.cs_salvage.proofs.whole_shards.newest_whole.Goals as goal

pub loop-start-init : goal.loop-start-init
loop-start-init c = record {
  inside = omega arith;
  cut = first_cut c.in_ok-sorted.sorted.items;
  found = subst (λ (ss : List WholeShard). AreNewest [] ss) (sym c.new-shards.ensures.items) newest_none;
}

pub loop-start-preserved : goal.loop-start-preserved
loop-start-preserved c =
    let next = next_found {S = List WholeShard} AreNewest c.loop-start.shards.items c.add_newest.new.shards.items c.in_ok-sorted.sorted.items c.deref.result.now c.deref-in-loop-start.result.now c.loop-start.start c.end_of_put-end.result
    c.deref.ensures.value c.deref-in-loop-start.ensures.value c.end_of_put-end.ensures c.in_ok-sorted.ensures.ordered c.loop-start.invariant.cut c.put.result c.index.result.now c.put.ensures c.index.ensures
    (c.in_ok-add_newest.ensures (take c.loop-start.start c.in_ok-sorted.sorted.items)) c.loop-start.invariant.found in
    record { inside = next.0; cut = next.1; found = next.2 }

pub returns : goal.returns
returns c =
    newest_of_permuted c.args.parts.now c.in_ok-sorted.sorted.items c.loop-start.shards.items c.in_ok-sorted.ensures.same
    (subst (λ (ps : List Part). AreNewest ps c.loop-start.shards.items) (take_all c.loop-start.start c.in_ok-sorted.sorted.items (omega (arith, c.loop-start-test.false, c.len.ensures))) c.loop-start.invariant.found)
