use Rattle.std.proofs.Common.{◌-◌, ◌++◌, List, arith, drop, subst, take}
use Rattle.std.proofs.lemmas.List.{take_all}
use Rattle.cs_salvage.specs.declared.whole_shards.Missing.{Missing}
use Rattle.cs_salvage.specs.declared.parts.Part.{Part}
use Rattle.cs_salvage.specs.Missing.{AreMissing}
use Rattle.cs_salvage.specs.Puts.{AreBefore, AreInOrder}
use Rattle.cs_salvage.proofs.Grouping.{next_found}
use Rattle.cs_salvage.proofs.Missings.{front_in_order, missing_of_permuted}
use Rattle.cs_salvage.proofs.whole_shards.missing_puts.Goals as goal

pub loop-start-preserved : goal.loop-start-preserved
loop-start-preserved c =
    let added = subst (λ (ps : List Part). AreInOrder (take c.loop-start.start ps) → AreBefore c.put-put.result (take c.loop-start.start ps) → AreMissing (take c.loop-start.start ps) c.loop-start.missing.items
    → AreMissing (take c.loop-start.start ps ++ take (c.end_of_put-end.result - c.loop-start.start) (drop c.loop-start.start c.deref-in-loop-start-2.result.now)) c.add_missing.new.missing.items)
    c.deref-in-loop-start.ensures.value c.in_ok-add_missing.ensures (front_in_order c.in_ok-sorted.sorted.items c.loop-start.start c.in_ok-sorted.ensures.ordered) in
    let next = next_found {S = List Missing} AreMissing c.loop-start.missing.items c.add_missing.new.missing.items c.in_ok-sorted.sorted.items c.deref.result.now c.deref-in-loop-start-2.result.now c.loop-start.start c.end_of_put-end.result
    c.deref.ensures.value c.deref-in-loop-start-2.ensures.value c.end_of_put-end.ensures c.in_ok-sorted.ensures.ordered c.loop-start.invariant.cut c.put-put.result c.index.result.now c.put-put.ensures c.index.ensures
    added c.loop-start.invariant.found in
    record { inside = next.0; cut = next.1; found = next.2 }

pub returns : goal.returns
returns c =
    missing_of_permuted c.args.parts.now c.in_ok-sorted.sorted.items c.loop-start.missing.items c.in_ok-sorted.ensures.same
    (subst (λ (ps : List Part). AreMissing ps c.loop-start.missing.items) (take_all c.loop-start.start c.in_ok-sorted.sorted.items (omega (arith, c.loop-start-test.false, c.len.ensures))) c.loop-start.invariant.found)
