use Rattle.std.proofs.Common.{List, arith, subst, take}
use Rattle.std.proofs.lemmas.List.{take_all}
use Rattle.cs_salvage.specs.declared.parts.Part.{Part}
use Rattle.cs_salvage.specs.declared.parts.Put.{Put}
use Rattle.cs_salvage.specs.Shards.{AreAmbiguous}
use Rattle.cs_salvage.proofs.Grouping.{next_found}
use Rattle.cs_salvage.proofs.Groups.{ambiguous_of_permuted}
use Rattle.cs_salvage.proofs.whole_shards.ambiguous.Goals as goal

pub loop-start-preserved : goal.loop-start-preserved
loop-start-preserved c =
    let next = next_found {S = List Put} AreAmbiguous c.loop-start.puts.items c.add_ambiguous.new.puts.items c.in_ok-sorted.sorted.items c.deref.result.now c.deref-in-loop-start.result.now c.loop-start.start c.end_of_put-end.result
    c.deref.ensures.value c.deref-in-loop-start.ensures.value c.end_of_put-end.ensures c.in_ok-sorted.ensures.ordered c.loop-start.invariant.cut c.put.result c.index.result.now c.put.ensures c.index.ensures
    (c.in_ok-add_ambiguous.ensures (take c.loop-start.start c.in_ok-sorted.sorted.items)) c.loop-start.invariant.found in
    record { inside = next.0; cut = next.1; found = next.2 }

pub returns : goal.returns
returns c =
    ambiguous_of_permuted c.args.parts.now c.in_ok-sorted.sorted.items c.loop-start.puts.items c.in_ok-sorted.ensures.same
    (subst (λ (ps : List Part). AreAmbiguous ps c.loop-start.puts.items) (take_all c.loop-start.start c.in_ok-sorted.sorted.items (omega (arith, c.loop-start-test.false, c.len.ensures))) c.loop-start.invariant.found)
