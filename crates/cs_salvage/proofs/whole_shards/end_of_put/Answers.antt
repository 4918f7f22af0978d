use Rattle.std.proofs.Common.{◌≡◌, ◌∙◌, ◌<◌, ◌≤◌, slice_index_or, ⊎_elim, ap, arith, subst, sym}
use Rattle.std.proofs.lemmas.Bool.{cases_lt}
use Rattle.cs_salvage.specs.Shards.{put_of}
use Rattle.cs_salvage.proofs.Sames.{at_any, puts_differ, puts_same}
use Rattle.cs_salvage.proofs.whole_shards.end_of_put.Goals as goal

pub returns-then-ne : goal.returns-then-ne
returns-then-ne c = record {
  above = omega (arith, c.loop-end.auto.end);
  inside = omega (arith, c.loop-end-test.true);
  own = c.loop-end.invariant.own;
  next = λ d lt same. puts_differ c.put.result c.put-put.result c.ne.result c.ne.ensures c.if-ne.true
      (c.put.ensures ∙ ap put_of (at_any c.args.parts.now c.loop-end.end lt _ d) ∙ same ∙ c.loop-end.invariant.first d);
}

pub loop-end-preserved : goal.loop-end-preserved
loop-end-preserved c = record {
  own = λ k d le lt. ⊎_elim
      (λ (less : k < c.loop-end.end). c.loop-end.invariant.own k d le less)
      (λ (from : c.loop-end.end ≤ k).
      let here : c.loop-end.end ≡ k = omega (arith, from, lt) in
      subst (λ n. put_of (slice_index_or c.args.parts.now n d) ≡ put_of (slice_index_or c.args.parts.now c.args.start d)) here
      (ap put_of (at_any c.args.parts.now c.loop-end.end c.loop-end-test.true d _) ∙ sym c.put.ensures
      ∙ puts_same c.put.result c.put-put.result c.ne.result c.ne.ensures c.if-ne.false ∙ sym (c.loop-end.invariant.first d)))
      (cases_lt k c.loop-end.end);
  first = c.loop-end.invariant.first;
}
