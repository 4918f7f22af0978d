use Rattle.cs_salvage.proofs.Outermost.{one_tested}
use Rattle.cs_salvage.proofs.Sames.{at_any}
use Rattle.cs_salvage.proofs.Scanning.{all_counted, one_counted}
use Rattle.cs_salvage.proofs.scans.greatest_of.Goals as goal

pub loop-k-preserved : goal.loop-k-preserved
loop-k-preserved c = record {
  counted = one_counted c.args.parts.now c.loop-k.k c.loop-k-test.true _ (at_any c.args.parts.now c.loop-k.k c.loop-k-test.true _ _) c.loop-k.counted c.with_part-counted.result c.loop-k.invariant.counted c.with_part-counted.ensures;
  outside = λ ordered.
      one_tested c.args.parts.now c.loop-k.k c.loop-k-test.true ordered _ (at_any c.args.parts.now c.loop-k.k c.loop-k-test.true _ _) c.loop-k.counted c.with_part-counted.result (c.loop-k.invariant.outside ordered) c.with_part-counted.ensures;
}

pub returns-clause-greatest : goal.returns-clause-greatest
returns-clause-greatest c = all_counted c.args.parts.now c.loop-k.k c.loop-k.counted c.loop-k-test.false c.loop-k.invariant.counted
