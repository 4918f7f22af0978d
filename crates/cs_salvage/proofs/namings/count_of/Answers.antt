use Rattle.std.proofs.Common.{arith, inl, inr}
use Rattle.cs_salvage.proofs.Countings.{counted_all, counted_more}
use Rattle.cs_salvage.proofs.namings.count_of.Goals as goal
use Rattle.cs_salvage.proofs.namings.count_of.Goals.{else-is_same, then-is_same}

pub loop-k-preserved : goal.loop-k-preserved
loop-k-preserved c = elim c.if-is_same.branch [
  | then-is_same w ↦ record {
    few = omega (arith, w.count-is, c.loop-k.invariant.few);
    counted = counted_more c.args.naming c.args.namings.now c.loop-k.k _ c.is_same.result c.loop-k.count c.if-is_same.count c.loop-k-test.true c.is_same.ensures (inl (w.if-is_same.true, w.count-is)) c.loop-k.invariant.counted;
  }
  | else-is_same w ↦ record {
    few = omega (arith, w.count-is, c.loop-k.invariant.few);
    counted = counted_more c.args.naming c.args.namings.now c.loop-k.k _ c.is_same.result c.loop-k.count c.if-is_same.count c.loop-k-test.true c.is_same.ensures (inr (w.if-is_same.false, w.count-is)) c.loop-k.invariant.counted;
  }
]

pub returns : goal.returns
returns c = record { count = counted_all c.args.naming c.args.namings.now c.loop-k.k c.loop-k.count c.loop-k-test.false c.loop-k.invariant.counted; most = omega (arith, c.loop-k.invariant.few, c.loop-k.auto.k-end) }
