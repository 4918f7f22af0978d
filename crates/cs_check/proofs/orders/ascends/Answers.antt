use Rattle.std.proofs.Common.{◌-◌, arith}
use Rattle.std.proofs.lemmas.Option.{slice_get-get_or}
use Rattle.cs_deps.specs.declared.elements.Element.TheVariants.{Plain}
use Rattle.cs_check.proofs.Permuted.{ascend_next, ascend_once}
use Rattle.cs_check.proofs.orders.ascends.Goals as goal

pub loop-i-init : goal.loop-i-init
loop-i-init c j k x y less lt at there = absurd (omega (arith, less, lt))

pub loop-i-preserved : goal.loop-i-preserved
loop-i-preserved c =
    let xs = c.args.elements.now in
    ascend_next xs c.loop-i.i _ _ c.loop-i.auto.i (slice_get-get_or xs (c.loop-i.i - 1) (Plain 0) (omega arith)) (slice_get-get_or xs c.loop-i.i (Plain 0) c.loop-i-test.true) (c.is_below.ensures.0 c.if-not-is_below.false) c.loop-i.invariant

pub returns : goal.returns
returns c _ = ascend_once c.args.elements.now c.loop-i.i (omega arith) c.loop-i.invariant
