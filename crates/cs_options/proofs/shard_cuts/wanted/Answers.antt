use Rattle.std.proofs.Common.{◌∙◌, ◌≤◌, ◌+◌, arith, sym}
use Rattle.law_machine.specs.Pieces.{is_small}
use Rattle.cs_options.specs.SureRooms.{new_format}
use Rattle.cs_options.proofs.CutSteps.{passes_first, passes_later}
use Rattle.cs_options.proofs.shard_cuts.wanted.Goals as goal

pub returns-then-is_small-clause-value : goal.returns-then-is_small-clause-value
returns-then-is_small-clause-value c =
    sym (c.loop-count.invariant.found
    ∙ passes_first (is_small new_format c.args.pages c.args.bytes) c.loop-count.count c.loop-count-test.true (sym c.is_small.ensures ∙ c.if-is_small.true))

pub loop-count-preserved : goal.loop-count-preserved
loop-count-preserved c = record {
  all = (let le : c.loop-count.count + 1 ≤ 8 = omega arith in le);
  found = c.loop-count.invariant.found
      ∙ passes_later (is_small new_format c.args.pages c.args.bytes) c.loop-count.count c.loop-count-test.true (sym c.is_small.ensures ∙ c.if-is_small.false);
}
