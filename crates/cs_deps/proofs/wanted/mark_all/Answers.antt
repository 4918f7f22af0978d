use Rattle.std.proofs.Common.{◌∙◌, refl, arith}
use Rattle.cs_deps.proofs.Marking.{marked_none, marked_more, marked_all}
use Rattle.cs_deps.proofs.wanted.mark_all.Goals as goal

pub loop-span-preserved : goal.loop-span-preserved
loop-span-preserved c = record {
  count = c.mark.ensures.count ∙ c.loop-span.invariant.count;
  marks = marked_more c.args.start c.args.marks.now.items c.loop-span.marks.items c.mark.new.marks.items c.args.spans.now c.loop-span.span-index (omega arith) c.loop-span.invariant.count c.loop-span.invariant.marks c.mark.ensures.marks;
}

pub loop-span-init : goal.loop-span-init
loop-span-init c = record { count = refl; marks = marked_none c.args.start c.args.marks.now.items c.args.spans.now }

pub returns-clause-marks : goal.returns-clause-marks
returns-clause-marks c = marked_all c.args.start c.args.marks.now.items c.loop-span.marks.items c.args.spans.now c.loop-span.span-index (omega arith) c.loop-span.invariant.marks
