use Rattle.std.proofs.Common.{arith}
use Rattle.cs_deps.specs.Named.{NamesPlain}
use Rattle.cs_deps.proofs.InSpans.{added_none, added_more, added_all}
use Rattle.cs_deps.proofs.dependencies.add_spans.Goals as goal

pub loop-span-init : goal.loop-span-init
loop-span-init c = record {
  names = λ n. added_none c.args.more.now (NamesPlain c.args.through c.args.spans.now.items n) n;
  count = omega arith;
  capacity = omega arith;
}

pub loop-span-preserved : goal.loop-span-preserved
loop-span-preserved c =
    let one = c.in_ok-add_span.ensures in
    record {
      names = λ n. added_more c.args.more.now c.loop-span.span-index n (omega arith) (NamesPlain c.args.through c.args.spans.now.items n) (NamesPlain c.args.through c.loop-span.spans.items n) (NamesPlain c.args.through c.add_span.new.spans.items n) (c.loop-span.invariant.names n) (one.names n);
      count = omega (arith, one.count, c.loop-span.invariant.count);
      capacity = omega (arith, one.capacity, c.loop-span.invariant.capacity);
    }

pub returns-clause-names : goal.returns-clause-names
returns-clause-names c n = added_all c.args.more.now c.loop-span.span-index n (omega arith) (NamesPlain c.args.through c.args.spans.now.items n) (NamesPlain c.args.through c.loop-span.spans.items n) (c.loop-span.invariant.names n)
