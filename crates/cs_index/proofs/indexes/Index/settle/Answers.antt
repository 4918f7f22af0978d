use Rattle.std.proofs.Common.{◌∙◌, ap, subst, sym, take, take_all, List}
use Rattle.law_machine.specs.Element.{Copy}
use Rattle.law_machine.specs.Geometry.{marks_in}
use Rattle.cs_index.specs.declared.counted_copies.ChunkCopy.{ChunkCopy}
use Rattle.cs_index.specs.Copies.{IsSettled, newest_copies}
use Rattle.cs_index.proofs.Settled.{copies_more, settled_more, settled_none}
use Rattle.cs_index.proofs.indexes.Index.settle.Goals as goal

pub loop-k-init : goal.loop-k-init
loop-k-init c = settled_none c.args.self.now

pub loop-k-preserved : goal.loop-k-preserved
loop-k-preserved c =
    subst (λ (cs : List Copy). IsSettled c.args.self.now cs c.settle_one.new.self) (sym (copies_more c.args.copies.now c.loop-k.k _ c.loop-k-test.true))
    (settled_more c.args.self.now c.loop-k.self c.settle_one.new.self (newest_copies (take c.loop-k.k c.args.copies.now)) _ c.loop-k.invariant c.in_ok-settle_one.ensures.settled)

pub returns-clause-settled : goal.returns-clause-settled
returns-clause-settled c =
    subst (λ (cs : List ChunkCopy). IsSettled c.args.self.now (newest_copies cs) c.loop-k.self) (take_all c.loop-k.k c.args.copies.now c.loop-k-test.false) c.loop-k.invariant

pub settle_one-requires : goal.settle_one-requires
settle_one-requires c = ap marks_in c.loop-k.invariant.format ∙ c.requires
