use Rattle.std.proofs.Common.{refl, arith}
use Rattle.std.proofs.lemmas.List.{ext_get_or}
use Rattle.cs_deps.specs.declared.elements.Element.TheVariants.{Plain}
use Rattle.cs_node.proofs.judges.are_same.Goals as goal

pub returns : goal.returns
returns c = ((λ t. ext_get_or (Plain 0) c.args.a.now c.args.b.now c.if-a-b.false (λ k lt. c.loop-i.invariant k (Plain 0) (omega arith))), (λ e. refl))
