use Rattle.std.proofs.Common.{ap, arith, ◌∙◌, ◌≡◌, ◌+◌, sym}
use Rattle.law_machine.specs.Geometry.{twins_in}
use Rattle.cs_mount.proofs.Twins.{listed_apart, pairs_more}
use Rattle.cs_mount.proofs.store_pairs.pairs_of_store.Goals as goal

pub loop-k-preserved : goal.loop-k-preserved
loop-k-preserved c = pairs_more c.args.geometry c.loop-k.pairs.items c.push.new.self.items c.loop-k.k c.store_pair.result c.loop-k.invariant c.store_pair.ensures c.in_ok-push.ensures.items

pub returns-clause-are : goal.returns-clause-are
returns-clause-are c =
    let count : c.loop-k.k ≡ 1 + c.args.geometry.sections = omega (arith, c.loop-k-test.false, c.loop-k.auto.k-end, c.from-count.ensures, c.sections.ensures.sections) in
    listed_apart c.args.geometry c.loop-k.pairs.items c.loop-k.k c.format.ensures.geometry (ap (λ f. twins_in f) (sym c.format.ensures.format) ∙ sym c.has_twins.ensures ∙ c.if-not-has_twins.false) count c.loop-k.invariant
