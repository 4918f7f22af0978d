use Rattle.cs_salvage.proofs.Conflicting.{whole_by}
use Rattle.cs_salvage.proofs.whole_shards.whole_of.Goals as goal

pub returns : goal.returns
returns c = whole_by c.args.parts.now c.args.put c.requires.own c.requires.some _ (λ v. v.items) c.first_parts.result c.if-are_ambiguous.ensures c.if-count-eq0.false c.first_parts.ensures
