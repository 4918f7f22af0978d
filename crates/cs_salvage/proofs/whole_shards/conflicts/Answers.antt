use Rattle.cs_salvage.proofs.Conflicting.{conflict_by}
use Rattle.cs_salvage.proofs.Sames.{no_part, same_text}
use Rattle.cs_salvage.proofs.whole_shards.conflicts.Goals as goal

pub returns-in-Some : goal.returns-in-Some
returns-in-Some c = conflict_by c.args.parts.now c.requires c.args.part.now no_part c.in-Some.first.now c.ne-in-Some.result
    (same_text c.args.part.now.store _ c.if-ne.ensures) c.if-part-parts.false c.in-Some.ensures c.ne-in-Some.ensures
