use Rattle.std.proofs.Common.{All, List, subst}
use Rattle.std.proofs.lemmas.List.{take_all}
use Rattle.cs_salvage.specs.declared.parts.Part.{Part}
use Rattle.cs_salvage.specs.Puts.{Agrees}
use Rattle.cs_salvage.proofs.Conflicting.{all_agree}
use Rattle.cs_salvage.proofs.whole_shards.are_ambiguous.Goals as goal

pub returns : goal.returns
returns c = all_agree c.args.parts.now c.args.put c.requires.own
    (subst (λ (ps : List Part). All (Agrees c.args.parts.now) ps) (take_all c.loop-part.part-index c.args.parts.now c.loop-part-test.false) c.loop-part.invariant)
