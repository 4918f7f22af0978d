use Rattle.cs_salvage.specs.Puts.{AreFirst}
use Rattle.cs_salvage.proofs.whole_shards.first_parts.Given as goal

abbrev pub invariant-loop-number : goal.invariant-loop-number
invariant-loop-number l = AreFirst l.parts l.number l.pieces.items
