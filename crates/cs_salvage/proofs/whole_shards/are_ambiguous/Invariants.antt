use Rattle.std.proofs.Common.{All, take}
use Rattle.cs_salvage.specs.Puts.{Agrees}
use Rattle.cs_salvage.proofs.whole_shards.are_ambiguous.Given as goal

abbrev pub invariant-loop-part : goal.invariant-loop-part
invariant-loop-part l = All (Agrees l.parts) (take l.part-index l.parts)
