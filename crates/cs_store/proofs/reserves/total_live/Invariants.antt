use Rattle.cs_store.proofs.Reserving.{IsTotal}
use Rattle.cs_store.proofs.reserves.total_live.Given as goal

abbrev pub invariant-loop-extent : goal.invariant-loop-extent
invariant-loop-extent l = IsTotal l.uses l.extent l.live
