use Rattle.std.proofs.Common.{◌≡◌, take}
use Rattle.cs_core.specs.Replays.{replayed}
use Rattle.cs_core.proofs.histories.replay_events.Given as goal

abbrev pub invariant-loop-k : goal.invariant-loop-k
invariant-loop-k l = l.changes.items ≡ replayed (take l.k l.events)
