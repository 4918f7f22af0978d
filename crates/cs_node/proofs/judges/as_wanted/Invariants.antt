use Rattle.std.proofs.Common.{◌≡◌, ℕ, ◌<◌}
use Rattle.std.specs.Prelude.{slice_index, slice_index_or}
use Rattle.cs_core.specs.declared.events.Event.{Event}
use Rattle.cs_core.specs.declared.events.Reply.{Reply}
use Rattle.cs_node.specs.Accounts.{wanted}
use Rattle.cs_node.proofs.judges.as_wanted.Given as goal

-- the places so far are called as often as wanted
abbrev pub invariant-loop-i : goal.invariant-loop-i
invariant-loop-i l = (k : ℕ) (d : Event × Reply) → k < l.i → slice_index l.tally k ≡ wanted (slice_index_or l.history k d).0
