use Rattle.std.proofs.Common.{ℕ, ◌<◌}
use Rattle.std.specs.Prelude.{slice_index_or}
use Rattle.cs_node.specs.Numbers.{Within}
use Rattle.cs_node.specs.Told.{Holdings}
use Rattle.cs_node.proofs.judges.have_acks_within.Given as goal

-- those of the purses so far
abbrev pub invariant-loop-purse : goal.invariant-loop-purse
invariant-loop-purse g l = (k : ℕ) (d : Holdings) → k < l.purse-index → Within l.most (slice_index_or l.purses k d).acks
