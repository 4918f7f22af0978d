use Rattle.std.proofs.Common.{map}
use Rattle.cs_frame.specs.declared.superblocks.Superblock.{Superblock}
use Rattle.cs_reader.specs.Openings.{AreRecordedBy}
use Rattle.cs_reader.proofs.heads.is_root_lost.Given as goal

abbrev pub invariant-loop-k : goal.invariant-loop-k
invariant-loop-k l = record { fit : AreRecordedBy l.k (map (λ (it : Superblock). it.recorded) l.sections) l.root }
