use Rattle.std.proofs.Common.{◌≡◌, None, drop}
use Rattle.std.specs.Prelude.{option_map}
use Rattle.cs_frame.specs.Faults.{first_fault}
use Rattle.cs_frame.specs.Runs.{entries_tests}
use Rattle.cs_frame.proofs.run_frames.check_entries.Given as goal

abbrev pub invariant-loop-piece : goal.invariant-loop-piece
invariant-loop-piece l = first_fault (entries_tests None l.pieces) ≡ first_fault (entries_tests (option_map (λ id. id.0) l.previous) (drop l.piece-index l.pieces))
