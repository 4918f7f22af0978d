-- What is noted of extents where chunks and runs lie apart, once a frame went to one of them.
use Rattle.std.specs.Prelude.{◌==◌, ℕ, true, Some, if◌then◌else◌, slice_set}
use Rattle.law_machine.specs.Extents.{ForMerge, ForMove, ForPut, ForRun, Purpose as Reason}
use Rattle.cs_extent.specs.State.{State}

-- A frame went to e, of which so many pages were given before. A chunk of a put leaves e open, and a run leaves it one
-- that holds runs. A copy leaves it the last that copies went to, and the one that the sweep opened where none of its
-- pages were given before.
abbrev pub noted_in : Reason → (e : ℕ) → (given : ℕ) → State → State
noted_in ForPut e given s = record s { open_extent = Some e }
noted_in ForRun e given s = record s { of_runs = slice_set s.of_runs e true }
noted_in ForMove e given s = record s { fresh = if given == 0 then Some e else s.fresh; last = Some e }
noted_in ForMerge e given s = record s { of_runs = slice_set s.of_runs e true }
