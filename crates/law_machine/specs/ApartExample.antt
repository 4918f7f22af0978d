-- An example of a store in which chunks and runs lie apart: what can happen in a new one.
use Rattle.std.specs.Prelude.{◌∷◌, ◌==◌, ℕ, true, false, List, [], if◌then◌else◌}
use Rattle.law_machine.specs.Device.{Page, Shape}
use Rattle.law_machine.specs.Format.{Two}
use Rattle.law_machine.specs.Geometry.{shape_of}
use Rattle.law_machine.specs.State.{Abandon, Abandoned, Accepted, BeginSweep, Event, MoveOne, Moved, Put, Reply, Retire, Retired, Stage, Staged, Sweeping}

-- six extents of two pages, one of which may hold runs
abbrev pub example_apart : Shape
example_apart = record (shape_of 6 2 1 8 Two) { apart = true; hidden_stand = false; by_size = true }

-- a new store, in the format of the example
abbrev pub example_image : ℕ → Page
example_image p = if p == 0 then 2 ∷ 0 ∷ 1 ∷ 0 ∷ [] else 1 ∷ 0 ∷ 0 ∷ []

-- a shard is put and staged, and its extent is swept
abbrev pub example_retired : List (Event × Reply)
example_retired = (Put 1 [], Accepted 1) ∷ (Stage, Staged 2) ∷ (BeginSweep 0, Sweeping) ∷ (MoveOne 0, Moved 1 0)
    ∷ (Retire 0, Retired 3) ∷ []

-- the same, but the sweep is given up, and a root is staged for what it left
abbrev pub example_abandoned : List (Event × Reply)
example_abandoned = (Put 1 [], Accepted 1) ∷ (Stage, Staged 2) ∷ (BeginSweep 0, Sweeping) ∷ (MoveOne 0, Moved 1 0)
    ∷ (Abandon 0, Abandoned) ∷ (Stage, Staged 3) ∷ []
