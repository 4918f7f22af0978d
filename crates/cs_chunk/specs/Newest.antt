-- What each page of a store reads as.
use Rattle.std.specs.Prelude.{◌≡◌, ◌⊎◌, ℕ, List}
use Rattle.cs_deps.specs.State.{IsNewestOn, NoneOn, State}
use Rattle.cs_disk.specs.Disk.{Image, page}

-- page p reads as these bytes: they are of the newest waiting plain write to it, or where none waits what the device
-- has
abbrev pub IsReadAs : State → Image → (p : ℕ) → (bytes : List ℕ) → Type 0
IsReadAs g image p bytes = IsNewestOn g p bytes ⊎ (NoneOn g p × (bytes ≡ page image p))

-- each page reads so
abbrev pub AreNewest : State → Image → (view : ℕ → List ℕ) → Type 0
AreNewest g image view = (p : ℕ) → IsReadAs g image p (view p)
