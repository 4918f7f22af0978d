-- What keeps a frame that was put.
use Rattle.std.specs.Prelude.{◌≡◌, ◌+◌, ◌≤◌, ℕ, List, length}
use Rattle.cs_frame.specs.declared.locators.Locator.{Locator}
use Rattle.cs_extent.specs.State.{State, shape}
use Rattle.cs_frame.specs.Formats.{formats_of}
use Rattle.law_machine.specs.Extents.{Extents}
use Rattle.law_machine.specs.Formats.{Stand}

-- A frame of these pages at l is of the generation that its extent has, and below the pointer. What is appended to a
-- store is so; a frame that lay across its pointer as the store was opened is not.
abbrev pub IsBelow : Extents → Locator → (frame : List (List ℕ)) → Type 0
IsBelow x l frame = (l.generation ≡ x.generation l.extent) × (l.page + length frame ≤ x.pointer l.extent)

-- where pages read so, these stand at l
abbrev pub StandAt : State → (view : ℕ → List ℕ) → Locator → (frame : List (List ℕ)) → Type 0
StandAt x view l frame = Stand (shape x) (formats_of (shape x)) view l.extent l.page frame
