-- Where the extents are led by chunks of a put that are planned and not appended yet.
use Rattle.std.specs.Prelude.{◌&&◌, ℕ, Bool, not, nat_lt, List, [], ◌∷◌, Option, Some, if◌then◌else◌}
use Rattle.law_machine.specs.Extents.{Extents, GoesApart, Purpose as Reason, Takes}
use Rattle.law_machine.specs.Lists.{with}
use Rattle.cs_extent.specs.declared.planned.Placement.{Placement}
use Rattle.cs_extent.specs.State.{State, extents_of, shape}

-- the pointers once the chunks went there, one after another
abbrev pub pointers_after : (ℕ → ℕ) → (planned : List Placement) → ℕ → ℕ
pointers_after pointer [] = pointer
pointers_after pointer (it ∷ planned) = pointers_after (with pointer it.extent it.pointer) planned

-- the open extent then: the last of theirs
abbrev pub open_after_planned : Option ℕ → (planned : List Placement) → Option ℕ
open_after_planned open_extent [] = open_extent
open_after_planned open_extent (it ∷ planned) = open_after_planned (Some it.extent) planned

-- the extents then
abbrev pub after_planned : Extents → (planned : List Placement) → Extents
after_planned x planned = record x {
  pointer = pointers_after x.pointer planned;
  open_extent = open_after_planned x.open_extent planned;
}

abbrev pub extents_after : State → (planned : List Placement) → Extents
extents_after s planned = after_planned (extents_of s) planned

-- a frame of k pages goes to e then; e takes it behind others of its kind
abbrev pub GoesAfter : State → (planned : List Placement) → Reason → (k e : ℕ) → Type 0
GoesAfter s planned reason k e = GoesApart (shape s) (extents_after s planned) reason k e

abbrev pub TakesAfter : State → (planned : List Placement) → Reason → (k e : ℕ) → Type 0
TakesAfter s planned reason k e = Takes (shape s) (extents_after s planned) reason k e

-- the extent isn't empty, and it holds runs, or it holds chunks
abbrev pub holds : Extents → (runs : Bool) → ℕ → Bool
holds x runs e = nat_lt 0 (x.pointer e) && (if runs then x.of_runs e else not (x.of_runs e))
