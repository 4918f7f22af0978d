-- Which state of the machine the parts of a store are where chunks and runs lie apart: what a sweep copied is one of them.
use Rattle.std.specs.Prelude.{◌≡◌, ℕ, true, List}
use Rattle.cs_deps.specs.State.{State as GraphState}
use Rattle.cs_extent.specs.State.{IsWhole, State as ExtentsState, shape}
use Rattle.cs_index.specs.Copies.{IsSettled}
use Rattle.cs_index.specs.State.{State as IndexState}
use Rattle.cs_reclaim.specs.Rooted.{IsUnmarked}
use Rattle.law_machine.specs.Element.{Copy}
use Rattle.law_machine.specs.State.{Event, Reply, State}
use Rattle.law_refinement.specs.Machines.{BoundedFor, DoesFor, SoundFor}
use Rattle.law_refinement.specs.Parts.{ArePartsOf}

-- these extents, this graph, this index and these copies are those of the state
pub record AreAllPartsOf (x : ExtentsState) (g : GraphState) (i : IndexState) (copies : List Copy) (s : State) : Type 0 where
  pub parts : ArePartsOf x g i s
  pub same_copies : s.copies ≡ copies

-- A store whose chunks and runs lie apart: its extents are whole, and these are the parts of the state.
pub record LiesApart (x : ExtentsState) (g : GraphState) (i : IndexState) (copies : List Copy) (s : State) : Type 0 where
  pub apart : (shape x).apart ≡ true
  pub whole : IsWhole x
  pub parts : AreAllPartsOf x g i copies s

-- The same, of a sound state that keeps its bounds.
pub record IsSoundApart (x : ExtentsState) (g : GraphState) (i : IndexState) (copies : List Copy) (s : State) : Type 0 where
  pub lies : LiesApart x g i copies s
  pub sound : SoundFor x s
  pub bounded : BoundedFor x s

-- The sweep of extent e ended: the extent isn't marked any more, and what was copied counts in the index.
pub record EndsSweep (x : ExtentsState) (i : IndexState) (copies : List Copy) (e : ℕ) (unmarked : ExtentsState) (counted : IndexState)
    : Type 0 where
  pub settles : IsSettled i copies counted
  pub ended : IsUnmarked x e unmarked

-- what an event does, with this reply, leads to a state of which these are the parts
abbrev pub LeadsToAllParts : (x : ExtentsState) → State → Event → Reply → (y : ExtentsState) → GraphState → IndexState → List Copy → Type 0
LeadsToAllParts x s event reply y h j copies = (t : State) × DoesFor x s event reply t × AreAllPartsOf y h j copies t
