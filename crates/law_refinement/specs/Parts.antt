-- Which state of the machine the parts of a store are: its extents, its graph and its index.
use Rattle.std.specs.Prelude.{◌≡◌, ℕ, false, List, map}
use Rattle.cs_deps.specs.State.{State as GraphState}
use Rattle.cs_extent.specs.State.{IsWhole, State as ExtentsState, shape}
use Rattle.cs_frame.specs.declared.locators.Locator.{Locator}
use Rattle.cs_frame.specs.Formats.{as_locator}
use Rattle.cs_index.specs.State.{State as IndexState, index_of}
use Rattle.law_machine.specs.Element.{Entry, Run}
use Rattle.law_machine.specs.Index.{live_at, lookup}
use Rattle.law_machine.specs.State.{Event, Reply, State}
use Rattle.law_refinement.specs.Machines.{BoundedFor, DoesFor, SoundFor}
use Rattle.law_refinement.specs.Stores.{FoundAsMuch, IsWorldOf}

-- an index has in its table of each identifier what the machine has in its own, and the same runs
pub record IsIndexOf (i : IndexState) (table : List Entry) (runs : List Run) : Type 0 where
  pub lookups : (id : ℕ) → lookup id i.table ≡ lookup id table
  pub same_runs : i.runs ≡ runs

-- these extents, this graph and this index are those of the state
pub record ArePartsOf (x : ExtentsState) (g : GraphState) (i : IndexState) (s : State) : Type 0 where
  pub world : IsWorldOf x g s.world
  pub index : IsIndexOf i s.table s.runs

-- A store whose chunks and runs may lie on one extent: its extents are whole, and these are the parts of the state.
pub record LiesTogether (x : ExtentsState) (g : GraphState) (i : IndexState) (s : State) : Type 0 where
  pub together : (shape x).apart ≡ false
  pub whole : IsWhole x
  pub parts : ArePartsOf x g i s

-- The same, of a sound state that keeps its bounds.
pub record IsSoundTogether (x : ExtentsState) (g : GraphState) (i : IndexState) (s : State) : Type 0 where
  pub lies : LiesTogether x g i s
  pub sound : SoundFor x s
  pub bounded : BoundedFor x s

-- The extents and the index agree with a sound state: they are whole, as much was found in them as in its world, and the index is its own.
pub record AgreesWith (x : ExtentsState) (i : IndexState) (s : State) : Type 0 where
  pub whole : IsWhole x
  pub sound : SoundFor x s
  pub found : FoundAsMuch x s.world
  pub index : IsIndexOf i s.table s.runs

-- what an event does, with this reply, leads to a state of which these are the parts
abbrev pub LeadsToParts : (x : ExtentsState) → State → Event → Reply → (y : ExtentsState) → GraphState → IndexState → Type 0
LeadsToParts x s event reply y h j = (t : State) × DoesFor x s event reply t × ArePartsOf y h j t

-- where the chunks of a shard lie, by the index
abbrev pub locators_of : IndexState → (id : ℕ) → List Locator
locators_of i id = map as_locator (live_at (index_of i) id)
