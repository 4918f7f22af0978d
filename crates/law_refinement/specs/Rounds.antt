-- The round that is out, in the graph and in the machine.
use Rattle.std.specs.Prelude.{◌≡◌, ◌≢◌, ◌++◌, ℕ, false, List, [], Option, Some, None, is_some, length, map, slice_get}
use Rattle.cs_deps.specs.declared.elements.Element.{Element as Name}
use Rattle.cs_deps.specs.State.{AddsNone, IsQueue, State as GraphState, after, write_of}
use Rattle.cs_disk.specs.Disk.{State as DiskState}
use Rattle.cs_extent.specs.State.{State as ExtentsState}
use Rattle.cs_index.specs.State.{State as IndexState}
use Rattle.law_machine.specs.Device.{Page}
use Rattle.law_machine.specs.State.{State}
use Rattle.law_refinement.specs.Bridge.{name}
use Rattle.law_refinement.specs.Machines.{IsDiskFor, SoundFor}
use Rattle.law_refinement.specs.Parts.{ArePartsOf}

-- the members of a round in order, none where none is out
abbrev pub members_of : Option (List Name) → List Name
members_of None = []
members_of (Some round) = round

-- A round is out in the graph exactly where one is in the machine. Its members, in order, are those that were issued and
-- then those that are left.
pub record IsRoundOf (g : GraphState) (s : State) : Type 0 where
  pub out : s.round_out ≡ is_some g.round
  pub members : map name (s.issued ++ s.left) ≡ members_of g.round

-- A sound state that isn't halted, with these parts and the graph's round.
pub record IsRunning (x : ExtentsState) (g : GraphState) (i : IndexState) (s : State) : Type 0 where
  pub parts : ArePartsOf x g i s
  pub sound : SoundFor x s
  pub rounds : IsRoundOf g s
  pub going : s.halted ≡ false

-- The same, on this disk, which is that of the state.
pub record IsRunningOn (x : ExtentsState) (g : GraphState) (i : IndexState) (s : State) (disk : DiskState) : Type 0 where
  pub running : IsRunning x g i s
  pub on : IsDiskFor x s disk

-- The graph h is g with this round out, in which there was none. The round is what waits at height 1, and isn't empty.
pub record TakesRound (g : GraphState) (round : List Name) (h : GraphState) : Type 0 where
  pub none : g.round ≡ None
  pub queue : IsQueue g.staging.pending 1 round
  pub some : round ≢ []
  pub staging : h.staging ≡ g.staging
  pub adds : AddsNone g h
  pub out : h.round ≡ Some round

-- This is the element of the round that is written next, and these are its page and its bytes.
pub record IsNextWrite (g : GraphState) (s : State) (z : Name) (p : ℕ) (bytes : Page) : Type 0 where
  pub next : slice_get (members_of g.round) (length s.issued) ≡ Some z
  pub kept : write_of g z ≡ Some (p, bytes)

-- This round is out, and all of it was issued.
pub record IsAllIssued (g : GraphState) (s : State) (round : List Name) : Type 0 where
  pub out : g.round ≡ Some round
  pub all : length s.issued ≡ length round

-- The graph h is g with its round settled, and none is out.
pub record SettlesRound (g h : GraphState) : Type 0 where
  pub staging : h.staging ≡ record { pending = after g; staged = g.staging.staged; latest = g.staging.latest }
  pub adds : AddsNone g h
  pub none : h.round ≡ None
