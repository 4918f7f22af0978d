-- What a store has in memory, and what it keeps whatever its disk does.
use Rattle.std.specs.Prelude.{◌≡◌, ◌+◌, ◌^◌, ◌<◌, ◌≤◌, ◌++◌, ℕ, Bool, true, false, List, Option, Some, length, slice_index}
use Rattle.cs_chunk.specs.Puts.{IsPutFull, PutFits}
use Rattle.cs_deps.specs.declared.elements.Element.{Element as Name}
use Rattle.cs_deps.specs.Named.{Named}
use Rattle.cs_deps.specs.Pending.{Pending}
use Rattle.cs_deps.specs.State.{State as GraphState, Write, write_of}
use Rattle.cs_extent.specs.Appended.{IsReady}
use Rattle.cs_extent.specs.Frames.{root_family}
use Rattle.cs_extent.specs.State.{State as ExtentsState, extents_of, shape}
use Rattle.cs_index.specs.State.{State as IndexState, index_of}
use Rattle.law_machine.specs.Device.{Inside, Shape}
use Rattle.law_machine.specs.Element.{Copy, Locator as Place}
use Rattle.law_machine.specs.Index.{live_at, weight_with}
use Rattle.law_machine.specs.Lists.{◌∈◌}
use Rattle.cs_refusal.specs.declared.refusals.Refusal.{Refusal}
use Rattle.cs_refusal.specs.declared.refusals.Refusal.TheVariants.{Full, WornOut}
use Rattle.law_machine.specs.Events.{Chunked}
use Rattle.law_machine.specs.Geometry.{weigh_in}
use Rattle.law_refinement.specs.cs_reclaim.Copied.{AllUpTo, AreInOrder}
use Rattle.law_refinement.specs.cs_reclaim.Sweeps.{IsSwept, IsSweptApart}
use Rattle.law_refinement.specs.Rounds.{members_of as members}
use Rattle.cs_core.specs.declared.histories.Root.{Root}
use Rattle.cs_core.specs.Frontiers.{AreNoted}
use Rattle.cs_reader.specs.ImageReads.{page_total}

-- What a core has in memory besides its disk and its history.
pub record Stored : Type 0 where
  pub graph : GraphState
  pub extents : ExtentsState
  pub index : IndexState
  -- what a sweep copied, newest first, where copies count once it ends
  pub copies : List Copy
  -- the newest root that is persistent, and those that were staged since and wait
  pub roots : List Root
  -- the members of the round that is out, and how many of them were written
  pub out : Option (List Name)
  pub issued : ℕ
  -- the commands of the root that was read at open, those accepted since, and how many of these are persistent
  pub base : ℕ
  pub accepted : ℕ
  pub frontier : ℕ
  -- a write or a flush failed
  pub halted : Bool

-- each page write that the graph keeps goes to one of so many pages
abbrev pub AreWithin : ℕ → GraphState → Type 0
AreWithin pages graph = (x : Name) (w : Write) → write_of graph x ≡ Some w → w.0 < pages

-- each shard's chunks begin on pages of extents that are there
abbrev pub AreInside : Shape → IndexState → Type 0
AreInside S index = (id : ℕ) (l : Place) → l ∈ live_at (index_of index) id → Inside S l.extent l.page

-- What waits is what waited, and behind it what was staged since; what is persistent is the same.
pub record StagesBehind (g h : Pending) : Type 0 where
  pub more : List (Name × Named)
  pub behind : h.waiting ≡ g.waiting ++ more
  pub persistent : h.persistent ≡ g.persistent

-- the device is as large as before, what goes to it goes to its pages still, the round that is out is the same, and
-- nothing but what was staged since waits anew
pub record KeepsDevice (x : ExtentsState) (g : GraphState) (y : ExtentsState) (h : GraphState) : Type 0 where
  pub same_shape : shape y ≡ shape x
  pub within : AreWithin (page_total (shape x)) g → AreWithin (page_total (shape x)) h
  pub round : h.round ≡ g.round
  pub behind : StagesBehind g.staging.pending h.staging.pending

-- each extent that is marked as being swept is there and isn't empty; where chunks and runs may lie on one extent it
-- isn't open, and where they lie apart chunks lie on it
abbrev pub AreSwept : ExtentsState → Type 0
AreSwept x = (e : ℕ) → (extents_of x).swept e ≡ true
    → ((shape x).apart ≡ false → IsSwept (shape x) (extents_of x) e) × ((shape x).apart ≡ true → IsSweptApart (shape x) (extents_of x) e)

-- What every store keeps where chunks and runs lie apart: no more runs than a root may have, and of the sweep that goes
-- on that one extent alone is marked, that each chunk that lives there is copied up to the last copy, by identifier and
-- then by number, that the copies lie on pages of extents that are there, and that a copy means what the chunk meant.
pub record IsKeptApart (x : ExtentsState) (i : IndexState) (copies : List Copy) : Type 0 where
  pub runs : length i.runs ≤ (shape x).most_runs
  pub one : (d e : ℕ) → (extents_of x).swept d ≡ true → (extents_of x).swept e ≡ true → d ≡ e
  pub order : AreInOrder copies
  pub up_to : (e : ℕ) → (extents_of x).swept e ≡ true → AllUpTo (index_of i) copies e
  pub placed : (c : Copy) → c ∈ copies → Inside (shape x) c.to.extent c.to.page
  pub marks : (c : Copy) → c ∈ copies → c.to.mark ≡ c.from.mark

-- the members of the round that is out, none without one
abbrev pub members_of : Option (List Name) → List Name
members_of out = members out

-- what every store keeps
pub record IsKept (s : Stored) : Type 0 where
  pub ready : IsReady s.extents s.graph.staging
  pub writes : AreWithin (page_total (shape s.extents)) s.graph
  pub format : s.index.format ≡ (shape s.extents).format
  pub limit : s.index.limit ≡ (shape s.extents).most_weight
  pub places : AreInside (shape s.extents) s.index
  pub round : s.out ≡ s.graph.round
  pub some : s.issued ≤ length (members_of s.out)
  pub numbers : s.base + s.accepted < 2 ^ 63
  pub swept : AreSwept s.extents
  pub apart : (shape s.extents).apart ≡ true → IsKeptApart s.extents s.index s.copies
  pub noted : AreNoted (slice_index s.graph.staging.pending.persistent root_family) (slice_index s.graph.staging.latest root_family) s.roots s.frontier s.accepted

-- the store with the rooms of graph and index as 0: clauses compare stores so, as how much memory is reserved doesn't
-- matter
abbrev pub but_for_room : Stored → Stored
but_for_room s = record s { graph = record s.graph { room = 0 }; index = record s.index { room = 0 } }

-- with an entry of the chunks of these bytes in place of what the identifier has, the newest entries of an index weigh
-- more than they may
abbrev pub IsTooHeavy : Shape → IndexState → (id : ℕ) → (bytes : List ℕ) → Type 0
IsTooHeavy S index id bytes = (pieces : List (List ℕ)) × Chunked (S.piece_bytes (length bytes)) bytes pieces
    × (index.limit < weight_with (weigh_in index.format) (index_of index) id (length pieces))

-- why a put is refused where the number of commands is the greatest, whatever its identifier and its number: 30 where
-- its chunks don't fit, else 35
abbrev pub IsWhyWorn : ExtentsState → List ℕ → Refusal → Type 0
IsWhyWorn x bytes WornOut = (id command : ℕ) → PutFits x id command bytes
IsWhyWorn x bytes Full = (id command : ℕ) → IsPutFull x id command bytes
IsWhyWorn x bytes _ = ⊥
