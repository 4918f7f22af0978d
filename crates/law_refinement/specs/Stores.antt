-- Which world a store is: its extents, and the graph of what it staged.
use Rattle.std.specs.Prelude.{◌≡◌, ◌↔◌, ◌<◌, ◌≤◌, ℕ, suc, true, false, Contains, List, Some, length, slice_index}
use Rattle.cs_deps.specs.declared.elements.Element.{Element as Name}
use Rattle.cs_deps.specs.declared.elements.Element.TheVariants.{Version}
use Rattle.cs_deps.specs.Named.{Named, Names}
use Rattle.cs_deps.specs.Staging.{IsVersionStaged, Staging}
use Rattle.cs_deps.specs.State.{AddsOnly, State as GraphState, Write as PageWrite, write_of}
use Rattle.law_machine.specs.Cut.{Closed, section_of}
use Rattle.law_machine.specs.Device.{Shape}
use Rattle.law_machine.specs.Disk.{page_write}
use Rattle.law_machine.specs.Element.{A_root, Element, Root, Superblock, Write, log_of, roots_of, superblocks_of, writes_of}
use Rattle.law_machine.specs.Lists.{◌∈◌}
use Rattle.law_machine.specs.Machine.{World}
use Rattle.law_machine.specs.Round.{IsMember}
use Rattle.law_machine.specs.Safe.{IsStaged}
use Rattle.cs_frame.specs.Formats.{formats_of}
use Rattle.cs_extent.specs.Frames.{IsRootNeed, family_of, root_family, root_pages}
use Rattle.cs_extent.specs.State.{State, extents_of, need_of, shape}
use Rattle.law_refinement.specs.Bridge.{IsPendingOf, IsWaiting, name}
use Rattle.law_refinement.specs.Machines.{write_for}

-- a list has exactly the names of the members of the round that is out
abbrev pub AreMemberNames : Shape → World → List Name → Type 0
AreMemberNames S w xs = (z : Name) → Contains xs z ↔ ((m : Element) × IsMember S w m × (name m ≡ z))

-- What was staged in the world was staged in the graph, and no version of section j needs a later version of the root than `need j`.
pub record IsStagingOf (S : Shape) (need : ℕ → ℕ) (w : World) (s : Staging) : Type 0 where
  pub pending : IsPendingOf S w s.pending
  -- the last numbers are those of the graph
  pub written : w.written ≡ s.staged
  pub families : length s.latest ≡ suc S.sections
  pub sections : (j : ℕ) → j < S.sections → w.superblocks j ≡ slice_index s.latest (family_of j)
  pub root : w.root ≡ slice_index s.latest root_family
  -- what is persistent was staged, and what it needs is persistent
  pub persistent : IsStaged S w w.persistent
  pub closed : Closed S (log_of w.elements) w.persistent
  -- plain writes are numbered from 1 on
  pub numbers : (n : ℕ) → ((1 ≤ n) × (n ≤ w.written)) ↔ ((a : Write) × (a ∈ writes_of w.elements) × (a.number ≡ n))
  -- a version of a section is of one that is there, and needs staged plain writes, and none where page writes don't come first
  pub superblocks : (u : Superblock) → u ∈ superblocks_of w.elements
      → (u.section < S.sections) × (u.version ≤ w.superblocks u.section) × (u.writes ≤ w.written) × (u.root ≤ need u.section)
      × (S.pages_first ≡ false → u.writes ≡ 0)
  -- a version of the root needs staged versions of the sections and staged plain writes, and none where page writes come first
  pub roots : (r : Root) → r ∈ roots_of w.elements → (r.version ≤ w.root) × ((j : ℕ) → r.superblocks j ≤ w.superblocks j) × (r.pages ≤ w.written)
      × (S.pages_first ≡ true → r.pages ≡ 0)

-- the last version of its extent's section is staged, and needs the plain write where page writes come first
abbrev pub IsRecorded : Shape → World → Write → Type 0
IsRecorded S w x = (u : Superblock) × (u ∈ superblocks_of w.elements) × (u.section ≡ section_of S x.page)
    × (u.version ≡ w.superblocks u.section) × (S.pages_first ≡ true → x.number ≤ u.writes)

-- whatever write is kept for an element that waits, it is one to the element's page, with its bytes
abbrev pub AreWritesOf : Shape → World → GraphState → Type 0
AreWritesOf S w g = (m : Element) (p : PageWrite) → IsWaiting w m → write_of g (name m) ≡ Some p → p ≡ page_write S (formats_of S) m

-- where extents are filled up as many pages of each were found as in the world
abbrev pub FoundAsMuch : State → World → Type 0
FoundAsMuch x w = (shape x).fills ≡ true → (e : ℕ) → (extents_of x).found e ≡ w.extents.found e

-- the world has these extents, what was staged in it was staged in the graph, and what is kept is what it writes
pub record IsWorldOf (x : State) (g : GraphState) (w : World) : Type 0 where
  pub extents : w.extents ≡ extents_of x
  pub staging : IsStagingOf (shape x) (need_of x) w g.staging
  -- each plain write is recorded
  pub recorded : (a : Write) → a ∈ writes_of w.elements → IsRecorded (shape x) w a
  -- what was reset goes with a version of the root that was staged
  pub resets : (e : ℕ) → w.extents.reset e ≤ w.root
  pub writes : AreWritesOf (shape x) w g

-- The graph h is g with version v of the root staged, which is r in the machine. It needs the versions of all sections so far and, where
-- page writes don't come first, all plain writes so far.
pub record StagesRoot (x : State) (g : GraphState) (v : ℕ) (r : Root) (h : GraphState) : Type 0 where
  pub needs : Named
  pub names : (z : Name) → Names needs z ↔ IsRootNeed (root_pages (shape x).pages_first g.staging.staged) g.staging.latest z
  pub version : IsVersionStaged g.staging root_family v needs h.staging
  pub page : write_of h (Version root_family v) ≡ Some (write_for x (A_root r))
  pub others : AddsOnly g h (Version root_family v)

-- the list has so many numbers, which are these
pub record AreListed (count : ℕ) (given : ℕ → ℕ) (listed : List ℕ) : Type 0 where
  pub all_listed : length listed ≡ count
  pub each : (j : ℕ) → j < count → given j ≡ slice_index listed j
