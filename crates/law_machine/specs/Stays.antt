-- What an event leaves as it was: the round that is out, what is persistent, the roots, and the pages of extents.
use Rattle.std.specs.Prelude.{◌≡◌, ◌+◌, ◌<◌, ◌≤◌, ◌∷◌, ℕ, length}
use Rattle.law_machine.specs.Changes.{newest_page}
use Rattle.law_machine.specs.Device.{Inside, Shape}
use Rattle.law_machine.specs.Element.{Root, roots_of}
use Rattle.law_machine.specs.State.{Reply, Retired, Staged, State}

-- the round that is out, what of it is left and was issued, what is persistent, and whether the core is halted
pub record KeepsRound (s t : State) : Type 0 where
  pub round_out : t.round_out ≡ s.round_out
  pub left : t.left ≡ s.left
  pub issued : t.issued ≡ s.issued
  pub persistent : t.world.persistent ≡ s.world.persistent
  pub halted : t.halted ≡ s.halted

-- the roots that were staged
pub record KeepsRoots (s t : State) : Type 0 where
  pub roots : roots_of t.world.elements ≡ roots_of s.world.elements
  pub root : t.world.root ≡ s.world.root

-- a root of this version was staged, with all commands
pub record AddsRoot (s : State) (version : ℕ) (t : State) : Type 0 where
  pub root : Root
  pub roots : roots_of t.world.elements ≡ root ∷ roots_of s.world.elements
  pub version_is : root.version ≡ version
  pub commands : root.commands ≡ s.count + length s.commands

-- the roots after an event with this reply: one more where it staged one, else those that were there
abbrev pub RootsAfter : Reply → State → State → Type 0
RootsAfter (Staged v) s t = AddsRoot s v t
RootsAfter (Retired v) s t = AddsRoot s v t
RootsAfter reply s t = KeepsRoots s t

-- an extent was emptied: it is of a newer generation
abbrev pub IsEmptied : (s t : State) → ℕ → Type 0
IsEmptied s t e = s.world.extents.generation e < t.world.extents.generation e

-- an extent keeps its generation, how many of its pages were found at open, and its given pages, none of which reads otherwise; more
-- pages of it may be given
pub record KeepsPages (S : Shape) (s t : State) (e : ℕ) : Type 0 where
  pub generation : t.world.extents.generation e ≡ s.world.extents.generation e
  pub found : t.world.extents.found e ≡ s.world.extents.found e
  pub given : s.world.extents.pointer e ≤ t.world.extents.pointer e
  pub pages : (i : ℕ) → i < s.world.extents.pointer e → Inside S e i → newest_page t (S.address e i) ≡ newest_page s (S.address e i)
