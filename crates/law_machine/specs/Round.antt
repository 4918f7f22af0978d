-- The round that is out, and what a round takes.
use Rattle.std.specs.Prelude.{◌≡◌, ◌⊎◌, ◌<◌, ◌≤◌, ℕ, true, false}
use Rattle.law_machine.specs.Cut.{Cut, Needs, Within, satisfied, section_of}
use Rattle.law_machine.specs.Device.{Shape}
use Rattle.law_machine.specs.Element.{A_root, A_superblock, A_write, Element, Root, Superblock, Write, roots_of, superblocks_of, writes_of}
use Rattle.law_machine.specs.Lists.{◌∈◌}
use Rattle.law_machine.specs.Machine.{BeginRound, EndRound, World, happens}

-- it is staged, of the round, and not persistent
abbrev pub IsMember : Shape → World → Element → Type 0
IsMember S w (A_write x) =
    (x ∈ writes_of w.elements) × (w.round.writes x.number ≡ true) × (w.persistent.writes x.number ≡ false)
IsMember S w (A_superblock u) =
    (u ∈ superblocks_of w.elements) × (u.version ≡ w.round.superblocks u.section)
    × (w.persistent.superblocks u.section < u.version)
IsMember S w (A_root r) = (r ∈ roots_of w.elements) × (r.version ≡ w.round.root) × (w.persistent.root < r.version)

-- all that was staged is persistent
abbrev pub NothingWaits : World → Type 0
NothingWaits w = (x : Element) → x ∈ w.elements → satisfied w.persistent x ≡ true

module _ (S : Shape) where
  -- no element that waits needs a root that waits
  abbrev pub NoRootIsAwaited : World → Type 0
  NoRootIsAwaited w = (x : Element) (r : Root) → x ∈ w.elements → r ∈ roots_of w.elements
      → satisfied w.persistent x ≡ false → Needs S x (A_root r) → satisfied w.persistent (A_root r) ≡ true

  -- a round of what R adds went out and is persistent
  abbrev pub after_round : World → Cut → World
  after_round w R = happens S (happens S w (BeginRound R)) EndRound

  -- the needs of a write are satisfied in what is persistent
  abbrev pub WriteReady : World → Write → Type 0
  WriteReady w x = x.root ≤ w.persistent.root

  -- those of a superblock version
  abbrev pub SuperblockReady : World → Superblock → Type 0
  SuperblockReady w u = (u.root ≤ w.persistent.root)
      × ((x : Write) → x ∈ writes_of w.elements → section_of S x.page ≡ u.section → x.number ≤ u.writes
      → w.persistent.writes x.number ≡ true)

  -- those of a root
  abbrev pub RootReady : World → Root → Type 0
  RootReady w r = ((j : ℕ) → r.superblocks j ≤ w.persistent.superblocks j)
      × ((x : Write) → x ∈ writes_of w.elements → x.number ≤ r.pages → w.persistent.writes x.number ≡ true)

  -- R is what is persistent together with what a round takes: each waiting plain write that is ready, nothing that
  -- isn't, and one ready version a family, the greatest
  pub record IsRound (w : World) (R : Cut) : Type 0 where
    pub persistent : Within w.persistent R
    pub writes : (x : Write) → x ∈ writes_of w.elements → WriteReady w x → R.writes x.number ≡ true
    pub only_writes : (n : ℕ) → R.writes n ≡ true → (w.persistent.writes n ≡ true)
        ⊎ ((x : Write) × (x ∈ writes_of w.elements) × (x.number ≡ n) × WriteReady w x)
    pub superblocks : (u : Superblock) → u ∈ superblocks_of w.elements → SuperblockReady w u
        → u.version ≤ R.superblocks u.section
    pub only_superblocks : (j : ℕ) → (R.superblocks j ≡ w.persistent.superblocks j)
        ⊎ ((u : Superblock) × (u ∈ superblocks_of w.elements) × (u.section ≡ j) × (u.version ≡ R.superblocks j)
        × SuperblockReady w u)
    pub roots : (r : Root) → r ∈ roots_of w.elements → RootReady w r → r.version ≤ R.root
    pub only_root : (R.root ≡ w.persistent.root)
        ⊎ ((r : Root) × (r ∈ roots_of w.elements) × (r.version ≡ R.root) × RootReady w r)
