-- When a move may come, and what every move keeps.
use Rattle.std.specs.Prelude.{◌≡◌, ◌⊎◌, ◌<◌, ◌≤◌, ℕ, suc, Bool, true, false, List}
use Rattle.law_machine.specs.Cut.{Closed, Cut, Exact, Within, page_in, section_of}
use Rattle.law_machine.specs.Device.{FramePage, Page, Place, Shape}
use Rattle.law_machine.specs.Element.{Log, Root, RootBefore, Superblock, SuperblockBefore, Write, WriteBefore, log_of, roots_of, superblocks_of, writes_of}
use Rattle.law_machine.specs.Guard.{Covers, Guarded, Needed, Records, page_as_staged}
use Rattle.law_machine.specs.Lists.{Descends, ◌∈◌}
use Rattle.law_machine.specs.Machine.{BeginRound, EndRound, Move, ResetExtent, StagePage, StageRoot, StageSuperblock, World, everything, root_now}

-- X has no plain write past this number, and no version past these
pub record IsNoLater (written : ℕ) (versions : ℕ → ℕ) (last : ℕ) (X : Cut) : Type 0 where
  pub writes : (n : ℕ) → X.writes n ≡ true → n ≤ written
  pub superblocks : (j : ℕ) → X.superblocks j ≤ versions j
  pub root : X.root ≤ last

-- roots come in order, newest first, and each has and needs no less than those before it
pub record RootsRise (roots : List Root) : Type 0 where
  pub roots_order : Descends RootBefore roots
  -- it needs what an earlier one needs
  pub nested_roots : (r q : Root) → r ∈ roots → q ∈ roots → r.version ≤ q.version
      → (j : ℕ) → r.superblocks j ≤ q.superblocks j
  pub nested_pages : (r q : Root) → r ∈ roots → q ∈ roots → r.version ≤ q.version → r.pages ≤ q.pages
  -- it has no fewer commands
  pub counts : (r q : Root) → r ∈ roots → q ∈ roots → r.version ≤ q.version → r.commands ≤ q.commands

-- versions and what they need keep to the last numbers
pub record KeepBelow (superblocks : List Superblock) (roots : List Root) (written : ℕ) (versions behind : ℕ → ℕ)
    (last : ℕ) : Type 0 where
  pub superblocks_below : (u : Superblock) → u ∈ superblocks → (u.version ≤ versions u.section) × (u.writes ≤ written)
  pub roots_below : (r : Root) → r ∈ roots
      → (r.version ≤ last) × ((j : ℕ) → r.superblocks j ≤ versions j) × ((j : ℕ) → r.writes j ≤ written)
  pub pages_below : (r : Root) → r ∈ roots → r.pages ≤ written
  pub behind_below : (j : ℕ) → behind j ≤ written

-- no element, and no extent, needs a root that isn't staged
pub record NeedStagedRoots (log : Log) (reset : ℕ → ℕ) (last : ℕ) : Type 0 where
  pub write_roots : (x : Write) → x ∈ log.writes → x.root ≤ last
  pub superblock_roots : (u : Superblock) → u ∈ log.superblocks → u.root ≤ last
  pub reset_roots : (e : ℕ) → reset e ≤ last

-- each version that isn't persistent is staged
pub record AreThere (superblocks : List Superblock) (roots : List Root) (versions : ℕ → ℕ) (last : ℕ) (persistent : Cut)
    : Type 0 where
  pub superblocks_there : (j n : ℕ) → persistent.superblocks j < n → n ≤ versions j
      → (u : Superblock) × (u ∈ superblocks) × (u.section ≡ j) × (u.version ≡ n)
  pub roots_there : (n : ℕ) → persistent.root < n → n ≤ last → (r : Root) × (r ∈ roots) × (r.version ≡ n)

module _ (S : Shape) where
  -- what is needed follows the rule of writeback: where page writes come first no root needs any itself, else no
  -- superblock version does
  pub record NeedByRule (superblocks : List Superblock) (roots : List Root) : Type 0 where
    pub no_root_pages : S.pages_first ≡ true → (r : Root) → r ∈ roots → r.pages ≡ 0
    pub no_superblock_writes : S.pages_first ≡ false → (u : Superblock) → u ∈ superblocks → u.writes ≡ 0

  -- the last version of the extent's section has all its pages, but where it was reset since; where page writes come
  -- first it needs them
  pub record Settled (w : World) (e : ℕ) : Type 0 where
    pub last : (u : Superblock) × (u ∈ superblocks_of w.elements) × (u.section ≡ S.section e)
        × (u.version ≡ w.superblocks u.section) × (S.pages_first ≡ true → w.behind u.section ≤ u.writes)
    pub pages : (x : Write) → x ∈ writes_of w.elements → S.extent x.page ≡ e → x.number ≤ w.behind (S.section e)
    pub current : (u : Superblock) → u ∈ superblocks_of w.elements → u.section ≡ S.section e
        → w.superblocks u.section ≤ u.version
        → ((u.pointers e ≡ w.extents.pointer e) × (u.generations e ≡ w.extents.generation e))
        ⊎ (w.extents.pointer e ≡ 0)

  -- each member of the round R has its needs satisfied in P
  pub record Ready (log : Log) (P R : Cut) : Type 0 where
    pub writes : (x : Write) → x ∈ log.writes → R.writes x.number ≡ true
        → (P.writes x.number ≡ true) ⊎ (x.root ≤ P.root)
    pub superblock_root : (u : Superblock) → u ∈ log.superblocks → u.version ≤ R.superblocks u.section
        → (u.version ≤ P.superblocks u.section) ⊎ (u.root ≤ P.root)
    pub superblock_writes : (u : Superblock) (x : Write) → u ∈ log.superblocks → x ∈ log.writes
        → u.version ≤ R.superblocks u.section → section_of S x.page ≡ u.section → x.number ≤ u.writes
        → (u.version ≤ P.superblocks u.section) ⊎ (P.writes x.number ≡ true)
    pub roots : (r : Root) → r ∈ log.roots → r.version ≤ R.root
        → (r.version ≤ P.root) ⊎ ((j : ℕ) → r.superblocks j ≤ P.superblocks j)
    pub root_writes : (r : Root) (x : Write) → r ∈ log.roots → x ∈ log.writes → r.version ≤ R.root → x.number ≤ r.pages
        → (r.version ≤ P.root) ⊎ (P.writes x.number ≡ true)

  -- X names nothing that isn't staged
  abbrev pub IsStaged : World → Cut → Type 0
  IsStaged w X = IsNoLater w.written w.superblocks w.root X

  -- an extent's pointer and generation keep to their bounds
  abbrev pub FitsExtent : (pointer generation : ℕ) → Type 0
  FitsExtent pointer generation = (pointer ≤ S.pages) × (generation ≤ S.greatest_generation)

  -- plain writes come in order, newest first, numbered from 1 up to the last, and go to pages of frames
  pub record WritesRise (writes : List Write) (written : ℕ) : Type 0 where
    pub writes_order : Descends WriteBefore writes
    pub writes_from_one : (x : Write) → x ∈ writes → 1 ≤ x.number
    pub writes_below : (x : Write) → x ∈ writes → x.number ≤ written
    pub frames : (x : Write) → x ∈ writes → S.kind x.page ≡ FramePage

  -- superblock versions come in order, newest first, and each can be spelled
  pub record SuperblocksRise (superblocks : List Superblock) : Type 0 where
    pub superblocks_order : Descends SuperblockBefore superblocks
    -- a later version needs what an earlier one needs
    pub nested_superblocks : (u v : Superblock) → u ∈ superblocks → v ∈ superblocks
        → u.section ≡ v.section → u.version ≤ v.version → (u.root ≤ v.root) × (u.writes ≤ v.writes)
    -- its section is there
    pub sections_there : (u : Superblock) → u ∈ superblocks → u.section < S.sections
    -- its pointers, its generations and its version keep to their bounds
    pub superblocks_fit : (u : Superblock) → u ∈ superblocks
        → (1 ≤ u.version) × (u.version ≤ S.greatest_number) × ((e : ℕ) → FitsExtent (u.pointers e) (u.generations e))

  -- what a root locates is guarded, and what it needs was staged before it
  pub record Guards (log : Log) : Type 0 where
    -- each root is guarded at each place that it covers
    pub guarded : (r : Root) → r ∈ log.roots → (h : Place) → Covers S r h → Guarded S log r h
    pub needed : (r : Root) → r ∈ log.roots → (e : ℕ) → Needed S log r e
    -- so it needs earlier roots alone
    pub earlier : (r : Root) (u : Superblock) → r ∈ log.roots → u ∈ log.superblocks
        → u.version ≤ r.superblocks u.section → (q : ℕ) → r.version ≤ suc q
        → (u.root ≤ q) × ((x : Write) → x ∈ log.writes → x.number ≤ u.writes → x.root ≤ q)
    pub earlier_pages : (r : Root) (x : Write) → r ∈ log.roots → x ∈ log.writes → x.number ≤ r.pages → (q : ℕ)
        → r.version ≤ suc q → x.root ≤ q

  -- what is persistent is closed; so is all between it and the round
  pub record ClosesRound (log : Log) (written : ℕ) (versions : ℕ → ℕ) (last : ℕ) (persistent round : Cut) : Type 0 where
    pub closed : Closed S log persistent
    pub exact : Exact S.sections log persistent
    pub round_exact : Exact S.sections log round
    pub staged : IsNoLater written versions last persistent
    pub round_staged : IsNoLater written versions last round
    pub within : Within persistent round
    pub ready : Ready log persistent round

  -- Good: what a root must be able to read of an image. frozen: the pages that were found in an extent at open, by extent,
  -- page and generation. opened: the image at open
  module _ (Good : Root → (ℕ → Page) → Type 0) (frozen : ℕ → ℕ → ℕ → Bool) (opened : ℕ → Page) where
    -- what a root reads is as it was staged
    pub record ReadsAsStaged (writes : List Write) (roots : List Root) : Type 0 where
      -- what it locates was right as it was staged
      pub good : (r : Root) → r ∈ roots → Good r (page_as_staged S r opened writes)
      -- a page is written again only behind a root that counts on the write before
      pub rewritten : (x y : Write) → x ∈ writes → y ∈ writes → x.page ≡ y.page → x.number < y.number
          → (r : Root) × (r ∈ roots) × (r.version ≡ y.root) × (x.number ≤ r.writes (section_of S x.page))
      -- where a root found a page frozen, what was written there since needs a later root
      pub written_later : (r : Root) → r ∈ roots → (e i : ℕ) → frozen e i (r.generations e) ≡ true → 0 < r.pointers e
          → (x : Write) → x ∈ writes → S.extent x.page ≡ e → S.index x.page ≡ i
          → (r.version < x.root) × (r.writes (S.section e) < x.number)

    -- each extent is as roots and writes found it, but where it was reset since
    pub record SinceResets (writes : List Write) (roots : List Root) (pointer generation reset : ℕ → ℕ) : Type 0 where
      -- at each place that a root covers the extent is still what it was, or was reset under a later root
      pub fresh : (r : Root) → r ∈ roots → (h : Place) → Covers S r h
          → Records S pointer generation h ⊎ (r.version < reset (S.extent h.page))
      -- an extent that a root found in use has the generation that it had, or was reset under a later root
      pub same_or_reset : (r : Root) → r ∈ roots → (e : ℕ) → 0 < r.pointers e
          → (r.generations e ≡ generation e) ⊎ (r.version < reset e)
      -- a page that was written lies below the pointer, or was written before the root of the extent's last reset
      pub written_once : (x : Write) → x ∈ writes → (S.index x.page < pointer (S.extent x.page))
          ⊎ ((r : Root) × (r ∈ roots) × (r.version ≡ reset (S.extent x.page))
          × (x.number ≤ r.writes (section_of S x.page)))
      -- nothing was written to a page that is frozen now
      pub unwritten : (e i : ℕ) → frozen e i (generation e) ≡ true → (x : Write) → x ∈ writes → S.extent x.page ≡ e
          → S.index x.page ≡ i → ⊥

    -- extents keep to their bounds
    pub record ExtentsInBounds (pointer generation reset : ℕ → ℕ) : Type 0 where
      -- so that each can be spelled in a superblock
      pub extents_fit : (e : ℕ) → FitsExtent (pointer e) (generation e)
      -- only an extent that is there was ever reset
      pub resets_there : (e : ℕ) → S.extents ≤ e → reset e ≡ 0
      -- a frozen generation isn't a later one
      pub frozen_before : (e i g : ℕ) → frozen e i g ≡ true → g ≤ generation e

    -- when a move may come
    abbrev pub Allowed : World → Move → Type 0
    -- the next page of its extent, which isn't frozen
    Allowed w (StagePage p b) = (S.index p ≡ w.extents.pointer (S.extent p)) × (S.kind p ≡ FramePage)
        × (S.index p < S.pages) × (frozen (S.extent p) (S.index p) (w.extents.generation (S.extent p)) ≡ false)
    -- it needs the root of each reset that it records, and what the version before it needs
    Allowed w (StageSuperblock j r) = ((e : ℕ) → S.section e ≡ j → w.extents.reset e ≤ r)
        × ((u : Superblock) → u ∈ superblocks_of w.elements → u.section ≡ j → u.root ≤ r)
        × (j < S.sections) × (r ≤ w.root) × (suc (w.superblocks j) ≤ S.greatest_number)
    -- what it holds is there, as it should be, and its superblock is staged
    Allowed w (StageRoot n runs m pointers) = ((e : ℕ) → Settled w e)
        × ((e : ℕ) → (pointers e ≡ w.extents.pointer e) ⊎ (pointers e ≡ 0))
        × Good (root_now S w n runs m pointers) (page_in (everything w) opened (writes_of w.elements))
        × ((r : Root) → r ∈ roots_of w.elements → r.commands ≤ n)
    -- the last root locates nothing there, and all that was written there was staged before it
    Allowed w (ResetExtent e) = ((r : Root) → r ∈ roots_of w.elements → w.root ≤ r.version → r.pointers e ≡ 0)
        × ((r : Root) × (r ∈ roots_of w.elements) × (r.version ≡ w.root)
        × ((x : Write) → x ∈ writes_of w.elements → S.extent x.page ≡ e → x.number ≤ r.writes (S.section e)))
        × (w.extents.generation e < S.greatest_generation) × (e < S.extents)
    -- all its members are staged, and their needs are satisfied in what is persistent
    Allowed w (BeginRound R) = Exact S.sections (log_of w.elements) R × Within w.persistent R × IsStaged w R
        × Ready (log_of w.elements) w.persistent R
    Allowed w EndRound = Unit {0}

    -- what every move keeps, in groups, whose fields are its own too
    pub record Safe (w : World) : Type 0 where
      -- what roots locate
      pub guards : Guards (log_of w.elements)
      pub open guards use *
      pub reads : ReadsAsStaged (writes_of w.elements) (roots_of w.elements)
      pub open reads use *
      -- the extents
      pub since_resets : SinceResets (writes_of w.elements) (roots_of w.elements) w.extents.pointer w.extents.generation
          w.extents.reset
      pub open since_resets use *
      pub extents : ExtentsInBounds w.extents.pointer w.extents.generation w.extents.reset
      pub open extents use *
      -- numbers and versions
      pub writes_rise : WritesRise (writes_of w.elements) w.written
      pub open writes_rise use *
      pub superblocks_rise : SuperblocksRise (superblocks_of w.elements)
      pub open superblocks_rise use *
      -- a version of a section records no later root than is persistent
      pub recorded_below : (u : Superblock) → u ∈ superblocks_of w.elements → u.recorded ≤ w.persistent.root
      pub roots_rise : RootsRise (roots_of w.elements)
      pub open roots_rise use *
      pub below : KeepBelow (superblocks_of w.elements) (roots_of w.elements) w.written w.superblocks w.behind w.root
      pub open below use *
      pub by_rule : NeedByRule (superblocks_of w.elements) (roots_of w.elements)
      pub open by_rule use *
      pub needs : NeedStagedRoots (log_of w.elements) w.extents.reset w.root
      pub open needs use *
      -- what isn't persistent yet
      pub there : AreThere (superblocks_of w.elements) (roots_of w.elements) w.superblocks w.root w.persistent
      pub open there use *
      pub round : ClosesRound (log_of w.elements) w.written w.superblocks w.root w.persistent w.round
      pub open round use *
