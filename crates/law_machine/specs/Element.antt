-- What is staged: plain writes, versions of the superblock's sections and of the root.
use Rattle.std.specs.Prelude.{◌≡◌, ◌<◌, ◌∷◌, ℕ, Bool, List, Option, []}
use Rattle.law_machine.specs.Device.{Page}
use Rattle.law_machine.specs.Meant.{Mark}
use Rattle.law_machine.specs.Refusal.{Refusal}

-- a plain write: one page of a frame
pub record Write : Type 0 where
  -- writes are numbered from 1 as they are staged
  pub number : ℕ
  pub page : ℕ
  pub bytes : Page
  -- the version of the root that it needs, 0 for none
  pub root : ℕ

-- a version of a section of the superblock
pub record Superblock : Type 0 where
  -- the format that its page is spelled in
  pub format : ℕ
  pub section : ℕ
  pub version : ℕ
  -- the version of the root that was persistent as it was staged
  pub recorded : ℕ
  -- of each extent, how many of its pages are given, and its generation
  pub pointers : ℕ → ℕ
  pub generations : ℕ → ℕ
  -- it needs the plain writes up to this number on extents of its section, and this version of the root
  pub writes : ℕ
  pub root : ℕ

-- where a frame begins, in which generation of its extent, and which one it is
pub record Locator : Type 0 where
  pub extent : ℕ
  pub page : ℕ
  pub generation : ℕ
  pub mark : Mark

-- a copy that a sweep wrote of a chunk: of which shard, its number there, where it was read and where it was written
pub record Copy : Type 0 where
  pub id : ℕ
  pub chunk : ℕ
  pub from : Locator
  pub to : Locator

-- what is known of the image at open
pub record Opening : Type 0 where
  -- of a chunk that is damaged there, the refusal
  pub damage : Locator → Option Refusal
  -- the page was found in the extent, which was in this generation, so it isn't written before the extent is reset. Where an
  -- extent isn't filled up each of its pages counts as found unless it was empty
  pub frozen : (extent page generation : ℕ) → Bool
  -- the end of the pages to which a frame may reach that begins there, and the pages up to it as they were found
  pub limit : Locator → ℕ
  pub pages : Locator → List Page

-- an identifier's entry in the index: its locators, none for a deletion
pub record Entry : Type 0 where
  pub id : ℕ
  pub locators : List Locator

-- a run of the index: where its frame begins, and its entries
pub record Run : Type 0 where
  pub place : Locator
  pub entries : List Entry

-- what reading a shard gives: its bytes, or the refusal of the first damaged frame
pub data Content : Type 0 where
  Bytes : List ℕ → Content
  Damaged : (refusal : Refusal) → Content

-- from identifiers to what reading them gives
abbrev pub Map : Type 0
Map = ℕ → Option Content

-- a version of the root
pub record Root : Type 0 where
  pub version : ℕ
  -- the puts and deletes that it includes, and the runs of its index, newest first
  pub commands : ℕ
  pub runs : List Run
  -- it needs these versions of the sections, and the plain writes up to this number
  pub superblocks : ℕ → ℕ
  pub pages : ℕ
  -- what its page doesn't say, the state in which it was staged: the map, the plain writes that those versions need,
  -- the pointers and the generations, where an extent that is reset right after it counts as empty
  pub map : Map
  pub writes : ℕ → ℕ
  pub pointers : ℕ → ℕ
  pub generations : ℕ → ℕ

-- the elements of each kind, newest first
pub record Log : Type 0 where
  pub writes : List Write
  pub superblocks : List Superblock
  pub roots : List Root

-- a write is staged before another, by number
abbrev pub WriteBefore : Write → Write → Type 0
WriteBefore x y = x.number < y.number

-- a superblock version is staged before another of its section
abbrev pub SuperblockBefore : Superblock → Superblock → Type 0
SuperblockBefore x y = x.section ≡ y.section → x.version < y.version

-- a root is staged before another
abbrev pub RootBefore : Root → Root → Type 0
RootBefore x y = x.version < y.version

-- what is staged
pub data Element : Type 0 where
  A_write : Write → Element
  A_superblock : Superblock → Element
  A_root : Root → Element

-- the plain writes in a list of elements
abbrev pub writes_of : List Element → List Write
writes_of [] = []
writes_of (A_write x ∷ els) = x ∷ writes_of els
writes_of (A_superblock u ∷ els) = writes_of els
writes_of (A_root r ∷ els) = writes_of els

-- the superblock versions
abbrev pub superblocks_of : List Element → List Superblock
superblocks_of [] = []
superblocks_of (A_write x ∷ els) = superblocks_of els
superblocks_of (A_superblock u ∷ els) = u ∷ superblocks_of els
superblocks_of (A_root r ∷ els) = superblocks_of els

-- the roots
abbrev pub roots_of : List Element → List Root
roots_of [] = []
roots_of (A_write x ∷ els) = roots_of els
roots_of (A_superblock u ∷ els) = roots_of els
roots_of (A_root r ∷ els) = r ∷ roots_of els

-- a list of elements, by kinds
abbrev pub log_of : List Element → Log
log_of els = record { writes = writes_of els; superblocks = superblocks_of els; roots = roots_of els }
