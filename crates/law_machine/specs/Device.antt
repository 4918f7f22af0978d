-- The device: its pages, what lies on each, and the limits of a store.
use Rattle.std.specs.Prelude.{◌≡◌, ◌+◌, ◌*◌, ◌<◌, ◌≤◌, ℕ, Bool, true, false, List}
use Rattle.law_machine.specs.Format.{Format}
use Rattle.law_machine.specs.Meant.{Mark, first_mark, same_mark}

-- the bytes of a page
abbrev pub Page : Type 0
Page = List ℕ

-- what is written to a page of the device: the root, a section of the superblock, or frames
pub data PageKind : Type 0 where
  RootPage : PageKind
  SectionPage : ℕ → PageKind
  FramePage : PageKind

-- where each page of the device lies, which section of the superblock speaks of an extent, and the limits
pub record Shape : Type 0 where
  -- the number of extents, of pages in each, and of sections of the superblock
  pub extents : ℕ
  pub pages : ℕ
  pub sections : ℕ
  -- the format that new superblocks are written in
  pub format : Format
  -- a version of the superblock needs the page writes that it counts; where not, a root needs all page writes that were
  -- staged before it
  pub pages_first : Bool
  -- each entry of a root's runs names what is there; where not, one that a newer entry hides may name what is gone
  pub hidden_stand : Bool
  -- a Stage merges the newest runs by their sizes; where not, all once there are four
  pub by_size : Bool
  -- an extent holds chunks or runs, and not both, and copies count once the sweep ends; how many may hold runs then
  pub apart : Bool
  pub run_extents : ℕ
  -- an extent that was found with pages is filled up behind them, and a frame that begins among them ends there
  pub fills : Bool
  -- the mark of the frame whose first page this is, which a locator of it has, and the greatest mark
  pub mark : Page → Mark
  pub greatest_mark : ℕ
  -- what is written to a page; the pages of the root and of the sections
  pub kind : ℕ → PageKind
  pub root_page : ℕ
  pub section_page : ℕ → ℕ
  -- of a page of frames: its extent, and its place there; and back
  pub extent : ℕ → ℕ
  pub index : ℕ → ℕ
  pub address : ℕ → ℕ → ℕ
  -- the section that speaks of an extent
  pub section : ℕ → ℕ
  -- the greatest piece of a shard in one chunk, in bytes; how many each piece but the last has, if a shard has so many
  pub chunk_bytes : ℕ
  pub piece_bytes : (bytes : ℕ) → ℕ
  -- how many chunks a shard may have, and how many runs a root may have
  pub most_chunks : ℕ
  pub most_runs : ℕ
  -- what an entry of so many chunks weighs, and what the newest entries of all identifiers may weigh together, so that one run
  -- of them fits on an extent
  pub weigh : (chunks : ℕ) → ℕ
  pub most_weight : ℕ
  -- the greatest number of a write, of a version or of commands, and the greatest generation
  pub greatest_number : ℕ
  pub greatest_generation : ℕ

-- an extent, and a page of it, that are there
abbrev pub Inside : Shape → ℕ → ℕ → Type 0
Inside S e i = (e < S.extents) × (i < S.pages)

-- a mark that can be
abbrev pub FitsMark : Shape → Mark → Type 0
FitsMark S m = m ≤ S.greatest_mark

-- the mark of a frame of these pages; such a frame is the one that a locator of this mark means
abbrev pub mark_of : Shape → List Page → Mark
mark_of S pages = first_mark S.mark pages

abbrev pub is_meant : Shape → Mark → List Page → Bool
is_meant S m pages = same_mark (mark_of S pages) m

-- a rule of how much entries weigh: each weighs something, and one of more chunks no less
pub record IsWeighing (weigh : (chunks : ℕ) → ℕ) : Type 0 where
  pub some : 1 ≤ weigh 0
  pub more : (b c : ℕ) → b ≤ c → weigh b ≤ weigh c

-- no two things lie on one page; a shard can be put, in pieces that chunks hold, no more of them than a shard may have; a root may have
-- as many runs as Stage leaves; entries weigh by a rule, and no shard's more than all may; where chunks and runs lie apart a hidden entry may
-- name what is gone, a Stage merges by sizes, and extents are left for both; only there is an extent filled up; and each page's mark can be
pub record IsShape (S : Shape) : Type 0 where
  pub root_kind : S.kind S.root_page ≡ RootPage
  pub section_kind : (j : ℕ) → j < S.sections → S.kind (S.section_page j) ≡ SectionPage j
  pub root_only : (p : ℕ) → S.kind p ≡ RootPage → p ≡ S.root_page
  pub section_only : (p j : ℕ) → S.kind p ≡ SectionPage j → p ≡ S.section_page j
  pub frame_kind : (e i : ℕ) → Inside S e i → S.kind (S.address e i) ≡ FramePage
  pub extent : (e i : ℕ) → Inside S e i → S.extent (S.address e i) ≡ e
  pub index : (e i : ℕ) → Inside S e i → S.index (S.address e i) ≡ i
  pub section : (e : ℕ) → S.section e < S.sections
  pub some_chunk : 0 < S.most_chunks
  pub some_byte : 0 < S.chunk_bytes
  pub some_piece : (bytes : ℕ) → 0 < S.piece_bytes bytes
  pub small_pieces : (bytes : ℕ) → S.piece_bytes bytes ≤ S.chunk_bytes
  pub few_pieces : (bytes : ℕ) → bytes ≤ S.most_chunks * S.chunk_bytes → bytes ≤ S.most_chunks * S.piece_bytes bytes
  pub enough_runs : 4 ≤ S.most_runs
  pub weighs : IsWeighing S.weigh
  pub one_fits : S.weigh S.most_chunks ≤ S.most_weight
  pub apart : S.apart ≡ true → (S.hidden_stand ≡ false) × (S.by_size ≡ true)
      × (1 ≤ S.run_extents) × (S.run_extents + 2 ≤ S.extents)
  pub fills : S.fills ≡ true → S.apart ≡ true
  pub marks : (p : Page) → FitsMark S (S.mark p)

-- a page of the device as one generation of its extent has it
pub record Place : Type 0 where
  pub page : ℕ
  pub generation : ℕ
