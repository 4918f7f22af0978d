-- How pages are spelled, and the image of a set of elements.
use Rattle.std.specs.Prelude.{◌≡◌, ◌-◌, ◌&&◌, ◌∷◌, ◌==◌, ℕ, zero, suc, Bool, true, List, Option, Some, None, nat_le, nat_lt, [], if◌then◌else◌}
use Rattle.law_machine.specs.Cut.{Cut, page_in}
use Rattle.law_machine.specs.Device.{FramePage, Page, PageKind, RootPage, SectionPage, Shape, is_meant}
use Rattle.law_machine.specs.Element.{Entry, Locator, Log, Opening, Run}
use Rattle.law_machine.specs.Extents.{first_found, reach}
use Rattle.law_machine.specs.Lists.{latest}
use Rattle.law_machine.specs.Meant.{Mark}
use Rattle.law_machine.specs.Refusal.{BadLength, Misplaced, Refusal}

-- what a frame holds: a chunk of a shard, or a run of the index
pub data FrameKind : Type 0 where
  ChunkFrame RunFrame : FrameKind

-- how pages are spelled
pub record Formats : Type 0 where
  pub superblock : (format section version recorded : ℕ) → (pointers generations : ℕ → ℕ) → Page
  pub root : (version commands : ℕ) → List Locator → Page
  -- the pages of a frame, by its kind and payload
  pub frame : FrameKind → List ℕ → List Page
  -- why no frame of that kind stands at the head of these pages, all to which it may reach; None where one does
  pub fault : FrameKind → List Page → Option Refusal
  -- a frame that begins with this page is long enough for what it holds: a chunk's frame for the head of a chunk
  pub is_long : Page → Bool
  -- the payload of a chunk: its piece of the shard's bytes, whose chunk it is, its number in the shard, how many the
  -- shard has, and the number of the command that put it. A format may leave out all but the piece
  pub chunk : (id number count command : ℕ) → (piece : List ℕ) → List ℕ
  -- the piece of a payload
  pub body : (payload : List ℕ) → List ℕ
  -- the payload of a run
  pub run : List Entry → List ℕ
  -- these can be spelled
  pub fits_root : (version commands : ℕ) → List Locator → Bool
  pub fits_run : List Entry → Bool

-- the refusal, or this one where there is none
abbrev pub refused_or : Option Refusal → Refusal → Refusal
refused_or None f = f
refused_or (Some g) f = g

-- a frame of these pages is long enough for what it holds. Its first page shows it
abbrev pub is_long_frame : Formats → List Page → Bool
is_long_frame F [] = true
is_long_frame F (page ∷ pages) = F.is_long page

-- where the frames of the runs begin
abbrev pub places : List Run → List Locator
places [] = []
places (run ∷ runs) = run.place ∷ places runs

module _ (S : Shape) (F : Formats) where
  -- the page p, of this kind, in the image of X
  abbrev pub image_at : PageKind → Cut → (ℕ → Page) → Log → ℕ → Page
  image_at RootPage X opened log p =
      latest (λ r. nat_le r.version X.root) (λ r. F.root r.version r.commands (places r.runs)) (opened p) log.roots
  image_at (SectionPage j) X opened log p =
      latest (λ u. (u.section == j) && nat_le u.version (X.superblocks j))
      (λ u. F.superblock u.format j u.version u.recorded u.pointers u.generations) (opened p) log.superblocks
  image_at FramePage X opened log p = page_in X opened log.writes p

  -- the image of X: on each page the last write to it of X's elements, else what was there at open
  abbrev pub image : Cut → (ℕ → Page) → Log → ℕ → Page
  image X opened log p = image_at (S.kind p) X opened log p

  -- these pages stand one after another, from page i of extent e on
  abbrev pub Stand : (ℕ → Page) → ℕ → ℕ → List Page → Type 0
  Stand img e i [] = Unit {0}
  Stand img e i (b ∷ bs) = (img (S.address e i) ≡ b) × Stand img e (suc i) bs

  -- so many pages, from page i of extent e on
  abbrev pub pages_from : (ℕ → Page) → (e i count : ℕ) → List Page
  pages_from img e i zero = []
  pages_from img e i (suc count) = img (S.address e i) ∷ pages_from img e (suc i) count

  -- why no frame of that kind stands at the head of these pages that a locator of this mark means: the frame's own fault, else
  -- that it is another one
  abbrev pub fault_of_meant : FrameKind → Mark → List Page → Option Refusal
  fault_of_meant kind m pages = if is_meant S m pages then F.fault kind pages
      else Some (refused_or (F.fault kind pages) Misplaced)

  -- why none stands there that is long enough for what it holds: that fault, else that it is too short
  abbrev pub fault_for : FrameKind → Mark → List Page → Option Refusal
  fault_for kind m pages = if is_long_frame F pages then fault_of_meant kind m pages
      else Some (refused_or (fault_of_meant kind m pages) BadLength)

  -- how far the frame at a locator may reach, under a superblock: of another generation nothing was found
  abbrev pub limit_in : (pointers generations : ℕ → ℕ) → Locator → ℕ
  limit_in pointers generations l =
      reach S (if generations l.extent == l.generation then pointers l.extent else 0) l.page

  -- the refusal of the chunk that a locator has in an image, under its superblock, where it is damaged
  abbrev pub damage_in : (ℕ → Page) → (pointers generations : ℕ → ℕ) → Locator → Option Refusal
  damage_in img pointers generations l =
      if (generations l.extent == l.generation) && nat_lt l.page (pointers l.extent)
      then fault_for ChunkFrame l.mark (pages_from img l.extent l.page (limit_in pointers generations l - l.page)) else None

  -- what is known of an image, under its superblock
  abbrev pub opening_in : (ℕ → Page) → (pointers generations : ℕ → ℕ) → Opening
  opening_in img pointers generations = record {
    damage = damage_in img pointers generations;
    frozen = λ e i g. (generations e == g) && nat_lt (first_found S i) (pointers e);
    limit = limit_in pointers generations;
    pages = λ l. pages_from img l.extent l.page (limit_in pointers generations l - l.page);
  }
