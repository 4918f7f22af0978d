-- The laws of a format.
use Rattle.std.specs.Prelude.{◌≡◌, ◌+◌, ◌<◌, ◌≤◌, ◌∷◌, ℕ, suc, true, List, length, None, if◌then◌else◌}
use Rattle.law_machine.specs.Device.{Page, Shape}
use Rattle.law_machine.specs.Element.{Entry, Locator}
use Rattle.law_machine.specs.Formats.{ChunkFrame, Formats, FrameKind, RunFrame, Stand, is_long_frame, pages_from}
use Rattle.law_machine.specs.Index.{InRange, IsRunList}
use Rattle.law_machine.specs.Lists.{◌∈◌}
use Rattle.law_machine.specs.Safe.{FitsExtent}

-- how many runs a root that is staged has at most
abbrev pub most_staged : Shape → ℕ
most_staged S = if S.by_size then S.most_runs else 4

-- each of these payloads is long enough for its head, if a chunk of it fits on an extent
abbrev pub AreLong : Shape → Formats → List (List ℕ) → Type 0
AreLong S F payloads = (payload : List ℕ) → payload ∈ payloads → length (F.frame ChunkFrame payload) ≤ S.pages
    → is_long_frame F (F.frame ChunkFrame payload) ≡ true

-- what the machine asks of the spelling of its pages
pub record IsFormat (S : Shape) (F : Formats) : Type 0 where
  -- a section speaks of its own extents alone
  pub section : (f j v r : ℕ) (p g q h : ℕ → ℕ) → ((e : ℕ) → S.section e ≡ j → (p e ≡ q e) × (g e ≡ h e))
      → F.superblock f j v r p g ≡ F.superblock f j v r q h
  -- a frame has a page
  pub some_page : (kind : FrameKind) (payload : List ℕ) → 0 < length (F.frame kind payload)
  -- one page is the root of one number of commands and one list of runs, and one payload the run of one list of entries
  pub one_root : (v w n k : ℕ) (xs ys : List Locator) → F.fits_root v n xs ≡ true → F.fits_root w k ys ≡ true
      → F.root v n xs ≡ F.root w k ys → (n ≡ k) × (xs ≡ ys)
  pub one_run : (xs ys : List Entry) → F.fits_run xs ≡ true → F.fits_run ys ≡ true → F.run xs ≡ F.run ys → xs ≡ ys
  -- what stands at a place is the frame of one payload
  pub one_payload : (img : ℕ → Page) (e i : ℕ) (kind : FrameKind) (a b : List ℕ)
      → length (F.frame kind a) ≤ S.pages → length (F.frame kind b) ≤ S.pages
      → Stand S F img e i (F.frame kind a) → Stand S F img e i (F.frame kind b) → a ≡ b
  -- what is staged keeps to these bounds, and can be spelled
  pub root_fits : (v n : ℕ) (ls : List Locator) → 1 ≤ v → v ≤ S.greatest_number → n ≤ S.greatest_number
      → length ls ≤ most_staged S → ((l : Locator) → l ∈ ls → InRange S l) → F.fits_root v n ls ≡ true
  pub run_fits : (entries : List Entry) → IsRunList S entries → F.fits_run entries ≡ true
  -- of a chunk's payload the piece of the shard's bytes is read back
  pub one_piece : (id number count command : ℕ) (piece : List ℕ) → F.body (F.chunk id number count command piece) ≡ piece
  -- each chunk and each run that fits on an extent is long enough
  pub long_chunk : (id number count command : ℕ) (piece : List ℕ)
      → length (F.frame ChunkFrame (F.chunk id number count command piece)) ≤ S.pages
      → is_long_frame F (F.frame ChunkFrame (F.chunk id number count command piece)) ≡ true
  pub long_run : (entries : List Entry) → length (F.frame RunFrame (F.run entries)) ≤ S.pages
      → is_long_frame F (F.frame RunFrame (F.run entries)) ≡ true
  -- where a frame stands there is no fault, however many pages follow
  pub no_fault : (img : ℕ → Page) (e i count : ℕ) (kind : FrameKind) (payload : List ℕ)
      → length (F.frame kind payload) ≤ count → i + count ≤ S.pages → Stand S F img e i (F.frame kind payload)
      → F.fault kind (pages_from S F img e i count) ≡ None
  -- where extents are filled up the page of a section tells the pointers of its extents, in whatever format and version, and
  -- whatever root it records
  pub tells : S.fills ≡ true → (f k j v w a b : ℕ) (p g q h : ℕ → ℕ) → ((e : ℕ) → FitsExtent S (p e) (g e))
      → ((e : ℕ) → FitsExtent S (q e) (h e)) → F.superblock f j v a p g ≡ F.superblock k j w b q h
      → (e : ℕ) → e < S.extents → S.section e ≡ j → p e ≡ q e

-- what a format of frames has to say of itself, so that what stands at a place is the frame of one payload
pub record IsFrameFormat (frame : FrameKind → List ℕ → List Page) (pages : ℕ) : Type 0 where
  -- the payload's length gives the number of pages
  pub sized : (kind : FrameKind) (a b : List ℕ) → length a ≡ length b → length (frame kind a) ≡ length (frame kind b)
  -- the first page tells the payload's length
  pub tells : (kind : FrameKind) (a b : List ℕ) (x y : Page) (xs ys : List Page)
      → frame kind a ≡ x ∷ xs → frame kind b ≡ y ∷ ys
      → suc (length xs) ≤ pages → suc (length ys) ≤ pages → x ≡ y → length a ≡ length b
  -- a frame has a page
  pub some_page : (kind : FrameKind) (a : List ℕ) → (x : Page) × (xs : List Page) × (frame kind a ≡ x ∷ xs)
  -- two payloads have two frames
  pub injective : (kind : FrameKind) (a b : List ℕ) → length (frame kind a) ≤ pages
      → frame kind a ≡ frame kind b → a ≡ b
