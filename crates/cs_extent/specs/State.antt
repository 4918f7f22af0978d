-- What the extents of a store are, in the words of the store's machine.
use Rattle.std.specs.Prelude.{◌≡◌, ℕ, ◌+◌, ◌<◌, ◌≤◌, ◌^◌, Bool, true, false, List, Option, None, Some, length, map, replicate, take, drop, slice_index, slice_index_or}
use Rattle.law_machine.specs.Device.{Shape}
use Rattle.law_machine.specs.Geometry.{apart_in, shape_of}
use Rattle.law_machine.specs.Extents.{Extents}
use Rattle.law_machine.specs.Format.{Format}
use Rattle.cs_frame.specs.Geometries.{Dimensions, IsGeometry, section_length, section_size, section_start}
use Rattle.cs_frame.specs.Superblocks.{SpellsSuperblock}
use Rattle.cs_extent.specs.Frames.{greatest}

-- the extents of a store, as lists with a place for each
pub record State : Type 0 where
  -- which format the store has
  pub format : Format
  -- how many pages each extent has
  pub pages : ℕ
  -- how many sections the superblock has
  pub sections : ℕ
  -- of each extent: how many of its pages are given, and its generation
  pub written : List (ℕ × ℕ)
  -- of each extent: the version of the root that its last reset since the store was opened goes with, 0 for none
  pub resets : List ℕ
  -- of each extent: whether it is being swept
  pub swept : List Bool
  -- the extent that frames are appended to, if there is one
  pub open_extent : Option ℕ
  -- where chunks and runs lie apart, of each extent: whether it holds runs, and how many of its pages were given as the
  -- store was opened, 0 once it was reset
  pub of_runs : List Bool
  pub found : List ℕ
  -- so too: the extent that the sweep opened, if it has, and the one to which the last copy of any sweep went
  pub fresh : Option ℕ
  pub last : Option ℕ

-- the extents as functions of their numbers
abbrev pub extents_of : State → Extents
extents_of s = record {
  pointer = λ e. (slice_index_or s.written e (0, 0)).0;
  generation = λ e. (slice_index_or s.written e (0, 0)).1;
  reset = λ e. slice_index s.resets e;
  open_extent = s.open_extent;
  swept = λ e. slice_index_or s.swept e false;
  of_runs = λ e. slice_index_or s.of_runs e false;
  found = λ e. slice_index s.found e;
  fresh = s.fresh;
  last = s.last;
}

-- how many pages of each extent count as found where so many are given at open: all where chunks and runs lie apart,
-- else none
abbrev pub found_at : (apart : Bool) → (written : List (ℕ × ℕ)) → List ℕ
found_at false written = replicate (length written) 0
found_at true written = map (λ row. row.0) written

-- the extents as a store is opened: none is open, none was reset, none is being swept, and none holds runs yet
abbrev pub extents_at : (format : Format) (pages sections : ℕ) (written : List (ℕ × ℕ)) → State
extents_at format pages sections written = record {
  format = format;
  pages = pages;
  sections = sections;
  written = written;
  resets = replicate (length written) 0;
  swept = replicate (length written) false;
  open_extent = None;
  of_runs = replicate (length written) false;
  found = found_at (apart_in format) written;
  fresh = None;
  last = None;
}

-- the device, whose superblocks are written in sections
abbrev pub shape : State → Shape
shape s = shape_of (length s.written) s.pages s.sections (section_size (length s.written) s.sections) s.format

-- the greatest version of the root that goes with a last reset of one of section j's extents
abbrev pub need_of : State → ℕ → ℕ
need_of s j =
    greatest (λ i. (extents_of s).reset (section_start (length s.written) s.sections j + i)) (section_length (length s.written) s.sections j)

-- pointer and generation of each of section j's extents
abbrev pub section_rows : State → ℕ → List (ℕ × ℕ)
section_rows s j =
    take (section_length (length s.written) s.sections j) (drop (section_start (length s.written) s.sections j) s.written)

-- the page spells a version of section j as the extents are, which records this version of the root
abbrev pub SpellsExtents : State → (j version recorded : ℕ) → List ℕ → Type 0
SpellsExtents s j version recorded page =
    SpellsSuperblock page s.format version recorded (length s.written) s.pages s.sections j (section_rows s j)

-- what all extents of a store keep
pub record IsWhole (s : State) : Type 0 where
  pub geometry : IsGeometry s.format (length s.written) s.pages s.sections
  pub all_resets : length s.resets ≡ length s.written
  pub all_swept : length s.swept ≡ length s.written
  pub all_kinds : length s.of_runs ≡ length s.written
  pub all_found : length s.found ≡ length s.written
  pub pointers : (e : ℕ) → (extents_of s).pointer e ≤ s.pages
  pub found_pages : (e : ℕ) → (extents_of s).found e ≤ s.pages
  -- where extents are filled up, the pages that count as found on an extent are given
  pub found_given : (shape s).fills ≡ true → (e : ℕ) → (extents_of s).found e ≤ (extents_of s).pointer e
  pub roots : (e : ℕ) → (extents_of s).reset e < 2 ^ 63
  -- an extent that is open is there and not empty
  pub open_inside : (e : ℕ) → s.open_extent ≡ Some e → e < length s.written
  pub open_begun : (e : ℕ) → s.open_extent ≡ Some e → 0 < (extents_of s).pointer e

-- the same, and these are the store's dimensions
pub record IsSound (geometry : Dimensions) (s : State) : Type 0 where
  pub extents : geometry.extents ≡ length s.written
  pub whole : IsWhole s
