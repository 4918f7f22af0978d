-- How a new store is laid on its disk, and what a crash meanwhile may leave.
use Rattle.std.specs.Prelude.{◌≡◌, ◌≢◌, ◌⊎◌, ◌==◌, ◌<◌, ◌+◌, ◌-◌, ◌++◌, ℕ, zero, suc, Bool, if◌then◌else◌, List, [], ◌∷◌, Some, None, length, map, replicate, slice_get}
use Rattle.cs_disk.specs.declared.disk.PageDisk.{Ghosts as PageDisk}
use Rattle.cs_disk.specs.Disk.{Image, Leaves, LeavesOnly, MayLeave, State, Write, flushed, page}
use Rattle.cs_frame.specs.declared.formats.FormatNumber.TheVariants as of_number
use Rattle.cs_frame.specs.FirstFormat.{page_zero_fault}
use Rattle.cs_frame.specs.Formats.{formats_of}
use Rattle.cs_frame.specs.Geometries.{Dimensions, section_length}
use Rattle.cs_frame.specs.Roots.{identity_in, spelled_root}
use Rattle.cs_frame.specs.Superblocks.{spelled_superblock, superblock_fault}
use Rattle.law_machine.specs.Recovery.{Recovers}
use Rattle.cs_twin.specs.declared.findings.Half.TheVariants.{Whole}
use Rattle.cs_twin.specs.declared.pairs.Pair.{Pair}
use Rattle.cs_twin.specs.Fences.{AreFenced}
use Rattle.cs_twin.specs.Pairs.{version_at}
use Rattle.cs_mount.specs.Showing.{findings_on, shown_on}
use Rattle.cs_mount.specs.StorePairs.{dimensions_on, pages_of, store_pair, store_pairs, store_shape, store_version}

-- a page of zeros
abbrev pub zero_page : List ℕ
zero_page = replicate 4096 0

-- a section of a new store's superblock: version 1, which records no root, of extents that are all empty
unfoldable pub new_section : Dimensions → (section : ℕ) → List ℕ
new_section d j = spelled_superblock d.format 1 0 d.extents d.pages d.sections j (replicate (section_length d.extents d.sections j) (0, 0))

-- its root: version 1, of no commands and no runs
unfoldable pub new_root : Dimensions → List ℕ
new_root d = spelled_root (identity_in d.format) 1 0 []

-- which section the pair at this place is of, but for that of the root
abbrev pub section_of_pair : (k : ℕ) → ℕ
section_of_pair k = if k == 0 then 0 else k - 1

-- what both halves of the pair at this place hold in a new store
abbrev pub new_page : Dimensions → (k : ℕ) → List ℕ
new_page d k = if k == 1 then new_root d else new_section d (section_of_pair k)

-- at which place the pair of a section is
abbrev pub pair_of_section : (section : ℕ) → ℕ
pair_of_section j = if j == 0 then 0 else j + 1

-- the writes of zeros to page 0 and to the last page
abbrev pub clearing : Dimensions → List Write
clearing d = (0, zero_page) ∷ (pages_of d - 1, zero_page) ∷ []

-- those of a new store to both halves of the pair at this place
abbrev pub both_halves : Dimensions → (k : ℕ) → List Write
both_halves d k = ((store_pair d k).page, new_page d k) ∷ ((store_pair d k).twin, new_page d k) ∷ []

-- and those to the pairs from place 1 up to this one
abbrev pub halves_up_to : Dimensions → (k : ℕ) → List Write
halves_up_to d zero = []
halves_up_to d (suc k) = halves_up_to d k ++ both_halves d (suc k)

-- a disk on which these writes were made, and none of them flushed
abbrev pub after_writes : State → List Write → State
after_writes s writes = record { durable = s.durable; volatile = s.volatile ++ writes }

-- A new store is laid in three steps, with a flush at the end of each. The first writes zeros to page 0 and to the
-- last page, the second both halves of the root and of each section but the first, the third those of section 0.
abbrev pub cleared : Dimensions → State → State
cleared d s = flushed (after_writes s (clearing d))

abbrev pub half_laid : Dimensions → State → State
half_laid d s = flushed (after_writes (cleared d s) (halves_up_to d d.sections))

abbrev pub laid : Dimensions → State → State
laid d s = flushed (after_writes (half_laid d s) (both_halves d 0))

-- what a crash within these steps, before them or after them may leave: at each step some of its writes
abbrev pub LeavesLaying : Dimensions → State → Image → Type 0
LeavesLaying d s image = MayLeave (after_writes s (clearing d)) image ⊎ MayLeave (after_writes (cleared d s) (halves_up_to d d.sections)) image
    ⊎ MayLeave (after_writes (half_laid d s) (both_halves d 0)) image

-- From the old disk to the new one some of these writes were made, from the first on, and flushed or not. A crash
-- meanwhile leaves some of them, and so does one now.
pub record LeavesSome {D : Type 0} (disks : PageDisk D) (old new : D) (writes : List Write) : Type 0 where
  pub meanwhile : LeavesOnly disks.moment disks.left_since old new (MayLeave (after_writes (disks.state old) writes))
  pub now : Leaves (disks.state new) (MayLeave (after_writes (disks.state old) writes))

-- ---- what is left, in words

-- It is the image of before, but that page 0 and the last page may hold zeros.
pub record IsBlankedFrom (pages : ℕ) (before image : Image) : Type 0 where
  pub size : length image ≡ length before
  pub each : (p : ℕ) → p < length before → (page image p ≡ page before p) ⊎ (((p ≡ 0) ⊎ (p ≡ pages - 1)) × (page image p ≡ zero_page))

-- page 0 and the last page hold zeros, so there is no store
abbrev pub IsCleared : (pages : ℕ) → Image → Type 0
IsCleared pages image = (page image 0 ≡ zero_page) × (page image (pages - 1) ≡ zero_page)

-- An opening finds the new store of these dimensions: what shows recovers no command and no shard.
pub record HasNewStore (d : Dimensions) (image : Image) : Type 0 where
  pub found : dimensions_on (pages_of d) image ≡ Some d
  pub recovers : Recovers (store_shape d) (formats_of (store_shape d)) (page (shown_on (pages_of d) image)) 0 (λ id. None)

-- each half of each pair holds version 1
abbrev pub HoldsFirst : Dimensions → Image → Type 0
HoldsFirst d image = (k : ℕ) (x : Pair) (twin : Bool) → slice_get (store_pairs d) k ≡ Some x → version_at (store_version (Some d)) image x twin ≡ 1

-- Nothing waits, and both halves of each pair hold version 1: an opening finds each of them whole.
pub record HoldsBoth (d : Dimensions) (s : State) : Type 0 where
  pub durable : s.volatile ≡ []
  pub halves : HoldsFirst d s.durable
  pub findings : findings_on (pages_of d) s.durable ≡ map (λ x. record { pair = x; own = Whole 1; twin = Whole 1 }) (store_pairs d)
  pub fenced : AreFenced (store_version (Some d)) (store_pairs d) s.durable

-- The image is what a crash may leave within the third step if it tears pages. Both halves of the root and of the other
-- sections are there. Page 0 and the last page hold section 0 of the new store, or bytes that are whole in no format.
pub record IsTornLaying (d : Dimensions) (before image : Image) : Type 0 where
  pub size : length image ≡ length before
  pub others : (p : ℕ) → p ≢ 0 → p ≢ pages_of d - 1 → page image p ≡ page before p
  pub first : (page image 0 ≡ new_section d 0) ⊎ (page_zero_fault (page image 0) ≢ None)
  pub last : (page image (pages_of d - 1) ≡ new_section d 0) ⊎ (superblock_fault of_number.Four (page image (pages_of d - 1)) ≢ None)
