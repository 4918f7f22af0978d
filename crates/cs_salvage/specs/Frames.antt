-- What is read of the device.
use Rattle.std.specs.Prelude.{◌≡◌, ◌≢◌, ◌+◌, ◌-◌, ◌<◌, ◌≤◌, ℕ, [], List, Some, length, slice_get, slice_index_or, take}
use Rattle.cs_disk.specs.Disk.{Image, page}
use Rattle.sha2.specs.Sha256.{sha256}
use Rattle.cs_frame.specs.declared.formats.FormatNumber.TheVariants.{Four}
use Rattle.cs_frame.specs.Frames.{SpellsFrame, frame_count, page_count}
use Rattle.cs_frame.specs.Geometries.{Dimensions}
use Rattle.law_machine.specs.Formats.{pages_from}
use Rattle.cs_salvage.specs.Parts.{EndsWith, IsNumbered, IsSpellable, formats_in, shape_in}
use Rattle.cs_salvage.specs.declared.parts.Part.{Part}

-- the pages from a place on, as far as its extent reaches
abbrev pub pages_at : Dimensions → Image → (extent first : ℕ) → List (List ℕ)
pages_at g image extent first = pages_from (shape_in g) (formats_in g) (page image) extent first (g.pages - first)

-- so many pages from a number on were read
pub record AreReadAs (image : Image) (first count : ℕ) (pages : List (List ℕ)) : Type 0 where
  pub size : length pages ≡ count
  pub each : (i : ℕ) → i < count → slice_index_or pages i [] ≡ page image (first + i)

-- the pages are those of the frame that the first of all pages begins, as many as its header counts
pub record IsFrontOf (all pages : List (List ℕ)) : Type 0 where
  pub enough : frame_count all ≤ length all
  pub taken : pages ≡ take (frame_count all) all

-- The part is of the frame of format 4 that begins in these pages, with this payload, wherever they lie.
pub record IsPartIn (pages : List (List ℕ)) (part : Part) (payload : List ℕ) : Type 0 where
  pub spelled : SpellsFrame Four 0 pages payload
  pub counted : part.pages ≡ page_count (length payload)
  pub head : EndsWith part.head part.store payload
  pub spellable : IsSpellable part.head part.store
  pub numbered : IsNumbered part.head
  pub digest : part.digest ≡ sha256 payload

-- some pages spell a chunk's frame with this payload, of which it is the part
abbrev pub IsSpelled : Part → (payload : List ℕ) → Type 0
IsSpelled part payload = (pages : List (List ℕ)) × IsPartIn pages part payload

-- it is the part of a frame that some pages spell
abbrev pub IsOfFrame : Part → Type 0
IsOfFrame part = (payload : List ℕ) × IsSpelled part payload

-- the part means this payload: it has the digest that the part says, and ends with its head, of its store
abbrev pub IsMeant : Part → (payload : List ℕ) → Type 0
IsMeant part payload = (part.digest ≡ sha256 payload) × EndsWith part.head part.store payload

-- at one place of these lists two different texts stand, and have one digest
abbrev pub TwoWithOneDigest : List (List ℕ) → List (List ℕ) → Type 0
TwoWithOneDigest xs ys = (k : ℕ) × (x : List ℕ) × (y : List ℕ)
    × (slice_get xs k ≡ Some x) × (slice_get ys k ≡ Some y) × (x ≢ y) × (sha256 x ≡ sha256 y)
