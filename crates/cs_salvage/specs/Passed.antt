-- A scan of a device that passes over pages: what it can find there.
use Rattle.std.specs.Prelude.{◌⊎◌, ◌+◌, ◌*◌, ◌-◌, ◌^◌, ◌<◌, ◌≤◌, ◌++◌, ℕ, [], List, All, Contains, drop, map, min, take}
use Rattle.std.specs.List.{AllPairs}
use Rattle.cs_disk.specs.Disk.{Image, applied}
use Rattle.cs_frame.specs.Geometries.{Dimensions}
use Rattle.cs_salvage.specs.Parts.{shape_in}
use Rattle.cs_salvage.specs.declared.parts.Part.{Part}

-- an image of which these pages hold nothing
abbrev pub without : (passed : List ℕ) → Image → Image
without passed image = applied image (map (λ (p : ℕ). (p, [])) passed)

-- an image of which the pages before this one hold nothing
abbrev pub from_on : (first : ℕ) → Image → Image
from_on first image = map (λ (bytes : List ℕ). []) (take first image) ++ drop first image

-- the page of the device on which a part begins
abbrev pub first_page_of : Dimensions → Part → ℕ
first_page_of g part = (shape_in g).address part.extent part.page

-- none of these pages is one of the part's frame
abbrev pub Avoids : Dimensions → (passed : List ℕ) → Part → Type 0
Avoids g passed part = (p : ℕ) → Contains passed p → (p < first_page_of g part) ⊎ (first_page_of g part + part.pages ≤ p)

-- A page is one of those that are looked at: it is of an extent, none before the first that is asked for, and on the
-- device, which has so many.
pub record IsLookedAt (g : Dimensions) (first count p : ℕ) : Type 0 where
  pub asked : first ≤ p
  pub extents : 2 ≤ p
  pub below : p < 2 + g.extents * g.pages
  pub there : p < count

-- Pages that were looked at and passed over, by rising numbers, so each once.
pub record ArePassed (g : Dimensions) (first count : ℕ) (passed : List ℕ) : Type 0 where
  pub each : All (IsLookedAt g first count) passed
  pub rising : AllPairs (λ (a b : ℕ). a < b) passed

-- a count of failures has risen by so much at least, or stands at 2^64 - 1, where it stays
abbrev pub RisesBy : (amount before now : ℕ) → Type 0
RisesBy amount before now = min (before + amount) (2 ^ 64 - 1) ≤ now
