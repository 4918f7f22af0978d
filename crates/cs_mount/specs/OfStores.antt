-- Which store a disk in pairs is of.
use Rattle.std.specs.Prelude.{◌≡◌, ◌==◌, ◌&&◌, ℕ, Bool, not, List, Option, Some, IfSome, slice_index, true}
use Rattle.cs_disk.specs.Disk.{Image, page}
use Rattle.cs_frame.specs.Geometries.{Dimensions}
use Rattle.law_machine.specs.Geometry.{twins_in}
use Rattle.cs_mount.specs.StorePairs.{dimensions_on, first_says, pages_of, pairs_where, store_version}
use Rattle.cs_twin.specs.declared.pairs.Pair.{Pair}
use Rattle.cs_twin.specs.Pairs.{shown}

-- any bytes, but on page 0 none that say of themselves that they are of format 4: where that page is in no pair no
-- store of format 4 is
abbrev pub is_allowed : (page : ℕ) → List ℕ → Bool
is_allowed p bytes = not (p == 0 && slice_index bytes 3 == 52)

-- The pairs are those of a store of these dimensions, which has the device's pages, and if it has pairs, an opening
-- finds it. And where page 0 as it shows spells the first section of a store of format 4, it is that store.
pub record IsOfStore (store : Option Dimensions) (pairs : List Pair) (pages : ℕ) (image : Image) : Type 0 where
  pub its : pairs ≡ pairs_where store
  pub sized : IfSome store (λ d. pages_of d ≡ pages)
  pub there : IfSome store (λ d. twins_in d.format ≡ true → dimensions_on pages image ≡ Some d)
  pub found : (d : Dimensions) → first_says pages (page (shown (store_version store) pairs image) 0) ≡ Some d → (store ≡ Some d) × (dimensions_on pages image ≡ Some d)
