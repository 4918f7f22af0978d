-- What the device of a store shows, and what is found of it, by the pairs of the store that is on it.
use Rattle.std.specs.Prelude.{ℕ, List, Some, map}
use Rattle.cs_disk.specs.Disk.{Image}
use Rattle.cs_frame.specs.Geometries.{Dimensions}
use Rattle.cs_twin.specs.declared.findings.Finding.{Finding}
use Rattle.cs_twin.specs.Findings.{finding_in}
use Rattle.cs_twin.specs.Pairs.{Shows, shown}
use Rattle.cs_mount.specs.StorePairs.{dimensions_on, pairs_where, store_pairs, store_version}

-- an image as it shows: itself where no store of format 4 is on it
abbrev pub shown_on : (pages : ℕ) → Image → Image
shown_on pages image = shown (store_version (dimensions_on pages image)) (pairs_where (dimensions_on pages image)) image

-- an image as it shows by the pairs of the store that another image holds
abbrev pub shown_by : (pages : ℕ) → (of image : Image) → Image
shown_by pages of image = shown (store_version (dimensions_on pages of)) (pairs_where (dimensions_on pages of)) image

-- an image as a store of these dimensions shows
abbrev pub shown_of : Dimensions → Image → Image
shown_of d image = shown (store_version (Some d)) (store_pairs d) image

-- what its pairs hold
abbrev pub findings_on : (pages : ℕ) → Image → List Finding
findings_on pages image = map (finding_in (store_version (dimensions_on pages image)) image) (pairs_where (dimensions_on pages image))

-- what images that have P show as, by the pairs of this one
abbrev pub ShowsOn : (pages : ℕ) → Image → (Image → Type 0) → Image → Type 0
ShowsOn pages image P c = Shows (store_version (dimensions_on pages image)) (pairs_where (dimensions_on pages image)) P c
