-- What a disk shows as of the newest root that is whole.
use Rattle.std.specs.Prelude.{◌≡◌, ℕ, List, Option, Some, None, slice_get}
use Rattle.cs_disk.specs.Disk.{Image, page}
use Rattle.cs_frame.specs.Geometries.{Dimensions}
use Rattle.cs_twin.specs.declared.findings.Finding.{Finding}
use Rattle.cs_twin.specs.Findings.{held_of}
use Rattle.cs_mount.specs.Lowered.{lowered}
use Rattle.cs_mount.specs.Showing.{shown_by, shown_on}
use Rattle.cs_mount.specs.StorePairs.{dimensions_on, root_version}

-- an image as of a root, where it has a store of these dimensions
abbrev pub as_of : Option Dimensions → (root : ℕ) → Image → Image
as_of None root image = image
as_of (Some d) root image = lowered d root image

-- the version of the root of these dimensions that is on page 1 as the image shows
abbrev pub root_shown : Option Dimensions → Image → ℕ
root_shown None shows = 0
root_shown (Some d) shows = root_version d.format (page shows 1)

-- the version of the newest root of the store that is whole: 0 where none is
abbrev pub newest_root : (pages : ℕ) → Image → ℕ
newest_root pages image = root_shown (dimensions_on pages image) (shown_on pages image)

-- an image as it shows, as of that root
abbrev pub older_on : (pages : ℕ) → Image → Image
older_on pages image = as_of (dimensions_on pages image) (newest_root pages image) (shown_on pages image)

-- an image as it shows by the pairs of the store that another image holds, as of the newest root there
abbrev pub older_by : (pages : ℕ) → (of image : Image) → Image
older_by pages of image = as_of (dimensions_on pages of) (newest_root pages of) (shown_by pages of image)

-- what images that have P show as, by the pairs and the newest root of this one
abbrev pub ShowsOlderOn : (pages : ℕ) → Image → (Image → Type 0) → Image → Type 0
ShowsOlderOn pages image P c = (below : Image) × P below × (c ≡ older_by pages image below)

-- the version that was found of a pair, 0 where there is none
abbrev pub version_found : Option Finding → ℕ
version_found None = 0
version_found (Some it) = (held_of it).version

-- the version of the newest root that is whole, 0 where none is: that of the second pair
abbrev pub root_found : List Finding → ℕ
root_found found = version_found (slice_get found 1)
