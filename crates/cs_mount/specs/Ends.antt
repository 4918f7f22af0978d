-- The ends of a device: its first and its last 256 pages.
use Rattle.std.specs.Prelude.{◌≡◌, ◌≢◌, ◌⊎◌, ◌<◌, ◌≤◌, ◌+◌, ℕ, Option, Some, None}
use Rattle.cs_disk.specs.Disk.{Image, page}
use Rattle.cs_mount.specs.Makings.{zero_page}

-- the page is one of these on a device of so many pages
abbrev pub IsAtEnd : (pages page : ℕ) → Type 0
IsAtEnd pages p = (p < pages) × ((p < 256) ⊎ (pages ≤ p + 256))

-- This is the first of them that doesn't hold zeros alone; or none is, and all of them are zeros.
abbrev pub IsFirstWritten : (pages : ℕ) → Image → Option ℕ → Type 0
IsFirstWritten pages image None = (p : ℕ) → IsAtEnd pages p → page image p ≡ zero_page
IsFirstWritten pages image (Some p) = IsAtEnd pages p × (page image p ≢ zero_page) × ((q : ℕ) → q < p → IsAtEnd pages q → page image q ≡ zero_page)
