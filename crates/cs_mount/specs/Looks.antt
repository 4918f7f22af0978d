-- What stands against making a store on a device.
use Rattle.std.specs.Prelude.{◌≡◌, ◌≢◌, ◌⊎◌, ◌-◌, ◌<◌, ℕ, Bool, List, Contains, None, nat_lt}
use Rattle.cs_disk.specs.Disk.{Image, page}
use Rattle.cs_frame.specs.FirstFormat.{page_zero_fault}
use Rattle.cs_twin.specs.declared.findings.Finding.{Finding}
use Rattle.cs_twin.specs.declared.pairs.Pair.{Pair}
use Rattle.cs_twin.specs.Findings.{held_of}
use Rattle.cs_twin.specs.Pairs.{Versions, held_in}
use Rattle.cs_mount.specs.StorePairs.{first_says}

-- one of the halves that were found is whole
abbrev pub is_whole : Finding → Bool
is_whole it = nat_lt 0 (held_of it).version

-- Something is left of a store: the last page of a device of so many pages holds the first section of one with as
-- many, or a half of one of these pairs is whole.
abbrev pub IsLeftOver : (pages : ℕ) → Image → Versions → List Pair → Type 0
IsLeftOver pages image V pairs = (first_says pages (page image (pages - 1)) ≢ None) ⊎ ((x : Pair) × Contains pairs x × (0 < (held_in V image x).version))

-- A device of so many pages holds a store, or what is left of one: page 0 is the first section of a store, of
-- whatever format, or something is left of one of format 4.
abbrev pub IsTaken : (pages : ℕ) → Image → Versions → List Pair → Type 0
IsTaken pages image V pairs = (page_zero_fault (page image 0) ≡ None) ⊎ IsLeftOver pages image V pairs
