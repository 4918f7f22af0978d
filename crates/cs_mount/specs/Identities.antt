-- Which stores the two ends of a device are of.
use Rattle.std.specs.Prelude.{◌≡◌, ◌≢◌, ◌-◌, ℕ, List, Option, Some, None, bytes_eq, if◌then◌else◌}
use Rattle.cs_disk.specs.Disk.{Image, page}
use Rattle.cs_frame.specs.Bytes.{field}
use Rattle.cs_frame.specs.declared.faults.FormatFault.{FormatFault}
use Rattle.cs_frame.specs.declared.formats.FormatNumber.TheVariants as of_number
use Rattle.cs_frame.specs.Superblocks.{superblock_fault}

-- the identity in a section's page, where it has no fault
abbrev pub identity_by : Option FormatFault → List ℕ → Option (List ℕ)
identity_by None bytes = Some (field 26 42 bytes)
identity_by (Some fault) bytes = None

-- the identity of the store of which these bytes are a section, where they are whole in format 4
abbrev pub identity_said : List ℕ → Option (List ℕ)
identity_said bytes = identity_by (superblock_fault of_number.Four bytes) bytes

-- two identities, where both are there and they differ
abbrev pub both_said : (first last : Option (List ℕ)) → Option (List ℕ × List ℕ)
both_said None last = None
both_said (Some a) None = None
both_said (Some a) (Some b) = if bytes_eq a b then None else Some (a, b)

-- the identities that page 0 and the last page say, where they differ
abbrev pub stores_on : (pages : ℕ) → Image → Option (List ℕ × List ℕ)
stores_on pages image = both_said (identity_said (page image 0)) (identity_said (page image (pages - 1)))

-- Page 0 and the last page are whole in format 4, and of different stores.
abbrev pub AreOfTwo : (pages : ℕ) → Image → Type 0
AreOfTwo pages image = stores_on pages image ≢ None

-- They aren't.
abbrev pub IsOfOne : (pages : ℕ) → Image → Type 0
IsOfOne pages image = stores_on pages image ≡ None
