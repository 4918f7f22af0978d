-- What a disk shows through which a store is read as of an older root.
use Rattle.std.specs.Prelude.{◌==◌, ◌||◌, ◌+◌, ◌*◌, ℕ, Bool, List, Option, Some, None, if◌then◌else◌, min, nat_lt, slice_index}
use Rattle.cs_disk.specs.Disk.{Image, State}
use Rattle.cs_frame.specs.Bytes.{number}
use Rattle.cs_frame.specs.declared.faults.FormatFault.{FormatFault}
use Rattle.cs_frame.specs.declared.formats.FormatNumber.TheVariants as of_number
use Rattle.cs_frame.specs.Geometries.{Dimensions}
use Rattle.cs_frame.specs.Superblocks.{format_in, spelled_superblock, superblock_extents, superblock_fault, superblock_record}
use Rattle.cs_mount.specs.Repaged.{repaged, repaged_state}

-- bytes as of a root, by what is wrong with them as a section of format 4: where nothing is, they are those of the
-- same section with no later root on record than this one; others stay
abbrev pub lowered_by : Option FormatFault → (root : ℕ) → List ℕ → List ℕ
lowered_by None root bytes =
    spelled_superblock (format_in of_number.Four bytes) (number 4 12 bytes) (min (superblock_record of_number.Four bytes) root) (number 12 14 bytes) (number 14 16 bytes) (slice_index bytes 16) (slice_index bytes 17)
    (superblock_extents of_number.Four bytes)
lowered_by (Some fault) root bytes = bytes

-- a section's page as of a root
abbrev pub lowered_page : (root : ℕ) → List ℕ → List ℕ
lowered_page root bytes = lowered_by (superblock_fault of_number.Four bytes) root bytes

-- The sections of a store have page 0 and pages behind the frames and the root. Their twins are behind these too, but
-- show as zeros, which spell no section.
abbrev pub is_of_section : Dimensions → (page : ℕ) → Bool
is_of_section d p = p == 0 || nat_lt (1 + d.extents * d.pages) p

-- the bytes of any page of such a store as of a root: those of other pages stay
abbrev pub lowered_at : Dimensions → (root page : ℕ) → List ℕ → List ℕ
lowered_at d root p bytes = if is_of_section d p then lowered_page root bytes else bytes

-- an image as of a root: each of its pages so
abbrev pub lowered : Dimensions → (root : ℕ) → Image → Image
lowered d root image = repaged (lowered_at d root) image

-- a disk as of a root: its durable image, and each volatile write
abbrev pub lowered_state : Dimensions → (root : ℕ) → State → State
lowered_state d root s = repaged_state (lowered_at d root) s
