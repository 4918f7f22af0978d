-- How many pages a device had when its store was made.
use Rattle.std.specs.Prelude.{◌≡◌, ◌==◌, ◌⊎◌, ℕ, List, Option, Some, None, if◌then◌else◌, slice_index}
use Rattle.cs_disk.specs.Disk.{Image, page}
use Rattle.cs_frame.specs.Bytes.{number}
use Rattle.cs_frame.specs.declared.faults.FormatFault.{FormatFault}
use Rattle.cs_frame.specs.declared.formats.FormatNumber.TheVariants as of_number
use Rattle.cs_frame.specs.Superblocks.{superblock_fault}
use Rattle.cs_store.specs.declared.errors.OpenError.{OpenError}
use Rattle.cs_store.specs.declared.errors.OpenError.TheVariants.{DeviceFault, NotAStore, OddLength, OutOfMemory}

-- what bytes say with this fault as a section of format 4: there is none, and they are section 0
abbrev pub said_without : Option FormatFault → List ℕ → Option ℕ
said_without None bytes = if slice_index bytes 17 == 0 then Some (number 18 26 bytes) else None
said_without (Some fault) bytes = None

-- how many pages the device had, as the bytes of page 0 say
abbrev pub device_said : List ℕ → Option ℕ
device_said bytes = said_without (superblock_fault of_number.Four bytes) bytes

-- as page 0 of an image says
abbrev pub device_on : Image → Option ℕ
device_on image = device_said (page image 0)

-- why a store's file isn't opened before anything of the store was read but its first and last pages
abbrev pub IsFileRefusal : OpenError → Type 0
IsFileRefusal error = (error ≡ DeviceFault) ⊎ (error ≡ OddLength) ⊎ (error ≡ OutOfMemory) ⊎ (error ≡ NotAStore)
