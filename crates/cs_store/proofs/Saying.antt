-- How many pages a device had when its store was made, as its section 0 is read.
use Rattle.std.proofs.Common.{◌≡◌, ◌≢◌, ◌==◌, ℕ, List, [], ◌∷◌, Option, Some, None, Result, Ok, Err, IfOk, if◌then◌else◌, length, refl, sym, ◌∙◌, ap, arith}
use Rattle.cs_disk.proofs.Images.{length-applied}
use Rattle.cs_disk.specs.declared.fault.DiskFault.{DiskFault}
use Rattle.cs_disk.specs.Disk.{Image, State, seen}
use Rattle.cs_frame.specs.Bytes.{number}
use Rattle.cs_frame.specs.declared.faults.FormatFault.{FormatFault}
use Rattle.cs_frame.specs.declared.faults.FormatFault.TheVariants.{OutOfMemory}
use Rattle.cs_frame.specs.declared.formats.FormatNumber.{FormatNumber}
use Rattle.cs_frame.specs.declared.formats.FormatNumber.TheVariants as of_number
use Rattle.cs_frame.specs.Faults.{HasFault}
use Rattle.cs_frame.specs.FormatNumbers.{number_in}
use Rattle.cs_frame.specs.Geometries.{device_pages}
use Rattle.cs_frame.specs.Superblocks.{SpellsSuperblock, format_in, superblock_fault}
use Rattle.cs_frame.proofs.SuperblockLaws.{one_section, spelled_has_none}
use Rattle.law_machine.specs.Format.{Format}
use Rattle.cs_store.specs.Devices.{device_on, device_said, said_without}

-- what a section that was read says
pub said_of : (page : List ℕ) (format : Format) (version recorded extents pages sections section : ℕ) (written : List (ℕ × ℕ)) → number_in format ≡ of_number.Four
    → SpellsSuperblock page format version recorded extents pages sections section written → (if section == 0 then Some (device_pages format extents pages sections) else None) ≡ device_said page
said_of page format version recorded extents pages sections section written four spells =
    let none : superblock_fault of_number.Four page ≡ None = ap (λ (n : FormatNumber). superblock_fault n page) (sym four) ∙ spelled_has_none page format version recorded extents pages sections section written spells in
    let read = one_section page format version recorded extents pages sections section written spells in
    let is : format_in of_number.Four page ≡ format = ap (λ (n : FormatNumber). format_in n page) (sym four) ∙ read.of_format in
    ap (λ (f : Format). if section == 0 then Some (device_pages f extents pages sections) else None) (sym is)
    ∙ ap (λ k. if k == 0 then Some (number 18 26 page) else None) (sym read.of_section)
    ∙ sym (ap (λ (o : Option FormatFault). said_without o page) none)

-- and a page with a fault
pub said_not : {T : Type 0} (result : Result T FormatFault) (page : List ℕ) (fault : FormatFault) (said : Result (Option ℕ) DiskFault) → HasFault result (superblock_fault of_number.Four page) → result ≡ Err fault
    → IfOk said (λ it. (it ≡ None) × (fault ≢ OutOfMemory)) → IfOk said (λ it. it ≡ device_said page)
said_not result page fault (Ok it) has is none = none.0 ∙ sym (ap (λ (o : Option FormatFault). said_without o page) ((has fault none.1).0 is))
said_not result page fault (Err refused) has is none = tt

-- and a device without pages
pub none_on : (s : State) (n : ℕ) → length s.durable ≡ n → n ≡ 0 → None ≡ device_on (seen s)
none_on s n long none = by (seen s) (length-applied s.durable s.volatile ∙ long ∙ none)
  where
    by : (image : Image) → length image ≡ 0 → None ≡ device_on image
    by [] is = refl
    by (bytes ∷ image) is = absurd (omega (arith, is))
