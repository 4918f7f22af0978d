-- What identity a page says, as it is read.
use Rattle.std.proofs.Common.{◌≡◌, ◌≢◌, ℕ, List, None, Option, Result, Ok, Err, IfOk, option_map, sym, ◌∙◌, ap}
use Rattle.cs_disk.specs.declared.fault.DiskFault.{DiskFault}
use Rattle.cs_frame.specs.declared.faults.FormatFault.{FormatFault}
use Rattle.cs_frame.specs.declared.faults.FormatFault.TheVariants.{OutOfMemory}
use Rattle.cs_frame.specs.declared.formats.FormatNumber.{FormatNumber}
use Rattle.cs_frame.specs.declared.formats.FormatNumber.TheVariants as of_number
use Rattle.cs_frame.specs.declared.identities.StoreId.{StoreId}
use Rattle.cs_frame.specs.Faults.{HasFault}
use Rattle.cs_frame.specs.FormatNumbers.{number_in}
use Rattle.cs_frame.specs.Roots.{identity_in}
use Rattle.cs_frame.specs.Superblocks.{SpellsSuperblock, format_in, superblock_fault}
use Rattle.cs_frame.proofs.SuperblockLaws as superblocks
use Rattle.law_machine.specs.Format.{Format}
use Rattle.cs_mount.specs.Identities.{identity_by, identity_said}
use Rattle.cs_mount.proofs.Telling.{section_said}

pub said_read : (bytes : List ℕ) (f : Format) (version recorded extents pages sections section : ℕ) (written : List (ℕ × ℕ)) → number_in f ≡ of_number.Four → SpellsSuperblock bytes f version recorded extents pages sections section written → identity_in f ≡ identity_said bytes
said_read bytes f version recorded extents pages sections section written four spells =
    let whole : superblock_fault of_number.Four bytes ≡ None = ap (λ (n : FormatNumber). superblock_fault n bytes) (sym four) ∙ superblocks.spelled_has_none bytes f version recorded extents pages sections section written spells in
    let format : format_in of_number.Four bytes ≡ f = ap (λ (n : FormatNumber). format_in n bytes) (sym four) ∙ (superblocks.one_section bytes f version recorded extents pages sections section written spells).of_format in
    sym (section_said bytes f whole format)

pub said_faulty : {T : Type 0} (result : Result T FormatFault) (bytes : List ℕ) (fault : FormatFault) (it : Result (Option StoreId) DiskFault) → result ≡ Err fault → HasFault result (superblock_fault of_number.Four bytes)
    → IfOk it (λ found. (found ≡ None) × (fault ≢ OutOfMemory)) → IfOk it (λ found. option_map (λ (id : StoreId). id.0) found ≡ identity_said bytes)
said_faulty result bytes fault (Err refused) is has none = tt
said_faulty result bytes fault (Ok found) is has none =
    ap (λ (o : Option StoreId). option_map (λ (id : StoreId). id.0) o) none.0 ∙ sym (ap (λ (o : Option FormatFault). identity_by o bytes) ((has fault none.1).0 is))
