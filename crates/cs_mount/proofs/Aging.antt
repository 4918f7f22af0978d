-- A page stays one as of an older root.
use Rattle.std.proofs.Common.{◌≡◌, if◌then◌else◌, ℕ, Bool, true, false, List, Option, Some, None, min, slice_index, refl, arith}
use Rattle.cs_frame.specs.Bytes.{IsPage, number as spelled_number}
use Rattle.cs_frame.specs.declared.faults.FormatFault.{FormatFault}
use Rattle.cs_frame.specs.Geometries.{Dimensions}
use Rattle.cs_frame.specs.declared.formats.FormatNumber.TheVariants as of_number
use Rattle.cs_frame.specs.Superblocks.{FitsSuperblock, format_in, superblock_extents, superblock_fault, superblock_record}
use Rattle.cs_frame.proofs.SuperblockLaws as superblocks
use Rattle.cs_mount.specs.Lowered.{is_of_section, lowered_at, lowered_by, lowered_page}
use Rattle.cs_mount.proofs.Sealing.{length-spelled, spelled_bytes}
use Rattle.std.proofs.Math.Nat.{min-le_left}

-- the section that such bytes spell, with a lower record
lower_fits : (root : ℕ) (bytes : List ℕ) → IsPage bytes → superblock_fault of_number.Four bytes ≡ None
    → FitsSuperblock (format_in of_number.Four bytes) (spelled_number 4 12 bytes) (min (superblock_record of_number.Four bytes) root) (spelled_number 12 14 bytes) (spelled_number 14 16 bytes) (slice_index bytes 16) (slice_index bytes 17) (superblock_extents of_number.Four bytes)
lower_fits root bytes is none =
    let fits = (superblocks.spells bytes of_number.Four (format_in of_number.Four bytes) _ _ _ _ _ _ _ is none refl refl refl refl refl refl refl refl).fits in
    record {
      first_version = fits.first_version;
      last_version = fits.last_version;
      recorded_fits = let less = min-le_left (superblock_record of_number.Four bytes) root in omega (arith, less, fits.recorded_fits);
      geometry = fits.geometry;
      one_of_them = fits.one_of_them;
      count = fits.count;
      each = fits.each;
    }

lowered_is_page : (root : ℕ) (bytes : List ℕ) → IsPage bytes → (o : Option FormatFault) → superblock_fault of_number.Four bytes ≡ o → IsPage (lowered_by o root bytes)
lowered_is_page root bytes is (Some fault) found = is
lowered_is_page root bytes is None found = let fits = lower_fits root bytes is found in record { size = length-spelled _ _ _ _ _ _ _ _ fits; bytes = spelled_bytes _ _ _ _ _ _ _ _ fits }

pub lowered_stays : (d : Dimensions) (root p : ℕ) (bytes : List ℕ) → IsPage bytes → IsPage (lowered_at d root p bytes)
lowered_stays d root p bytes is = both (is_of_section d p)
  where
    both : (b : Bool) → IsPage (if b then lowered_page root bytes else bytes)
    both true = lowered_is_page root bytes is (superblock_fault of_number.Four bytes) refl
    both false = is
