-- A fence is whole as no page of a store.
use Rattle.std.specs.Prelude.{◌≡◌, ◌==◌, ℕ, Bool, true, false, List, ◌∷◌, Option, Some, None, codes, bytes_eq, if◌then◌else◌}
use Rattle.std.proofs.Common.{refl, subst, sym}
use Rattle.cs_frame.specs.Bytes.{field, number}
use Rattle.cs_frame.specs.declared.faults.FormatFault.{FormatFault}
use Rattle.cs_frame.specs.declared.faults.FormatFault.TheVariants.{BadMagic}
use Rattle.cs_frame.specs.Faults.{first_fault, unless}
use Rattle.cs_frame.specs.FormatNumbers.{number_in}
use Rattle.cs_frame.specs.Geometries.{Dimensions}
use Rattle.cs_frame.specs.Roots.{root_fault}
use Rattle.cs_frame.specs.Superblocks.{superblock_fault}
use Rattle.law_machine.specs.Format.{Format}
use Rattle.cs_twin.specs.Pairs.{fence}
use Rattle.cs_mount.specs.StorePairs.{is_root, is_section, root_version, section_at, section_version, store_version, without_fault}

-- where the first test fails nothing is spelled
hollow : (b : Bool) (fault : FormatFault) (rest : List (Option FormatFault)) (n : ℕ) → b ≡ false → without_fault (first_fault (unless b fault ∷ rest)) n ≡ 0
hollow b fault rest n fails = subst (λ (t : Bool). without_fault (first_fault (unless t fault ∷ rest)) n ≡ 0) (sym fails) refl

-- a number that is 0, and one that is 0
either_zero : (b : Bool) (m n : ℕ) → m ≡ 0 → n ≡ 0 → (if b then m else n) ≡ 0
either_zero true m n first second = first
either_zero false m n first second = second

no_magic : bytes_eq (field 0 3 fence) (codes "CSS") ≡ false
unfolding fence
no_magic = refl

no_root_magic : bytes_eq (field 0 3 fence) (codes "CSR") ≡ false
unfolding fence
no_root_magic = refl

no_root : (format : Format) → root_version format fence ≡ 0
no_root format = either_zero (is_root format fence) (without_fault (root_fault (number_in format) fence) (number 4 12 fence)) 0 (hollow (bytes_eq (field 0 3 fence) (codes "CSR")) BadMagic _ (number 4 12 fence) no_root_magic) refl

no_section : (d : Dimensions) (j : ℕ) → section_version d j fence ≡ 0
no_section d j = either_zero (is_section d j fence) (without_fault (superblock_fault (number_in d.format) fence) (number 4 12 fence)) 0 (hollow (bytes_eq (field 0 3 fence) (codes "CSS")) BadMagic _ (number 4 12 fence) no_magic) refl

-- Whatever the store, and whatever the page.
pub no_fence : (store : Option Dimensions) (p : ℕ) → store_version store p fence ≡ 0
no_fence None p = refl
no_fence (Some d) p = either_zero (p == 1) (root_version d.format fence) (section_version d (section_at d p) fence) (no_root d.format) (no_section d (section_at d p))
