-- The page of a root, field by field, and the tests of its decoder in order.
use Rattle.std.specs.Prelude.{ℕ, ◌+◌, ◌*◌, ◌^◌, ◌<◌, ◌≤◌, ◌≡◌, ◌&&◌, List, [], ◌∷◌, ◌++◌, length, Option, Some, None, option_map, codes, nat_le, nat_lt, slice_index, ⊤}
use Rattle.std.specs.List.{AllByRecursion}
use Rattle.byteorder.specs.Endian.{big_bytes}
use Rattle.law_machine.specs.Format.{Format, Four, Two}
use Rattle.cs_frame.specs.declared.faults.FormatFault.{FormatFault}
use Rattle.cs_frame.specs.declared.faults.FormatFault.TheVariants.{BadLength, BadVersion}
use Rattle.cs_frame.specs.declared.formats.FormatNumber.{FormatNumber}
use Rattle.cs_frame.specs.declared.formats.FormatNumber.TheVariants as of_number
use Rattle.cs_frame.specs.declared.locators.Locator.{Locator}
use Rattle.cs_frame.specs.declared.roots.Root.{Root}
use Rattle.cs_frame.specs.Bytes.{field, number}
use Rattle.cs_frame.specs.Faults.{first_fault, unless}
use Rattle.cs_frame.specs.FormatNumbers.{greatest_runs, is_marked, page_digit}
use Rattle.cs_frame.specs.Geometries.{IsIdentity}
use Rattle.cs_frame.specs.Locators.{FitsLocator, KeepMarks, locator_size, locators_in, spelled_locators}
use Rattle.cs_frame.specs.Pages.{digest_test, digit_test, magic_test, padded, padding_test, sealed}

-- the identity of a store, which its root has in format 4
abbrev pub identity_in : Format → Option (List ℕ)
identity_in Two = None
identity_in (Four store device) = Some store

-- the identity that a root has, as bytes
abbrev pub identity_of : Root → Option (List ℕ)
identity_of root = option_map (λ id. id.0) root.store

-- the number of the format of a root, by whether it has an identity
abbrev pub root_number : (store : Option (List ℕ)) → FormatNumber
root_number None = of_number.Two
root_number (Some store) = of_number.Four

-- the identity fits its bytes
abbrev pub FitsIdentity : (store : Option (List ℕ)) → Type 0
FitsIdentity None = ⊤
FitsIdentity (Some store) = IsIdentity store

-- it is spelled as it is, if there is one
abbrev pub spelled_identity : (store : Option (List ℕ)) → List ℕ
spelled_identity None = []
spelled_identity (Some store) = store

-- |  0     | 3     | CSR                                                     |
-- |  3     | 1     | the digit 1 in format 2, and else 4                     |
-- |  4     | 8     | version                                                 |
-- | 12     | 8     | number of commands                                      |
-- | 20     | i     | the identity of the store: i is 16, and 0 in format 2   |
-- | 20 + i | 1     | k, the number of runs                                   |
-- | 21 + i | s * k | locators of the runs, oldest first, of s bytes          |
abbrev pub root_fields : (store : Option (List ℕ)) → (version commands : ℕ) → List Locator → List ℕ
root_fields store version commands runs =
    codes "CSR" ++ page_digit (root_number store) ∷ [] ++ big_bytes 8 version ++ big_bytes 8 commands ++ spelled_identity store
    ++ length runs ∷ [] ++ spelled_locators (is_marked (root_number store)) runs

-- | 21 + i + s * k | 32 | digest of all bytes before |
-- | 53 + i + s * k |    | zeros to the end           |
abbrev pub spelled_root : (store : Option (List ℕ)) → (version commands : ℕ) → List Locator → List ℕ
spelled_root store version commands runs = padded (sealed (root_fields store version commands runs))

-- what has a spelling
pub record FitsRoot (store : Option (List ℕ)) (version commands : ℕ) (runs : List Locator) : Type 0 where
  pub identity : FitsIdentity store
  pub first_version : 1 ≤ version
  pub last_version : version < 2 ^ 63
  pub last_command : commands < 2 ^ 63
  pub count : length runs ≤ greatest_runs (root_number store)
  pub each : AllByRecursion (FitsLocator (is_marked (root_number store))) runs

-- the bytes are the spelling of these
pub record SpellsRoot (bytes : List ℕ) (store : Option (List ℕ)) (version commands : ℕ) (runs : List Locator) : Type 0 where
  pub fits : FitsRoot store version commands runs
  pub spelled : bytes ≡ spelled_root store version commands runs

-- a root that can be spelled: what its type doesn't say of its numbers
pub record IsRoot (root : Root) : Type 0 where
  pub first_version : 1 ≤ root.version
  pub last_version : root.version < 2 ^ 63
  pub last_command : root.commands < 2 ^ 63
  pub count : length root.runs.items ≤ greatest_runs (root_number (identity_of root))
  pub marks : KeepMarks (is_marked (root_number (identity_of root))) root.runs.items

-- version and number of commands, as the bytes spell them
abbrev pub version_said : List ℕ → ℕ
version_said bytes = number 4 12 bytes

abbrev pub commands_said : List ℕ → ℕ
commands_said bytes = number 12 20 bytes

-- where the number of runs stands, after the identity
abbrev pub count_at : FormatNumber → ℕ
count_at of_number.Two = 20
count_at of_number.Four = 36

-- the identity that the bytes spell
abbrev pub root_identity : FormatNumber → List ℕ → Option (List ℕ)
root_identity of_number.Two bytes = None
root_identity of_number.Four bytes = Some (field 20 36 bytes)

-- how many runs there are, by what the bytes say
abbrev pub root_count : FormatNumber → List ℕ → ℕ
root_count number bytes = slice_index bytes (count_at number)

-- where the digest begins
abbrev pub root_end : FormatNumber → List ℕ → ℕ
root_end number bytes = 1 + count_at number + locator_size (is_marked number) * root_count number bytes

-- the locators that the bytes spell
abbrev pub runs_in : FormatNumber → List ℕ → List Locator
runs_in number bytes = locators_in (is_marked number) (field (1 + count_at number) (root_end number bytes) bytes)

-- not too many runs
abbrev pub root_length_test : FormatNumber → List ℕ → Option FormatFault
root_length_test number bytes = unless (nat_le (root_count number bytes) (greatest_runs number)) BadLength

-- version and number of commands are in range
abbrev pub root_range_test : List ℕ → Option FormatFault
root_range_test bytes =
    unless (nat_le 1 (number 4 12 bytes) && nat_lt (number 4 12 bytes) (2 ^ 63) && nat_lt (number 12 20 bytes) (2 ^ 63)) BadVersion

-- the tests of a root in order
abbrev pub root_tests : FormatNumber → List ℕ → List (Option FormatFault)
root_tests number bytes =
    magic_test (codes "CSR") bytes
    ∷ digit_test (page_digit number) bytes
    ∷ root_length_test number bytes
    ∷ digest_test (root_end number bytes) bytes
    ∷ root_range_test bytes
    ∷ padding_test (root_end number bytes + 32) bytes
    ∷ []

-- what is wrong with a page as the root of a store whose format has this number
abbrev pub root_fault : FormatNumber → List ℕ → Option FormatFault
root_fault number bytes = first_fault (root_tests number bytes)
