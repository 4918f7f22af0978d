-- A page without a fault as a root is spelled, and what is spelled has no fault and is read as it was.
use Rattle.std.proofs.Common.{◌≡◌, ℕ, ◌+◌, ◌-◌, ◌*◌, ◌≤◌, ◌<◌, ◌^◌, true, List, [], ◌∷◌, ◌++◌, length, take, drop, slice_index, codes, Option, None, Some, refl, sym, ap, subst, ◌∙◌, arith, append_assoc, append-nil, length-append, ◌&&◌, nat_le, nat_lt, ◌==◌, ◌≢◌, Bool, bytes_eq, ne_eqb}
use Rattle.std.proofs.lemmas.Bool.{and_parts, and_from, eqb-true, leb-true, ltb-true, eq-eqb, le-leb, lt-ltb}
use Rattle.std.proofs.lemmas.List.{take_at, take-take, get_or-take}
use Rattle.byteorder.specs.Endian.{big_bytes}
use Rattle.sha2.specs.Sha256.{sha256}
use Rattle.std.specs.List.{AllByRecursion}
use Rattle.cs_frame.specs.declared.faults.FormatFault.{FormatFault}
use Rattle.cs_frame.specs.declared.faults.FormatFault.TheVariants.{BadMagic, BadDigest, BadLength, BadPadding, BadVersion, OutOfMemory}
use Rattle.cs_frame.specs.declared.formats.FormatNumber.{FormatNumber}
use Rattle.cs_frame.specs.declared.formats.FormatNumber.TheVariants as of_number
use Rattle.cs_frame.specs.declared.locators.Locator.{Locator}
use Rattle.cs_frame.specs.declared.roots.Root.{Root}
use Rattle.law_machine.specs.Format.{Format, Four, Two}
use Rattle.law_machine.specs.Geometry.{marks_in, most_runs_in}
use Rattle.cs_frame.specs.Bytes.{IsPage, all_zero, field, number, zeros}
use Rattle.cs_frame.specs.FormatNumbers.{greatest_runs, is_marked, page_digit, number_in}
use Rattle.cs_frame.specs.Geometries.{FitsFormat}
use Rattle.cs_frame.specs.Locators.{FitsLocator, locator_size, locators_in, spelled_locators, KeepFormat, KeepMarks}
use Rattle.cs_frame.specs.Pages.{padded, sealed, digest_test, digit_test, padding_test}
use Rattle.cs_frame.specs.Roots.{FitsIdentity, FitsRoot, SpellsRoot, commands_said, count_at, root_count, root_end, root_fault, root_fields, root_identity, root_length_test, root_number, root_range_test, root_tests, runs_in, spelled_identity, spelled_root, version_said, IsRoot, identity_in, identity_of}
use Rattle.cs_frame.proofs.Fields.{after_field, byte_at_front, field_1, field_8, field_at, number_at, take_more, length-field, IsBytes-field}
use Rattle.cs_frame.proofs.TestLaws.{Passes, fails_second, no_memory, passed, and_passes, no_test, same_bytes, equal_bytes}
use Rattle.cs_frame.proofs.PageLaws.{four_bytes, page_is_padded, digest_of_padded, zeros_of_padded}
use Rattle.cs_frame.proofs.LocatorLaws.{fit-locators_in, length-locators_in, length-spelled_locators, spelled-locators_in, locators_in-spelled}

-- in any format there are few runs
pub most_runs : (n : FormatNumber) → greatest_runs n ≤ 24
most_runs of_number.Two = omega arith
most_runs of_number.Four = omega arith

-- and there is room for as many as are staged
pub fewest_runs : (n : FormatNumber) → 4 ≤ greatest_runs n
fewest_runs of_number.Two = omega arith
fewest_runs of_number.Four = omega arith

-- so many runs and the digest behind them are on the page
pub fits_page : (n : FormatNumber) (count : ℕ) → count ≤ greatest_runs n → 1 + count_at n + locator_size (is_marked n) * count + 32 ≤ 4096
fits_page of_number.Two count few = omega (arith, few)
fits_page of_number.Four count few = omega (arith, few)

behind : (start n : ℕ) → 1 + start + n - (1 + start) ≡ n
behind start n = omega arith

-- what the tests of a root say
pub record IsSoundRoot (n : FormatNumber) (page : List ℕ) : Type 0 where
  pub magic : take 4 page ≡ codes "CSR" ++ page_digit n ∷ []
  pub count : root_count n page ≤ greatest_runs n
  pub digest : field (root_end n page) (root_end n page + 32) page ≡ sha256 (take (root_end n page) page)
  pub first_version : 1 ≤ number 4 12 page
  pub last_version : number 4 12 page < 2 ^ 63
  pub last_command : number 12 20 page < 2 ^ 63
  pub padding : all_zero (drop (root_end n page + 32) page) ≡ true

-- all of them but the first two, in order
abbrev later_tests : FormatNumber → List ℕ → List (Option FormatFault)
later_tests n page = root_length_test n page ∷ digest_test (root_end n page) page ∷ root_range_test page ∷ padding_test (root_end n page + 32) page ∷ []

pub sound : (n : FormatNumber) (page : List ℕ) → length page ≡ 4096 → root_fault n page ≡ None → IsSoundRoot n page
sound n page size h =
    let p = passed (bytes_eq (field 0 3 page) (codes "CSR")) BadMagic (digit_test (page_digit n) page ∷ later_tests n page) h in
    let q = passed (slice_index page 3 == page_digit n) BadVersion _ p.1 in
    let r = passed (nat_le (root_count n page) (greatest_runs n)) BadLength _ q.1 in
    let s = passed (bytes_eq (field (root_end n page) (root_end n page + 32) page) (sha256 (take (root_end n page) page))) BadDigest _ r.1 in
    let t = passed (nat_le 1 (number 4 12 page) && nat_lt (number 4 12 page) (2 ^ 63) && nat_lt (number 12 20 page) (2 ^ 63)) BadVersion _ s.1 in
    let u = passed (all_zero (drop (root_end n page + 32) page)) BadPadding _ t.1 in
    let low = and_parts _ _ t.0 in
    let high = and_parts _ _ low.0 in
    record {
      magic = four_bytes page (codes "CSR") (page_digit n) (omega arith) (same_bytes _ _ p.0) (eqb-true _ _ q.0);
      count = leb-true _ _ r.0;
      digest = same_bytes _ _ s.0;
      first_version = leb-true _ _ high.0;
      last_version = ltb-true _ _ high.1;
      last_command = ltb-true _ _ low.1;
      padding = u.0;
    }

-- memory that ran out is none of their faults
pub root_never_memory : (n : FormatNumber) (page : List ℕ) → root_fault n page ≡ Some OutOfMemory → ⊥
root_never_memory n page h =
    let padding = no_memory (all_zero (drop (root_end n page + 32) page)) BadPadding [] (λ e. cc) (λ e. cc) in
    let range = no_memory (nat_le 1 (number 4 12 page) && nat_lt (number 4 12 page) (2 ^ 63) && nat_lt (number 12 20 page) (2 ^ 63)) BadVersion (padding_test (root_end n page + 32) page ∷ []) (λ e. cc) padding in
    let digest = no_memory (bytes_eq (field (root_end n page) (root_end n page + 32) page) (sha256 (take (root_end n page) page))) BadDigest (root_range_test page ∷ padding_test (root_end n page + 32) page ∷ []) (λ e. cc) range in
    let count = no_memory (nat_le (root_count n page) (greatest_runs n)) BadLength (digest_test (root_end n page) page ∷ root_range_test page ∷ padding_test (root_end n page + 32) page ∷ []) (λ e. cc) digest in
    let fourth = no_memory (slice_index page 3 == page_digit n) BadVersion (later_tests n page) (λ e. cc) count in
    no_memory (bytes_eq (field 0 3 page) (codes "CSR")) BadMagic (digit_test (page_digit n) page ∷ later_tests n page) (λ e. cc) fourth h

-- where they pass the first three bytes are a root's, and the fourth byte is the format's
pub root_magic : (n : FormatNumber) (page : List ℕ) → root_fault n page ≡ None → bytes_eq (field 0 3 page) (codes "CSR") ≡ true
root_magic n page h = (passed (bytes_eq (field 0 3 page) (codes "CSR")) BadMagic (digit_test (page_digit n) page ∷ later_tests n page) h).0

pub fourth_is : (n : FormatNumber) (page : List ℕ) → root_fault n page ≡ None → slice_index page 3 ≡ page_digit n
fourth_is n page h =
    let p = passed (bytes_eq (field 0 3 page) (codes "CSR")) BadMagic (digit_test (page_digit n) page ∷ later_tests n page) h in
    let q = passed (slice_index page 3 == page_digit n) BadVersion (later_tests n page) p.1 in
    eqb-true _ _ q.0

-- and with another digit a page is refused for that
pub refused_as : (n : FormatNumber) (page : List ℕ) → bytes_eq (field 0 3 page) (codes "CSR") ≡ true → slice_index page 3 ≢ page_digit n → root_fault n page ≡ Some BadVersion
refused_as n page magic other =
    fails_second (bytes_eq (field 0 3 page) (codes "CSR")) (slice_index page 3 == page_digit n) BadMagic BadVersion (later_tests n page) magic
    (ne_eqb (slice_index page 3) (page_digit n) other)

-- two formats have two digits
pub one_digit : (n m : FormatNumber) → page_digit n ≡ page_digit m → n ≡ m
one_digit of_number.Two of_number.Two is = refl
one_digit of_number.Two of_number.Four is = absurd (omega (arith, is))
one_digit of_number.Four of_number.Two is = absurd (omega (arith, is))
one_digit of_number.Four of_number.Four is = refl

-- so a root is refused as one of another format
pub other_format : (n m : FormatNumber) (page : List ℕ) → root_fault n page ≡ None → m ≢ n → root_fault m page ≡ Some BadVersion
other_format n m page h other = refused_as m page (root_magic n page h) (λ same. other (one_digit m n (sym same ∙ fourth_is n page h)))

-- ---- the identity

-- the number of runs stands behind it
pub length-identity : (store : Option (List ℕ)) → FitsIdentity store → 20 + length (spelled_identity store) ≡ count_at (root_number store)
length-identity None fits = refl
length-identity (Some store) fits = ap (λ (n : ℕ). 20 + n) fits.size

-- it is spelled by what is read of it
identity_is_spelled : (n : FormatNumber) (page before : List ℕ) → take 20 page ≡ before
    → take (count_at n) page ≡ before ++ spelled_identity (root_identity n page)
identity_is_spelled of_number.Two page before front = front ∙ sym (append-nil before)
identity_is_spelled of_number.Four page before front = take_more page _ _ 20 36 (omega arith) front refl

-- which fits
identity_fits : (n : FormatNumber) (page : List ℕ) → IsPage page → FitsIdentity (root_identity n page)
identity_fits of_number.Two page p = tt
identity_fits of_number.Four page p = record { size = length-field page 20 36 (omega arith) (omega (arith, p.size)); bytes = IsBytes-field page 20 36 p.bytes }

-- and says the format
pub number_read : (n : FormatNumber) (page : List ℕ) → root_number (root_identity n page) ≡ n
number_read of_number.Two page = refl
number_read of_number.Four page = refl

-- where it was written it is read again
identity_again : (store : Option (List ℕ)) (page rest : List ℕ) → FitsIdentity store → drop 20 page ≡ spelled_identity store ++ rest
    → root_identity (root_number store) page ≡ store
identity_again None page rest fits at = refl
identity_again (Some store) page rest fits at = ap (λ (s : List ℕ). Some s) (field_at page store rest 20 36 at (length-identity (Some store) fits))

-- ---- a page without a fault

-- it is spelled by what is read from it
pub root_is_spelled : (n : FormatNumber) (page : List ℕ) → IsPage page → root_fault n page ≡ None
    → page ≡ spelled_root (root_identity n page) (version_said page) (commands_said page) (runs_in n page)
root_is_spelled n page p h =
    let size = p.size in
    let bytes = p.bytes in
    let it = sound n page size h in
    let store : Option (List ℕ) = root_identity n page in
    let m : FormatNumber = root_number store in
    let same : m ≡ n = number_read n page in
    let magic : List ℕ = codes "CSR" ++ page_digit m ∷ [] in
    let four : take 4 page ≡ magic = it.magic ∙ ap (λ (k : FormatNumber). codes "CSR" ++ page_digit k ∷ []) (sym same) in
    let at : ℕ = count_at n in
    let count : ℕ = root_count n page in
    let bound : root_end n page + 32 ≤ 4096 = fits_page n (root_count n page) it.count in
    let front : 1 + at ≤ root_end n page = omega arith in
    let runs : List ℕ = field (1 + at) (root_end n page) page in
    let long : length runs ≡ locator_size (is_marked n) * count = length-field page (1 + at) (root_end n page) front (omega (arith, bound, size)) ∙ behind at (locator_size (is_marked n) * count) in
    let spelled : spelled_locators (is_marked m) (runs_in n page) ≡ runs = ap (λ (k : FormatNumber). spelled_locators (is_marked k) (runs_in n page)) same
    ∙ spelled-locators_in (is_marked n) count runs (IsBytes-field page (1 + at) (root_end n page) bytes) long in
    let k : root_count n page ≡ length (runs_in n page) = sym (length-locators_in (is_marked n) count runs long) in
    let version : take 12 page ≡ magic ++ big_bytes 8 (number 4 12 page) = take_more page _ _ 4 12 (omega arith) four (field_8 page 4 12 refl (omega arith) bytes) in
    let commands : take 20 page ≡ magic ++ big_bytes 8 (number 4 12 page) ++ big_bytes 8 (number 12 20 page) = take_more page _ _ 12 20 (omega arith) version (field_8 page 12 20 refl (omega arith) bytes) in
    let identity : take at page ≡ magic ++ big_bytes 8 (number 4 12 page) ++ big_bytes 8 (number 12 20 page) ++ spelled_identity store = identity_is_spelled n page _ commands in
    let one : at + 1 ≡ 1 + at = omega arith in
    let counted : take (1 + at) page ≡ magic ++ big_bytes 8 (number 4 12 page) ++ big_bytes 8 (number 12 20 page) ++ spelled_identity store ++ length (runs_in n page) ∷ [] =
    take_more page _ _ at (1 + at) (omega arith) identity (field_1 page at (1 + at) one (omega (arith, bound, size)) ∙ ap (λ (b : ℕ). b ∷ []) k) in
    let fields : take (root_end n page) page ≡ root_fields store (number 4 12 page) (number 12 20 page) (runs_in n page) = take_more page _ _ (1 + at) (root_end n page) front counted (sym spelled) in
    page_is_padded page (root_end n page) size bound it.digest it.padding ∙ ap (λ (xs : List ℕ). padded (sealed xs)) fields

-- a list of six parts, from the left
from_left : (m v c i k ls rest : List ℕ) → m ++ v ++ c ++ i ++ k ++ ls ++ rest ≡ m ++ (v ++ (c ++ (i ++ (k ++ (ls ++ rest)))))
from_left m v c i k ls rest = simp append_assoc

pub length-root_fields : (store : Option (List ℕ)) (version commands : ℕ) (runs : List Locator) → FitsIdentity store
    → length (root_fields store version commands runs) ≡ 1 + count_at (root_number store) + locator_size (is_marked (root_number store)) * length runs
length-root_fields store version commands runs fits =
    let before : List ℕ = codes "CSR" ++ page_digit (root_number store) ∷ [] ++ big_bytes 8 version ++ big_bytes 8 commands in
    let size : length before ≡ 20 = refl in
    omega (
      arith,
      size,
      length-append (before ++ spelled_identity store ++ length runs ∷ []) (spelled_locators (is_marked (root_number store)) runs),
      length-append (before ++ spelled_identity store) (length runs ∷ []),
      length-append before (spelled_identity store),
      length-identity store fits,
      length-spelled_locators (is_marked (root_number store)) runs,
    )

-- where the parts of a page stand
record HasParts (page m v c i ls rest : List ℕ) (at k : ℕ) : Type 0 where
  front : take 4 page ≡ m
  at_version : drop 4 page ≡ v ++ (c ++ (i ++ (k ∷ ls ++ rest)))
  at_commands : drop 12 page ≡ c ++ (i ++ (k ∷ ls ++ rest))
  at_identity : drop 20 page ≡ i ++ (k ∷ ls ++ rest)
  at_count : drop at page ≡ k ∷ ls ++ rest
  at_runs : drop (1 + at) page ≡ ls ++ rest

parts : (page m v c i ls rest : List ℕ) (at k : ℕ) → page ≡ m ++ v ++ c ++ i ++ k ∷ [] ++ ls ++ rest → length m ≡ 4 → length v ≡ 8 → length c ≡ 8 → 20 + length i ≡ at → HasParts page m v c i ls rest at k
parts page m v c i ls rest at k e four eight eight' identity =
    let all : drop 0 page ≡ m ++ (v ++ (c ++ (i ++ (k ∷ ls ++ rest)))) = e ∙ from_left m v c i (k ∷ []) ls rest in
    let version : drop 4 page ≡ v ++ (c ++ (i ++ (k ∷ ls ++ rest))) = after_field page m _ 0 4 all (omega arith) in
    let commands : drop 12 page ≡ c ++ (i ++ (k ∷ ls ++ rest)) = after_field page v _ 4 12 version (omega arith) in
    let store : drop 20 page ≡ i ++ (k ∷ ls ++ rest) = after_field page c _ 12 20 commands (omega arith) in
    let count : drop at page ≡ k ∷ ls ++ rest = after_field page i _ 20 at store identity in
    let one : at + 1 ≡ 1 + at = omega arith in
    record {
      front = ap (take 4) all ∙ take_at m _ 4 four;
      at_version = version;
      at_commands = commands;
      at_identity = store;
      at_count = count;
      at_runs = after_field page (k ∷ []) (ls ++ rest) at (1 + at) count one;
    }

-- numbers that their fields have room for, and runs that a root of this format has room for
pub record HasRoom (store : Option (List ℕ)) (version commands : ℕ) (runs : List Locator) : Type 0 where
  pub identity : FitsIdentity store
  pub first_version : 1 ≤ version
  pub last_version : version < 2 ^ 63
  pub last_command : commands < 2 ^ 63
  pub count : length runs ≤ greatest_runs (root_number store)
  pub each : AllByRecursion (FitsLocator (is_marked (root_number store))) runs

pub has_room : (store : Option (List ℕ)) (version commands : ℕ) (runs : List Locator) → FitsRoot store version commands runs → HasRoom store version commands runs
has_room store version commands runs fits = record {
  identity = fits.identity;
  first_version = fits.first_version;
  last_version = fits.last_version;
  last_command = fits.last_command;
  count = fits.count;
  each = fits.each;
}

module _ (store : Option (List ℕ)) (version commands : ℕ) (runs : List Locator) (fits : HasRoom store version commands runs) where
  abbrev n : FormatNumber
  n = root_number store

  abbrev marked : Bool
  marked = is_marked (root_number store)

  abbrev magic : List ℕ
  magic = codes "CSR" ++ page_digit (root_number store) ∷ []

  abbrev bytes : List ℕ
  bytes = spelled_root store version commands runs

  long : length (root_fields store version commands runs) ≡ 1 + count_at n + locator_size marked * length runs
  long = length-root_fields store version commands runs fits.identity

  short : length (root_fields store version commands runs) + 32 ≤ 4096
  short = omega (arith, long, fits_page n (length runs) fits.count)

  here : HasParts bytes magic (big_bytes 8 version) (big_bytes 8 commands) (spelled_identity store) (spelled_locators marked runs)
      (sha256 (root_fields store version commands runs) ++ zeros (4096 - length (sealed (root_fields store version commands runs)))) (count_at n) (length runs)
  here = parts bytes magic (big_bytes 8 version) (big_bytes 8 commands) (spelled_identity store) (spelled_locators marked runs) _ (count_at n) (length runs)
      (append_assoc (root_fields store version commands runs) (sha256 (root_fields store version commands runs)) (zeros (4096 - length (sealed (root_fields store version commands runs)))))
      refl refl refl (length-identity store fits.identity)

  -- what is spelled is read again
  pub version_is_read : number 4 12 bytes ≡ version
  version_is_read = number_at bytes _ 4 12 8 version here.at_version refl refl (omega (arith, fits.last_version))

  pub commands_are_read : number 12 20 bytes ≡ commands
  commands_are_read = number_at bytes _ 12 20 8 commands here.at_commands refl refl (omega (arith, fits.last_command))

  pub identity_is_read : root_identity n bytes ≡ store
  identity_is_read = identity_again store bytes _ fits.identity here.at_identity

  count_is_read : root_count n bytes ≡ length runs
  count_is_read = byte_at_front bytes _ (count_at n) (length runs) here.at_count

  end_is_read : length (root_fields store version commands runs) ≡ root_end n bytes
  end_is_read = long ∙ ap (λ (k : ℕ). 1 + count_at n + locator_size marked * k) (sym count_is_read)

  pub runs_are_read : runs_in n bytes ≡ runs
  runs_are_read =
      ap (locators_in marked) (field_at bytes (spelled_locators marked runs) _ (1 + count_at n) (root_end n bytes) here.at_runs
      (ap (λ (k : ℕ). 1 + count_at n + k) (length-spelled_locators marked runs) ∙ ap (λ (k : ℕ). 1 + count_at n + locator_size marked * k) (sym count_is_read)))
      ∙ locators_in-spelled marked runs fits.each

  -- and has no fault
  pub root_fault-spelled : root_fault n bytes ≡ None
  root_fault-spelled =
      let end = end_is_read in
      let text = root_fields store version commands runs in
      let low : nat_le 1 (number 4 12 bytes) ≡ true = le-leb _ _ (omega (arith, version_is_read, fits.first_version)) in
      let high : nat_lt (number 4 12 bytes) (2 ^ 63) ≡ true = lt-ltb _ _ (omega (arith, version_is_read, fits.last_version)) in
      let last : nat_lt (number 12 20 bytes) (2 ^ 63) ≡ true = lt-ltb _ _ (omega (arith, commands_are_read, fits.last_command)) in
      let all : Passes (root_tests n bytes) =
      and_passes _ BadMagic _ (equal_bytes (field 0 3 bytes) (codes "CSR") (sym (take-take 3 4 bytes (omega arith)) ∙ ap (take 3) here.front))
      (and_passes _ BadVersion _ (eq-eqb (slice_index bytes 3) (page_digit n) (sym (get_or-take 4 bytes 3 0 (omega arith)) ∙ ap (λ (xs : List ℕ). slice_index xs 3) here.front))
      (and_passes _ BadLength _ (le-leb (root_count n bytes) (greatest_runs n) (omega (arith, count_is_read, fits.count)))
      (and_passes _ BadDigest _ (equal_bytes _ _ (digest_of_padded text short (root_end n bytes) end))
      (and_passes _ BadVersion _ (and_from _ _ (and_from _ _ low high) last)
      (and_passes _ BadPadding _ (zeros_of_padded text short (root_end n bytes) end) no_test))))) in
      all.none

-- what spells a root has no fault
pub spelled_has_none : (page : List ℕ) (store : Option (List ℕ)) (version commands : ℕ) (runs : List Locator) → SpellsRoot page store version commands runs → root_fault (root_number store) page ≡ None
spelled_has_none page store version commands runs s = ap (root_fault (root_number store)) s.spelled ∙ root_fault-spelled store version commands runs (has_room store version commands runs s.fits)

-- a page without a fault spells what is read from it
spells_itself : (n : FormatNumber) (page : List ℕ) → IsPage page → root_fault n page ≡ None → SpellsRoot page (root_identity n page) (version_said page) (commands_said page) (runs_in n page)
spells_itself n page p h =
    let it = sound n page p.size h in
    let at : ℕ = count_at n in
    let bound : root_end n page + 32 ≤ 4096 = fits_page n (root_count n page) it.count in
    let front : 1 + at ≤ root_end n page = omega arith in
    let part : List ℕ = field (1 + at) (root_end n page) page in
    let long : length part ≡ locator_size (is_marked n) * root_count n page = length-field page (1 + at) (root_end n page) front (omega (arith, bound, p.size)) ∙ behind at (locator_size (is_marked n) * root_count n page) in
    let count : length (runs_in n page) ≤ greatest_runs n = omega (arith, length-locators_in (is_marked n) (root_count n page) part long, it.count) in
    let same : n ≡ root_number (root_identity n page) = sym (number_read n page) in
    record {
      fits = record {
        identity = identity_fits n page p;
        first_version = it.first_version;
        last_version = it.last_version;
        last_command = it.last_command;
        count = subst (λ (m : FormatNumber). length (runs_in n page) ≤ greatest_runs m) same count;
        each = subst (λ (m : FormatNumber). AllByRecursion (FitsLocator (is_marked m)) (runs_in n page)) same
            (fit-locators_in (is_marked n) (root_count n page) part (IsBytes-field page (1 + at) (root_end n page) p.bytes) long);
      };
      spelled = root_is_spelled n page p h;
    }

pub spells : (page : List ℕ) (n : FormatNumber) (store : Option (List ℕ)) (version commands : ℕ) (runs : List Locator) → IsPage page → root_fault n page ≡ None
    → store ≡ root_identity n page → version ≡ version_said page → commands ≡ commands_said page → runs ≡ runs_in n page → SpellsRoot page store version commands runs
spells page n store version commands runs p h f v c r =
    subst (λ (s : Option (List ℕ)). SpellsRoot page s version commands runs) (sym f)
    (subst (λ (k : ℕ). SpellsRoot page (root_identity n page) k commands runs) (sym v)
    (subst (λ (k : ℕ). SpellsRoot page (root_identity n page) (number 4 12 page) k runs) (sym c)
    (subst (λ (ls : List Locator). SpellsRoot page (root_identity n page) (number 4 12 page) (number 12 20 page) ls) (sym r) (spells_itself n page p h))))

-- what is read of a page
pub record IsRead (store : Option (List ℕ)) (page : List ℕ) (version commands : ℕ) (runs : List Locator) : Type 0 where
  pub of_store : root_identity (root_number store) page ≡ store
  pub of_version : number 4 12 page ≡ version
  pub of_commands : number 12 20 page ≡ commands
  pub of_runs : runs_in (root_number store) page ≡ runs

-- and nothing else is read
pub one_reading : (page : List ℕ) (store : Option (List ℕ)) (version commands : ℕ) (runs : List Locator) → HasRoom store version commands runs → page ≡ spelled_root store version commands runs → IsRead store page version commands runs
one_reading page store version commands runs fits is = record {
  of_store = ap (root_identity (root_number store)) is ∙ identity_is_read store version commands runs fits;
  of_version = ap (number 4 12) is ∙ version_is_read store version commands runs fits;
  of_commands = ap (number 12 20) is ∙ commands_are_read store version commands runs fits;
  of_runs = ap (runs_in (root_number store)) is ∙ runs_are_read store version commands runs fits;
}

pub one_root : (page : List ℕ) (store : Option (List ℕ)) (version commands : ℕ) (runs : List Locator) → SpellsRoot page store version commands runs → IsRead store page version commands runs
one_root page store version commands runs s = one_reading page store version commands runs (has_room store version commands runs s.fits) s.spelled

-- nor in another format
pub one_format : (page : List ℕ) (store s : Option (List ℕ)) (version w commands k : ℕ) (runs ls : List Locator) → SpellsRoot page store version commands runs → SpellsRoot page s w k ls → root_number store ≡ root_number s
one_format page store s version w commands k runs ls a b =
    one_digit (root_number store) (root_number s) (sym (fourth_is (root_number store) page (spelled_has_none page store version commands runs a)) ∙ fourth_is (root_number s) page (spelled_has_none page s w k ls b))

-- ---- the root of a store of a format

pub number_of_identity : (format : Format) → root_number (identity_in format) ≡ number_in format
number_of_identity Two = refl
number_of_identity (Four store device) = refl

pub marked_by_number : (format : Format) → is_marked (number_in format) ≡ marks_in format
marked_by_number Two = refl
marked_by_number (Four store device) = refl

pub most_by_number : (format : Format) → greatest_runs (number_in format) ≡ most_runs_in format
most_by_number Two = refl
most_by_number (Four store device) = refl

pub identity_of_format : (format : Format) → FitsFormat format → FitsIdentity (identity_in format)
identity_of_format Two fits = tt
identity_of_format (Four store device) fits = fits.0

-- it can be spelled
pub root_of_format : (format : Format) (root : Root) → identity_of root ≡ identity_in format → 1 ≤ root.version → root.version < 2 ^ 63 → root.commands < 2 ^ 63
    → length root.runs.items ≤ most_runs_in format → KeepFormat format root.runs.items → IsRoot root
root_of_format format root is some last commands few keep =
    let same : root_number (identity_of root) ≡ number_in format = ap root_number is ∙ number_of_identity format in
    record {
      first_version = some;
      last_version = last;
      last_command = commands;
      count = subst (λ (n : FormatNumber). length root.runs.items ≤ greatest_runs n) (sym same)
          (subst (λ (n : ℕ). length root.runs.items ≤ n) (sym (most_by_number format)) few);
      marks = subst (λ (n : FormatNumber). KeepMarks (is_marked n) root.runs.items) (sym same)
          (subst (λ (b : Bool). KeepMarks b root.runs.items) (sym (marked_by_number format)) keep);
    }

-- and what it spells fits the format
pub runs_of_format : (format : Format) (version commands : ℕ) (runs : List Locator) → FitsRoot (identity_in format) version commands runs
    → (length runs ≤ most_runs_in format) × AllByRecursion (FitsLocator (marks_in format)) runs
runs_of_format Two version commands runs fits = (fits.count, fits.each)
runs_of_format (Four store device) version commands runs fits = (fits.count, fits.each)
