-- A page without a fault as a section of a superblock is spelled, and what is spelled has no fault and is read as it
-- was.
use Rattle.std.proofs.Common.{◌≡◌, ℕ, ◌+◌, ◌-◌, ◌*◌, ◌≤◌, ◌<◌, ◌^◌, true, Bool, List, [], ◌∷◌, ◌++◌, length, take, drop, slice_index, codes, None, Some, refl, sym, ap, ap₂, subst, ◌∙◌, arith, append_assoc, append-nil, length-append, ◌&&◌, nat_lt, ◌≢◌, bytes_eq, le_refl}
use Rattle.std.proofs.lemmas.Bool.{and_parts, and_from, ltb-true, lt-ltb}
use Rattle.byteorder.specs.Endian.{big_bytes}
use Rattle.law_machine.specs.Format.{Format, Four, Two}
use Rattle.sha2.specs.Sha256.{sha256}
use Rattle.cs_frame.specs.declared.faults.FormatFault.TheVariants.{BadVersion, OutOfMemory}
use Rattle.cs_frame.specs.declared.formats.FormatNumber.{FormatNumber}
use Rattle.cs_frame.specs.declared.formats.FormatNumber.TheVariants as of_number
use Rattle.cs_frame.specs.Bytes.{IsPage, field, number, zeros}
use Rattle.cs_frame.specs.FormatNumbers.{number_in, section_digit}
use Rattle.cs_frame.specs.Geometries.{FitsFormat, IsGeometry, greatest_extents, has_device, in_bounds, is_divided, section_length}
use Rattle.cs_frame.specs.Pages.{padded, sealed}
use Rattle.cs_frame.specs.Superblocks.{FitsRecord, FitsSuperblock, IsSection, SpellsSuperblock, extents_said, format_in, pages_said, record_in, section_count, section_passes, spelled_store, spelled_superblock, superblock_end, superblock_extents, superblock_fault, superblock_fields, superblock_record, superblock_start, superblock_version}
use Rattle.cs_frame.specs.Pointers.{extents_from, spelled_extents}
use Rattle.cs_frame.proofs.ExtentPageLaws.{are_read, count_again, extents_from-spelled, first_bytes, fourth_byte, head_is_spelled, length-spelled_extents, never_memory, other_digit, pages_again, sound, sound_passes, spelled_is_sound, tail_again, version_again}
use Rattle.cs_frame.proofs.Fields.{IsBytes-field, after_field, byte_at_front, field_1, field_8, field_at, length-field, number_at, number_below, take_more}
use Rattle.cs_frame.proofs.GeometryLaws.{Bounds, bounds, geometry_tested, has_device-fits, in_bounds-geometry, is_divided-geometry, section_length-le}
use Rattle.cs_frame.proofs.PageLaws.{page_is_padded}

-- ---- the store and the record

-- where the extents begin the page has room for them
pub low_start : (n : FormatNumber) → superblock_start n ≤ 50
low_start of_number.Two = omega arith
low_start of_number.Four = le_refl 50

pub length-spelled_store : (format : Format) (recorded : ℕ) → FitsFormat format
    → 18 + length (spelled_store format recorded) ≡ superblock_start (number_in format)
length-spelled_store Two recorded fits = refl
length-spelled_store (Four store device) recorded fits = omega (
  arith,
  length-append (big_bytes 8 device ++ store) (big_bytes 8 recorded),
  length-append (big_bytes 8 device) store,
  fits.0.size,
)

grouped : (a b c d : List ℕ) → a ++ b ++ c ++ d ≡ a ++ (b ++ c ++ d)
grouped a b c d = simp append_assoc

-- the bytes before the extents are spelled by what is read of them
store_is_spelled : (n : FormatNumber) (page before : List ℕ) → IsPage page → take 18 page ≡ before
    → take (superblock_start n) page ≡ before ++ spelled_store (format_in n page) (superblock_record n page)
store_is_spelled of_number.Two page before p front = front ∙ sym (append-nil before)
store_is_spelled of_number.Four page before p front =
    let size = p.size in
    let device : take 26 page ≡ before ++ big_bytes 8 (number 18 26 page) = take_more page _ _ 18 26 (omega arith) front (field_8 page 18 26 refl (omega arith) p.bytes) in
    let store : take 42 page ≡ before ++ big_bytes 8 (number 18 26 page) ++ field 26 42 page = take_more page _ _ 26 42 (omega arith) device refl in
    take_more page _ _ 42 50 (omega arith) store (field_8 page 42 50 refl (omega arith) p.bytes)
    ∙ grouped before (big_bytes 8 (number 18 26 page)) (field 26 42 page) (big_bytes 8 (number 42 50 page))

-- what is read fits
pub format_read_fits : (n : FormatNumber) (page : List ℕ) → IsPage page → FitsFormat (format_in n page)
format_read_fits of_number.Two page p = tt
format_read_fits of_number.Four page p = (
  record { size = length-field page 26 42 (omega arith) (omega (arith, p.size)); bytes = IsBytes-field page 26 42 p.bytes },
  number_below page 18 26 p.bytes,
)

record_read_fits : (n : FormatNumber) (page : List ℕ) → IsPage page → FitsRecord (format_in n page) (superblock_record n page)
record_read_fits of_number.Two page p = omega arith
record_read_fits of_number.Four page p = number_below page 42 50 p.bytes

-- it has the number that was asked for
pub number_read : (n : FormatNumber) (page : List ℕ) → number_in (format_in n page) ≡ n
number_read of_number.Two page = refl
number_read of_number.Four page = refl

from_front : (b c d rest : List ℕ) → (b ++ c ++ d) ++ rest ≡ b ++ (c ++ (d ++ rest))
from_front b c d rest = simp append_assoc

-- and where they were written, format and record are read again
store_is_read : (format : Format) (recorded : ℕ) (bytes rest : List ℕ) → FitsFormat format → FitsRecord format recorded
    → drop 18 bytes ≡ spelled_store format recorded ++ rest
    → (format_in (number_in format) bytes ≡ format) × (superblock_record (number_in format) bytes ≡ recorded)
store_is_read Two recorded bytes rest fits record_fits at = (refl, omega (arith, record_fits))
store_is_read (Four store device) recorded bytes rest fits record_fits at =
    let at_device : drop 18 bytes ≡ big_bytes 8 device ++ (store ++ (big_bytes 8 recorded ++ rest)) =
    at ∙ from_front (big_bytes 8 device) store (big_bytes 8 recorded) rest in
    let at_store : drop 26 bytes ≡ store ++ (big_bytes 8 recorded ++ rest) = after_field bytes (big_bytes 8 device) _ 18 26 at_device refl in
    let end : 26 + length store ≡ 42 = omega (arith, fits.0.size) in
    let at_record : drop 42 bytes ≡ big_bytes 8 recorded ++ rest = after_field bytes store _ 26 42 at_store end in (
      ap₂ (λ (s : List ℕ) (d : ℕ). Four s d) (field_at bytes store _ 26 42 at_store end)
          (number_at bytes _ 18 26 8 device at_device refl refl (omega (arith, fits.1))),
      number_at bytes _ 42 50 8 recorded at_record refl refl (omega (arith, record_fits)),
    )

-- what is recorded of a root fits, and where it has no bytes they are the same whatever the root
pub recorded_fits_in : (format : Format) (root : ℕ) → root < 2 ^ 64 → FitsRecord format (record_in format root)
recorded_fits_in Two root small = omega arith
recorded_fits_in (Four store device) root small = small

spelled_whatever_root : (format : Format) (root : ℕ) → spelled_store format (record_in format root) ≡ spelled_store format root
spelled_whatever_root Two root = refl
spelled_whatever_root (Four store device) root = refl

-- so is the page
pub page_whatever_root : (format : Format) (version root extents pages sections section : ℕ) (written : List (ℕ × ℕ))
    → spelled_superblock format version (record_in format root) extents pages sections section written ≡ spelled_superblock format version root extents pages sections section written
page_whatever_root format version root extents pages sections section written =
    let before : List ℕ = codes "CSS" ++ section_digit (number_in format) ∷ [] ++ big_bytes 8 version ++ big_bytes 2 extents ++ big_bytes 2 pages ++ sections ∷ [] ++ section ∷ [] in
    ap (λ (bytes : List ℕ). padded (sealed (before ++ bytes ++ spelled_extents written))) (spelled_whatever_root format root)

pub recorded_is : (format : Format) (recorded : ℕ) → FitsRecord format recorded → record_in format recorded ≡ recorded
recorded_is Two recorded fits = omega (arith, fits)
recorded_is (Four store device) recorded fits = refl

pub recorded_below_root : (format : Format) (root : ℕ) → record_in format root ≤ root
recorded_below_root Two root = omega arith
recorded_below_root (Four store device) root = le_refl root

-- ---- a page without a fault

-- the numbers of extents, pages and sections pass
abbrev pub counts : FormatNumber → List ℕ → Bool
counts n page = section_passes (format_in n page) (extents_said page) (pages_said page) (slice_index page 16) (slice_index page 17)

-- what they say
pub record IsCounted (format : Format) (extents pages sections section : ℕ) : Type 0 where
  pub geometry : IsGeometry format extents pages sections
  pub one_of_them : section < sections

pub counted : (format : Format) (extents pages sections section : ℕ) → FitsFormat format → section_passes format extents pages sections section ≡ true → IsCounted format extents pages sections section
counted format extents pages sections section fits h =
    let three = and_parts (in_bounds format (greatest_extents format) extents pages && is_divided format extents sections && nat_lt section sections) (has_device format extents pages sections) h in
    let two = and_parts (in_bounds format (greatest_extents format) extents pages && is_divided format extents sections) (nat_lt section sections) three.0 in
    let one = and_parts (in_bounds format (greatest_extents format) extents pages) (is_divided format extents sections) two.0 in
    record { geometry = geometry_tested format extents pages sections fits one.0 one.1 three.1; one_of_them = ltb-true section sections two.1 }

pub counted_passes : (format : Format) (extents pages sections section : ℕ) → IsGeometry format extents pages sections → section < sections → section_passes format extents pages sections section ≡ true
counted_passes format extents pages sections section s inside =
    and_from _ _ (and_from _ _ (and_from _ _ (in_bounds-geometry format extents pages sections s) (is_divided-geometry format extents pages sections s)) (lt-ltb section sections inside))
    (has_device-fits format extents pages sections s.fits_device)

-- the digest lies in the page
pub end_in_page : (n : FormatNumber) (format : Format) (extents pages sections section : ℕ) → IsGeometry format extents pages sections → superblock_start n + 6 * section_length extents sections section + 32 ≤ 4096
end_in_page n format extents pages sections section s = omega (arith, section_length-le extents sections section, s.section_fits, low_start n)

-- so do the extents, wherever they begin
pub extents_in_page : (format : Format) (extents pages sections section : ℕ) → IsGeometry format extents pages sections → 6 * section_length extents sections section ≤ 3072
extents_in_page format extents pages sections section s = omega (arith, section_length-le extents sections section, s.section_fits)

-- a page without a fault spells what is read from it
spells_itself : (n : FormatNumber) (page : List ℕ) → IsPage page → superblock_fault n page ≡ None
    → SpellsSuperblock page (format_in n page) (superblock_version page) (superblock_record n page) (extents_said page) (pages_said page) (slice_index page 16) (slice_index page 17) (superblock_extents n page)
spells_itself n page p h =
    let format : Format = format_in n page in
    let magic : List ℕ = codes "CSS" ++ section_digit (number_in format) ∷ [] in
    let it = sound page (section_digit n) (counts n page) (superblock_end n page) (superblock_extents n page) p.size h in
    let four : take 4 page ≡ magic = it.magic ∙ ap (λ (m : FormatNumber). codes "CSS" ++ section_digit m ∷ []) (sym (number_read n page)) in
    let numbers = counted format (extents_said page) (pages_said page) (slice_index page 16) (slice_index page 17) (format_read_fits n page p) it.counted in
    let size = p.size in
    let bound : superblock_end n page + 32 ≤ 4096 = end_in_page n format _ _ _ _ numbers.geometry in
    let late : 18 ≤ superblock_start n = starts_late n in
    let there = are_read page (pages_said page) (superblock_start n) (superblock_end n page) (section_count page) p refl (omega arith) it.pointers in
    let head : take 16 page ≡ magic ++ big_bytes 8 (number 4 12 page) ++ big_bytes 2 (number 12 14 page) ++ big_bytes 2 (number 14 16 page) = head_is_spelled page magic p four in
    let divided : take 17 page ≡ magic ++ big_bytes 8 (number 4 12 page) ++ big_bytes 2 (number 12 14 page) ++ big_bytes 2 (number 14 16 page) ++ slice_index page 16 ∷ [] = take_more page _ _ 16 17 (omega arith) head (field_1 page 16 17 refl (omega arith)) in
    let stored = store_is_spelled n page _ p (take_more page _ _ 17 18 (omega arith) divided (field_1 page 17 18 refl (omega arith))) in
    let fields : take (superblock_end n page) page ≡ superblock_fields format (superblock_version page) (superblock_record n page) (extents_said page) (pages_said page) (slice_index page 16) (slice_index page 17) (superblock_extents n page) =
    take_more page _ _ (superblock_start n) (superblock_end n page) (omega arith) stored (sym there.spelled) in
    record {
      fits = record {
        first_version = it.first_version;
        last_version = it.last_version;
        recorded_fits = record_read_fits n page p;
        geometry = numbers.geometry;
        one_of_them = numbers.one_of_them;
        count = there.counted;
        each = there.each;
      };
      spelled = page_is_padded page (superblock_end n page) size (omega arith) it.digest it.padding ∙ ap (λ (xs : List ℕ). padded (sealed xs)) fields;
    }
  where
    starts_late : (n : FormatNumber) → 18 ≤ superblock_start n
    starts_late of_number.Two = omega arith
    starts_late of_number.Four = omega arith

pub spells : (page : List ℕ) (n : FormatNumber) (of_page : Format) (version recorded extents pages sections section : ℕ) (written : List (ℕ × ℕ)) → IsPage page → superblock_fault n page ≡ None
    → of_page ≡ format_in n page → version ≡ superblock_version page → recorded ≡ superblock_record n page → extents ≡ extents_said page → pages ≡ pages_said page → sections ≡ slice_index page 16 → section ≡ slice_index page 17
    → written ≡ superblock_extents n page → SpellsSuperblock page of_page version recorded extents pages sections section written
spells page m of_page version recorded extents pages sections section written p h z a r b c d e f =
    let was : ℕ = superblock_record m page in
    let format : Format = format_in m page in
    subst (λ (n : Format). SpellsSuperblock page n version recorded extents pages sections section written) (sym z)
    (subst (λ (n : ℕ). SpellsSuperblock page format n recorded extents pages sections section written) (sym a)
    (subst (λ (n : ℕ). SpellsSuperblock page format (number 4 12 page) n extents pages sections section written) (sym r)
    (subst (λ (n : ℕ). SpellsSuperblock page format (number 4 12 page) was n pages sections section written) (sym b)
    (subst (λ (n : ℕ). SpellsSuperblock page format (number 4 12 page) was (number 12 14 page) n sections section written) (sym c)
    (subst (λ (n : ℕ). SpellsSuperblock page format (number 4 12 page) was (number 12 14 page) (number 14 16 page) n section written) (sym d)
    (subst (λ (n : ℕ). SpellsSuperblock page format (number 4 12 page) was (number 12 14 page) (number 14 16 page) (slice_index page 16) n written) (sym e)
    (subst (λ (es : List (ℕ × ℕ)). SpellsSuperblock page format (number 4 12 page) was (number 12 14 page) (number 14 16 page) (slice_index page 16) (slice_index page 17) es) (sym f)
    (spells_itself m page p h))))))))

-- ---- what is spelled

pub length-superblock_fields : (format : Format) (version recorded extents pages sections section : ℕ) (written : List (ℕ × ℕ)) → FitsFormat format
    → length (superblock_fields format version recorded extents pages sections section written) ≡ superblock_start (number_in format) + 6 * length written
length-superblock_fields format version recorded extents pages sections section written fits =
    let before : List ℕ = codes "CSS" ++ section_digit (number_in format) ∷ [] ++ big_bytes 8 version ++ big_bytes 2 extents ++ big_bytes 2 pages ++ sections ∷ [] ++ section ∷ [] in
    let size : length before ≡ 18 = refl in
    omega (arith, size, length-append (before ++ spelled_store format recorded) (spelled_extents written), length-append before (spelled_store format recorded), length-spelled_store format recorded fits, length-spelled_extents written)

module _ (format : Format) (version recorded extents pages sections section : ℕ) (written : List (ℕ × ℕ)) (fits : FitsSuperblock format version recorded extents pages sections section written) where
  abbrev n : FormatNumber
  n = number_in format

  abbrev digit : ℕ
  digit = section_digit (number_in format)

  limits : Bounds extents pages sections
  limits = bounds format extents pages sections fits.geometry

  -- what is spelled before the digest, and what of it follows the first 16 bytes
  abbrev text : List ℕ
  text = superblock_fields format version recorded extents pages sections section written

  abbrev tail : List ℕ
  tail = sections ∷ section ∷ (spelled_store format recorded ++ spelled_extents written)

  abbrev bytes : List ℕ
  bytes = spelled_superblock format version recorded extents pages sections section written

  long : length text ≡ superblock_start n + 6 * length written
  long = length-superblock_fields format version recorded extents pages sections section written fits.geometry.fits_format

  split : text ≡ codes "CSS" ++ digit ∷ [] ++ big_bytes 8 version ++ big_bytes 2 extents ++ big_bytes 2 pages ++ tail
  split =
      append_assoc (codes "CSS" ++ digit ∷ [] ++ big_bytes 8 version ++ big_bytes 2 extents ++ big_bytes 2 pages ++ sections ∷ [] ++ section ∷ []) (spelled_store format recorded) (spelled_extents written)
      ∙ append_assoc (codes "CSS" ++ digit ∷ [] ++ big_bytes 8 version ++ big_bytes 2 extents ++ big_bytes 2 pages ++ sections ∷ []) (section ∷ []) (spelled_store format recorded ++ spelled_extents written)
      ∙ append_assoc (codes "CSS" ++ digit ∷ [] ++ big_bytes 8 version ++ big_bytes 2 extents ++ big_bytes 2 pages) (sections ∷ []) (section ∷ (spelled_store format recorded ++ spelled_extents written))

  short : length text + 32 ≤ 4096
  short = omega (arith, long, fits.count, end_in_page n format extents pages sections section fits.geometry)

  -- what is spelled is read again
  version_is_read : number 4 12 bytes ≡ version
  version_is_read = version_again digit version extents pages tail text split short fits.last_version

  extents_are_read : number 12 14 bytes ≡ extents
  extents_are_read = count_again digit version extents pages tail text split short (omega (arith, limits.most_extents))

  pages_are_read : number 14 16 bytes ≡ pages
  pages_are_read = pages_again digit version extents pages tail text split short (omega (arith, limits.most_pages))

  at_sections : drop 16 bytes ≡ tail ++ (sha256 text ++ zeros (4096 - length (sealed text)))
  at_sections = tail_again digit version extents pages tail text split short

  at_section : drop 17 bytes ≡ (section ∷ (spelled_store format recorded ++ spelled_extents written)) ++ (sha256 text ++ zeros (4096 - length (sealed text)))
  at_section = after_field bytes (sections ∷ []) _ 16 17 at_sections refl

  at_store : drop 18 bytes ≡ spelled_store format recorded ++ (spelled_extents written ++ (sha256 text ++ zeros (4096 - length (sealed text))))
  at_store = after_field bytes (section ∷ []) _ 17 18 at_section refl ∙ append_assoc (spelled_store format recorded) (spelled_extents written) (sha256 text ++ zeros (4096 - length (sealed text)))

  at_extents : drop (superblock_start n) bytes ≡ spelled_extents written ++ (sha256 text ++ zeros (4096 - length (sealed text)))
  at_extents = after_field bytes (spelled_store format recorded) _ 18 (superblock_start n) at_store (length-spelled_store format recorded fits.geometry.fits_format)

  sections_are_read : slice_index bytes 16 ≡ sections
  sections_are_read = byte_at_front bytes _ 16 sections at_sections

  section_is_read : slice_index bytes 17 ≡ section
  section_is_read = byte_at_front bytes _ 17 section at_section

  both_are_read : (format_in n bytes ≡ format) × (superblock_record n bytes ≡ recorded)
  both_are_read = store_is_read format recorded bytes _ fits.geometry.fits_format fits.recorded_fits at_store

  -- and of as many extents
  count_is_read : section_count bytes ≡ length written
  count_is_read =
      ap (λ (n : ℕ). section_length n (slice_index bytes 16) (slice_index bytes 17)) extents_are_read
      ∙ ap (λ (n : ℕ). section_length extents n (slice_index bytes 17)) sections_are_read
      ∙ ap (λ (n : ℕ). section_length extents sections n) section_is_read
      ∙ sym fits.count

  end_is_read : length text ≡ superblock_end n bytes
  end_is_read = long ∙ ap (λ (k : ℕ). superblock_start n + 6 * k) (sym count_is_read)

  written_is_read : superblock_extents n bytes ≡ written
  written_is_read =
      ap extents_from (field_at bytes (spelled_extents written) _ (superblock_start n) (superblock_end n bytes) at_extents
      (ap (λ (k : ℕ). superblock_start n + k) (length-spelled_extents written) ∙ ap (λ (k : ℕ). superblock_start n + 6 * k) (sym count_is_read)))
      ∙ extents_from-spelled pages (omega (arith, limits.most_pages)) written fits.each

  -- and has no fault
  superblock_fault-spelled : superblock_fault n bytes ≡ None
  superblock_fault-spelled =
      let numbers : counts n bytes ≡ true =
      ap (λ (f : Format). section_passes f (extents_said bytes) (pages_said bytes) (slice_index bytes 16) (slice_index bytes 17)) both_are_read.0
      ∙ ap (λ (k : ℕ). section_passes format k (pages_said bytes) (slice_index bytes 16) (slice_index bytes 17)) extents_are_read
      ∙ ap (λ (k : ℕ). section_passes format extents k (slice_index bytes 16) (slice_index bytes 17)) pages_are_read
      ∙ ap (λ (k : ℕ). section_passes format extents pages k (slice_index bytes 17)) sections_are_read
      ∙ ap (λ (k : ℕ). section_passes format extents pages sections k) section_is_read
      ∙ counted_passes format extents pages sections section fits.geometry fits.one_of_them in
      sound_passes bytes digit (counts n bytes) (superblock_end n bytes) (superblock_extents n bytes)
      (spelled_is_sound digit version extents pages tail text split short (counts n bytes) (superblock_end n bytes) written (superblock_extents n bytes)
      fits.first_version fits.last_version (omega (arith, limits.most_pages)) end_is_read numbers fits.each written_is_read)

-- what spells a section has no fault
pub spelled_has_none : (page : List ℕ) (format : Format) (version recorded extents pages sections section : ℕ) (written : List (ℕ × ℕ)) → SpellsSuperblock page format version recorded extents pages sections section written → superblock_fault (number_in format) page ≡ None
spelled_has_none page format version recorded extents pages sections section written s = ap (superblock_fault (number_in format)) s.spelled ∙ superblock_fault-spelled format version recorded extents pages sections section written s.fits

-- a section under other names of its numbers
pub same_section : (format : Format) (version recorded extents pages sections section : ℕ) (f : Format) (e p s : ℕ) (written : List (ℕ × ℕ)) → f ≡ format → e ≡ extents → p ≡ pages → s ≡ sections
    → IsSection format version recorded extents pages sections section written → IsSection f version recorded e p s section written
same_section format version recorded extents pages sections section f e p s written z a b c is =
    subst (λ (n : Format). IsSection n version recorded e p s section written) (sym z)
    (subst (λ (n : ℕ). IsSection format version recorded n p s section written) (sym a)
    (subst (λ (n : ℕ). IsSection format version recorded extents n s section written) (sym b)
    (subst (λ (n : ℕ). IsSection format version recorded extents pages n section written) (sym c) is)))

-- its fourth byte is the digit of its format
pub fourth_is : (n : FormatNumber) (page : List ℕ) → superblock_fault n page ≡ None → slice_index page 3 ≡ section_digit n
fourth_is n page h = fourth_byte page (section_digit n) (counts n page) (superblock_end n page) (superblock_extents n page) h

-- and its first three bytes are the same in each
pub same_magic : (n : FormatNumber) (page : List ℕ) → superblock_fault n page ≡ None → bytes_eq (field 0 3 page) (codes "CSS") ≡ true
same_magic n page h = first_bytes page (section_digit n) (counts n page) (superblock_end n page) (superblock_extents n page) h

-- memory that ran out is no fault of it
pub section_never_memory : (n : FormatNumber) (page : List ℕ) → superblock_fault n page ≡ Some OutOfMemory → ⊥
section_never_memory n page h = never_memory page (section_digit n) (counts n page) (superblock_end n page) (superblock_extents n page) h

-- two formats have two digits
pub one_digit : (n m : FormatNumber) → section_digit n ≡ section_digit m → n ≡ m
one_digit of_number.Two of_number.Two is = refl
one_digit of_number.Two of_number.Four is = absurd (omega (arith, is))
one_digit of_number.Four of_number.Two is = absurd (omega (arith, is))
one_digit of_number.Four of_number.Four is = refl

-- so a page with the first three bytes and another digit is refused for that
pub refused_as : (n : FormatNumber) (page : List ℕ) → bytes_eq (field 0 3 page) (codes "CSS") ≡ true → slice_index page 3 ≢ section_digit n → superblock_fault n page ≡ Some BadVersion
refused_as n page magic other = other_digit page (section_digit n) (counts n page) (superblock_end n page) (superblock_extents n page) magic other

-- as one of any other format
pub other_format : (n m : FormatNumber) (page : List ℕ) → superblock_fault n page ≡ None → m ≢ n → superblock_fault m page ≡ Some BadVersion
other_format n m page h other = refused_as m page (same_magic n page h) (λ same. other (one_digit m n (sym same ∙ fourth_is n page h)))

-- what is read of a page
pub record IsRead (page : List ℕ) (format : Format) (version recorded extents pages sections section : ℕ) (written : List (ℕ × ℕ)) : Type 0 where
  pub of_digit : slice_index page 3 ≡ section_digit (number_in format)
  pub of_format : format_in (number_in format) page ≡ format
  pub of_version : number 4 12 page ≡ version
  pub of_record : superblock_record (number_in format) page ≡ recorded
  pub of_extents : number 12 14 page ≡ extents
  pub of_pages : number 14 16 page ≡ pages
  pub of_sections : slice_index page 16 ≡ sections
  pub of_section : slice_index page 17 ≡ section
  pub of_written : superblock_extents (number_in format) page ≡ written

-- and nothing else is read
pub one_section : (page : List ℕ) (format : Format) (version recorded extents pages sections section : ℕ) (written : List (ℕ × ℕ)) → SpellsSuperblock page format version recorded extents pages sections section written → IsRead page format version recorded extents pages sections section written
one_section page format version recorded extents pages sections section written s =
    let n : FormatNumber = number_in format in
    record {
      of_digit = fourth_is n page (spelled_has_none page format version recorded extents pages sections section written s);
      of_format = ap (format_in n) s.spelled ∙ (both_are_read format version recorded extents pages sections section written s.fits).0;
      of_version = ap (number 4 12) s.spelled ∙ version_is_read format version recorded extents pages sections section written s.fits;
      of_record = ap (superblock_record n) s.spelled ∙ (both_are_read format version recorded extents pages sections section written s.fits).1;
      of_extents = ap (number 12 14) s.spelled ∙ extents_are_read format version recorded extents pages sections section written s.fits;
      of_pages = ap (number 14 16) s.spelled ∙ pages_are_read format version recorded extents pages sections section written s.fits;
      of_sections = ap (λ (xs : List ℕ). slice_index xs 16) s.spelled ∙ sections_are_read format version recorded extents pages sections section written s.fits;
      of_section = ap (λ (xs : List ℕ). slice_index xs 17) s.spelled ∙ section_is_read format version recorded extents pages sections section written s.fits;
      of_written = ap (superblock_extents n) s.spelled ∙ written_is_read format version recorded extents pages sections section written s.fits;
    }

-- so two sections that one page spells have one format
pub one_format : (page : List ℕ) (format f : Format) → slice_index page 3 ≡ section_digit (number_in format) → format_in (number_in format) page ≡ format
    → slice_index page 3 ≡ section_digit (number_in f) → format_in (number_in f) page ≡ f → format ≡ f
one_format page format f digit is other_digit other =
    sym is ∙ ap (λ (n : FormatNumber). format_in n page) (one_digit (number_in format) (number_in f) (sym digit ∙ other_digit)) ∙ other
