-- The geometry is told by whichever page of the first section is whole.
use Rattle.std.proofs.Common.{◌≡◌, ◌≢◌, ◌⊎◌, inl, inr, ⊎_elim, bytes_eq, subst, ◌==◌, ◌&&◌, ◌+◌, ◌-◌, ◌<◌, ◌^◌, ℕ, Bool, true, false, List, [], ◌∷◌, Option, Some, None, codes, if◌then◌else◌, nat_le, nat_lt, slice_index, refl, sym, ◌∙◌, ap, arith, eq-eqb}
use Rattle.std.proofs.lemmas.Bool.Decides.{nat_tests}
use Rattle.std.proofs.lemmas.Option.{same_Some}
use Rattle.std.proofs.lemmas.Bool.{and_from, and_parts, eqb-true}
use Rattle.cs_disk.specs.Disk.{Image, page}
use Rattle.cs_frame.specs.Bytes.{field, number}
use Rattle.cs_frame.specs.declared.formats.FormatNumber.{FormatNumber}
use Rattle.cs_frame.specs.declared.formats.FormatNumber.TheVariants as of_number
use Rattle.cs_frame.specs.FormatNumbers.{number_in}
use Rattle.cs_frame.specs.declared.faults.FormatFault.{FormatFault}
use Rattle.cs_frame.specs.declared.faults.FormatFault.TheVariants.{BadVersion}
use Rattle.cs_frame.specs.Faults.{first_fault, unless}
use Rattle.cs_frame.specs.FirstFormat.{page_zero_fault}
use Rattle.cs_frame.specs.Geometries.{Dimensions, device_pages}
use Rattle.cs_frame.specs.Pages.{digest_test, digit_test, magic_test, padding_test}
use Rattle.cs_frame.specs.Pointers.{superblock_range_test}
use Rattle.cs_frame.specs.Superblocks.{format_in, section_test, superblock_end, superblock_fault, superblock_pointer_test}
use Rattle.cs_frame.proofs.FirstFormatLaws as zeros
use Rattle.cs_frame.proofs.SuperblockLaws as superblocks
use Rattle.cs_frame.proofs.TestLaws.{equal_bytes, same_bytes}
use Rattle.law_machine.specs.Format.{Format, Four, Two}
use Rattle.law_machine.specs.Geometry.{twins_in}
use Rattle.cs_frame.specs.Roots.{identity_in}
use Rattle.cs_mount.specs.Identities.{IsOfOne, identity_by, identity_said}
use Rattle.cs_mount.specs.StorePairs.{dimensions_on, first_says, geometry_of_first, is_of_store, is_section, last_says, named_by, pages_of, said_on, section_version, without_fault, zero_or_last}
use Rattle.cs_mount.proofs.Ones.{both_one, damaged_one, damaged_unsaid, found_one, last_alike, one_found}

-- a page that has a version is this section
record IsThis (d : Dimensions) (j : ℕ) (bytes : List ℕ) : Type 0 where
  numbers : is_section d j bytes ≡ true
  whole : superblock_fault (number_in d.format) bytes ≡ None

this_one : (d : Dimensions) (j : ℕ) (bytes : List ℕ) → 0 < section_version d j bytes → IsThis d j bytes
this_one d j bytes some = by_test (is_section d j bytes) (superblock_fault (number_in d.format) bytes) refl refl some
  where
    by_test : (t : Bool) (fault : Option FormatFault) → is_section d j bytes ≡ t → superblock_fault (number_in d.format) bytes ≡ fault → 0 < (if t then without_fault fault (number 4 12 bytes) else 0) → IsThis d j bytes
    by_test true None test fault some = record { numbers = test; whole = fault }
    by_test true (Some f) test fault some = absurd (omega (arith, some))
    by_test false fault test is some = absurd (omega (arith, some))

-- a page that has the store's identity and its number of pages names its format
pub its_format : (format : Format) (bytes : List ℕ) → twins_in format ≡ true → is_of_store format bytes ≡ true → format_in of_number.Four bytes ≡ format
its_format Two bytes twins is = cc twins
its_format (Four store device) bytes twins is =
    let both = and_parts (bytes_eq (field 26 42 bytes) store) (number 18 26 bytes == device) is in
    ap (λ (l : List ℕ). Four l (number 18 26 bytes)) (same_bytes (field 26 42 bytes) store both.0) ∙ ap (λ n. Four store n) (eqb-true (number 18 26 bytes) device both.1)

-- and the other way round
pub format_its : (format : Format) (bytes : List ℕ) → format_in of_number.Four bytes ≡ format → is_of_store format bytes ≡ true
format_its format bytes is = subst (λ (f : Format). is_of_store f bytes ≡ true) is
    (and_from (bytes_eq (field 26 42 bytes) (field 26 42 bytes)) (number 18 26 bytes == number 18 26 bytes) (equal_bytes (field 26 42 bytes) (field 26 42 bytes) refl) (eq-eqb (number 18 26 bytes) (number 18 26 bytes) refl))

-- a format with twins has the number 4
pub number_four : (format : Format) → twins_in format ≡ true → number_in format ≡ of_number.Four
number_four Two twins = cc twins
number_four (Four store device) twins = refl

-- and says these dimensions
named_these : (d : Dimensions) (f : Format) (e p s i : ℕ) → twins_in d.format ≡ true → f ≡ d.format → e ≡ d.extents → p ≡ d.pages → s ≡ d.sections → i ≡ 0 → geometry_of_first (pages_of d) f e p s i ≡ Some d
named_these d f e p s i twins format extents pages sections first =
    ap (λ g. geometry_of_first (pages_of d) g e p s i) format
    ∙ ap (λ n. geometry_of_first (pages_of d) d.format n p s i) extents ∙ ap (λ n. geometry_of_first (pages_of d) d.format d.extents n s i) pages ∙ ap (λ n. geometry_of_first (pages_of d) d.format d.extents d.pages n i) sections
    ∙ ap (λ n. geometry_of_first (pages_of d) d.format d.extents d.pages d.sections n) first
    ∙ ap (λ (b : Bool). if b && true && pages_of d == pages_of d then Some d else None) twins
    ∙ ap (λ (b : Bool). if b then Some d else None) (eq-eqb (pages_of d) (pages_of d) refl)

-- the numbers of a section's page, one by one
pub record AreNumbers (d : Dimensions) (j : ℕ) (bytes : List ℕ) : Type 0 where
  pub of_store : is_of_store d.format bytes ≡ true
  pub extents : number 12 14 bytes ≡ d.extents
  pub pages : number 14 16 bytes ≡ d.pages
  pub sections : slice_index bytes 16 ≡ d.sections
  pub section : slice_index bytes 17 ≡ j

pub one_by_one : (d : Dimensions) (j : ℕ) (bytes : List ℕ) → is_section d j bytes ≡ true → AreNumbers d j bytes
one_by_one d j bytes all =
    let o = is_of_store d.format bytes in
    let e = number 12 14 bytes == d.extents in
    let p = number 14 16 bytes == d.pages in
    let s = slice_index bytes 16 == d.sections in
    let i = slice_index bytes 17 == j in
    let last = and_parts (o && e && p && s) i all in
    let third = and_parts (o && e && p) s last.0 in
    let two = and_parts (o && e) p third.0 in
    let one = and_parts o e two.0 in
    record {
      of_store = one.0;
      extents = eqb-true (number 12 14 bytes) d.extents one.1;
      pages = eqb-true (number 14 16 bytes) d.pages two.1;
      sections = eqb-true (slice_index bytes 16) d.sections third.1;
      section = eqb-true (slice_index bytes 17) j last.1;
    }

pub together : (d : Dimensions) (j : ℕ) (bytes : List ℕ) → is_of_store d.format bytes ≡ true → number 12 14 bytes ≡ d.extents → number 14 16 bytes ≡ d.pages → slice_index bytes 16 ≡ d.sections → slice_index bytes 17 ≡ j
    → is_section d j bytes ≡ true
together d j bytes o e p s i =
    and_from _ _ (and_from _ _ (and_from _ _ (and_from _ _ o (eq-eqb (number 12 14 bytes) d.extents e)) (eq-eqb (number 14 16 bytes) d.pages p)) (eq-eqb (slice_index bytes 16) d.sections s)) (eq-eqb (slice_index bytes 17) j i)

says_these : (d : Dimensions) (bytes : List ℕ) → twins_in d.format ≡ true → IsThis d 0 bytes → named_by (pages_of d) bytes ≡ Some d
says_these d bytes twins this =
    let are = one_by_one d 0 bytes this.numbers in
    named_these d (format_in of_number.Four bytes) (number 12 14 bytes) (number 14 16 bytes) (slice_index bytes 16) (slice_index bytes 17) twins (its_format d.format bytes twins are.of_store) are.extents are.pages are.sections are.section

-- it is whole in format 4
whole_four : (d : Dimensions) (j : ℕ) (bytes : List ℕ) → twins_in d.format ≡ true → IsThis d j bytes → superblock_fault of_number.Four bytes ≡ None
whole_four d j bytes twins this = ap (λ (n : FormatNumber). superblock_fault n bytes) (sym (number_four d.format twins)) ∙ this.whole

-- where page 0 is that section
pub said_by_zero : (d : Dimensions) (image : Image) → twins_in d.format ≡ true → 0 < section_version d 0 (page image 0) → said_on (pages_of d) image ≡ Some d
said_by_zero d image twins some =
    let bytes = page image 0 in
    let this = this_one d 0 bytes some in
    let whole = whole_four d 0 bytes twins this in
    let none = zeros.zero_of_section of_number.Four bytes whole in
    let fourth = superblocks.fourth_is of_number.Four bytes whole in
    let other = last_says (pages_of d) (superblock_fault of_number.Four (page image (pages_of d - 1))) (page image (pages_of d - 1)) in
    ap (λ (o : Option FormatFault). zero_or_last (pages_of d) o bytes other) none
    ∙ ap (λ (b : Bool). if b then named_by (pages_of d) bytes else None) (eq-eqb (slice_index bytes 3) 52 (omega (arith, fourth)))
    ∙ says_these d bytes twins this

pub found_by_zero : (d : Dimensions) (image : Image) → twins_in d.format ≡ true → 0 < section_version d 0 (page image 0) → IsOfOne (pages_of d) image → dimensions_on (pages_of d) image ≡ Some d
found_by_zero d image twins some one = one_found (pages_of d) image one ∙ said_by_zero d image twins some

-- where page 0 isn't whole, and the last page is that section
pub said_by_last : (d : Dimensions) (image : Image) → twins_in d.format ≡ true → page_zero_fault (page image 0) ≢ None → 0 < section_version d 0 (page image (pages_of d - 1)) → said_on (pages_of d) image ≡ Some d
said_by_last d image twins damaged some = by_fault (page_zero_fault (page image 0)) refl
  where
    bytes : List ℕ
    bytes = page image (pages_of d - 1)

    by_fault : (o : Option FormatFault) → page_zero_fault (page image 0) ≡ o → zero_or_last (pages_of d) o (page image 0) (last_says (pages_of d) (superblock_fault of_number.Four bytes) bytes) ≡ Some d
    by_fault None is = absurd (damaged is)
    by_fault (Some fault) is =
        let this = this_one d 0 bytes some in
        let whole = whole_four d 0 bytes twins this in
        ap (λ (o : Option FormatFault). last_says (pages_of d) o bytes) whole ∙ says_these d bytes twins this

pub found_by_last : (d : Dimensions) (image : Image) → twins_in d.format ≡ true → page_zero_fault (page image 0) ≢ None → 0 < section_version d 0 (page image (pages_of d - 1)) → dimensions_on (pages_of d) image ≡ Some d
found_by_last d image twins damaged some = one_found (pages_of d) image (damaged_one (pages_of d) image damaged) ∙ said_by_last d image twins damaged some

-- the page that holds a version of the first section says the dimensions of its store
pub version_says : (d : Dimensions) (bytes : List ℕ) → twins_in d.format ≡ true → 0 < section_version d 0 bytes → first_says (pages_of d) bytes ≡ Some d
version_says d bytes twins some =
    let this = this_one d 0 bytes some in
    let whole = whole_four d 0 bytes twins this in
    ap (λ (o : Option FormatFault). last_says (pages_of d) o bytes) whole ∙ says_these d bytes twins this

-- bytes that say dimensions are whole, and of format 4
pub said_whole : (n : ℕ) (bytes : List ℕ) (d : Dimensions) → first_says n bytes ≡ Some d → superblock_fault of_number.Four bytes ≡ None
said_whole n bytes d says = by_fault (superblock_fault of_number.Four bytes) refl says
  where
    by_fault : (o : Option FormatFault) → superblock_fault of_number.Four bytes ≡ o → last_says n o bytes ≡ Some d → superblock_fault of_number.Four bytes ≡ None
    by_fault None is says = is
    by_fault (Some fault) is says = cc

pub said_third : (n : ℕ) (bytes : List ℕ) (d : Dimensions) → first_says n bytes ≡ Some d → slice_index bytes 3 ≡ 52
said_third n bytes d says = let fourth = superblocks.fourth_is of_number.Four bytes (said_whole n bytes d says) in omega (arith, fourth)

pub whole_zero : (n : ℕ) (bytes : List ℕ) (d : Dimensions) → first_says n bytes ≡ Some d → page_zero_fault bytes ≡ None
whole_zero n bytes d says = zeros.zero_of_section of_number.Four bytes (said_whole n bytes d says)

-- what page 0 says is said
pub said_found : (n : ℕ) (image : Image) (d : Dimensions) → first_says n (page image 0) ≡ Some d → said_on n image ≡ Some d
said_found n image d says =
    let bytes = page image 0 in
    let whole = said_whole n bytes d says in
    let none = zeros.zero_of_section of_number.Four bytes whole in
    let other = last_says n (superblock_fault of_number.Four (page image (n - 1))) (page image (n - 1)) in
    ap (λ (o : Option FormatFault). zero_or_last n o bytes other) none
    ∙ ap (λ (b : Bool). if b then named_by n bytes else None) (eq-eqb (slice_index bytes 3) 52 (said_third n bytes d says))
    ∙ sym (ap (λ (o : Option FormatFault). last_says n o bytes) whole) ∙ says

-- ---- and holds a version of its section

passed_of : (o : Option FormatFault) (rest : List (Option FormatFault)) → first_fault (o ∷ rest) ≡ None → (o ≡ None) × (first_fault rest ≡ None)
passed_of None rest h = (refl, h)
passed_of (Some fault) rest h = cc

passed_fifth : (a b c d e : Option FormatFault) (rest : List (Option FormatFault)) → first_fault (a ∷ b ∷ c ∷ d ∷ e ∷ rest) ≡ None → e ≡ None
passed_fifth a b c d e rest h =
    let second = passed_of a (b ∷ c ∷ d ∷ e ∷ rest) h in
    let third = passed_of b (c ∷ d ∷ e ∷ rest) second.1 in
    let fourth = passed_of c (d ∷ e ∷ rest) third.1 in
    let fifth = passed_of d (e ∷ rest) fourth.1 in
    (passed_of e rest fifth.1).0

some_version : (bytes : List ℕ) → superblock_fault of_number.Four bytes ≡ None → 0 < number 4 12 bytes
some_version bytes whole =
    let range : superblock_range_test bytes ≡ None =
    passed_fifth (magic_test (codes "CSS") bytes) (digit_test 52 bytes) (section_test of_number.Four bytes) (digest_test (superblock_end of_number.Four bytes) bytes) (superblock_range_test bytes)
    (superblock_pointer_test of_number.Four bytes ∷ padding_test (superblock_end of_number.Four bytes + 32) bytes ∷ []) whole in
    by_tests (nat_le 1 (number 4 12 bytes)) (nat_lt (number 4 12 bytes) (2 ^ 63)) refl range
  where
    above : (n : ℕ) → nat_le 1 n ≡ true → 0 < n
    above n test = grind (arith, nat_tests)

    by_tests : (a b : Bool) → nat_le 1 (number 4 12 bytes) ≡ a → unless (a && b) BadVersion ≡ None → 0 < number 4 12 bytes
    by_tests true b test is = above (number 4 12 bytes) test
    by_tests false b test is = cc

-- what says these dimensions has their numbers
record IsNamed (n : ℕ) (f : Format) (e p s i : ℕ) (d : Dimensions) : Type 0 where
  of_format : f ≡ d.format
  extents : e ≡ d.extents
  pages : p ≡ d.pages
  sections : s ≡ d.sections
  section : i ≡ 0
  twice : twins_in d.format ≡ true
  sized : pages_of d ≡ n

its_numbers : (n : ℕ) (f : Format) (e p s i : ℕ) (d : Dimensions) → geometry_of_first n f e p s i ≡ Some d → IsNamed n f e p s i d
its_numbers n f e p s i d is = by_test (twins_in f) (i == 0) (device_pages f e p s == n) refl refl refl is
  where
    by_test : (t a b : Bool) → twins_in f ≡ t → (i == 0) ≡ a → (device_pages f e p s == n) ≡ b → (if t && a && b then Some (record { format = f; extents = e; pages = p; sections = s }) else None) ≡ Some d → IsNamed n f e p s i d
    by_test true true true twins test size is =
        let same = same_Some (record { format = f; extents = e; pages = p; sections = s }) d is in
        record {
          of_format = ap (λ (it : Dimensions). it.format) same;
          extents = ap (λ (it : Dimensions). it.extents) same;
          pages = ap (λ (it : Dimensions). it.pages) same;
          sections = ap (λ (it : Dimensions). it.sections) same;
          section = eqb-true i 0 test;
          twice = ap (λ (it : Dimensions). twins_in it.format) (sym same) ∙ twins;
          sized = ap pages_of (sym same) ∙ eqb-true (device_pages f e p s) n size;
        }
    by_test true true false twins test size is = cc
    by_test true false b twins test size is = cc
    by_test false a b twins test size is = cc

named_numbers : (n : ℕ) (bytes : List ℕ) (d : Dimensions) → first_says n bytes ≡ Some d → IsNamed n (format_in of_number.Four bytes) (number 12 14 bytes) (number 14 16 bytes) (slice_index bytes 16) (slice_index bytes 17) d
named_numbers n bytes d says =
    let whole = said_whole n bytes d says in
    its_numbers n (format_in of_number.Four bytes) (number 12 14 bytes) (number 14 16 bytes) (slice_index bytes 16) (slice_index bytes 17) d (sym (ap (λ (o : Option FormatFault). last_says n o bytes) whole) ∙ says)

pub says_version : (d : Dimensions) (n : ℕ) (bytes : List ℕ) → twins_in d.format ≡ true → first_says n bytes ≡ Some d → 0 < section_version d 0 bytes
says_version d n bytes twins says =
    let whole = said_whole n bytes d says in
    let its = named_numbers n bytes d says in
    let test = together d 0 bytes (format_its d.format bytes its.of_format) its.extents its.pages its.sections its.section in
    let fault : superblock_fault (number_in d.format) bytes ≡ None = ap (λ (m : FormatNumber). superblock_fault m bytes) (number_four d.format twins) ∙ whole in
    let is : section_version d 0 bytes ≡ number 4 12 bytes =
    ap (λ (t : Bool). if t then without_fault (superblock_fault (number_in d.format) bytes) (number 4 12 bytes) else 0) test ∙ ap (λ (o : Option FormatFault). without_fault o (number 4 12 bytes)) fault in
    let some = some_version bytes whole in
    omega (arith, is, some)

-- ---- what is found of a device

-- what page 0 says, where it is whole, is what it says as a first section
pub zero_says : (n : ℕ) (image : Image) (d : Dimensions) → page_zero_fault (page image 0) ≡ None → said_on n image ≡ Some d → first_says n (page image 0) ≡ Some d
zero_says n image d whole found =
    let bytes = page image 0 in
    let said : (if slice_index bytes 3 == 52 then named_by n bytes else None) ≡ Some d =
    sym (ap (λ (o : Option FormatFault). zero_or_last n o bytes (last_says n (superblock_fault of_number.Four (page image (n - 1))) (page image (n - 1)))) whole) ∙ found in
    by_test (slice_index bytes 3 == 52) refl said
  where
    by_test : (b : Bool) → (slice_index (page image 0) 3 == 52) ≡ b → (if b then named_by n (page image 0) else None) ≡ Some d → first_says n (page image 0) ≡ Some d
    by_test true test said =
        let fourth = eqb-true (slice_index (page image 0) 3) 52 test in
        let format = zeros.zero_format-is of_number.Four (page image 0) fourth in
        let fault = ap (λ (m : FormatNumber). superblock_fault m (page image 0)) (sym format) ∙ zeros.zero_second (page image 0) (λ first. omega (arith, fourth, first)) ∙ whole in
        ap (λ (o : Option FormatFault). last_says n o (page image 0)) fault ∙ said
    by_test false test said = cc

-- where it isn't whole, what the last page says is said
pub last_said : (n : ℕ) (image : Image) (fault : FormatFault) → page_zero_fault (page image 0) ≡ Some fault → said_on n image ≡ first_says n (page image (n - 1))
last_said n image fault damaged =
    ap (λ (o : Option FormatFault). zero_or_last n o (page image 0) (last_says n (superblock_fault of_number.Four (page image (n - 1))) (page image (n - 1)))) damaged

-- a store that is found has twins, and the device's pages
last_third : (n : ℕ) (bytes : List ℕ) (d : Dimensions) → first_says n bytes ≡ Some d → (twins_in d.format ≡ true) × (pages_of d ≡ n)
last_third n bytes d says = let its = named_numbers n bytes d says in (its.twice, its.sized)

pub says_twins : (n : ℕ) (bytes : List ℕ) (d : Dimensions) → first_says n bytes ≡ Some d → twins_in d.format ≡ true
says_twins n bytes d says = (last_third n bytes d says).0

-- a page 0 that says an identity says what is said
pub said_first : (n : ℕ) (image : Image) (id : List ℕ) → identity_said (page image 0) ≡ Some id → said_on n image ≡ first_says n (page image 0)
said_first n image id says = by_fault (superblock_fault of_number.Four (page image 0)) refl says
  where
    by_fault : (o : Option FormatFault) → superblock_fault of_number.Four (page image 0) ≡ o → identity_by o (page image 0) ≡ Some id → said_on n image ≡ first_says n (page image 0)
    by_fault (Some fault) is says = cc says
    by_fault None whole says =
        let bytes = page image 0 in
        let fourth = superblocks.fourth_is of_number.Four bytes whole in
        ap (λ (o : Option FormatFault). zero_or_last n o bytes (first_says n (page image (n - 1)))) (zeros.zero_of_section of_number.Four bytes whole)
        ∙ ap (λ (b : Bool). if b then named_by n bytes else None) (eq-eqb (slice_index bytes 3) 52 (omega (arith, fourth)))
        ∙ sym (ap (λ (o : Option FormatFault). last_says n o bytes) whole)

-- it is said by page 0, or by the last page if page 0 isn't whole
pub said_by : (n : ℕ) (image : Image) (d : Dimensions) → said_on n image ≡ Some d → (first_says n (page image 0) ≡ Some d) ⊎ ((page_zero_fault (page image 0) ≢ None) × (first_says n (page image (n - 1)) ≡ Some d))
said_by n image d said = by_fault (page_zero_fault (page image 0)) refl
  where
    by_fault : (o : Option FormatFault) → page_zero_fault (page image 0) ≡ o → (first_says n (page image 0) ≡ Some d) ⊎ ((page_zero_fault (page image 0) ≢ None) × (first_says n (page image (n - 1)) ≡ Some d))
    by_fault None whole = inl (zero_says n image d whole said)
    by_fault (Some fault) damaged = inr ((λ none. let clash : None ≡ Some fault = sym none ∙ damaged in cc clash), sym (last_said n image fault damaged) ∙ said)

pub found_third : (n : ℕ) (image : Image) (d : Dimensions) → dimensions_on n image ≡ Some d → (twins_in d.format ≡ true) × (pages_of d ≡ n)
found_third n image d found = by (said_by n image d (found_one n image d found).1)
  where
    by : (first_says n (page image 0) ≡ Some d) ⊎ ((page_zero_fault (page image 0) ≢ None) × (first_says n (page image (n - 1)) ≡ Some d)) → (twins_in d.format ≡ true) × (pages_of d ≡ n)
    by (inl first) = last_third n (page image 0) d first
    by (inr last) = last_third n (page image (n - 1)) d last.1

-- ---- the identities that are said

-- what a whole section says in format 4
pub section_said : (bytes : List ℕ) (format : Format) → superblock_fault of_number.Four bytes ≡ None → format_in of_number.Four bytes ≡ format → identity_said bytes ≡ identity_in format
section_said bytes format whole is = ap (λ (o : Option FormatFault). identity_by o bytes) whole ∙ ap identity_in is

-- The bytes say the identity of this store, or none.
abbrev pub SaysIts : Dimensions → List ℕ → Type 0
SaysIts d bytes = (identity_said bytes ≡ None) ⊎ (identity_said bytes ≡ identity_in d.format)

pub version_its : (d : Dimensions) (bytes : List ℕ) → twins_in d.format ≡ true → 0 < section_version d 0 bytes → identity_said bytes ≡ identity_in d.format
version_its d bytes twins some =
    let this = this_one d 0 bytes some in
    section_said bytes d.format (whole_four d 0 bytes twins this) (its_format d.format bytes twins (one_by_one d 0 bytes this.numbers).of_store)

pub says_its : (n : ℕ) (bytes : List ℕ) (d : Dimensions) → first_says n bytes ≡ Some d → identity_said bytes ≡ identity_in d.format
says_its n bytes d says = section_said bytes d.format (said_whole n bytes d says) (named_numbers n bytes d says).of_format

its_identity : (format : Format) → twins_in format ≡ true → (id : List ℕ) × (identity_in format ≡ Some id)
its_identity Two twins = cc twins
its_identity (Four store device) twins = (store, refl)

-- both ends of a device say so, where the store is found
pub ends_its : (n : ℕ) (image : Image) (d : Dimensions) → dimensions_on n image ≡ Some d → SaysIts d (page image 0) × SaysIts d (page image (n - 1))
ends_its n image d found = by (said_by n image d (found_one n image d found).1)
  where
    by : (first_says n (page image 0) ≡ Some d) ⊎ ((page_zero_fault (page image 0) ≢ None) × (first_says n (page image (n - 1)) ≡ Some d)) → SaysIts d (page image 0) × SaysIts d (page image (n - 1))
    by (inl first) =
        let its = says_its n (page image 0) d first in
        let id = its_identity d.format (says_twins n (page image 0) d first) in
        let last = last_alike (identity_said (page image 0)) (identity_said (page image (n - 1))) id.0 (found_one n image d found).0 (its ∙ id.1) in
        (inr its, ⊎_elim (λ (none : identity_said (page image (n - 1)) ≡ None). inl none) (λ (also : identity_said (page image (n - 1)) ≡ Some id.0). inr (also ∙ sym id.1)) last)
    by (inr last) = (inl (damaged_unsaid (page image 0) last.0), inr (says_its n (page image (n - 1)) d last.1))

pub its_one : (n : ℕ) (image : Image) (d : Dimensions) → SaysIts d (page image 0) → SaysIts d (page image (n - 1)) → IsOfOne n image
its_one n image d first last = both_one n image (identity_in d.format) first last
