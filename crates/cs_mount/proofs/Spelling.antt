-- What decoders tell of the pages of a store.
use Rattle.std.proofs.Common.{◌≡◌, ◌≢◌, inl, inr, ◌==◌, ◌-◌, ℕ, Bool, true, false, List, Option, Some, None, Result, Ok, Err, IfOk, if◌then◌else◌, slice_index, refl, sym, ◌∙◌, ap, arith, eq-eqb, subst}
use Rattle.std.proofs.lemmas.Bool.{ne_eqb}
use Rattle.std.proofs.lemmas.Option.{same_Some}
use Rattle.cs_disk.specs.declared.fault.DiskFault.{DiskFault}
use Rattle.cs_disk.specs.Disk.{Image, page}
use Rattle.cs_frame.specs.Bytes.{field, number}
use Rattle.cs_frame.specs.declared.formats.FormatNumber.{FormatNumber}
use Rattle.cs_frame.specs.declared.formats.FormatNumber.TheVariants as of_number
use Rattle.cs_frame.specs.FormatNumbers.{number_in, section_digit}
use Rattle.cs_frame.specs.declared.faults.FormatFault.{FormatFault}
use Rattle.cs_frame.specs.declared.faults.FormatFault.TheVariants.{OutOfMemory}
use Rattle.cs_frame.specs.declared.locators.Locator.{Locator}
use Rattle.cs_frame.specs.Faults.{HasFault}
use Rattle.cs_frame.specs.FirstFormat.{page_zero_fault}
use Rattle.cs_frame.specs.declared.superblocks.Superblock.{Superblock}
use Rattle.cs_frame.specs.Geometries.{Dimensions}
use Rattle.cs_frame.specs.Roots.{SpellsRoot, identity_in, root_fault, root_identity, root_number}
use Rattle.cs_frame.specs.Superblocks.{SpellsSuperblock, format_in, superblock_fault}
use Rattle.cs_frame.proofs.FirstFormatLaws as zeros
use Rattle.cs_frame.proofs.RootLaws as roots
use Rattle.cs_frame.proofs.SuperblockLaws as superblocks
use Rattle.cs_frame.proofs.TestLaws.{equal_bytes, same_bytes}
use Rattle.law_machine.specs.Format.{Format, Four, Two}
use Rattle.cs_reader.specs.Openings.{SpellsFirst}
use Rattle.cs_mount.specs.StorePairs.{IsOnPageZero, said_on, first_says, geometry_of_first, is_of_store, is_root, is_section, last_says, named_by, root_version, section_version, without_fault, zero_or_last}
use Rattle.cs_mount.proofs.Telling.{format_its, its_format, one_by_one, together}

-- a page with a fault spells nothing
pub faulty : {T : Type 0} (result : Result T FormatFault) (found : Option FormatFault) (fault : FormatFault) (n : ℕ) → HasFault result found → fault ≢ OutOfMemory → result ≡ Err fault → 0 ≡ without_fault found n
faulty result found fault n has ne is = sym (ap (λ (o : Option FormatFault). without_fault o n) ((has fault ne).0 is))

-- the identity in a root's page, as a test and as what is read
its_root : (format : Format) (page : List ℕ) → root_identity (number_in format) page ≡ identity_in format → is_root format page ≡ true
its_root Two page is = refl
its_root (Four store device) page is = equal_bytes (field 20 36 page) store (same_Some (field 20 36 page) store is)

root_its : (format : Format) (page : List ℕ) → is_root format page ≡ true → root_identity (number_in format) page ≡ identity_in format
root_its Two page is = refl
root_its (Four store device) page is = ap (λ (l : List ℕ). Some l) (same_bytes (field 20 36 page) store is)

-- the identity that is read, by the format's number
identity_read : (format : Format) (page : List ℕ) (store : Option (List ℕ)) → root_number store ≡ number_in format → root_identity (root_number store) page ≡ store → root_identity (number_in format) page ≡ store
identity_read format page store number is = ap (λ (n : FormatNumber). root_identity n page) (sym number) ∙ is

-- a root that was read is that of the store, or another
pub root_read : (page : List ℕ) (format : Format) (store : Option (List ℕ)) (version commands : ℕ) (runs : List Locator) → SpellsRoot page store version commands runs → root_number store ≡ number_in format → store ≡ identity_in format → version ≡ root_version format page
root_read page format store version commands runs spells number_is same =
    let none = roots.spelled_has_none page store version commands runs spells in
    let read = roots.one_root page store version commands runs spells in
    let its = its_root format page (identity_read format page store number_is read.of_store ∙ same) in
    sym (ap (λ (t : Bool). if t then without_fault (root_fault (number_in format) page) (number 4 12 page) else 0) its
    ∙ ap (λ (n : FormatNumber). without_fault (root_fault n page) (number 4 12 page)) (sym number_is) ∙ ap (λ (o : Option FormatFault). without_fault o (number 4 12 page)) none ∙ read.of_version)

pub another_root : (page : List ℕ) (format : Format) (store : Option (List ℕ)) (version commands : ℕ) (runs : List Locator) → SpellsRoot page store version commands runs → root_number store ≡ number_in format → store ≢ identity_in format → 0 ≡ root_version format page
another_root page format store version commands runs spells same other = by_test (is_root format page) refl
  where
    by_test : (t : Bool) → is_root format page ≡ t → 0 ≡ (if t then without_fault (root_fault (number_in format) page) (number 4 12 page) else 0)
    by_test true its = let read = roots.one_root page store version commands runs spells in absurd (other (sym (identity_read format page store same read.of_store) ∙ root_its format page its))
    by_test false its = refl

-- a root's page with a fault
pub no_root : (format : Format) (page : List ℕ) → 0 ≡ without_fault (root_fault (number_in format) page) (number 4 12 page) → 0 ≡ root_version format page
no_root format page none = both (is_root format page)
  where
    both : (t : Bool) → 0 ≡ (if t then without_fault (root_fault (number_in format) page) (number 4 12 page) else 0)
    both true = none
    both false = refl

-- the format in a section's page, as a test and as what is read
its_store : (format : Format) (page : List ℕ) → format_in (number_in format) page ≡ format → is_of_store format page ≡ true
its_store Two page is = refl
its_store (Four store device) page is = format_its (Four store device) page is

store_its : (format : Format) (page : List ℕ) → is_of_store format page ≡ true → format_in (number_in format) page ≡ format
store_its Two page is = refl
store_its (Four store device) page is = its_format (Four store device) page refl is

module _ (page : List ℕ) (d : Dimensions) (f : Format) (version recorded extents pages sections section j : ℕ) (written : List (ℕ × ℕ)) (spells : SpellsSuperblock page f version recorded extents pages sections section written) (same_number : number_in f ≡ number_in d.format) where
  -- it is this section of the store
  abbrev IsIts : Type 0
  IsIts = (f ≡ d.format) × (extents ≡ d.extents) × (pages ≡ d.pages) × (sections ≡ d.sections) × (section ≡ j)

  format_read : format_in (number_in d.format) page ≡ f
  format_read = ap (λ (n : FormatNumber). format_in n page) (sym same_number) ∙ (superblocks.one_section page f version recorded extents pages sections section written spells).of_format

  numbers : IsIts → is_section d j page ≡ true
  numbers its =
      let read = superblocks.one_section page f version recorded extents pages sections section written spells in
      together d j page (its_store d.format page (format_read ∙ its.0)) (read.of_extents ∙ its.1) (read.of_pages ∙ its.2) (read.of_sections ∙ its.3) (read.of_section ∙ its.4)

  numbers_back : is_section d j page ≡ true → IsIts
  numbers_back test =
      let read = superblocks.one_section page f version recorded extents pages sections section written spells in
      let are = one_by_one d j page test in
      (sym format_read ∙ store_its d.format page are.of_store, sym read.of_extents ∙ are.extents, sym read.of_pages ∙ are.pages, sym read.of_sections ∙ are.sections, sym read.of_section ∙ are.section)

  -- a section that was read, and is that of the store or another
  pub section_read : IsIts → version ≡ section_version d j page
  section_read its =
      let none = superblocks.spelled_has_none page f version recorded extents pages sections section written spells in
      let read = superblocks.one_section page f version recorded extents pages sections section written spells in
      sym (ap (λ (t : Bool). if t then without_fault (superblock_fault (number_in d.format) page) (number 4 12 page) else 0) (numbers its)
      ∙ ap (λ (n : FormatNumber). without_fault (superblock_fault n page) (number 4 12 page)) (sym same_number) ∙ ap (λ (o : Option FormatFault). without_fault o (number 4 12 page)) none ∙ read.of_version)

  pub another_read : (IsIts → ⊥) → 0 ≡ section_version d j page
  another_read other = by_test (is_section d j page) refl
    where
      by_test : (t : Bool) → is_section d j page ≡ t → 0 ≡ (if t then without_fault (superblock_fault (number_in d.format) page) (number 4 12 page) else 0)
      by_test true test = absurd (other (numbers_back test))
      by_test false test = refl

-- a section's page with a fault
pub no_section : (d : Dimensions) (j : ℕ) (page : List ℕ) → 0 ≡ without_fault (superblock_fault (number_in d.format) page) (number 4 12 page) → 0 ≡ section_version d j page
no_section d j page none = both (is_section d j page)
  where
    both : (t : Bool) → 0 ≡ (if t then without_fault (superblock_fault (number_in d.format) page) (number 4 12 page) else 0)
    both true = none
    both false = refl

-- no version, where a page has a fault
pub none_is : (result : Result ℕ DiskFault) (fault : FormatFault) (n : ℕ) → IfOk result (λ found. (found ≡ 0) × (fault ≢ OutOfMemory)) → (fault ≢ OutOfMemory → 0 ≡ n) → IfOk result (λ found. found ≡ n)
none_is (Ok found) fault n is zero = is.0 ∙ zero is.1
none_is (Err refused) fault n is zero = tt

-- ---- the geometry

-- what a section that page 0 or the last page spells says
pub section_says : (pages : ℕ) (bytes : List ℕ) (f : Format) (version recorded extents extent_pages sections section : ℕ) (written : List (ℕ × ℕ)) → SpellsSuperblock bytes f version recorded extents extent_pages sections section written
    → number_in f ≡ of_number.Four → geometry_of_first pages f extents extent_pages sections section ≡ named_by pages bytes
section_says pages bytes f version recorded extents extent_pages sections section written spells four =
    let read = superblocks.one_section bytes f version recorded extents extent_pages sections section written spells in
    let format : format_in of_number.Four bytes ≡ f = ap (λ (n : FormatNumber). format_in n bytes) (sym four) ∙ read.of_format in
    ap (λ g. geometry_of_first pages g extents extent_pages sections section) (sym format)
    ∙ ap (λ n. geometry_of_first pages (format_in of_number.Four bytes) n extent_pages sections section) (sym read.of_extents) ∙ ap (λ n. geometry_of_first pages (format_in of_number.Four bytes) (number 12 14 bytes) n sections section) (sym read.of_pages)
    ∙ ap (λ n. geometry_of_first pages (format_in of_number.Four bytes) (number 12 14 bytes) (number 14 16 bytes) n section) (sym read.of_sections)
    ∙ ap (λ n. geometry_of_first pages (format_in of_number.Four bytes) (number 12 14 bytes) (number 14 16 bytes) (slice_index bytes 16) n) (sym read.of_section)

-- format 2 names none
other_named : (pages : ℕ) (f : Format) (extents extent_pages sections section : ℕ) → f ≡ Two → geometry_of_first pages f extents extent_pages sections section ≡ None
other_named pages f extents extent_pages sections section two = ap (λ g. geometry_of_first pages g extents extent_pages sections section) two

zero_without : (pages : ℕ) (bytes : List ℕ) (last : Option Dimensions) → page_zero_fault bytes ≡ None
    → zero_or_last pages (page_zero_fault bytes) bytes last ≡ (if slice_index bytes 3 == 52 then named_by pages bytes else None)
zero_without pages bytes last none = ap (λ (o : Option FormatFault). zero_or_last pages o bytes last) none

by_digit : (pages : ℕ) (bytes : List ℕ) (f : Format) (extents extent_pages sections section : ℕ) → slice_index bytes 3 ≡ section_digit (number_in f)
    → (number_in f ≡ of_number.Four → geometry_of_first pages f extents extent_pages sections section ≡ named_by pages bytes)
    → geometry_of_first pages f extents extent_pages sections section ≡ (if slice_index bytes 3 == 52 then named_by pages bytes else None)
by_digit pages bytes Two extents extent_pages sections section fourth is =
    other_named pages Two extents extent_pages sections section refl ∙ sym (ap (λ (b : Bool). if b then named_by pages bytes else None) (ne_eqb (slice_index bytes 3) 52 (λ e. omega (arith, e, fourth))))
by_digit pages bytes (Four store device) extents extent_pages sections section fourth is =
    is refl ∙ sym (ap (λ (b : Bool). if b then named_by pages bytes else None) (eq-eqb (slice_index bytes 3) 52 fourth))

-- what page 0 says, where it spells a section: that has no fault
pub zero_reads : (pages : ℕ) (bytes : List ℕ) (last : Option Dimensions) (it : Superblock) → SpellsFirst bytes it
    → (page_zero_fault bytes ≡ None) × (geometry_of_first pages it.format it.extent_count it.pages it.sections it.section ≡ zero_or_last pages (page_zero_fault bytes) bytes last)
zero_reads pages bytes last it (inl spells) =
    let has_none = superblocks.spelled_has_none bytes it.format it.version it.recorded it.extent_count it.pages it.sections it.section it.extents.items spells in
    let none = zeros.zero_of_section (number_in it.format) bytes has_none in
    let read = superblocks.one_section bytes it.format it.version it.recorded it.extent_count it.pages it.sections it.section it.extents.items spells in
    let says = section_says pages bytes it.format it.version it.recorded it.extent_count it.pages it.sections it.section it.extents.items spells in
    (none, by_digit pages bytes it.format it.extent_count it.pages it.sections it.section read.of_digit says ∙ sym (zero_without pages bytes last none))
zero_reads pages bytes last it (inr first) =
    let has_none = zeros.spelled_has_none bytes it.version it.pages it.extents.items first.spells in
    let none = zeros.zero_of_first bytes has_none in
    let fourth = zeros.fourth_is bytes has_none in
    let other = other_named pages it.format it.extent_count it.pages it.sections it.section first.written_in in
    (none, other ∙ sym (ap (λ (b : Bool). if b then named_by pages bytes else None) (ne_eqb (slice_index bytes 3) 52 (λ e. omega (arith, e, fourth)))) ∙ sym (zero_without pages bytes last none))

-- and where it spells none
pub zero_damaged : (pages : ℕ) (bytes : List ℕ) (last : Option Dimensions) → page_zero_fault bytes ≢ None → last ≡ zero_or_last pages (page_zero_fault bytes) bytes last
zero_damaged pages bytes last damaged = by_fault (page_zero_fault bytes) damaged
  where
    by_fault : (o : Option FormatFault) → o ≢ None → last ≡ zero_or_last pages o bytes last
    by_fault None not = absurd (not refl)
    by_fault (Some fault) not = refl

-- so what the last page says is found, by a read after that of page 0
pub zero_on : (result : Result (Option Dimensions) DiskFault) (n pages : ℕ) (image after : Image) → n ≡ pages → after ≡ image → page_zero_fault (page image 0) ≢ None
    → IfOk result (λ found. found ≡ first_says n (page after (n - 1))) → IfOk result (λ found. found ≡ said_on pages image)
zero_on (Ok found) n pages image after count same damaged is =
    is ∙ ap (λ (i : Image). first_says n (page i (n - 1))) same ∙ zero_damaged n (page image 0) (first_says n (page image (n - 1))) damaged ∙ ap (λ (k : ℕ). said_on k image) count
zero_on (Err refused) n pages image after count same damaged is = tt

-- what the last page says, where it spells one
pub last_reads : (pages : ℕ) (bytes : List ℕ) (f : Format) (version recorded extents extent_pages sections section : ℕ) (written : List (ℕ × ℕ)) → number_in f ≡ of_number.Four → SpellsSuperblock bytes f version recorded extents extent_pages sections section written
    → geometry_of_first pages f extents extent_pages sections section ≡ last_says pages (superblock_fault of_number.Four bytes) bytes
last_reads pages bytes f version recorded extents extent_pages sections section written four spells =
    let none = superblocks.spelled_has_none bytes f version recorded extents extent_pages sections section written spells in
    let whole : superblock_fault of_number.Four bytes ≡ None = ap (λ (n : FormatNumber). superblock_fault n bytes) (sym four) ∙ none in
    section_says pages bytes f version recorded extents extent_pages sections section written spells four
    ∙ sym (ap (λ (o : Option FormatFault). last_says pages o bytes) whole)

-- bytes with a fault spell nothing
module _ {T : Type 0} (result : Result T FormatFault) (bytes : List ℕ) (fault : FormatFault) (is : result ≡ Err fault) where
  pub first_faulty : (it : Result (Option Superblock) DiskFault) → HasFault result (page_zero_fault bytes) → IfOk it (λ first. (first ≡ None) × (fault ≢ OutOfMemory)) → IfOk it (IsOnPageZero bytes)
  first_faulty (Ok first) has none = subst (IsOnPageZero bytes) (sym none.0) (λ whole. let clash : None ≡ Some fault = sym whole ∙ (has fault none.1).0 is in cc clash)
  first_faulty (Err refused) has none = tt

  pub last_faulty : (pages : ℕ) (it : Result (Option Dimensions) DiskFault) → HasFault result (superblock_fault of_number.Four bytes) → IfOk it (λ found. (found ≡ None) × (fault ≢ OutOfMemory)) → IfOk it (λ found. found ≡ first_says pages bytes)
  last_faulty pages (Ok found) has none = none.0 ∙ sym (ap (λ (o : Option FormatFault). last_says pages o bytes) ((has fault none.1).0 is))
  last_faulty pages (Err refused) has none = tt
