-- A page whose first bytes are those of a page of format 4 is refused in any other format.
use Rattle.std.proofs.Common.{◌≡◌, ℕ, ◌<◌, List, take, slice_index, codes, true, None, Some, bytes_eq, sym, ap, ◌∙◌, arith}
use Rattle.std.proofs.lemmas.List.{get_or-take, take-take}
use Rattle.cs_frame.specs.declared.faults.FormatFault.TheVariants.{BadVersion}
use Rattle.cs_frame.specs.declared.formats.FormatNumber.TheVariants as of_number
use Rattle.cs_frame.specs.Bytes.{field}
use Rattle.cs_frame.specs.FirstFormat.{first_format_fault}
use Rattle.cs_frame.specs.Frames.{first_page, frame_fault}
use Rattle.cs_frame.specs.Roots.{root_fault}
use Rattle.cs_frame.specs.Superblocks.{superblock_fault}
use Rattle.cs_frame.proofs.FirstFormatLaws.{first_refused}
use Rattle.cs_frame.proofs.FrameLaws.{fourth_is as frame_fourth, frame_magic, refused_as as frame_refused}
use Rattle.cs_frame.proofs.RootLaws.{fourth_is as root_fourth, refused_as as root_refused, root_magic}
use Rattle.cs_frame.proofs.SuperblockLaws.{fourth_is, refused_as, same_magic}

-- a byte below 512 is the same
same_byte : (torn page : List ℕ) (i : ℕ) → i < 512 → take 512 torn ≡ take 512 page → slice_index torn i ≡ slice_index page i
same_byte torn page i low same =
    sym (get_or-take 512 torn i 0 low) ∙ ap (λ (xs : List ℕ). slice_index xs i) same ∙ get_or-take 512 page i 0 low

-- so are the first three
same_three : (torn page : List ℕ) → take 512 torn ≡ take 512 page → take 3 torn ≡ take 3 page
same_three torn page same = sym (take-take 3 512 torn (omega arith)) ∙ ap (take 3) same ∙ take-take 3 512 page (omega arith)

magic_stays : (magic torn page : List ℕ) → take 512 torn ≡ take 512 page → bytes_eq (field 0 3 page) magic ≡ true → bytes_eq (field 0 3 torn) magic ≡ true
magic_stays magic torn page same h = ap (λ (xs : List ℕ). bytes_eq xs magic) (same_three torn page same) ∙ h

pub torn_section : (page torn : List ℕ) → superblock_fault of_number.Four page ≡ None → take 512 torn ≡ take 512 page
    → (superblock_fault of_number.Two torn ≡ Some BadVersion) × (first_format_fault torn ≡ Some BadVersion)
torn_section page torn h same =
    let four : slice_index torn 3 ≡ 52 = same_byte torn page 3 (omega arith) same ∙ fourth_is of_number.Four page h in
    let magic = magic_stays (codes "CSS") torn page same (same_magic of_number.Four page h) in
    (refused_as of_number.Two torn magic (λ two. omega (arith, four, two)), first_refused torn magic (λ one. omega (arith, four, one)))

pub torn_root : (page torn : List ℕ) → root_fault of_number.Four page ≡ None → take 512 torn ≡ take 512 page → root_fault of_number.Two torn ≡ Some BadVersion
torn_root page torn h same =
    let four : slice_index torn 3 ≡ 52 = same_byte torn page 3 (omega arith) same ∙ root_fourth of_number.Four page h in
    root_refused of_number.Two torn (magic_stays (codes "CSR") torn page same (root_magic of_number.Four page h)) (λ one. omega (arith, four, one))

pub torn_frame : (kind other_kind : ℕ) (pages torn : List (List ℕ)) → frame_fault of_number.Four kind pages ≡ None
    → take 512 (first_page torn) ≡ take 512 (first_page pages) → frame_fault of_number.Two other_kind torn ≡ Some BadVersion
torn_frame kind other_kind pages torn h same =
    let four : slice_index (first_page torn) 3 ≡ 52 = same_byte (first_page torn) (first_page pages) 3 (omega arith) same ∙ frame_fourth of_number.Four kind pages h in
    frame_refused of_number.Two other_kind torn
    (magic_stays (codes "CSF") (first_page torn) (first_page pages) same (frame_magic of_number.Four kind pages h)) (λ one. omega (arith, four, one))
