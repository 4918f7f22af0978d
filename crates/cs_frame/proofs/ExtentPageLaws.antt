-- A page that spells pointers and generations of extents, the whole superblock's or a section's: what its tests say,
-- and that they pass where it was written.
use Rattle.std.proofs.Common.{◌≡◌, ◌≢◌, ℕ, ◌+◌, ◌-◌, ◌*◌, ◌/◌, ◌≤◌, ◌<◌, ◌^◌, true, Bool, List, [], ◌∷◌, ◌++◌, length, take, drop, map, slice_index, codes, Option, None, Some, ne_eqb, refl, sym, ap, subst, ◌∙◌, arith, append_assoc, ◌&&◌, nat_le, nat_lt, ◌==◌, bytes_eq}
use Rattle.std.specs.List.{AllByRecursion, list_all}
use Rattle.std.specs.Simd.{first_chunks}
use Rattle.std.proofs.lemmas.Bool.{and_parts, and_from, eqb-true, leb-true, ltb-true, eq-eqb, le-leb, lt-ltb}
use Rattle.std.proofs.lemmas.List.{take_at, take-take, take_all, get_or-take, length-map}
use Rattle.std.proofs.lemmas.List.Folds.{list_all-map}
use Rattle.byteorder.specs.Endian.{big_bytes}
use Rattle.sha2.specs.Sha256.{sha256}
use Rattle.cs_frame.specs.declared.faults.FormatFault.{FormatFault}
use Rattle.cs_frame.specs.declared.faults.FormatFault.TheVariants.{BadMagic, BadDigest, BadLength, BadPadding, BadVersion, OutOfMemory}
use Rattle.cs_frame.specs.Bytes.{IsBytes, IsPage, all_zero, field, number, zeros}
use Rattle.cs_frame.specs.Faults.{first_fault, unless}
use Rattle.cs_frame.specs.Pages.{padded, sealed, digest_test, digit_test, magic_test, padding_test}
use Rattle.cs_frame.specs.Pointers.{FitsExtent, extent_in, extents_from, pointers_test, spelled_extent, spelled_extents, superblock_range_test}
use Rattle.cs_frame.proofs.Fields.{after_field, field_2, field_4, field_8, number_at, number_below, take_more, length-field, IsBytes-field}
use Rattle.cs_frame.proofs.Pieces.{AllByRecursion-map, AllByRecursion-and, each_piece, length-first_chunks, length-spelled, read_pieces, spelled_pieces}
use Rattle.cs_frame.proofs.TestLaws.{Passes, fails_second, no_memory, passed, and_passes, no_test, same_bytes, equal_bytes, all_true, true_all}
use Rattle.cs_frame.proofs.PageLaws.{digest_of_padded, four_bytes, zeros_of_padded}

-- ---- pointers and generations

-- six bytes each
pub length-spelled_extents : (es : List (ℕ × ℕ)) → length (spelled_extents es) ≡ 6 * length es
length-spelled_extents es = length-spelled spelled_extent extent_in 6 (λ e. refl) es

-- an extent is read from what spells it
extent_in-spelled : (pages : ℕ) → pages < 2 ^ 16 → (e : ℕ × ℕ) → FitsExtent pages e → extent_in (spelled_extent e) ≡ e
extent_in-spelled pages small e fits =
    let bytes = spelled_extent e in
    let pointer : number 0 2 bytes ≡ e.0 = number_at bytes (big_bytes 4 e.1) 0 2 2 e.0 refl refl refl (omega (arith, fits.pointer)) in
    let generation : number 2 6 bytes ≡ e.1 = number_at bytes [] 2 6 4 e.1 refl refl refl (omega (arith, fits.generation)) in
    λ i. (pointer i, generation i)

-- six bytes are spelled by the extent read from them
spelled-extent_in : (bytes : List ℕ) → IsBytes bytes → length bytes ≡ 6 → spelled_extent (extent_in bytes) ≡ bytes
spelled-extent_in bytes are long =
    let two : take 2 bytes ≡ big_bytes 2 (number 0 2 bytes) = field_2 bytes 0 2 refl (omega arith) are in
    let six : take 6 bytes ≡ spelled_extent (extent_in bytes) = take_more bytes _ _ 2 6 (omega arith) two (field_4 bytes 2 6 refl (omega arith) are) in
    sym six ∙ take_all 6 bytes (omega arith)

-- bytes in pieces of 6 are spelled by the extents read from them
spelled-extents_from : (count : ℕ) (bytes : List ℕ) → IsBytes bytes → length bytes ≡ 6 * count → spelled_extents (extents_from bytes) ≡ bytes
spelled-extents_from count bytes are long =
    let pieces : length bytes / 6 ≡ count = omega arith in
    ap (λ (n : ℕ). spelled_extents (map extent_in (first_chunks 6 n bytes))) pieces
    ∙ spelled_pieces spelled_extent extent_in 6 count bytes (each_piece _ 6 count bytes spelled-extent_in are long) long

-- extents are read from what spells them
pub extents_from-spelled : (pages : ℕ) → pages < 2 ^ 16 → (es : List (ℕ × ℕ)) → AllByRecursion (FitsExtent pages) es → extents_from (spelled_extents es) ≡ es
extents_from-spelled pages small es fits =
    let pieces : length (spelled_extents es) / 6 ≡ length es = omega (arith, length-spelled_extents es) in
    ap (λ (n : ℕ). map extent_in (first_chunks 6 n (spelled_extents es))) pieces
    ∙ read_pieces spelled_extent extent_in 6 (FitsExtent pages) (λ e. refl) (extent_in-spelled pages small) es fits

-- so many are read
length-extents_from : (count : ℕ) (bytes : List ℕ) → length bytes ≡ 6 * count → length (extents_from bytes) ≡ count
length-extents_from count bytes long =
    let pieces : length bytes / 6 ≡ count = omega arith in
    length-map (first_chunks 6 (length bytes / 6) bytes) extent_in ∙ length-first_chunks 6 (length bytes / 6) bytes ∙ pieces

-- the generations that are read fit
generations_fit : (count : ℕ) (bytes : List ℕ) → IsBytes bytes → length bytes ≡ 6 * count → AllByRecursion (λ (e : ℕ × ℕ). e.1 < 2 ^ 32) (extents_from bytes)
generations_fit count bytes are long =
    let pieces : length bytes / 6 ≡ count = omega arith in
    let each = each_piece (λ (piece : List ℕ). number 2 6 piece < 2 ^ 32) 6 count bytes (λ piece is n. number_below piece 2 6 is) are long in
    subst (λ (n : ℕ). AllByRecursion (λ (e : ℕ × ℕ). e.1 < 2 ^ 32) (map extent_in (first_chunks 6 n bytes))) (sym pieces) (AllByRecursion-map (λ (e : ℕ × ℕ). e.1 < 2 ^ 32) extent_in (first_chunks 6 count bytes) each)

-- what bytes of a page spell
pub record AreRead (page : List ℕ) (pages start end count : ℕ) : Type 0 where
  pub counted : length (extents_from (field start end page)) ≡ count
  pub spelled : spelled_extents (extents_from (field start end page)) ≡ field start end page
  pub each : AllByRecursion (FitsExtent pages) (extents_from (field start end page))

pub are_read : (page : List ℕ) (pages start end count : ℕ) → IsPage page → start + 6 * count ≡ end → end ≤ 4096
    → AllByRecursion (λ (e : ℕ × ℕ). e.0 ≤ pages) (extents_from (field start end page)) → AreRead page pages start end count
are_read page pages start end count p at inside pointers =
    let part : List ℕ = field start end page in
    let size = p.size in
    let are : IsBytes part = IsBytes-field page start end p.bytes in
    let long : length part ≡ 6 * count = length-field page start end (omega arith) (omega arith) ∙ omega arith in
    record {
      counted = length-extents_from count part long;
      spelled = spelled-extents_from count part are long;
      each = AllByRecursion-and _ _ _ (λ e below fits. record { pointer = below; generation = fits }) (extents_from part) pointers (generations_fit count part are long);
    }

-- ---- the tests of such a page

-- in order, where the numbers of its head are tested as counts says
abbrev pub tests_of : (page : List ℕ) (digit : ℕ) (counts : Bool) (end : ℕ) (extents : List (ℕ × ℕ)) → List (Option FormatFault)
tests_of page digit counts end extents =
    magic_test (codes "CSS") page
    ∷ digit_test digit page
    ∷ unless counts BadLength
    ∷ digest_test end page
    ∷ superblock_range_test page
    ∷ pointers_test (number 14 16 page) extents
    ∷ padding_test (end + 32) page
    ∷ []

-- what they say
pub record IsSound (page : List ℕ) (digit : ℕ) (counts : Bool) (end : ℕ) (extents : List (ℕ × ℕ)) : Type 0 where
  pub magic : take 4 page ≡ codes "CSS" ++ digit ∷ []
  pub counted : counts ≡ true
  pub digest : field end (end + 32) page ≡ sha256 (take end page)
  pub first_version : 1 ≤ number 4 12 page
  pub last_version : number 4 12 page < 2 ^ 63
  pub pointers : AllByRecursion (λ (e : ℕ × ℕ). e.0 ≤ number 14 16 page) extents
  pub padding : all_zero (drop (end + 32) page) ≡ true

pub sound : (page : List ℕ) (digit : ℕ) (counts : Bool) (end : ℕ) (extents : List (ℕ × ℕ)) → length page ≡ 4096 → first_fault (tests_of page digit counts end extents) ≡ None → IsSound page digit counts end extents
sound page digit counts end extents size h =
    let p = passed (bytes_eq (field 0 3 page) (codes "CSS")) BadMagic (digit_test digit page ∷ unless counts BadLength ∷ digest_test end page ∷ superblock_range_test page ∷ pointers_test (number 14 16 page) extents ∷ padding_test (end + 32) page ∷ []) h in
    let q = passed (slice_index page 3 == digit) BadVersion _ p.1 in
    let r = passed counts BadLength _ q.1 in
    let s = passed (bytes_eq (field end (end + 32) page) (sha256 (take end page))) BadDigest _ r.1 in
    let t = passed (nat_le 1 (number 4 12 page) && nat_lt (number 4 12 page) (2 ^ 63)) BadVersion _ s.1 in
    let u = passed (list_all (λ (e : ℕ × ℕ). nat_le e.0 (number 14 16 page)) extents) BadLength _ t.1 in
    let z = passed (all_zero (drop (end + 32) page)) BadPadding _ u.1 in
    let range = and_parts _ _ t.0 in
    record {
      magic = four_bytes page (codes "CSS") digit (omega arith) (same_bytes _ _ p.0) (eqb-true _ _ q.0);
      counted = r.0;
      digest = same_bytes _ _ s.0;
      first_version = leb-true _ _ range.0;
      last_version = ltb-true _ _ range.1;
      pointers = all_true (λ (e : ℕ × ℕ). nat_le e.0 (number 14 16 page)) (λ (e : ℕ × ℕ). e.0 ≤ number 14 16 page) (λ e. leb-true e.0 (number 14 16 page)) extents u.0;
      padding = z.0;
    }

-- where they pass the fourth byte is the digit
pub fourth_byte : (page : List ℕ) (digit : ℕ) (counts : Bool) (end : ℕ) (extents : List (ℕ × ℕ)) → first_fault (tests_of page digit counts end extents) ≡ None → slice_index page 3 ≡ digit
fourth_byte page digit counts end extents h =
    let p = passed (bytes_eq (field 0 3 page) (codes "CSS")) BadMagic (digit_test digit page ∷ unless counts BadLength ∷ digest_test end page ∷ superblock_range_test page ∷ pointers_test (number 14 16 page) extents ∷ padding_test (end + 32) page ∷ []) h in
    let q = passed (slice_index page 3 == digit) BadVersion _ p.1 in
    eqb-true _ _ q.0

-- and the first three bytes are those of each format
pub first_bytes : (page : List ℕ) (digit : ℕ) (counts : Bool) (end : ℕ) (extents : List (ℕ × ℕ)) → first_fault (tests_of page digit counts end extents) ≡ None → bytes_eq (field 0 3 page) (codes "CSS") ≡ true
first_bytes page digit counts end extents h =
    (passed (bytes_eq (field 0 3 page) (codes "CSS")) BadMagic (digit_test digit page ∷ unless counts BadLength ∷ digest_test end page ∷ superblock_range_test page ∷ pointers_test (number 14 16 page) extents ∷ padding_test (end + 32) page ∷ []) h).0

-- where those stand and the fourth byte is another digit the page is refused for that
pub other_digit : (page : List ℕ) (digit : ℕ) (counts : Bool) (end : ℕ) (extents : List (ℕ × ℕ)) → bytes_eq (field 0 3 page) (codes "CSS") ≡ true → slice_index page 3 ≢ digit
    → first_fault (tests_of page digit counts end extents) ≡ Some BadVersion
other_digit page digit counts end extents magic other =
    fails_second (bytes_eq (field 0 3 page) (codes "CSS")) (slice_index page 3 == digit) BadMagic BadVersion
    (unless counts BadLength ∷ digest_test end page ∷ superblock_range_test page ∷ pointers_test (number 14 16 page) extents ∷ padding_test (end + 32) page ∷ []) magic (ne_eqb (slice_index page 3) digit other)

-- memory that ran out is none of their faults
pub never_memory : (page : List ℕ) (digit : ℕ) (counts : Bool) (end : ℕ) (extents : List (ℕ × ℕ)) → first_fault (tests_of page digit counts end extents) ≡ Some OutOfMemory → ⊥
never_memory page digit counts end extents h =
    let padding = no_memory (all_zero (drop (end + 32) page)) BadPadding [] (λ e. cc) (λ e. cc) in
    let pointers = no_memory (list_all (λ (e : ℕ × ℕ). nat_le e.0 (number 14 16 page)) extents) BadLength (padding_test (end + 32) page ∷ []) (λ e. cc) padding in
    let range = no_memory (nat_le 1 (number 4 12 page) && nat_lt (number 4 12 page) (2 ^ 63)) BadVersion _ (λ e. cc) pointers in
    let digest = no_memory (bytes_eq (field end (end + 32) page) (sha256 (take end page))) BadDigest _ (λ e. cc) range in
    let counted = no_memory counts BadLength _ (λ e. cc) digest in
    let fourth = no_memory (slice_index page 3 == digit) BadVersion _ (λ e. cc) counted in
    no_memory (bytes_eq (field 0 3 page) (codes "CSS")) BadMagic _ (λ e. cc) fourth h

-- and where that holds they pass
pub sound_passes : (page : List ℕ) (digit : ℕ) (counts : Bool) (end : ℕ) (extents : List (ℕ × ℕ)) → IsSound page digit counts end extents → first_fault (tests_of page digit counts end extents) ≡ None
sound_passes page digit counts end extents it =
    let all : Passes (tests_of page digit counts end extents) =
    and_passes _ BadMagic _ (equal_bytes (field 0 3 page) (codes "CSS") (sym (take-take 3 4 page (omega arith)) ∙ ap (take 3) it.magic))
    (and_passes _ BadVersion _ (eq-eqb (slice_index page 3) digit (sym (get_or-take 4 page 3 0 (omega arith)) ∙ ap (λ (xs : List ℕ). slice_index xs 3) it.magic))
    (and_passes _ BadLength _ it.counted
    (and_passes _ BadDigest _ (equal_bytes _ _ it.digest)
    (and_passes _ BadVersion _ (and_from _ _ (le-leb _ _ it.first_version) (lt-ltb _ _ it.last_version))
    (and_passes _ BadLength _ (true_all (λ (e : ℕ × ℕ). nat_le e.0 (number 14 16 page)) (λ (e : ℕ × ℕ). e.0 ≤ number 14 16 page) (λ e. le-leb e.0 (number 14 16 page)) extents it.pointers)
    (and_passes _ BadPadding _ it.padding no_test)))))) in
    all.none

-- the first 16 bytes, spelled by what is read from them
pub head_is_spelled : (page magic : List ℕ) → IsPage page → take 4 page ≡ magic
    → take 16 page ≡ magic ++ big_bytes 8 (number 4 12 page) ++ big_bytes 2 (number 12 14 page) ++ big_bytes 2 (number 14 16 page)
head_is_spelled page magic p four =
    let size = p.size in
    let version : take 12 page ≡ magic ++ big_bytes 8 (number 4 12 page) = take_more page _ _ 4 12 (omega arith) four (field_8 page 4 12 refl (omega arith) p.bytes) in
    let count : take 14 page ≡ magic ++ big_bytes 8 (number 4 12 page) ++ big_bytes 2 (number 12 14 page) = take_more page _ _ 12 14 (omega arith) version (field_2 page 12 14 refl (omega arith) p.bytes) in
    take_more page _ _ 14 16 (omega arith) count (field_2 page 14 16 refl (omega arith) p.bytes)

-- ---- what is spelled

-- a list of five parts, from the left
from_left : (m v c k es rest : List ℕ) → m ++ v ++ c ++ k ++ es ++ rest ≡ m ++ (v ++ (c ++ (k ++ (es ++ rest))))
from_left m v c k es rest = simp append_assoc

-- where the parts of a page stand
record HasParts (page m v c k es rest : List ℕ) : Type 0 where
  front : take 4 page ≡ m
  at_version : drop 4 page ≡ v ++ (c ++ (k ++ (es ++ rest)))
  at_count : drop 12 page ≡ c ++ (k ++ (es ++ rest))
  at_pages : drop 14 page ≡ k ++ (es ++ rest)
  at_extents : drop 16 page ≡ es ++ rest

parts : (page m v c k es rest : List ℕ) → page ≡ m ++ v ++ c ++ k ++ es ++ rest → length m ≡ 4 → length v ≡ 8 → length c ≡ 2 → length k ≡ 2 → HasParts page m v c k es rest
parts page m v c k es rest e four eight two two' =
    let all : drop 0 page ≡ m ++ (v ++ (c ++ (k ++ (es ++ rest)))) = e ∙ from_left m v c k es rest in
    let version : drop 4 page ≡ v ++ (c ++ (k ++ (es ++ rest))) = after_field page m _ 0 4 all (omega arith) in
    let count : drop 12 page ≡ c ++ (k ++ (es ++ rest)) = after_field page v _ 4 12 version (omega arith) in
    let pages : drop 14 page ≡ k ++ (es ++ rest) = after_field page c _ 12 14 count (omega arith) in
    record {
      front = ap (take 4) all ∙ take_at m _ 4 four;
      at_version = version;
      at_count = count;
      at_pages = pages;
      at_extents = after_field page k (es ++ rest) 14 16 pages (omega arith);
    }

-- such a page: what begins with these bytes, sealed and padded
module _ (digit version count pages : ℕ) (tail text : List ℕ)
    (is : text ≡ codes "CSS" ++ digit ∷ [] ++ big_bytes 8 version ++ big_bytes 2 count ++ big_bytes 2 pages ++ tail)
    (short : length text + 32 ≤ 4096) where
  here : HasParts (padded (sealed text)) (codes "CSS" ++ digit ∷ []) (big_bytes 8 version) (big_bytes 2 count) (big_bytes 2 pages) tail (sha256 text ++ zeros (4096 - length (sealed text)))
  here = parts (padded (sealed text)) (codes "CSS" ++ digit ∷ []) (big_bytes 8 version) (big_bytes 2 count) (big_bytes 2 pages) tail _
      (append_assoc text (sha256 text) (zeros (4096 - length (sealed text))) ∙ ap (λ (xs : List ℕ). xs ++ (sha256 text ++ zeros (4096 - length (sealed text)))) is) refl refl refl refl

  -- what is spelled is read again
  pub version_again : version < 2 ^ 63 → number 4 12 (padded (sealed text)) ≡ version
  version_again small = number_at (padded (sealed text)) _ 4 12 8 version here.at_version refl refl (omega arith)

  pub count_again : count < 2 ^ 16 → number 12 14 (padded (sealed text)) ≡ count
  count_again small = number_at (padded (sealed text)) _ 12 14 2 count here.at_count refl refl (omega arith)

  pub pages_again : pages < 2 ^ 16 → number 14 16 (padded (sealed text)) ≡ pages
  pages_again small = number_at (padded (sealed text)) _ 14 16 2 pages here.at_pages refl refl (omega arith)

  pub tail_again : drop 16 (padded (sealed text)) ≡ tail ++ (sha256 text ++ zeros (4096 - length (sealed text)))
  tail_again = here.at_extents

  -- and is sound
  pub spelled_is_sound : (counts : Bool) (end : ℕ) (extents read : List (ℕ × ℕ)) → 1 ≤ version → version < 2 ^ 63 → pages < 2 ^ 16 → length text ≡ end → counts ≡ true
      → AllByRecursion (FitsExtent pages) extents → read ≡ extents → IsSound (padded (sealed text)) digit counts end read
  spelled_is_sound counts end extents read first last small at counted each again =
      let v = version_again last in
      record {
        magic = here.front;
        counted = counted;
        digest = digest_of_padded text short end at;
        first_version = omega (arith, v, first);
        last_version = omega (arith, v, last);
        pointers = subst (λ (n : ℕ). AllByRecursion (λ (e : ℕ × ℕ). e.0 ≤ n) read) (sym (pages_again small))
            (subst (λ (es : List (ℕ × ℕ)). AllByRecursion (λ (e : ℕ × ℕ). e.0 ≤ pages) es) (sym again)
            (AllByRecursion-and (FitsExtent pages) (FitsExtent pages) (λ (e : ℕ × ℕ). e.0 ≤ pages) (λ e fits same. fits.pointer) extents each each));
        padding = zeros_of_padded text short end at;
      }

-- what a walk over the pieces of 6 bytes finds
pub pointers_tested : (pages : ℕ) (part : List ℕ) (passes : Bool) → passes ≡ list_all (λ (piece : List ℕ). nat_le (extent_in piece).0 pages) (first_chunks 6 (length part / 6) part)
    → unless passes BadLength ≡ pointers_test pages (extents_from part)
pointers_tested pages part b h =
    ap (λ (t : Bool). unless t BadLength) (h ∙ sym (list_all-map (λ (x : ℕ × ℕ). nat_le x.0 pages) extent_in (first_chunks 6 (length part / 6) part)))
