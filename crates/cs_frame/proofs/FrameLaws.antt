-- Pages without a fault as a frame are spelled, and a frame that stands has no fault and is read as it was.
use Rattle.std.proofs.Common.{◌≡◌, ℕ, zero, suc, ◌+◌, ◌-◌, ◌*◌, ◌≤◌, ◌<◌, ◌^◌, true, Bool, List, [], ◌∷◌, ◌++◌, length, take, drop, slice_index, codes, None, Some, Option, refl, sym, ap, subst, ◌∙◌, arith, append_assoc, append-nil, length-append, nat_le, ne_eqb, ◌==◌, ◌≢◌, bytes_eq}
use Rattle.std.specs.List.{AllByRecursion, flat_map}
use Rattle.std.specs.Simd.{first_chunks}
use Rattle.std.proofs.lemmas.Bool.{eqb-true, leb-true, eq-eqb, le-leb}
use Rattle.std.proofs.lemmas.List.{take_at, take-take, take-append-drop, get_or-take, length-take, length-take-le, length-drop, length-replicate}
use Rattle.byteorder.specs.Endian.{big_bytes, big_number}
use Rattle.sha2.specs.Sha256.{sha256}
use Rattle.sha2.proofs.Facts256.{length-sha256}
use Rattle.cs_frame.specs.declared.faults.FormatFault.{FormatFault}
use Rattle.cs_frame.specs.declared.faults.FormatFault.TheVariants.{BadMagic, BadDigest, BadLength, BadPadding, BadVersion}
use Rattle.cs_frame.specs.declared.formats.FormatNumber.{FormatNumber}
use Rattle.cs_frame.specs.FormatNumbers.{page_digit}
use Rattle.cs_frame.specs.Bytes.{EachHas, IsBytes, all_zero, field, number, zeros}
use Rattle.cs_frame.specs.Faults.{first_fault, unless}
use Rattle.cs_frame.specs.Pages.{digit_test, magic_test}
use Rattle.cs_frame.specs.Frames.{SpellsFrame, bytes_in, first_page, frame_bytes, frame_count, frame_fault, frame_fields, frame_tests, header_fault, header_tests, kind_test, page_count, payload_in, payload_length, payload_test, rest_test, room_test, spelled_frame}
use Rattle.cs_frame.proofs.Fields.{after_field, byte_at_front, field_1, field_4, field_at, field_of_take, length-field, number_at, number_below, take_more}
use Rattle.cs_frame.proofs.Pieces.{chunks_of_joined, joined_chunks, length-first_chunks, length-joined}
use Rattle.cs_frame.proofs.TestLaws.{Passes, fails_second, passed, and_passes, no_test, same_bytes, equal_bytes, all_zeros, all_zero-zeros}
use Rattle.cs_frame.proofs.PageLaws.{four_bytes}
use Rattle.cs_frame.proofs.RootLaws.{one_digit}

-- a frame takes a page at least
some_page : (n : ℕ) → 1 ≤ page_count n
some_page n = omega arith

-- its pages have room for the header and the payload
roomy : (n : ℕ) → 41 + n ≤ 4096 * page_count n
roomy n = omega arith

-- as many pages as there are taken
each_of_taken : (size n : ℕ) (lists : List (List ℕ)) → EachHas size lists → AllByRecursion (λ (x : List ℕ). length x ≡ size) (take n lists)
each_of_taken size zero lists h = tt
each_of_taken size (suc n) [] h = tt
each_of_taken size (suc n) (x ∷ xs) h = (h 0 (omega arith), each_of_taken size n xs (λ i less. h (suc i) (omega arith)))

-- the first page is the first of those that are taken
first_of_taken : (n : ℕ) (pages : List (List ℕ)) → 1 ≤ n → first_page (take n pages) ≡ first_page pages
first_of_taken n pages h = get_or-take n pages 0 [] (omega arith)

-- the first page is the front of what is joined
first_of_joined : (size : ℕ) (pages : List (List ℕ)) → 1 ≤ length pages → AllByRecursion (λ (x : List ℕ). length x ≡ size) pages → first_page pages ≡ take size (flat_map (λ x. x) pages)
first_of_joined size [] some h = absurd (omega arith)
first_of_joined size (p ∷ ps) some h = sym (take_at p (flat_map (λ x. x) ps) size h.0)

-- what the tests of a frame say of the bytes of its pages
record IsSoundFrame (form : FormatNumber) (kind : ℕ) (pages : List (List ℕ)) : Type 0 where
  room : frame_count pages ≤ length pages
  magic : field 0 3 (first_page pages) ≡ codes "CSF"
  digit : slice_index (first_page pages) 3 ≡ page_digit form
  kind_is : slice_index (first_page pages) 4 ≡ kind
  digest : field 9 41 (bytes_in pages) ≡ sha256 (payload_in pages)
  padding : all_zero (drop (41 + payload_length (first_page pages)) (bytes_in pages)) ≡ true

sound : (form : FormatNumber) (kind : ℕ) (pages : List (List ℕ)) → frame_fault form kind pages ≡ None → IsSoundFrame form kind pages
sound form kind pages h =
    let p = passed (bytes_eq (field 0 3 (first_page pages)) (codes "CSF")) BadMagic (digit_test (page_digit form) (first_page pages) ∷ kind_test kind (first_page pages) ∷ room_test (first_page pages) (length pages) ∷ payload_test pages ∷ rest_test pages ∷ []) h in
    let q = passed (slice_index (first_page pages) 3 == page_digit form) BadVersion _ p.1 in
    let r = passed (slice_index (first_page pages) 4 == kind) BadVersion _ q.1 in
    let s = passed (nat_le (frame_count pages) (length pages)) BadLength _ r.1 in
    let t = passed (bytes_eq (field 9 41 (bytes_in pages)) (sha256 (payload_in pages))) BadDigest _ s.1 in
    let u = passed (all_zero (drop (41 + payload_length (first_page pages)) (bytes_in pages))) BadPadding _ t.1 in
    record {
      room = leb-true _ _ s.0;
      magic = same_bytes _ _ p.0;
      digit = eqb-true _ _ q.0;
      kind_is = eqb-true _ _ r.0;
      digest = same_bytes _ _ t.0;
      padding = u.0;
    }

-- where they pass the first three bytes are a frame's, and the fourth is the format's
pub frame_magic : (form : FormatNumber) (kind : ℕ) (pages : List (List ℕ)) → frame_fault form kind pages ≡ None → bytes_eq (field 0 3 (first_page pages)) (codes "CSF") ≡ true
frame_magic form kind pages h = equal_bytes _ _ (sound form kind pages h).magic

pub fourth_is : (form : FormatNumber) (kind : ℕ) (pages : List (List ℕ)) → frame_fault form kind pages ≡ None → slice_index (first_page pages) 3 ≡ page_digit form
fourth_is form kind pages h = (sound form kind pages h).digit

-- with another digit they are refused for that
pub refused_as : (form : FormatNumber) (kind : ℕ) (pages : List (List ℕ)) → bytes_eq (field 0 3 (first_page pages)) (codes "CSF") ≡ true
    → slice_index (first_page pages) 3 ≢ page_digit form → frame_fault form kind pages ≡ Some BadVersion
refused_as form kind pages magic other =
    fails_second (bytes_eq (field 0 3 (first_page pages)) (codes "CSF")) (slice_index (first_page pages) 3 == page_digit form) BadMagic BadVersion
    (kind_test kind (first_page pages) ∷ room_test (first_page pages) (length pages) ∷ payload_test pages ∷ rest_test pages ∷ []) magic
    (ne_eqb (slice_index (first_page pages) 3) (page_digit form) other)

-- so a frame of one format is refused as one of another
pub other_format : (form other : FormatNumber) (kind other_kind : ℕ) (pages : List (List ℕ)) → frame_fault form kind pages ≡ None → other ≢ form
    → frame_fault other other_kind pages ≡ Some BadVersion
other_format form other kind other_kind pages h differ = refused_as other other_kind pages (frame_magic form kind pages h)
    (λ same. differ (one_digit other form (sym same ∙ fourth_is form kind pages h)))

-- bytes that have the fields of a frame are its bytes
bytes_of_frame : (form : FormatNumber) (kind n : ℕ) (bytes : List ℕ) → IsBytes bytes → length bytes ≡ 4096 * page_count n → n ≡ number 5 9 bytes
    → field 0 3 bytes ≡ codes "CSF" → slice_index bytes 3 ≡ page_digit form → slice_index bytes 4 ≡ kind → field 9 41 bytes ≡ sha256 (field 41 (41 + n) bytes) → all_zero (drop (41 + n) bytes) ≡ true
    → (length (field 41 (41 + n) bytes) ≡ n) × (bytes ≡ frame_bytes form kind (field 41 (41 + n) bytes))
bytes_of_frame form kind n bytes are long same magic digit is digest padding =
    let fits : 41 + n ≤ length bytes = omega (arith, roomy n) in
    let payload : List ℕ = field 41 (41 + n) bytes in
    let size : length payload ≡ n = length-field bytes 41 (41 + n) (omega arith) fits ∙ omega arith in
    let four : take 4 bytes ≡ codes "CSF" ++ page_digit form ∷ [] = four_bytes bytes (codes "CSF") (page_digit form) (omega arith) magic digit in
    let five : take 5 bytes ≡ codes "CSF" ++ page_digit form ∷ [] ++ kind ∷ [] = take_more bytes _ _ 4 5 (omega arith) four (field_1 bytes 4 5 refl (omega arith) ∙ ap (λ (b : ℕ). b ∷ []) is) in
    let nine : take 9 bytes ≡ codes "CSF" ++ page_digit form ∷ [] ++ kind ∷ [] ++ big_bytes 4 (length payload) = take_more bytes _ _ 5 9 (omega arith) five (field_4 bytes 5 9 refl (omega arith) are ∙ ap (big_bytes 4) (sym same ∙ sym size)) in
    let sealed : take 41 bytes ≡ codes "CSF" ++ page_digit form ∷ [] ++ kind ∷ [] ++ big_bytes 4 (length payload) ++ sha256 payload = take_more bytes _ _ 9 41 (omega arith) nine digest in
    let all : take (41 + n) bytes ≡ frame_fields form kind payload = take_more bytes _ _ 41 (41 + n) (omega arith) sealed refl in
    let pages : page_count n ≡ page_count (length payload) = ap page_count (sym size) in
    let rest : length (drop (41 + n) bytes) ≡ 4096 * page_count (length payload) - (41 + length payload) = omega (arith, length-drop (41 + n) bytes, pages) in
    (size, sym (take-append-drop (41 + n) bytes) ∙ ap (λ (xs : List ℕ). xs ++ drop (41 + n) bytes) all ∙ ap (λ (xs : List ℕ). frame_fields form kind payload ++ xs) (all_zeros (drop (41 + n) bytes) padding ∙ ap zeros rest))

-- pages without a fault spell what is read from them
pub spells : (form : FormatNumber) (kind : ℕ) (pages : List (List ℕ)) (payload : List ℕ) → EachHas 4096 pages → IsBytes (bytes_in pages) → frame_fault form kind pages ≡ None → payload ≡ payload_in pages → SpellsFrame form kind pages payload
spells form kind pages payload each are h e =
    let it = sound form kind pages h in
    let n : ℕ = payload_length (first_page pages) in
    let count : ℕ = page_count n in
    let taken : List (List ℕ) = take count pages in
    let some : 1 ≤ count = some_page n in
    let many : length taken ≡ count = length-take-le count pages it.room in
    let whole : AllByRecursion (λ (x : List ℕ). length x ≡ 4096) taken = each_of_taken 4096 count pages each in
    let long : length (bytes_in pages) ≡ 4096 * count = length-joined 4096 taken whole ∙ ap (λ (k : ℕ). 4096 * k) many in
    let first : first_page pages ≡ take 4096 (bytes_in pages) = sym (first_of_taken count pages some) ∙ first_of_joined 4096 taken (omega (arith, many, some)) whole in
    let front : (i j : ℕ) → i ≤ j → j ≤ 4096 → field i j (first_page pages) ≡ field i j (bytes_in pages) = λ i j ij low. ap (field i j) first ∙ field_of_take (bytes_in pages) i j 4096 ij low in
    let byte : (i : ℕ) → i < 4096 → slice_index (first_page pages) i ≡ slice_index (bytes_in pages) i = λ i low. ap (λ (xs : List ℕ). slice_index xs i) first ∙ get_or-take 4096 (bytes_in pages) i 0 low in
    let same : n ≡ number 5 9 (bytes_in pages) = ap (big_number 4) (front 5 9 (omega arith) (omega arith)) in
    let it' = bytes_of_frame form kind n (bytes_in pages) are long same (sym (front 0 3 (omega arith) (omega arith)) ∙ it.magic) (sym (byte 3 (omega arith)) ∙ it.digit) (sym (byte 4 (omega arith)) ∙ it.kind_is) it.digest it.padding in
    let counted : page_count (length (payload_in pages)) ≡ count = ap page_count it'.0 in
    let small : number 5 9 (bytes_in pages) < 2 ^ 32 = number_below (bytes_in pages) 5 9 are in
    let bound : n < 2 ^ 32 = subst (λ (k : ℕ). k < 2 ^ 32) (sym same) small in
    let spelled : take (page_count (length (payload_in pages))) pages ≡ spelled_frame form kind (payload_in pages) =
    ap (λ (k : ℕ). take k pages) counted
    ∙ sym (chunks_of_joined 4096 taken whole)
    ∙ ap (λ (k : ℕ). first_chunks 4096 k (bytes_in pages)) (many ∙ sym counted)
    ∙ ap (first_chunks 4096 (page_count (length (payload_in pages)))) it'.1 in
    subst (λ (xs : List ℕ). SpellsFrame form kind pages xs) (sym e) (record { fits = omega (arith, it'.0, bound); spelled = spelled })

-- ---- a frame that stands

-- a list of six parts, from the left
from_left : (m k n d p rest : List ℕ) → m ++ k ++ n ++ d ++ p ++ rest ≡ m ++ (k ++ (n ++ (d ++ (p ++ rest))))
from_left m k n d p rest = simp append_assoc

-- where the parts of a frame's bytes stand
record HasParts (bytes m n d p rest : List ℕ) (k : ℕ) : Type 0 where
  front : take 4 bytes ≡ m
  at_kind : drop 4 bytes ≡ k ∷ n ++ (d ++ (p ++ rest))
  at_length : drop 5 bytes ≡ n ++ (d ++ (p ++ rest))
  at_digest : drop 9 bytes ≡ d ++ (p ++ rest)
  at_payload : drop 41 bytes ≡ p ++ rest
  at_rest : drop (41 + length p) bytes ≡ rest

parts : (bytes m n d p rest : List ℕ) (k : ℕ) → bytes ≡ m ++ k ∷ [] ++ n ++ d ++ p ++ rest → length m ≡ 4 → length n ≡ 4 → length d ≡ 32 → HasParts bytes m n d p rest k
parts bytes m n d p rest k e four four' digest =
    let all : drop 0 bytes ≡ m ++ (k ∷ n ++ (d ++ (p ++ rest))) = e ∙ from_left m (k ∷ []) n d p rest in
    let kind : drop 4 bytes ≡ k ∷ n ++ (d ++ (p ++ rest)) = after_field bytes m _ 0 4 all (omega arith) in
    let size : drop 5 bytes ≡ n ++ (d ++ (p ++ rest)) = after_field bytes (k ∷ []) _ 4 5 kind refl in
    let sealed : drop 9 bytes ≡ d ++ (p ++ rest) = after_field bytes n _ 5 9 size (omega arith) in
    let payload : drop 41 bytes ≡ p ++ rest = after_field bytes d _ 9 41 sealed (omega arith) in
    record {
      front = ap (take 4) all ∙ take_at m _ 4 four;
      at_kind = kind;
      at_length = size;
      at_digest = sealed;
      at_payload = payload;
      at_rest = after_field bytes p rest 41 (41 + length p) payload refl;
    }

length-frame_fields : (form : FormatNumber) (kind : ℕ) (payload : List ℕ) → length (frame_fields form kind payload) ≡ 41 + length payload
length-frame_fields form kind payload = omega (arith, length-append (sha256 payload) payload, length-append (codes "CSF" ++ page_digit form ∷ [] ++ kind ∷ [] ++ big_bytes 4 (length payload) ++ sha256 payload) payload, length-append (codes "CSF" ++ page_digit form ∷ [] ++ kind ∷ [] ++ big_bytes 4 (length payload)) (sha256 payload), length-sha256 payload)

length-frame_bytes : (form : FormatNumber) (kind : ℕ) (payload : List ℕ) → length (frame_bytes form kind payload) ≡ 4096 * page_count (length payload)
length-frame_bytes form kind payload =
    let left : ℕ = 4096 * page_count (length payload) - (41 + length payload) in
    omega (arith, length-append (frame_fields form kind payload) (zeros left), length-frame_fields form kind payload, length-replicate {A = ℕ} left 0, roomy (length payload))

module _ (form : FormatNumber) (kind : ℕ) (pages : List (List ℕ)) (payload : List ℕ) (it : SpellsFrame form kind pages payload) where
  bytes : List ℕ
  bytes = frame_bytes form kind payload

  count : ℕ
  count = page_count (length payload)

  here : HasParts (frame_bytes form kind payload) (codes "CSF" ++ page_digit form ∷ []) (big_bytes 4 (length payload)) (sha256 payload) payload (zeros (4096 * page_count (length payload) - (41 + length payload))) kind
  here = parts (frame_bytes form kind payload) (codes "CSF" ++ page_digit form ∷ []) (big_bytes 4 (length payload)) (sha256 payload) payload (zeros (4096 * page_count (length payload) - (41 + length payload))) kind refl refl refl (length-sha256 payload)

  some : 1 ≤ page_count (length payload)
  some = some_page (length payload)

  -- the first page is the front of the frame's bytes
  first : first_page pages ≡ take 4096 (frame_bytes form kind payload)
  first = sym (first_of_taken (page_count (length payload)) pages some) ∙ ap first_page it.spelled ∙ of_chunks (page_count (length payload)) some
    where
      of_chunks : (n : ℕ) → 1 ≤ n → first_page (first_chunks 4096 n (frame_bytes form kind payload)) ≡ take 4096 (frame_bytes form kind payload)
      of_chunks zero none = absurd (omega arith)
      of_chunks (suc n) more = refl

  front : (i j : ℕ) → i ≤ j → j ≤ 4096 → field i j (first_page pages) ≡ field i j (frame_bytes form kind payload)
  front i j ij low = ap (field i j) first ∙ field_of_take (frame_bytes form kind payload) i j 4096 ij low

  byte : (i : ℕ) → i < 4096 → slice_index (first_page pages) i ≡ slice_index (frame_bytes form kind payload) i
  byte i low = ap (λ (xs : List ℕ). slice_index xs i) first ∙ get_or-take 4096 (frame_bytes form kind payload) i 0 low

  pub length_is_read : payload_length (first_page pages) ≡ length payload
  length_is_read =
      ap (big_number 4) (front 5 9 (omega arith) (omega arith))
      ∙ number_at (frame_bytes form kind payload) _ 5 9 4 (length payload) here.at_length refl refl (omega (arith, it.fits))

  -- its pages are what the header counts
  count_is_read : frame_count pages ≡ page_count (length payload)
  count_is_read = ap page_count length_is_read

  bytes_are_read : bytes_in pages ≡ frame_bytes form kind payload
  bytes_are_read =
      ap (λ (n : ℕ). flat_map (λ (x : List ℕ). x) (take n pages)) count_is_read
      ∙ ap (flat_map (λ (x : List ℕ). x)) it.spelled
      ∙ joined_chunks 4096 (page_count (length payload)) (frame_bytes form kind payload) (length-frame_bytes form kind payload)

  -- what is spelled is read again
  pub payload_is_read : payload_in pages ≡ payload
  payload_is_read =
      ap (λ (n : ℕ). field 41 (41 + n) (bytes_in pages)) length_is_read
      ∙ ap (field 41 (41 + length payload)) bytes_are_read
      ∙ field_at (frame_bytes form kind payload) payload _ 41 (41 + length payload) here.at_payload refl

  room : frame_count pages ≤ length pages
  room = omega (arith, count_is_read, length-take (page_count (length payload)) pages, ap length it.spelled, length-first_chunks 4096 (page_count (length payload)) (frame_bytes form kind payload))

  pub kind_is_read : slice_index (first_page pages) 4 ≡ kind
  kind_is_read = byte 4 (omega arith) ∙ byte_at_front (frame_bytes form kind payload) _ 4 kind here.at_kind

  -- and has no fault
  pub frame_fault-spelled : frame_fault form kind pages ≡ None
  frame_fault-spelled =
      let magic : field 0 3 (first_page pages) ≡ codes "CSF" = front 0 3 (omega arith) (omega arith) ∙ sym (take-take 3 4 (frame_bytes form kind payload) (omega arith)) ∙ ap (take 3) here.front in
      let digit : slice_index (first_page pages) 3 ≡ page_digit form = byte 3 (omega arith) ∙ sym (get_or-take 4 (frame_bytes form kind payload) 3 0 (omega arith)) ∙ ap (λ (xs : List ℕ). slice_index xs 3) here.front in
      let digest : field 9 41 (bytes_in pages) ≡ sha256 (payload_in pages) =
      ap (field 9 41) bytes_are_read ∙ field_at (frame_bytes form kind payload) (sha256 payload) _ 9 41 here.at_digest (omega (arith, length-sha256 payload)) ∙ ap sha256 (sym payload_is_read) in
      let padding : all_zero (drop (41 + payload_length (first_page pages)) (bytes_in pages)) ≡ true =
      ap (λ (n : ℕ). all_zero (drop (41 + n) (bytes_in pages))) length_is_read
      ∙ ap (λ (xs : List ℕ). all_zero (drop (41 + length payload) xs)) bytes_are_read
      ∙ ap all_zero here.at_rest
      ∙ all_zero-zeros (4096 * page_count (length payload) - (41 + length payload)) in
      let all : Passes (frame_tests form kind pages) =
      and_passes _ BadMagic _ (equal_bytes _ _ magic)
      (and_passes _ BadVersion _ (eq-eqb _ _ digit)
      (and_passes _ BadVersion _ (eq-eqb _ _ kind_is_read)
      (and_passes _ BadLength _ (le-leb _ _ room)
      (and_passes _ BadDigest _ (equal_bytes _ _ digest)
      (and_passes _ BadPadding _ padding no_test))))) in
      all.none

-- the first page has the frame's bytes at each offset
pub first_front : (form : FormatNumber) (kind : ℕ) (pages : List (List ℕ)) (payload : List ℕ) → SpellsFrame form kind pages payload → (i j : ℕ) → i ≤ j
    → j ≤ 4096 → field i j (first_page pages) ≡ field i j (frame_bytes form kind payload)
first_front form kind pages payload it i j ij low = front form kind pages payload it i j ij low

-- the digest is behind nine of them
pub at_digest_of : (form : FormatNumber) (kind : ℕ) (payload : List ℕ)
    → (rest : List ℕ) × (drop 9 (frame_bytes form kind payload) ≡ sha256 payload ++ rest)
at_digest_of form kind payload =
    let left : List ℕ = zeros (4096 * page_count (length payload) - (41 + length payload)) in
    (payload ++ left, (parts (frame_bytes form kind payload) (codes "CSF" ++ page_digit form ∷ []) (big_bytes 4 (length payload)) (sha256 payload) payload left kind refl refl refl (length-sha256 payload)).at_digest)

-- ---- the header, and the pages that are read

-- what the first tests find, all of them do
pub first_of_more : (tests more : List (Option FormatFault)) (f : FormatFault) → first_fault tests ≡ Some f → first_fault (tests ++ more) ≡ Some f
first_of_more [] more f h = cc
first_of_more (None ∷ tests) more f h = first_of_more tests more f h
first_of_more (Some g ∷ tests) more f h = h

pub header_first : (form : FormatNumber) (kind : ℕ) (pages : List (List ℕ)) (f : FormatFault) → header_fault form kind (first_page pages) (length pages) ≡ Some f → frame_fault form kind pages ≡ Some f
header_first form kind pages f h = first_of_more (header_tests form kind (first_page pages) (length pages)) (payload_test pages ∷ rest_test pages ∷ []) f h

-- pages after the frame's own change nothing
same_tests : (form : FormatNumber) (kind : ℕ) (pages some : List (List ℕ)) → first_page some ≡ first_page pages → bytes_in some ≡ bytes_in pages → frame_count pages ≤ length some → frame_count pages ≤ length pages → frame_fault form kind some ≡ frame_fault form kind pages
same_tests form kind pages some first bytes low high =
    let rest : (there : ℕ) → frame_count pages ≤ there → room_test (first_page pages) there ≡ None = λ there fits. ap (λ (b : Bool). unless b BadLength) (le-leb _ _ fits) in
    ap (λ (f : List ℕ). first_fault (header_tests form kind f (length some) ++ unless (bytes_eq (field 9 41 (bytes_in some)) (sha256 (field 41 (41 + payload_length f) (bytes_in some)))) BadDigest ∷ unless (all_zero (drop (41 + payload_length f) (bytes_in some))) BadPadding ∷ [])) first
    ∙ ap (λ (b : List ℕ). first_fault (header_tests form kind (first_page pages) (length some) ++ unless (bytes_eq (field 9 41 b) (sha256 (field 41 (41 + payload_length (first_page pages)) b))) BadDigest ∷ unless (all_zero (drop (41 + payload_length (first_page pages)) b)) BadPadding ∷ [])) bytes
    ∙ ap (λ (r : Option FormatFault). first_fault (magic_test (codes "CSF") (first_page pages) ∷ digit_test (page_digit form) (first_page pages) ∷ kind_test kind (first_page pages) ∷ r ∷ payload_test pages ∷ rest_test pages ∷ [])) (rest (length some) low ∙ sym (rest (length pages) high))

module _ (pages : List (List ℕ)) (m : ℕ) (enough : frame_count pages ≤ m) (there : frame_count pages ≤ length pages) where
  first_taken : first_page (take m pages) ≡ first_page pages
  first_taken = first_of_taken m pages (omega (arith, some_page (payload_length (first_page pages))))

  bytes_taken : bytes_in (take m pages) ≡ bytes_in pages
  bytes_taken =
      ap (λ (f : List ℕ). flat_map (λ (x : List ℕ). x) (take (page_count (payload_length f)) (take m pages))) first_taken
      ∙ ap (flat_map (λ (x : List ℕ). x)) (take-take (frame_count pages) m pages enough)

  pub fault_of_taken : (form : FormatNumber) (kind : ℕ) → frame_fault form kind (take m pages) ≡ frame_fault form kind pages
  fault_of_taken form kind = same_tests form kind pages (take m pages) first_taken bytes_taken (omega (arith, length-take m pages)) there

  pub payload_of_taken : payload_in (take m pages) ≡ payload_in pages
  payload_of_taken = ap (λ (f : List ℕ). field 41 (41 + payload_length f) (bytes_in (take m pages))) first_taken ∙ ap (field 41 (41 + payload_length (first_page pages))) bytes_taken

-- a frame stands in its pages, whatever follows them
pub stands : (form : FormatNumber) (kind : ℕ) (payload : List ℕ) (rest : List (List ℕ)) → length payload < 2 ^ 32 → SpellsFrame form kind (spelled_frame form kind payload ++ rest) payload
stands form kind payload rest fits = record {
  fits = fits;
  spelled = take_at (spelled_frame form kind payload) rest (page_count (length payload)) (length-first_chunks 4096 (page_count (length payload)) (frame_bytes form kind payload));
}

-- so it does in its own pages
pub stands_alone : (form : FormatNumber) (kind : ℕ) (payload : List ℕ) → length payload < 2 ^ 32 → SpellsFrame form kind (spelled_frame form kind payload) payload
stands_alone form kind payload fits = subst (λ (pages : List (List ℕ)). SpellsFrame form kind pages payload) (append-nil (spelled_frame form kind payload)) (stands form kind payload [] fits)

-- whose first says the kind and the payload's length
pub kind_of_spelled : (form : FormatNumber) (kind : ℕ) (payload : List ℕ) → length payload < 2 ^ 32 → slice_index (first_page (spelled_frame form kind payload)) 4 ≡ kind
kind_of_spelled form kind payload fits = kind_is_read form kind (spelled_frame form kind payload) payload (stands_alone form kind payload fits)

pub length_of_spelled : (form : FormatNumber) (kind : ℕ) (payload : List ℕ) → length payload < 2 ^ 32 → payload_length (first_page (spelled_frame form kind payload)) ≡ length payload
length_of_spelled form kind payload fits = length_is_read form kind (spelled_frame form kind payload) payload (stands_alone form kind payload fits)
