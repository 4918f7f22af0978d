-- The mark of a frame is the first eight bytes of its payload's digest.
use Rattle.std.proofs.Common.{◌≡◌, ◌==◌, ℕ, zero, suc, ◌+◌, ◌^◌, ◌<◌, ◌≤◌, Bool, true, false, List, [], ◌∷◌, ◌++◌, take, drop, slice_index, length, ◌⊎◌, inl, inr, Option, Some, None, option_map, if◌then◌else◌, eqb-true, eq-eqb, refl, sym, ap, subst, ◌∙◌, arith, append_assoc}
use Rattle.std.proofs.lemmas.List.{get_or-drop, get_or-take, length-take-le, take-append-drop}
use Rattle.std.proofs.lemmas.Option.{same_Some}
use Rattle.byteorder.specs.Endian.{big_bytes, big_number}
use Rattle.byteorder.specs.Numbers.{big_from-lt}
use Rattle.sha2.specs.Sha256.{digest_bytes, final_hash, initial_hash_256, sha256}
use Rattle.sha2.proofs.Facts256.{length-sha256}
use Rattle.std.specs.Int.{to_be_bytes, w32}
use Rattle.std.specs.Simd.{first_chunks}
use Rattle.cs_frame.specs.Bytes.{IsBytes, IsPage, field, number}
use Rattle.cs_frame.specs.declared.faults.FormatFault.{FormatFault}
use Rattle.cs_frame.specs.declared.faults.FormatFault.TheVariants as fault
use Rattle.cs_frame.specs.Faults.{first_fault, unless}
use Rattle.cs_frame.specs.Formats.{formats_of, kind_number, refusal_of}
use Rattle.cs_frame.specs.Frames.{SpellsFrame, first_page, frame_bytes, frame_fault, page_count, payload_mark, spelled_frame}
use Rattle.cs_frame.specs.FormatNumbers.{number_in}
use Rattle.cs_frame.specs.Heads.{is_long_in}
use Rattle.cs_frame.specs.MeantFrames.{meant_fault}
use Rattle.cs_frame.specs.declared.formats.FormatNumber.{FormatNumber}
use Rattle.cs_frame.proofs.Fields.{IsBytes-field, field_8, field_at, field_of_take}
use Rattle.cs_frame.proofs.FrameLaws.{at_digest_of, first_front}
use Rattle.law_machine.specs.Device.{Shape, mark_of}
use Rattle.law_machine.specs.Format.{Format, Four, Two}
use Rattle.law_machine.specs.Formats.{FrameKind, fault_for, refused_or}
use Rattle.law_machine.specs.Geometry.{digest_number, mark_in, marks_in}
use Rattle.law_machine.specs.Refusal.{BadLength, BadMagic, Misplaced, Refusal}

-- byte k of the eight behind the ninth
digit : (page : List ℕ) (k : ℕ) → k < 8 → slice_index page (9 + k) ≡ slice_index (field 9 17 page) k
digit page k low = sym (get_or-drop 9 page k 0) ∙ sym (get_or-take 8 (drop 9 page) k 0 low)

-- the number that the bytes from 9 to 17 spell
number_is_read : (page : List ℕ) → IsBytes (field 9 17 page) → digest_number page ≡ number 9 17 page
number_is_read page are =
    let low : number 9 17 page < 2 ^ 64 = big_from-lt 0 8 (field 9 17 page) are in
    let digit_0 = digit page 0 (omega arith) in
    let digit_1 = digit page 1 (omega arith) in
    let digit_2 = digit page 2 (omega arith) in
    let digit_3 = digit page 3 (omega arith) in
    let digit_4 = digit page 4 (omega arith) in
    let digit_5 = digit page 5 (omega arith) in
    let digit_6 = digit page 6 (omega arith) in
    let digit_7 = digit page 7 (omega arith) in
    omega (arith, low, digit_0, digit_1, digit_2, digit_3, digit_4, digit_5, digit_6, digit_7)

-- in a frame's first page these are the first of its payload's digest
in_page : (form : FormatNumber) (kind : ℕ) (pages : List (List ℕ)) (payload : List ℕ) → SpellsFrame form kind pages payload
    → field 9 17 (first_page pages) ≡ take 8 (sha256 payload)
in_page form kind pages payload it =
    let digest : List ℕ = sha256 payload in
    let behind = at_digest_of form kind payload in
    first_front form kind pages payload it 9 17 (omega arith) (omega arith)
    ∙ field_at (frame_bytes form kind payload) (take 8 digest) (drop 8 digest ++ behind.0) 9 17
    (behind.1 ∙ ap (λ (xs : List ℕ). xs ++ behind.0) (sym (take-append-drop 8 digest)) ∙ append_assoc (take 8 digest) (drop 8 digest) behind.0)
    (omega (arith, length-take-le 8 digest (omega (arith, length-sha256 payload))))

-- two frames of one mark have payloads whose digests agree there
pub one_digest : (form other_form : FormatNumber) (kind other_kind : ℕ) (pages others : List (List ℕ)) (payload other : List ℕ) → SpellsFrame form kind pages payload
    → SpellsFrame other_form other_kind others other → IsPage (first_page pages) → IsPage (first_page others)
    → digest_number (first_page pages) ≡ digest_number (first_page others) → take 8 (sha256 payload) ≡ take 8 (sha256 other)
one_digest form other_form kind other_kind pages others payload other a b page other_page same =
    let numbers : number 9 17 (first_page pages) ≡ number 9 17 (first_page others) =
    sym (number_is_read (first_page pages) (IsBytes-field (first_page pages) 9 17 page.bytes)) ∙ same
    ∙ number_is_read (first_page others) (IsBytes-field (first_page others) 9 17 other_page.bytes) in
    sym (in_page form kind pages payload a)
    ∙ field_8 (first_page pages) 9 17 refl (omega (arith, page.size)) page.bytes
    ∙ ap (big_bytes 8) numbers
    ∙ sym (field_8 (first_page others) 9 17 refl (omega (arith, other_page.size)) other_page.bytes)
    ∙ in_page other_form other_kind others other b

-- ---- marks of payloads

-- a digest's bytes are bytes
IsBytes-append : (xs ys : List ℕ) → IsBytes xs → IsBytes ys → IsBytes (xs ++ ys)
IsBytes-append [] ys hx hy i = hy i
IsBytes-append (x ∷ xs) ys hx hy zero = hx zero
IsBytes-append (x ∷ xs) ys hx hy (suc i) = IsBytes-append xs ys (λ k. hx (suc k)) hy i

word : (n : ℕ) → IsBytes (to_be_bytes w32 n)
word n zero = omega arith
word n (suc zero) = omega arith
word n (suc (suc zero)) = omega arith
word n (suc (suc (suc zero))) = omega arith
word n (suc (suc (suc (suc i)))) = omega arith

digest_are : (h : List ℕ) (n : ℕ) → IsBytes (digest_bytes h n)
unfolding digest_bytes
digest_are h zero i = omega arith
digest_are h (suc n) i = IsBytes-append (digest_bytes h n) (to_be_bytes w32 (slice_index h n)) (digest_are h n) (word (slice_index h n)) i

bytes-sha256 : (payload : List ℕ) → IsBytes (sha256 payload)
unfolding sha256
bytes-sha256 payload = digest_are (final_hash initial_hash_256 payload) 8

-- payloads of one mark have digests that agree in the first eight bytes
pub one_front : (payload other : List ℕ) → payload_mark payload ≡ payload_mark other → take 8 (sha256 payload) ≡ take 8 (sha256 other)
one_front payload other same =
    field_8 (sha256 payload) 0 8 refl (omega (arith, length-sha256 payload)) (bytes-sha256 payload)
    ∙ ap (big_bytes 8) same
    ∙ sym (field_8 (sha256 other) 0 8 refl (omega (arith, length-sha256 other)) (bytes-sha256 other))

front_of_chunks : (n : ℕ) (bytes : List ℕ) → 1 ≤ n → first_page (first_chunks 4096 n bytes) ≡ take 4096 bytes
front_of_chunks zero bytes some = absurd (omega arith)
front_of_chunks (suc n) bytes some = refl

in_frame : (form : FormatNumber) (kind : ℕ) (payload : List ℕ) → field 9 17 (first_page (spelled_frame form kind payload)) ≡ take 8 (sha256 payload)
in_frame form kind payload =
    let digest : List ℕ = sha256 payload in
    let behind = at_digest_of form kind payload in
    ap (field 9 17) (front_of_chunks (page_count (length payload)) (frame_bytes form kind payload) (omega arith))
    ∙ field_of_take (frame_bytes form kind payload) 9 17 4096 (omega arith) (omega arith)
    ∙ field_at (frame_bytes form kind payload) (take 8 digest) (drop 8 digest ++ behind.0) 9 17
    (behind.1 ∙ ap (λ (xs : List ℕ). xs ++ behind.0) (sym (take-append-drop 8 digest)) ∙ append_assoc (take 8 digest) (drop 8 digest) behind.0)
    (omega (arith, length-take-le 8 digest (omega (arith, length-sha256 payload))))

-- the mark of a frame is that of its payload
pub mark_of_frame : (format : Format) (form : FormatNumber) (kind : ℕ) (payload : List ℕ) → marks_in format ≡ true
    → mark_in format (first_page (spelled_frame form kind payload)) ≡ payload_mark payload
mark_of_frame Two form kind payload on = absurd (cc on)
mark_of_frame (Four store device) form kind payload on =
    let first : List ℕ = first_page (spelled_frame form kind payload) in
    let are : IsBytes (field 9 17 first) = subst IsBytes (sym (in_frame form kind payload)) (IsBytes-field (sha256 payload) 0 8 (bytes-sha256 payload)) in
    number_is_read first are ∙ ap (big_number 8) (in_frame form kind payload)

-- ---- the frame that is meant

-- the machine's mark of pages is that of the first
pub mark_of_pages : (S : Shape) (format : Format) → S.mark ≡ mark_in format → (pages : List (List ℕ)) → mark_of S pages ≡ mark_in format (first_page pages)
mark_of_pages S format is [] = none format
  where
    none : (format : Format) → 0 ≡ mark_in format []
    none Two = refl
    none (Four store device) = refl
mark_of_pages S format is (page ∷ pages) = ap (λ (m : List ℕ → ℕ). m page) is

-- what three tests find, in the words of the machine
three_tests : (found : Option FormatFault) (meant long : Bool)
    → option_map refusal_of (first_fault (found ∷ unless meant fault.Misplaced ∷ unless long fault.BadLength ∷ []))
    ≡ (if long then (if meant then option_map refusal_of found else Some (refused_or (option_map refusal_of found) Misplaced))
    else Some (refused_or (if meant then option_map refusal_of found else Some (refused_or (option_map refusal_of found) Misplaced)) BadLength))
three_tests None true true = refl
three_tests None true false = refl
three_tests None false true = refl
three_tests None false false = refl
three_tests (Some f) true true = refl
three_tests (Some f) true false = refl
three_tests (Some f) false true = refl
three_tests (Some f) false false = refl

-- what is wrong with a frame that is meant is what the machine says
pub fault_of_meant : (S : Shape) → S.mark ≡ mark_in S.format → (kind : FrameKind) (m : ℕ) (pages : List (List ℕ))
    → option_map refusal_of (meant_fault S.format (kind_number kind) m pages) ≡ fault_for S (formats_of S) kind m pages
fault_of_meant S is kind m [] = no_page (mark_in S.format [] == m) (is_long_in S.format []) (0 == m)
  where
    no_page : (a b c : Bool) → option_map refusal_of (first_fault (Some fault.BadMagic ∷ unless a fault.Misplaced ∷ unless b fault.BadLength ∷ []))
        ≡ (if c then Some BadMagic else Some (refused_or (Some BadMagic) Misplaced))
    no_page a b true = refl
    no_page a b false = refl
fault_of_meant S is kind m (page ∷ pages) =
    subst (λ (n : ℕ). option_map refusal_of (meant_fault S.format (kind_number kind) m (page ∷ pages)) ≡ told (n == m)) (sym (mark_of_pages S S.format is (page ∷ pages)))
    (three_tests (frame_fault (number_in S.format) (kind_number kind) (page ∷ pages)) (mark_in S.format page == m) (is_long_in S.format page))
  where
    told : Bool → Option Refusal
    told b = if is_long_in S.format page
        then (if b then (formats_of S).fault kind (page ∷ pages) else Some (refused_or ((formats_of S).fault kind (page ∷ pages)) Misplaced))
        else Some (refused_or (if b then (formats_of S).fault kind (page ∷ pages) else Some (refused_or ((formats_of S).fault kind (page ∷ pages)) Misplaced)) BadLength)

-- where nothing is wrong the frame is there, it is the one that is meant, and it is long enough
pub meant_passes : (found : Option FormatFault) (n m : ℕ) (long : Bool) → first_fault (found ∷ unless (n == m) fault.Misplaced ∷ unless long fault.BadLength ∷ []) ≡ None
    → (found ≡ None) × (n ≡ m) × (long ≡ true)
meant_passes None n m long h = let both = passes (n == m) long h in (refl, eqb-true n m both.0, both.1)
  where
    passes : (b c : Bool) → first_fault (unless b fault.Misplaced ∷ unless c fault.BadLength ∷ []) ≡ None → (b ≡ true) × (c ≡ true)
    passes true true h = (refl, refl)
    passes true false h = cc
    passes false c h = cc
meant_passes (Some f) n m long h = absurd (cc h)

pub passes_meant : (found : Option FormatFault) (n m : ℕ) (long : Bool) → found ≡ None → n ≡ m → long ≡ true
    → first_fault (found ∷ unless (n == m) fault.Misplaced ∷ unless long fault.BadLength ∷ []) ≡ None
passes_meant None n m true none same is = ap (λ (b : Bool). first_fault (unless b fault.Misplaced ∷ None ∷ [])) (eq-eqb n m same)
passes_meant None n m false none same is = absurd (cc is)
passes_meant (Some f) n m long none same is = absurd (cc none)

-- what is found is the frame's own fault, that it is another one, or that it is too short
pub meant_finds : (found : Option FormatFault) (b long : Bool) (f : FormatFault) → first_fault (found ∷ unless b fault.Misplaced ∷ unless long fault.BadLength ∷ []) ≡ Some f
    → (found ≡ Some f) ⊎ ((found ≡ None) × ((f ≡ fault.Misplaced) ⊎ (f ≡ fault.BadLength)))
meant_finds None true true f h = absurd (cc h)
meant_finds None true false f h = inr (refl, inr (sym (same_Some fault.BadLength f h)))
meant_finds None false long f h = inr (refl, inl (sym (same_Some fault.Misplaced f h)))
meant_finds (Some g) b long f h = inl h

pub finds_meant : (found : Option FormatFault) (tests : List (Option FormatFault)) (f : FormatFault) → found ≡ Some f → first_fault (found ∷ tests) ≡ Some f
finds_meant None tests f h = absurd (cc h)
finds_meant (Some g) tests f h = h

-- so it is with a header alone, whose length isn't tested
pub header_passes : (found : Option FormatFault) (n m : ℕ) → first_fault (found ∷ unless (n == m) fault.Misplaced ∷ []) ≡ None → (found ≡ None) × (n ≡ m)
header_passes None n m h = (refl, eqb-true n m (passes (n == m) h))
  where
    passes : (b : Bool) → first_fault (unless b fault.Misplaced ∷ []) ≡ None → b ≡ true
    passes true h = refl
    passes false h = cc
header_passes (Some f) n m h = absurd (cc h)

pub passes_header : (found : Option FormatFault) (n m : ℕ) → found ≡ None → n ≡ m → first_fault (found ∷ unless (n == m) fault.Misplaced ∷ []) ≡ None
passes_header None n m none same = ap (λ (b : Bool). first_fault (unless b fault.Misplaced ∷ [])) (eq-eqb n m same)
passes_header (Some f) n m none same = absurd (cc none)

pub header_finds : (found : Option FormatFault) (b : Bool) (f : FormatFault) → first_fault (found ∷ unless b fault.Misplaced ∷ []) ≡ Some f → (found ≡ Some f) ⊎ ((found ≡ None) × (f ≡ fault.Misplaced))
header_finds None true f h = absurd (cc h)
header_finds None false f h = inr (refl, sym (same_Some fault.Misplaced f h))
header_finds (Some g) b f h = inl h
