-- The faults of frames, as refusals.
use Rattle.std.proofs.Common.{◌≡◌, ◌≢◌, ◌∙◌, ℕ, ◌≤◌, ◌⊎◌, Bool, true, false, List, [], ◌∷◌, codes, length, Option, Some, None, refl, sym, ap, subst, inl, inr, ⊎_elim, arith, bytes_eq, nat_le, drop, ◌+◌, slice_index}
use Rattle.std.specs.Prelude.{◌==◌}
use Rattle.std.proofs.lemmas.Option.{same_Some}
use Rattle.cs_chunk.specs.Reads.{IsFrameRefusal, IsNoAnswer, IsOfFault, IsReadRefusal}
use Rattle.cs_frame.specs.Refusals.{refusal_for}
use Rattle.cs_refusal.specs.declared.refusals.Refusal.{Refusal}
use Rattle.cs_refusal.specs.Refusals.{number_of}
use Rattle.cs_frame.specs.declared.faults.FormatFault.{FormatFault}
use Rattle.cs_frame.specs.declared.faults.FormatFault.TheVariants.{BadGeometry, OutOfMemory, BadMagic, BadDigest, BadLength, BadPadding, BadVersion, OutOfOrder, Misplaced}
use Rattle.cs_frame.specs.Bytes.{all_zero, field}
use Rattle.cs_frame.specs.Faults.{fault_number, first_fault, unless}
use Rattle.cs_frame.specs.declared.formats.FormatNumber.{FormatNumber}
use Rattle.cs_frame.specs.FormatNumbers.{number_in, page_digit}
use Rattle.cs_frame.specs.Frames.{bytes_in, first_page, frame_count, frame_fault, header_fault, kind_test, page_count, payload_length, payload_test, rest_test, room_test}
use Rattle.cs_frame.specs.Heads.{is_long_in}
use Rattle.cs_frame.specs.MeantFrames.{meant_fault}
use Rattle.cs_frame.specs.Pages.{digit_test, magic_test}
use Rattle.cs_frame.proofs.MarkLaws.{meant_finds}
use Rattle.law_machine.specs.Format.{Format}
use Rattle.law_machine.specs.Geometry.{mark_in}

-- the faults that a frame may have
abbrev pub IsInRange : FormatFault → Type 0
IsInRange f = (20 ≤ fault_number f) × (fault_number f ≤ 24)

-- a test that fails finds its fault
fails_so : (b : Bool) (g f : FormatFault) → unless b g ≡ Some f → g ≡ f
fails_so true g f h = absurd (cc h)
fails_so false g f h = same_Some g f h

digest_fails : (pages : List (List ℕ)) (f : FormatFault) → payload_test pages ≡ Some f → BadDigest ≡ f
digest_fails pages f h = search fails_so

-- one test more, that finds this fault if any
more : (test : Option FormatFault) (g : FormatFault) (tests : List (Option FormatFault)) → ((f : FormatFault) → test ≡ Some f → g ≡ f) → IsInRange g → ((f : FormatFault) → first_fault tests ≡ Some f → IsInRange f) → (f : FormatFault) → first_fault (test ∷ tests) ≡ Some f → IsInRange f
more None g tests own here rest f h = rest f h
more (Some e) g tests own here rest f h = subst IsInRange (own f h) here

pub in_range : (number : FormatNumber) (kind : ℕ) (pages : List (List ℕ)) (f : FormatFault) → frame_fault number kind pages ≡ Some f → IsInRange f
in_range number kind pages =
    let rest : List (Option FormatFault) = payload_test pages ∷ rest_test pages ∷ [] in
    more (magic_test (codes "CSF") (first_page pages)) BadMagic (digit_test (page_digit number) (first_page pages) ∷ kind_test kind (first_page pages) ∷ room_test (first_page pages) (length pages) ∷ rest) (fails_so (bytes_eq (field 0 3 (first_page pages)) (codes "CSF")) BadMagic) (omega arith, omega arith)
    (more (digit_test (page_digit number) (first_page pages)) BadVersion (kind_test kind (first_page pages) ∷ room_test (first_page pages) (length pages) ∷ rest) (fails_so (slice_index (first_page pages) 3 == page_digit number) BadVersion) (omega arith, omega arith)
    (more (kind_test kind (first_page pages)) BadVersion (room_test (first_page pages) (length pages) ∷ rest) (fails_so (slice_index (first_page pages) 4 == kind) BadVersion) (omega arith, omega arith)
    (more (room_test (first_page pages) (length pages)) BadLength rest (fails_so (nat_le (frame_count pages) (length pages)) BadLength) (omega arith, omega arith)
    (more (payload_test pages) BadDigest (rest_test pages ∷ []) (digest_fails pages) (omega arith, omega arith)
    (more (rest_test pages) BadPadding [] (fails_so (all_zero (drop (41 + payload_length (first_page pages)) (bytes_in pages))) BadPadding) (omega arith, omega arith)
    (λ f h. absurd (cc h)))))))

pub same_number : (f : FormatFault) → number_of (refusal_for f) ≡ fault_number f
same_number BadGeometry = refl
same_number OutOfMemory = refl
same_number BadMagic = refl
same_number BadDigest = refl
same_number BadLength = refl
same_number BadPadding = refl
same_number BadVersion = refl
same_number OutOfOrder = refl
same_number Misplaced = refl

-- the refusal of a fault that was found, unless memory ran out
pub answered : (f : FormatFault) (found : Option FormatFault) (r : Refusal) → r ≡ refusal_for f → (f ≢ OutOfMemory → found ≡ Some f) → IsNoAnswer r ⊎ IsOfFault found r
answered OutOfMemory found r is h = inl (inr is)
answered BadGeometry found r is h = inr (BadGeometry, h (λ e. cc e), is)
answered BadMagic found r is h = inr (BadMagic, h (λ e. cc e), is)
answered BadDigest found r is h = inr (BadDigest, h (λ e. cc e), is)
answered BadLength found r is h = inr (BadLength, h (λ e. cc e), is)
answered BadPadding found r is h = inr (BadPadding, h (λ e. cc e), is)
answered BadVersion found r is h = inr (BadVersion, h (λ e. cc e), is)
answered OutOfOrder found r is h = inr (OutOfOrder, h (λ e. cc e), is)
answered Misplaced found r is h = inr (Misplaced, h (λ e. cc e), is)

not_memory : (f : FormatFault) → IsInRange f → f ≢ OutOfMemory
not_memory f r e = let same : fault_number f ≡ fault_number OutOfMemory = ap fault_number e in absurd (omega (arith, r.0, same))

-- where it is none of the faults there is none
pub none_found : (number : FormatNumber) (kind : ℕ) (pages : List (List ℕ)) → ((f : FormatFault) → f ≢ OutOfMemory → frame_fault number kind pages ≡ Some f → ⊥) → frame_fault number kind pages ≡ None
none_found number kind pages never = go (frame_fault number kind pages) refl
  where
    go : (found : Option FormatFault) → frame_fault number kind pages ≡ found → found ≡ None
    go None is = refl
    go (Some f) is = absurd (never f (not_memory f (in_range number kind pages f is)) is)

-- what a frame is refused for is 20 to 24, or 26
pub frame_refusal : (format : Format) (kind mark : ℕ) (pages : List (List ℕ)) (f : FormatFault) (r : Refusal) → r ≡ refusal_for f → Some f ≡ meant_fault format kind mark pages → IsFrameRefusal r
frame_refusal format kind mark pages f r is found =
    let number : number_of r ≡ fault_number f = ap number_of is ∙ same_number f in
    ⊎_elim
    (λ (own : frame_fault (number_in format) kind pages ≡ Some f).
    let range = in_range (number_in format) kind pages f own in
    inl (omega (arith, number, range.0), omega (arith, number, range.1)))
    (λ (other : (frame_fault (number_in format) kind pages ≡ None) × ((f ≡ Misplaced) ⊎ (f ≡ BadLength))). ⊎_elim
    (λ (misplaced : f ≡ Misplaced). inr (is ∙ ap refusal_for misplaced))
    (λ (short : f ≡ BadLength).
    let here : fault_number f ≡ 22 = ap fault_number short in
    inl (omega (arith, number, here), omega (arith, number, here)))
    other.1)
    (meant_finds (frame_fault (number_in format) kind pages) (mark_in format (first_page pages) == mark) (is_long_in format (first_page pages)) f (sym found))

-- so is what a header is refused for
header_in_range : (number : FormatNumber) (kind : ℕ) (first : List ℕ) (there : ℕ) (f : FormatFault) → header_fault number kind first there ≡ Some f → IsInRange f
header_in_range number kind first there =
    more (magic_test (codes "CSF") first) BadMagic (digit_test (page_digit number) first ∷ kind_test kind first ∷ room_test first there ∷ []) (fails_so (bytes_eq (field 0 3 first) (codes "CSF")) BadMagic) (omega arith, omega arith)
    (more (digit_test (page_digit number) first) BadVersion (kind_test kind first ∷ room_test first there ∷ []) (fails_so (slice_index first 3 == page_digit number) BadVersion) (omega arith, omega arith)
    (more (kind_test kind first) BadVersion (room_test first there ∷ []) (fails_so (slice_index first 4 == kind) BadVersion) (omega arith, omega arith)
    (more (room_test first there) BadLength [] (fails_so (nat_le (page_count (payload_length first)) there) BadLength) (omega arith, omega arith)
    (λ f h. absurd (cc h)))))

pub header_refusal : (number : FormatNumber) (kind : ℕ) (first : List ℕ) (there : ℕ) (f : FormatFault) (r : Refusal) → number_of r ≡ fault_number f → Some f ≡ header_fault number kind first there → IsReadRefusal r
header_refusal number kind first there f r is found =
    let range = header_in_range number kind first there f (sym found) in
    inr (inl (omega (arith, is, range.0), omega (arith, is, range.1)))
