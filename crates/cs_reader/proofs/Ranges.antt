-- The numbers under which an opening is refused.
use Rattle.std.proofs.Common.{◌≡◌, ◌⊎◌, inl, inr, ℕ, zero, suc, ◌+◌, ◌^◌, ◌≤◌, Bool, true, false, List, [], ◌∷◌, ◌++◌, codes, length, drop, Option, Some, None, arith, refl, sym, subst, bytes_eq, nat_le, if◌then◌else◌}
use Rattle.std.specs.Prelude.{◌==◌, ◌&&◌, nat_lt, slice_index}
use Rattle.std.proofs.lemmas.Option.{same_Some}
use Rattle.cs_chunk.specs.Reads.{IsOfFault, IsReadRefusal}
use Rattle.cs_frame.specs.Refusals.{refusal_for}
use Rattle.cs_refusal.specs.declared.refusals.Refusal.{Refusal}
use Rattle.cs_refusal.specs.declared.refusals.Refusal.TheVariants.{OutOfMemory as NoMemory}
use Rattle.cs_refusal.specs.Refusals.{number_of}
use Rattle.cs_frame.specs.declared.faults.FormatFault.{FormatFault}
use Rattle.cs_frame.specs.declared.faults.FormatFault.TheVariants.{BadDigest, BadGeometry, BadLength, BadMagic, BadPadding, BadVersion, Misplaced, OutOfMemory, OutOfOrder}
use Rattle.cs_frame.specs.Bytes.{all_zero, field, number}
use Rattle.cs_frame.specs.Faults.{fault_number, first_fault, unless}
use Rattle.cs_frame.specs.FirstFormat.{first_format_end, first_format_fault, first_format_tests, page_zero_fault, zero_format}
use Rattle.cs_frame.specs.declared.formats.FormatNumber.{FormatNumber}
use Rattle.cs_frame.specs.FormatNumbers.{greatest_runs, page_digit}
use Rattle.cs_frame.specs.FormatRuns.{front_length_test, front_test, run_fault, stored_fault}
use Rattle.cs_frame.specs.Geometries.{run_bytes}
use Rattle.cs_frame.specs.PackedRuns.{packed_end, packed_fault, packed_tests}
use Rattle.cs_frame.specs.Pages.{digest_test}
use Rattle.cs_frame.specs.Roots.{root_count, root_end, root_fault, root_tests}
use Rattle.cs_frame.specs.Runs.{entries_tests, entry_end, id_in, is_before, order_test, pieces_in, plain_fault, plain_tests}
use Rattle.cs_frame.specs.Superblocks.{superblock_end, superblock_fault, superblock_tests}
use Rattle.law_machine.specs.Format.{Format, Four, Two}
use Rattle.law_machine.specs.Geometry.{store_front}
use Rattle.cs_reader.specs.Openings.{IsOpeningRefusal}

abbrev InRange : FormatFault → Type 0
InRange f = (20 ≤ fault_number f) × (fault_number f ≤ 26)

-- whatever this test finds is in range
abbrev FindsInRange : Option FormatFault → Type 0
FindsInRange test = (f : FormatFault) → test ≡ Some f → InRange f

abbrev AllFind : List (Option FormatFault) → Type 0
AllFind [] = Unit {0}
AllFind (test ∷ tests) = FindsInRange test × AllFind tests

finds : (b : Bool) (g : FormatFault) → InRange g → FindsInRange (unless b g)
finds true g is f h = absurd (cc h)
finds false g is f h = subst InRange (same_Some g f h) is

first_finds : (tests : List (Option FormatFault)) → AllFind tests → FindsInRange (first_fault tests)
first_finds [] all f h = absurd (cc h)
first_finds (None ∷ tests) all f h = first_finds tests all.1 f h
first_finds (Some g ∷ tests) all f h = all.0 f h

all_find : (xs ys : List (Option FormatFault)) → AllFind xs → AllFind ys → AllFind (xs ++ ys)
all_find [] ys a b = b
all_find (x ∷ xs) ys a b = (a.0, all_find xs ys a.1 b)

digest : (end : ℕ) (bytes : List ℕ) → FindsInRange (digest_test end bytes)
digest end bytes = finds _ BadDigest (omega arith, omega arith)

superblock_finds : (n : FormatNumber) (bytes : List ℕ) → FindsInRange (superblock_fault n bytes)
superblock_finds n bytes = first_finds (superblock_tests n bytes) (
  finds _ BadMagic (omega arith, omega arith),
  (
    finds _ BadVersion (omega arith, omega arith),
    (
      finds _ BadLength (omega arith, omega arith),
      (
        digest (superblock_end n bytes) bytes,
        (
          finds _ BadVersion (omega arith, omega arith),
          (
            finds _ BadLength (omega arith, omega arith),
            (
              finds _ BadPadding (omega arith, omega arith),
              tt,
            ),
          ),
        ),
      ),
    ),
  ),
)

first_format_finds : (bytes : List ℕ) → FindsInRange (first_format_fault bytes)
first_format_finds bytes = first_finds (first_format_tests bytes) (
  finds _ BadMagic (omega arith, omega arith),
  (
    finds _ BadVersion (omega arith, omega arith),
    (
      finds _ BadLength (omega arith, omega arith),
      (
        digest (first_format_end bytes) bytes,
        (
          finds _ BadVersion (omega arith, omega arith),
          (
            finds _ BadLength (omega arith, omega arith),
            (
              finds _ BadPadding (omega arith, omega arith),
              tt,
            ),
          ),
        ),
      ),
    ),
  ),
)

-- on page 0 the tests are those of one format
page_zero_finds : (bytes : List ℕ) → FindsInRange (page_zero_fault bytes)
page_zero_finds bytes = go (slice_index bytes 3 == 49)
  where
    go : (b : Bool) → FindsInRange (if b then first_format_fault bytes else superblock_fault (zero_format bytes) bytes)
    go true = first_format_finds bytes
    go false = superblock_finds (zero_format bytes) bytes

root_finds : (n : FormatNumber) (bytes : List ℕ) → FindsInRange (root_fault n bytes)
root_finds n bytes = first_finds (root_tests n bytes) (
  finds (bytes_eq (field 0 3 bytes) (codes "CSR")) BadMagic (omega arith, omega arith),
  (
    finds (slice_index bytes 3 == page_digit n) BadVersion (omega arith, omega arith),
    (
      finds (nat_le (root_count n bytes) (greatest_runs n)) BadLength (omega arith, omega arith),
      (
        digest (root_end n bytes) bytes,
        (
          finds (nat_le 1 (number 4 12 bytes) && nat_lt (number 4 12 bytes) (2 ^ 63) && nat_lt (number 12 20 bytes) (2 ^ 63)) BadVersion (omega arith, omega arith),
          (
            finds (all_zero (drop (root_end n bytes + 32) bytes)) BadPadding (omega arith, omega arith),
            tt,
          ),
        ),
      ),
    ),
  ),
)

order_finds : (previous : Option (List ℕ)) (id : List ℕ) → FindsInRange (order_test previous id)
order_finds None id f h = absurd (cc h)
order_finds (Some previous) id f h = finds (is_before previous id) OutOfOrder (omega arith, omega arith) f h

entries_find : (previous : Option (List ℕ)) (pieces : List (List ℕ)) → AllFind (entries_tests previous pieces)
entries_find previous [] = tt
entries_find previous (piece ∷ pieces) = (
  order_finds previous (id_in piece),
  (
    finds (nat_le (slice_index piece 16) 8) BadLength (omega arith, omega arith),
    (
      finds (all_zero (drop (entry_end piece) piece)) BadPadding (omega arith, omega arith),
      entries_find (Some (id_in piece)) pieces,
    ),
  ),
)

plain_finds : (payload : List ℕ) → FindsInRange (plain_fault payload)
plain_finds payload = first_finds (plain_tests payload) (
  finds (nat_le 4 (length payload) && nat_le 1 (number 0 4 payload) && length payload == run_bytes (number 0 4 payload)) BadLength (omega arith, omega arith),
  entries_find None (pieces_in payload),
)

packed_find : (count : ℕ) (previous : Option (List ℕ)) (bytes : List ℕ) → AllFind (packed_tests count previous bytes)
packed_find zero previous bytes = (finds (length bytes == 0) BadLength (omega arith, omega arith), tt)
packed_find (suc count) previous bytes = (
  finds (nat_le 17 (length bytes)) BadLength (omega arith, omega arith),
  (
    order_finds previous (id_in bytes),
    (
      finds (nat_le (slice_index bytes 16) 8) BadLength (omega arith, omega arith),
      (
        finds (nat_le (packed_end bytes) (length bytes)) BadLength (omega arith, omega arith),
        packed_find count (Some (id_in bytes)) (drop (packed_end bytes) bytes),
      ),
    ),
  ),
)

packed_finds : (payload : List ℕ) → FindsInRange (packed_fault payload)
packed_finds payload = first_finds (unless (nat_le 4 (length payload) && nat_le 1 (number 0 4 payload)) BadLength ∷ packed_tests (number 0 4 payload) None (drop 4 payload)) (
  finds (nat_le 4 (length payload) && nat_le 1 (number 0 4 payload)) BadLength (omega arith, omega arith),
  packed_find (number 0 4 payload) None (drop 4 payload),
)

-- a run that has the front of the store's identity
stored_finds : (front payload : List ℕ) → FindsInRange (stored_fault front payload)
stored_finds front payload = first_finds (front_length_test payload ∷ front_test front payload ∷ packed_fault (drop 8 payload) ∷ []) (
  finds (nat_le 8 (length payload)) BadLength (omega arith, omega arith),
  (finds (bytes_eq (field 0 8 payload) front) Misplaced (omega arith, omega arith), (packed_finds (drop 8 payload), tt)),
)

run_finds : (format : Format) (payload : List ℕ) → FindsInRange (run_fault format payload)
run_finds Two payload = plain_finds payload
run_finds (Four store device) payload = stored_finds (store_front (Four store device)) payload

-- the refusal has the fault's number
same_number : (f : FormatFault) → number_of (refusal_for f) ≡ fault_number f
same_number BadGeometry = refl
same_number OutOfMemory = refl
same_number BadMagic = refl
same_number BadDigest = refl
same_number BadLength = refl
same_number BadPadding = refl
same_number BadVersion = refl
same_number OutOfOrder = refl
same_number Misplaced = refl

of_fault : (found : Option FormatFault) → FindsInRange found → (r : Refusal) → (r ≡ NoMemory) ⊎ IsOfFault found r → IsOpeningRefusal r
of_fault found range r (inl memory) = inl (inr memory)
of_fault found range r (inr fault) =
    let there = range fault.0 fault.1 in
    let number : number_of (refusal_for fault.0) ≡ fault_number fault.0 = same_number fault.0 in
    inr (inl (subst (λ (k : Refusal). (20 ≤ number_of k) × (number_of k ≤ 27)) (sym fault.2) (omega (arith, number, there.0), omega (arith, number, there.1))))

pub superblock_refused : (n : FormatNumber) (bytes : List ℕ) (r : Refusal) → (r ≡ NoMemory) ⊎ IsOfFault (superblock_fault n bytes) r → IsOpeningRefusal r
superblock_refused n bytes r why = of_fault (superblock_fault n bytes) (superblock_finds n bytes) r why

pub page_zero_refused : (bytes : List ℕ) (r : Refusal) → (r ≡ NoMemory) ⊎ IsOfFault (page_zero_fault bytes) r → IsOpeningRefusal r
page_zero_refused bytes r why = of_fault (page_zero_fault bytes) (page_zero_finds bytes) r why

pub root_refused : (n : FormatNumber) (bytes : List ℕ) (r : Refusal) → (r ≡ NoMemory) ⊎ IsOfFault (root_fault n bytes) r → IsOpeningRefusal r
root_refused n bytes r why = of_fault (root_fault n bytes) (root_finds n bytes) r why

pub run_refused : (format : Format) (payload : List ℕ) (r : Refusal) → (r ≡ NoMemory) ⊎ IsOfFault (run_fault format payload) r → IsOpeningRefusal r
run_refused format payload r why = of_fault (run_fault format payload) (run_finds format payload) r why

-- a frame is refused so
pub frame_refused : (r : Refusal) → IsReadRefusal r → IsOpeningRefusal r
frame_refused r (inl none) = inl none
frame_refused r (inr (inl range)) = inr (inl (range.0, omega (arith, range.1)))
frame_refused r (inr (inr is)) = inr (inl (subst (λ (k : Refusal). (20 ≤ number_of k) × (number_of k ≤ 27)) (sym is) (omega arith, omega arith)))
