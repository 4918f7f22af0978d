-- A payload without a fault as a run of packed entries is spelled, and what is spelled has no fault and is read as it
-- was.
use Rattle.std.proofs.Common.{◌≡◌, ℕ, zero, suc, ◌+◌, ◌-◌, ◌*◌, ◌≤◌, ◌<◌, ◌^◌, true, false, Bool, List, [], ◌∷◌, ◌++◌, length, take, drop, slice_index, None, Some, Option, refl, sym, ap, subst, ◌∙◌, arith, append_assoc, append-nil, length-append, nat_le, ◌==◌, ◌&&◌}
use Rattle.std.specs.List.{AllByRecursion, flat_map}
use Rattle.std.proofs.lemmas.Bool.{and_parts, and_from, eqb-true, leb-true, eq-eqb, le-leb, ne_eqb}
use Rattle.std.proofs.lemmas.List.{take_at, drop-drop, take-append-drop, length-take-le, length-drop}
use Rattle.byteorder.specs.Endian.{big_bytes}
use Rattle.cs_frame.specs.declared.faults.FormatFault.{FormatFault}
use Rattle.cs_frame.specs.declared.faults.FormatFault.TheVariants.{BadLength, OutOfMemory, OutOfOrder}
use Rattle.cs_frame.specs.Bytes.{IsBytes, field, number}
use Rattle.cs_frame.specs.Faults.{first_fault, unless}
use Rattle.cs_frame.specs.Locators.{FitsLocator, locators_in, spelled_locators}
use Rattle.cs_frame.specs.PackedRuns.{AreThere, SpellsPacked, head_test, locators_test, packed_count_test, packed_end, packed_entries_in, packed_entry, packed_entry_in, packed_entry_tests, packed_fault, packed_in, packed_run, packed_size, packed_sizes, packed_tests}
use Rattle.cs_frame.specs.Runs.{Entry, FitsEntry, Rises, count_test, greatest_chunks, id_in, is_before, order_test}
use Rattle.cs_frame.proofs.Fields.{IsBytes-drop, IsBytes-field, IsBytes-take, after_field, byte_at_front, field_1, field_4, field_at, length-field, number_at, number_below, take_more}
use Rattle.cs_frame.proofs.FrameLaws.{first_of_more}
use Rattle.cs_frame.proofs.LocatorLaws.{fit-locators_in, length-locators_in, length-spelled_locators, locators_in-spelled, spelled-locators_in}
use Rattle.cs_frame.proofs.RunLaws.{rest_of_more}
use Rattle.cs_frame.proofs.TestLaws.{none_rest, passed, no_memory}

-- ---- the walk of the decoder

-- the tests of the rest are those that are left of the tests of all
abbrev pub LeftOf : (count : ℕ) (all : List ℕ) (done : ℕ) (previous : Option (List ℕ)) (start : ℕ) → Type 0
LeftOf count all done previous start =
    first_fault (packed_tests count None all) ≡ first_fault (packed_tests (count - done) previous (drop start all))

-- at first all are left
pub all_left : (count : ℕ) (all : List ℕ) → LeftOf count all 0 None 0
all_left count all = let none : count ≡ count - 0 = omega arith in ap (λ (n : ℕ). first_fault (packed_tests n None all)) none

-- the walk stops at an entry with a fault
pub walk_stops : (count done : ℕ) (previous : Option (List ℕ)) (bytes : List ℕ) (f : FormatFault) → done < count
    → Some f ≡ first_fault (packed_entry_tests previous bytes) → first_fault (packed_tests (count - done) previous bytes) ≡ Some f
walk_stops count done previous bytes f more h =
    let left : count - done ≡ suc (count - done - 1) = omega (arith, more) in
    ap (λ (n : ℕ). first_fault (packed_tests n previous bytes)) left
    ∙ first_of_more (packed_entry_tests previous bytes) (packed_tests (count - done - 1) (Some (id_in bytes)) (drop (packed_end bytes) bytes)) f (sym h)

-- and goes on after one without
pub walk_goes_on : (count done : ℕ) (previous : Option (List ℕ)) (all : List ℕ) (start size : ℕ) (id : List ℕ) → done < count
    → None ≡ first_fault (packed_entry_tests previous (drop start all)) → id ≡ id_in (drop start all) → size ≡ packed_end (drop start all)
    → first_fault (packed_tests (count - done) previous (drop start all))
    ≡ first_fault (packed_tests (count - (done + 1)) (Some id) (drop (start + size) all))
walk_goes_on count done previous all start size id more h e s =
    let bytes : List ℕ = drop start all in
    let left : count - done ≡ suc (count - (done + 1)) = omega (arith, more) in
    ap (λ (n : ℕ). first_fault (packed_tests n previous (drop start all))) left
    ∙ rest_of_more (packed_entry_tests previous bytes) (packed_tests (count - (done + 1)) (Some (id_in bytes)) (drop (packed_end bytes) bytes)) (sym h)
    ∙ ap (λ (x : List ℕ). first_fault (packed_tests (count - (done + 1)) (Some x) (drop (packed_end bytes) bytes))) (sym e)
    ∙ ap (λ (n : ℕ). first_fault (packed_tests (count - (done + 1)) (Some id) (drop n bytes))) (sym s)
    ∙ ap (λ (xs : List ℕ). first_fault (packed_tests (count - (done + 1)) (Some id) xs)) (drop-drop size start all)

-- once all entries were walked nothing is left, or there is a fault
pub walk_ends : (count done : ℕ) (previous : Option (List ℕ)) (all : List ℕ) (start : ℕ) → count ≤ done → start ≡ length all
    → first_fault (packed_tests (count - done) previous (drop start all)) ≡ None
walk_ends count done previous all start ended is =
    let left : count - done ≡ 0 = omega (arith, ended) in
    let none : (length (drop start all) == 0) ≡ true = eq-eqb _ _ (omega (arith, length-drop start all, is)) in
    ap (λ (n : ℕ). first_fault (packed_tests n previous (drop start all))) left
    ∙ ap (λ (b : Bool). first_fault (unless b BadLength ∷ [])) none

pub walk_leaves : (count done : ℕ) (previous : Option (List ℕ)) (all : List ℕ) (start : ℕ) → count ≤ done → start ≤ length all
    → (start ≡ length all → ⊥) → first_fault (packed_tests (count - done) previous (drop start all)) ≡ Some BadLength
walk_leaves count done previous all start ended inside not =
    let left : count - done ≡ 0 = omega (arith, ended) in
    let some : (length (drop start all) == 0) ≡ false = ne_eqb _ _ (λ none. not (omega (arith, length-drop start all, none, inside))) in
    ap (λ (n : ℕ). first_fault (packed_tests n previous (drop start all))) left
    ∙ ap (λ (b : Bool). first_fault (unless b BadLength ∷ [])) some

-- of the entries that are there the first is, and the others behind it
pub there_now : (count done : ℕ) (bytes : List ℕ) → done < count → AreThere (count - done) bytes
    → (17 ≤ length bytes) × (packed_end bytes ≤ length bytes) × AreThere (count - (done + 1)) (drop (packed_end bytes) bytes)
there_now count done bytes more there =
    let left : count - done ≡ suc (count - (done + 1)) = omega (arith, more) in
    let now = subst (λ (n : ℕ). AreThere n bytes) left there in (now.0, now.2, now.3)

pub there_next : (count done : ℕ) (all : List ℕ) (start size : ℕ) → done < count → size ≡ packed_end (drop start all)
    → AreThere (count - done) (drop start all) → AreThere (count - (done + 1)) (drop (start + size) all)
there_next count done all start size more is there =
    subst (λ (xs : List ℕ). AreThere (count - (done + 1)) xs) (drop-drop size start all)
    (subst (λ (n : ℕ). AreThere (count - (done + 1)) (drop n (drop start all))) (sym is) (there_now count done (drop start all) more there).2)

-- an entry more was read
pub one_more : (read : List Entry) (e : Entry) (total : List Entry) (count done : ℕ) (all : List ℕ) (start size : ℕ) → done < count
    → e ≡ packed_entry_in (drop start all) → size ≡ packed_end (drop start all)
    → read ++ packed_in (count - done) (drop start all) ≡ total
    → (read ++ e ∷ []) ++ packed_in (count - (done + 1)) (drop (start + size) all) ≡ total
one_more read e total count done all start size more is end so_far =
    let left : count - done ≡ suc (count - (done + 1)) = omega (arith, more) in
    let bytes : List ℕ = drop start all in
    append_assoc read (e ∷ []) (packed_in (count - (done + 1)) (drop (start + size) all))
    ∙ ap (λ (xs : List ℕ). read ++ e ∷ packed_in (count - (done + 1)) xs) (sym (drop-drop size start all))
    ∙ ap (λ (n : ℕ). read ++ e ∷ packed_in (count - (done + 1)) (drop n (drop start all))) end
    ∙ ap (λ (x : Entry). read ++ x ∷ packed_in (count - (done + 1)) (drop (packed_end (drop start all)) (drop start all))) is
    ∙ ap (λ (n : ℕ). read ++ packed_in n (drop start all)) (sym left)
    ∙ so_far

pub all_read : (read total : List Entry) (count done : ℕ) (bytes : List ℕ) → count ≤ done → read ++ packed_in (count - done) bytes ≡ total
    → read ≡ total
all_read read total count done bytes ended so_far =
    let left : count - done ≡ 0 = omega (arith, ended) in
    sym (append-nil read) ∙ ap (λ (n : ℕ). read ++ packed_in n bytes) (sym left) ∙ so_far

-- no test answers that memory ran out
not_of_entries : (count : ℕ) (previous : Option (List ℕ)) (bytes : List ℕ) → first_fault (packed_tests count previous bytes) ≡ Some OutOfMemory → ⊥
not_of_entries zero previous bytes h = no_memory (length bytes == 0) BadLength [] (λ e. cc) (λ n. cc) h
not_of_entries (suc count) None bytes h =
    let rest = packed_tests count (Some (id_in bytes)) (drop (packed_end bytes) bytes) in
    no_memory _ BadLength (order_test None (id_in bytes) ∷ count_test bytes ∷ locators_test bytes ∷ rest) (λ e. cc)
    (no_memory _ BadLength (locators_test bytes ∷ rest) (λ e. cc)
    (no_memory _ BadLength rest (λ e. cc) (not_of_entries count (Some (id_in bytes)) (drop (packed_end bytes) bytes)))) h
not_of_entries (suc count) (Some previous) bytes h =
    let rest = packed_tests count (Some (id_in bytes)) (drop (packed_end bytes) bytes) in
    no_memory _ BadLength (order_test (Some previous) (id_in bytes) ∷ count_test bytes ∷ locators_test bytes ∷ rest) (λ e. cc)
    (no_memory _ OutOfOrder (count_test bytes ∷ locators_test bytes ∷ rest) (λ e. cc)
    (no_memory _ BadLength (locators_test bytes ∷ rest) (λ e. cc)
    (no_memory _ BadLength rest (λ e. cc) (not_of_entries count (Some (id_in bytes)) (drop (packed_end bytes) bytes))))) h

pub not_of_run : (payload : List ℕ) → packed_fault payload ≡ Some OutOfMemory → ⊥
not_of_run payload h = no_memory _ BadLength (packed_tests (number 0 4 payload) None (drop 4 payload)) (λ e. cc)
    (not_of_entries (number 0 4 payload) None (drop 4 payload)) h

-- ---- a payload without a fault

-- what the tests of the first entry say, beside those of the others
record IsSoundHead (previous : Option (List ℕ)) (count : ℕ) (bytes : List ℕ) : Type 0 where
  head : 17 ≤ length bytes
  order : order_test previous (id_in bytes) ≡ None
  few : slice_index bytes 16 ≤ greatest_chunks
  end : packed_end bytes ≤ length bytes
  others : first_fault (packed_tests count (Some (id_in bytes)) (drop (packed_end bytes) bytes)) ≡ None

sound_head : (previous : Option (List ℕ)) (count : ℕ) (bytes : List ℕ) → first_fault (packed_tests (suc count) previous bytes) ≡ None
    → IsSoundHead previous count bytes
sound_head previous count bytes h =
    let rest = packed_tests count (Some (id_in bytes)) (drop (packed_end bytes) bytes) in
    let a = passed (nat_le 17 (length bytes)) BadLength (order_test previous (id_in bytes) ∷ count_test bytes ∷ locators_test bytes ∷ rest) h in
    let b = none_rest (order_test previous (id_in bytes)) (count_test bytes ∷ locators_test bytes ∷ rest) a.1 in
    let c = passed (nat_le (slice_index bytes 16) greatest_chunks) BadLength (locators_test bytes ∷ rest) b.1 in
    let d = passed (nat_le (packed_end bytes) (length bytes)) BadLength rest c.1 in
    record { head = leb-true _ _ a.0; order = b.0; few = leb-true _ _ c.0; end = leb-true _ _ d.0; others = d.1 }

pub are_there : (count : ℕ) (previous : Option (List ℕ)) (bytes : List ℕ) → first_fault (packed_tests count previous bytes) ≡ None → AreThere count bytes
are_there zero previous bytes h = tt
are_there (suc count) previous bytes h =
    let it = sound_head previous count bytes h in
    (it.head, it.few, it.end, are_there count (Some (id_in bytes)) (drop (packed_end bytes) bytes) it.others)

-- the first entry is spelled by the bytes up to its end, and fits
first_spelled : (previous : Option (List ℕ)) (count : ℕ) (bytes : List ℕ) → IsBytes bytes → IsSoundHead previous count bytes
    → (packed_entry (packed_entry_in bytes) ≡ take (packed_end bytes) bytes) × FitsEntry true (packed_entry_in bytes)
first_spelled previous count bytes is it =
    let c : ℕ = slice_index bytes 16 in
    let head : 17 ≤ length bytes = it.head in
    let few : c ≤ greatest_chunks = it.few in
    let inside : packed_end bytes ≤ length bytes = it.end in
    let part : List ℕ = field 17 (packed_end bytes) bytes in
    let are : IsBytes part = IsBytes-field bytes 17 (packed_end bytes) is in
    let long : length part ≡ 16 * c = length-field bytes 17 (packed_end bytes) (omega arith) inside ∙ omega arith in
    let spelled : spelled_locators true (locators_in true part) ≡ part = spelled-locators_in true c part are long in
    let k : length (locators_in true part) ≡ c = length-locators_in true c part long in
    let counted : take 17 bytes ≡ id_in bytes ++ length (locators_in true part) ∷ [] = take_more bytes _ _ 16 17 (omega arith) refl (field_1 bytes 16 17 refl (omega arith) ∙ ap (λ (b : ℕ). b ∷ []) (sym k)) in
    let front : take (packed_end bytes) bytes ≡ id_in bytes ++ length (locators_in true part) ∷ [] ++ spelled_locators true (locators_in true part) = take_more bytes _ _ 17 (packed_end bytes) (omega arith) counted (sym spelled) in (
      sym front,
      record {
        size = length-take-le 16 bytes (omega arith);
        bytes = IsBytes-take 16 bytes is;
        count = omega (arith, k, few);
        each = fit-locators_in true c part are long;
      },
    )

no_bytes : (bytes : List ℕ) → length bytes ≡ 0 → bytes ≡ []
no_bytes [] none = refl
no_bytes (b ∷ bytes) none = absurd (omega (arith, none))

-- the bytes are spelled by the entries that are read from them, which fit
all_spelled : (count : ℕ) (previous : Option (List ℕ)) (bytes : List ℕ) → IsBytes bytes → first_fault (packed_tests count previous bytes) ≡ None
    → (flat_map packed_entry (packed_in count bytes) ≡ bytes) × AllByRecursion (FitsEntry true) (packed_in count bytes)
all_spelled zero previous bytes is h =
    let none : length bytes ≡ 0 = eqb-true (length bytes) 0 (passed (length bytes == 0) BadLength [] h).0 in
    (sym (no_bytes bytes none), tt)
all_spelled (suc count) previous bytes is h =
    let it = sound_head previous count bytes h in
    let first = first_spelled previous count bytes is it in
    let others = all_spelled count (Some (id_in bytes)) (drop (packed_end bytes) bytes) (IsBytes-drop (packed_end bytes) bytes is) it.others in (
      ap (λ (xs : List ℕ). xs ++ flat_map packed_entry (packed_in count (drop (packed_end bytes) bytes))) first.0
          ∙ ap (λ (xs : List ℕ). take (packed_end bytes) bytes ++ xs) others.0
          ∙ take-append-drop (packed_end bytes) bytes,
      (first.1, others.1),
    )

rises_from : (count : ℕ) (entry : Entry) (bytes : List ℕ) → first_fault (packed_tests count (Some entry.id) bytes) ≡ None
    → Rises (entry ∷ packed_in count bytes)
rises_from zero entry bytes h = tt
rises_from (suc count) entry bytes h =
    let it = sound_head (Some entry.id) count bytes h in
    let order = passed (is_before entry.id (id_in bytes)) OutOfOrder [] (none_alone (order_test (Some entry.id) (id_in bytes)) it.order) in
    (order.0, rises_from count (packed_entry_in bytes) (drop (packed_end bytes) bytes) it.others)
  where
    none_alone : (o : Option FormatFault) → o ≡ None → first_fault (o ∷ []) ≡ None
    none_alone None is = refl
    none_alone (Some f) is = cc

rises : (count : ℕ) (bytes : List ℕ) → first_fault (packed_tests count None bytes) ≡ None → Rises (packed_in count bytes)
rises zero bytes h = tt
rises (suc count) bytes h = let it = sound_head None count bytes h in
    rises_from count (packed_entry_in bytes) (drop (packed_end bytes) bytes) it.others

length-packed_in : (count : ℕ) (bytes : List ℕ) → length (packed_in count bytes) ≡ count
length-packed_in zero bytes = refl
length-packed_in (suc count) bytes = ap (λ (n : ℕ). suc n) (length-packed_in count (drop (packed_end bytes) bytes))

-- what the test of the count says
record IsCounted (payload : List ℕ) : Type 0 where
  head : 4 ≤ length payload
  some : 1 ≤ number 0 4 payload
  others : first_fault (packed_tests (number 0 4 payload) None (drop 4 payload)) ≡ None

counted : (payload : List ℕ) → packed_fault payload ≡ None → IsCounted payload
counted payload h =
    let p = passed (nat_le 4 (length payload) && nat_le 1 (number 0 4 payload)) BadLength (packed_tests (number 0 4 payload) None (drop 4 payload)) h in
    let lows = and_parts (nat_le 4 (length payload)) (nat_le 1 (number 0 4 payload)) p.0 in
    record { head = leb-true _ _ lows.0; some = leb-true _ _ lows.1; others = p.1 }

pub entries_there : (payload : List ℕ) → packed_fault payload ≡ None → AreThere (number 0 4 payload) (drop 4 payload)
entries_there payload h = are_there (number 0 4 payload) None (drop 4 payload) (counted payload h).others

-- a payload without a fault spells what is read from it
pub spells : (payload : List ℕ) (entries : List Entry) → IsBytes payload → packed_fault payload ≡ None → entries ≡ packed_entries_in payload
    → SpellsPacked payload entries
spells payload entries are h e =
    let it = counted payload h in
    let n : ℕ = number 0 4 payload in
    let read : List Entry = packed_in n (drop 4 payload) in
    let all = all_spelled n None (drop 4 payload) (IsBytes-drop 4 payload are) it.others in
    let count : length read ≡ n = length-packed_in n (drop 4 payload) in
    let front : take 4 payload ≡ big_bytes 4 n = field_4 payload 0 4 refl (omega (arith, it.head)) are in
    let below : n < 2 ^ 32 = number_below payload 0 4 are in
    let bytes : payload ≡ packed_run read =
    sym (take-append-drop 4 payload)
    ∙ ap (λ (xs : List ℕ). xs ++ drop 4 payload) (front ∙ ap (big_bytes 4) (sym count))
    ∙ ap (λ (xs : List ℕ). big_bytes 4 (length read) ++ xs) (sym all.0) in
    subst (λ (es : List Entry). SpellsPacked payload es) (sym e) (record {
      fits = record {
        some = subst (λ (k : ℕ). 1 ≤ k) (sym count) it.some;
        most = subst (λ (k : ℕ). k < 2 ^ 32) (sym count) below;
        each = all.1;
        rising = rises n (drop 4 payload) it.others;
      };
      spelled = bytes;
    })

-- ---- what is spelled

entry_grouped : (id k ls rest : List ℕ) → (id ++ k ++ ls) ++ rest ≡ id ++ (k ++ (ls ++ rest))
entry_grouped id k ls rest = simp append_assoc

-- what reading asks of an entry: an identifier of 16 bytes, whatever they are, and locators that fit
pub record HasFields (e : Entry) : Type 0 where
  pub size : length e.id ≡ 16
  pub each : AllByRecursion (FitsLocator true) e.locators

fields_of : (e : Entry) → FitsEntry true e → HasFields e
fields_of e fits = record { size = fits.size; each = fits.each }

all_fields : (es : List Entry) → AllByRecursion (FitsEntry true) es → AllByRecursion HasFields es
all_fields [] fits = tt
all_fields (e ∷ es) fits = (fields_of e fits.0, all_fields es fits.1)

-- an entry before other bytes
module _ (e : Entry) (fits : HasFields e) (rest : List ℕ) where
  bytes : List ℕ
  bytes = packed_entry e ++ rest

  all : drop 0 (packed_entry e ++ rest) ≡ e.id ++ (length e.locators ∷ spelled_locators true e.locators ++ rest)
  all = entry_grouped e.id (length e.locators ∷ []) (spelled_locators true e.locators) rest

  at_count : drop 16 (packed_entry e ++ rest) ≡ length e.locators ∷ spelled_locators true e.locators ++ rest
  at_count = after_field (packed_entry e ++ rest) e.id _ 0 16 all (omega (arith, fits.size))

  at_locators : drop 17 (packed_entry e ++ rest) ≡ spelled_locators true e.locators ++ rest
  at_locators = after_field (packed_entry e ++ rest) (length e.locators ∷ []) _ 16 17 at_count refl

  id_is_read : id_in (packed_entry e ++ rest) ≡ e.id
  id_is_read = ap (take 16) all ∙ take_at e.id _ 16 fits.size

  count_is_read : slice_index (packed_entry e ++ rest) 16 ≡ length e.locators
  count_is_read = byte_at_front (packed_entry e ++ rest) _ 16 (length e.locators) at_count

  end_is_read : 17 + length (spelled_locators true e.locators) ≡ packed_end (packed_entry e ++ rest)
  end_is_read = omega (arith, length-spelled_locators true e.locators, count_is_read)

  rest_is_left : drop (packed_end (packed_entry e ++ rest)) (packed_entry e ++ rest) ≡ rest
  rest_is_left = after_field (packed_entry e ++ rest) (spelled_locators true e.locators) rest 17 (packed_end (packed_entry e ++ rest)) at_locators end_is_read

  entry_is_read : packed_entry_in (packed_entry e ++ rest) ≡ e
  entry_is_read =
      let locators : locators_in true (field 17 (packed_end (packed_entry e ++ rest)) (packed_entry e ++ rest)) ≡ e.locators =
      ap (locators_in true) (field_at (packed_entry e ++ rest) (spelled_locators true e.locators) rest 17 (packed_end (packed_entry e ++ rest)) at_locators end_is_read)
      ∙ locators_in-spelled true e.locators fits.each in
      λ i. record { id = id_is_read i; locators = locators i }

  long : length (packed_entry e ++ rest) ≡ packed_size (length e.locators) + length rest
  long = ap length all ∙ omega (
    arith,
    length-append e.id (length e.locators ∷ spelled_locators true e.locators ++ rest),
    length-append (spelled_locators true e.locators) rest,
    length-spelled_locators true e.locators,
    fits.size,
  )

  end_is : packed_end (packed_entry e ++ rest) ≡ packed_size (length e.locators)
  end_is = ap packed_size count_is_read

-- so many bytes
pub length-packed : (es : List Entry) → AllByRecursion HasFields es → length (flat_map packed_entry es) ≡ packed_sizes es
length-packed [] fits = refl
length-packed (e ∷ es) fits = omega (arith, long e fits.0 (flat_map packed_entry es), length-packed es fits.1)

entries_are_read : (es : List Entry) → AllByRecursion HasFields es → packed_in (length es) (flat_map packed_entry es) ≡ es
entries_are_read [] fits = refl
entries_are_read (e ∷ es) fits =
    let rest : List ℕ = flat_map packed_entry es in
    ap (λ (x : Entry). x ∷ packed_in (length es) (drop (packed_end (packed_entry e ++ rest)) (packed_entry e ++ rest))) (entry_is_read e fits.0 rest)
    ∙ ap (λ (xs : List ℕ). e ∷ packed_in (length es) xs) (rest_is_left e fits.0 rest)
    ∙ ap (λ (xs : List Entry). e ∷ xs) (entries_are_read es fits.1)

-- two lists of entries that are spelled alike are one
pub one_packing : (xs ys : List Entry) → length xs < 2 ^ 32 → length ys < 2 ^ 32 → AllByRecursion HasFields xs → AllByRecursion HasFields ys
    → packed_run xs ≡ packed_run ys → xs ≡ ys
one_packing xs ys few few' fx fy is =
    let count : length xs ≡ length ys =
    sym (number_at (packed_run xs) (flat_map packed_entry xs) 0 4 4 (length xs) refl refl refl (omega (arith, few)))
    ∙ ap (number 0 4) is ∙ number_at (packed_run ys) (flat_map packed_entry ys) 0 4 4 (length ys) refl refl refl (omega (arith, few')) in
    sym (entries_are_read xs fx) ∙ ap (λ (n : ℕ). packed_in n (flat_map packed_entry xs)) count
    ∙ ap (λ (b : List ℕ). packed_in (length ys) (drop 4 b)) is ∙ entries_are_read ys fy

-- the order of the first entry passes
abbrev Follows : Option (List ℕ) → List Entry → Type 0
Follows previous [] = Unit {0}
Follows previous (e ∷ es) = order_test previous e.id ≡ None

follows : (e : Entry) (es : List Entry) → Rises (e ∷ es) → Follows (Some e.id) es
follows e [] rising = tt
follows e (f ∷ es) rising = let before : is_before e.id f.id ≡ true = rising.0 in
    ap (λ (b : Bool). unless b OutOfOrder) before

rising_rest : (e : Entry) (es : List Entry) → Rises (e ∷ es) → Rises es
rising_rest e [] rising = tt
rising_rest e (f ∷ es) rising = rising.1

pass : (tests : List (Option FormatFault)) (o : Option FormatFault) → o ≡ None → first_fault tests ≡ None → first_fault (o ∷ tests) ≡ None
pass tests None is h = h
pass tests (Some f) is h = cc

pass_all : (es : List Entry) (previous : Option (List ℕ)) → AllByRecursion (FitsEntry true) es → Rises es → Follows previous es
    → first_fault (packed_tests (length es) previous (flat_map packed_entry es)) ≡ None
pass_all [] previous fits rising after = refl
pass_all (e ∷ es) previous fits rising after =
    let rest : List ℕ = flat_map packed_entry es in
    let size = long e (fields_of e fits.0) rest in
    let count = count_is_read e (fields_of e fits.0) rest in
    let end = end_is e (fields_of e fits.0) rest in
    let few = fits.0.count in
    let head : nat_le 17 (length (packed_entry e ++ rest)) ≡ true = le-leb _ _ (omega (arith, size)) in
    let short : nat_le (slice_index (packed_entry e ++ rest) 16) greatest_chunks ≡ true = le-leb _ _ (omega (arith, count, few)) in
    let inside : nat_le (packed_end (packed_entry e ++ rest)) (length (packed_entry e ++ rest)) ≡ true = le-leb _ _ (omega (arith, size, end)) in
    let id = id_is_read e (fields_of e fits.0) rest in
    let order : order_test previous (id_in (packed_entry e ++ rest)) ≡ None = ap (order_test previous) id ∙ after in
    let others : first_fault (packed_tests (length es) (Some (id_in (packed_entry e ++ rest))) (drop (packed_end (packed_entry e ++ rest)) (packed_entry e ++ rest))) ≡ None =
    ap (λ (x : List ℕ). first_fault (packed_tests (length es) (Some x) (drop (packed_end (packed_entry e ++ rest)) (packed_entry e ++ rest)))) id
    ∙ ap (λ (xs : List ℕ). first_fault (packed_tests (length es) (Some e.id) xs)) (rest_is_left e (fields_of e fits.0) rest)
    ∙ pass_all es (Some e.id) fits.1 (rising_rest e es rising) (follows e es rising) in
    let tests = packed_tests (length es) (Some (id_in (packed_entry e ++ rest))) (drop (packed_end (packed_entry e ++ rest)) (packed_entry e ++ rest)) in
    pass (order_test previous (id_in (packed_entry e ++ rest)) ∷ count_test (packed_entry e ++ rest) ∷ locators_test (packed_entry e ++ rest) ∷ tests)
    (head_test (packed_entry e ++ rest)) (ap (λ (b : Bool). unless b BadLength) head)
    (pass (count_test (packed_entry e ++ rest) ∷ locators_test (packed_entry e ++ rest) ∷ tests)
    (order_test previous (id_in (packed_entry e ++ rest))) order
    (pass (locators_test (packed_entry e ++ rest) ∷ tests) (count_test (packed_entry e ++ rest)) (ap (λ (b : Bool). unless b BadLength) short)
    (pass tests (locators_test (packed_entry e ++ rest)) (ap (λ (b : Bool). unless b BadLength) inside) others)))

module _ (payload : List ℕ) (es : List Entry) (it : SpellsPacked payload es) where
  rest : drop 4 payload ≡ flat_map packed_entry es
  rest = ap (drop 4) it.spelled

  number_is_read : number 0 4 payload ≡ length es
  number_is_read = number_at payload (flat_map packed_entry es) 0 4 4 (length es) it.spelled refl refl (omega (arith, it.fits.most))

  pub packed_length : length payload ≡ 4 + packed_sizes es
  packed_length = omega (arith, ap length it.spelled, length-append (big_bytes 4 (length es)) (flat_map packed_entry es), length-packed es (all_fields es it.fits.each))

  -- what is spelled is read again
  pub run_is_read : packed_entries_in payload ≡ es
  run_is_read = ap (λ (n : ℕ). packed_in n (drop 4 payload)) number_is_read ∙ ap (packed_in (length es)) rest ∙ entries_are_read es (all_fields es it.fits.each)

  -- and has no fault
  pub fault-spelled : packed_fault payload ≡ None
  fault-spelled =
      let long = packed_length in
      let low : nat_le 4 (length payload) ≡ true = le-leb _ _ (omega (arith, long)) in
      let some : nat_le 1 (number 0 4 payload) ≡ true = le-leb _ _ (omega (arith, number_is_read, it.fits.some)) in
      pass (packed_tests (number 0 4 payload) None (drop 4 payload)) (packed_count_test payload)
      (ap (λ (b : Bool). unless b BadLength) (and_from _ _ low some))
      (ap (λ (n : ℕ). first_fault (packed_tests n None (drop 4 payload))) number_is_read
      ∙ ap (λ (xs : List ℕ). first_fault (packed_tests (length es) None xs)) rest
      ∙ pass_all es None it.fits.each it.fits.rising (first_follows es))
    where
      first_follows : (es : List Entry) → Follows None es
      first_follows [] = tt
      first_follows (e ∷ es) = refl
