-- A payload without a fault as a run is spelled, and what is spelled has no fault and is read as it was.
use Rattle.std.proofs.Common.{◌≡◌, ℕ, zero, suc, ◌+◌, ◌-◌, ◌*◌, ◌/◌, ◌≤◌, ◌<◌, ◌^◌, true, false, List, [], ◌∷◌, ◌++◌, length, take, drop, map, get_or, slice_index, None, Some, Option, refl, sym, ap, subst, ◌∙◌, arith, append_assoc, length-append, add-one, nat_le, ◌==◌, ◌&&◌}
use Rattle.std.specs.List.{AllByRecursion, flat_map}
use Rattle.std.specs.Simd.{first_chunks}
use Rattle.std.proofs.Math.Seq.{drop-cons}
use Rattle.std.proofs.lemmas.Bool.{and_parts, and_from, eqb-true, leb-true, eq-eqb, le-leb}
use Rattle.std.proofs.lemmas.List.{take_at, take-append-drop, length-take-le, length-drop, length-map, length-replicate}
use Rattle.byteorder.specs.Endian.{big_bytes}
use Rattle.cs_frame.specs.declared.faults.FormatFault.{FormatFault}
use Rattle.cs_frame.specs.declared.faults.FormatFault.TheVariants.{BadLength, BadPadding, OutOfMemory, OutOfOrder}
use Rattle.cs_frame.specs.Bytes.{IsBytes, all_zero, field, number, zeros}
use Rattle.cs_frame.specs.Faults.{first_fault}
use Rattle.cs_frame.specs.Locators.{locators_in, spelled_locators}
use Rattle.cs_frame.specs.Runs.{Entry, FitsEntry, Rises, SpellsPlain, count_test, entries_in, entries_tests, entry_end, entry_in, entry_tests, greatest_chunks, id_in, is_before, order_test, pieces_in, plain_fault, plain_tests, spelled_entry, plain_run, zeros_test}
use Rattle.cs_frame.proofs.Fields.{IsBytes-drop, IsBytes-field, IsBytes-take, after_field, byte_at_front, field_1, field_4, field_at, length-field, number_at, number_below, take_more}
use Rattle.cs_frame.proofs.FrameLaws.{first_of_more}
use Rattle.cs_frame.proofs.LocatorLaws.{fit-locators_in, length-locators_in, length-spelled_locators, locators_in-spelled, spelled-locators_in}
use Rattle.cs_frame.proofs.Pieces.{AllByRecursion-and, AllByRecursion-map, cut_spelled, each_piece, length-first_chunks, length-spelled_fit, spelled_pieces}
use Rattle.cs_frame.proofs.TestLaws.{Passes, all_zeros, all_zero-zeros, and_passes, no_test, none_rest, passed, no_memory}

-- ---- the walk of the decoder

-- tests that pass leave the rest
pub rest_of_more : (tests more : List (Option FormatFault)) → first_fault tests ≡ None → first_fault (tests ++ more) ≡ first_fault more
rest_of_more [] more h = refl
rest_of_more (None ∷ tests) more h = rest_of_more tests more h
rest_of_more (Some f ∷ tests) more h = cc

-- the walk stops at a piece with a fault
pub walk_stops : (previous : Option (List ℕ)) (pieces : List (List ℕ)) (i : ℕ) (f : FormatFault) → i < length pieces → Some f ≡ first_fault (entry_tests previous (get_or pieces i [])) → first_fault (entries_tests previous (drop i pieces)) ≡ Some f
walk_stops previous pieces i f inside h =
    ap (λ (ps : List (List ℕ)). first_fault (entries_tests previous ps)) (drop-cons pieces i [] inside)
    ∙ first_of_more (entry_tests previous (get_or pieces i [])) (entries_tests (Some (id_in (get_or pieces i []))) (drop (suc i) pieces)) f (sym h)

-- and goes on after one without
pub walk_goes_on : (previous : Option (List ℕ)) (pieces : List (List ℕ)) (i : ℕ) (id : List ℕ) → i < length pieces → None ≡ first_fault (entry_tests previous (get_or pieces i [])) → id ≡ id_in (get_or pieces i [])
    → first_fault (entries_tests previous (drop i pieces)) ≡ first_fault (entries_tests (Some id) (drop (i + 1) pieces))
walk_goes_on previous pieces i id inside h e =
    ap (λ (ps : List (List ℕ)). first_fault (entries_tests previous ps)) (drop-cons pieces i [] inside)
    ∙ rest_of_more (entry_tests previous (get_or pieces i [])) (entries_tests (Some (id_in (get_or pieces i []))) (drop (suc i) pieces)) (sym h)
    ∙ ap (λ (x : List ℕ). first_fault (entries_tests (Some x) (drop (suc i) pieces))) (sym e)
    ∙ ap (λ (n : ℕ). first_fault (entries_tests (Some id) (drop n pieces))) (sym (add-one i))

-- no test answers that memory ran out
not_of_entries : (previous : Option (List ℕ)) (pieces : List (List ℕ)) → first_fault (entries_tests previous pieces) ≡ Some OutOfMemory → ⊥
not_of_entries previous [] h = cc
not_of_entries None (p ∷ ps) h =
    no_memory _ BadLength (zeros_test p ∷ entries_tests (Some (id_in p)) ps) (λ e. cc) (no_memory _ BadPadding (entries_tests (Some (id_in p)) ps) (λ e. cc) (not_of_entries (Some (id_in p)) ps)) h
not_of_entries (Some previous) (p ∷ ps) h =
    no_memory _ OutOfOrder (count_test p ∷ zeros_test p ∷ entries_tests (Some (id_in p)) ps) (λ e. cc)
    (no_memory _ BadLength (zeros_test p ∷ entries_tests (Some (id_in p)) ps) (λ e. cc) (no_memory _ BadPadding (entries_tests (Some (id_in p)) ps) (λ e. cc) (not_of_entries (Some (id_in p)) ps))) h

pub not_of_run : (payload : List ℕ) → plain_fault payload ≡ Some OutOfMemory → ⊥
not_of_run payload h = no_memory _ BadLength (entries_tests None (pieces_in payload)) (λ e. cc) (not_of_entries None (pieces_in payload)) h

-- ---- a payload without a fault

-- what the tests of an entry say beside the order
pub record IsSoundPiece (piece : List ℕ) : Type 0 where
  pub count : slice_index piece 16 ≤ greatest_chunks
  pub padding : all_zero (drop (entry_end piece) piece) ≡ true

each_is_sound : (previous : Option (List ℕ)) (pieces : List (List ℕ)) → first_fault (entries_tests previous pieces) ≡ None → AllByRecursion IsSoundPiece pieces
each_is_sound previous [] h = tt
each_is_sound previous (p ∷ ps) h =
    let order = none_rest (order_test previous (id_in p)) (count_test p ∷ zeros_test p ∷ entries_tests (Some (id_in p)) ps) h in
    let count = passed (nat_le (slice_index p 16) greatest_chunks) BadLength (zeros_test p ∷ entries_tests (Some (id_in p)) ps) order.1 in
    let padding = passed (all_zero (drop (entry_end p) p)) BadPadding (entries_tests (Some (id_in p)) ps) count.1 in
    (record { count = leb-true _ _ count.0; padding = padding.0 }, each_is_sound (Some (id_in p)) ps padding.1)

rises_from : (p : List ℕ) (ps : List (List ℕ)) → first_fault (entries_tests (Some (id_in p)) ps) ≡ None → Rises (map entry_in (p ∷ ps))
rises_from p [] h = tt
rises_from p (q ∷ ps) h =
    let order = passed (is_before (id_in p) (id_in q)) OutOfOrder (count_test q ∷ zeros_test q ∷ entries_tests (Some (id_in q)) ps) h in
    let count = none_rest (count_test q) (zeros_test q ∷ entries_tests (Some (id_in q)) ps) order.1 in
    let padding = none_rest (zeros_test q) (entries_tests (Some (id_in q)) ps) count.1 in
    (order.0, rises_from q ps padding.1)

rises : (ps : List (List ℕ)) → first_fault (entries_tests None ps) ≡ None → Rises (map entry_in ps)
rises [] h = tt
rises (p ∷ ps) h =
    let count = none_rest (count_test p) (zeros_test p ∷ entries_tests (Some (id_in p)) ps) h in
    let padding = none_rest (zeros_test p) (entries_tests (Some (id_in p)) ps) count.1 in
    rises_from p ps padding.1

-- a piece of a run: 81 bytes
pub record IsPiece (piece : List ℕ) : Type 0 where
  pub bytes : IsBytes piece
  pub size : length piece ≡ 81

spelled-entry_in : (piece : List ℕ) → IsPiece piece → IsSoundPiece piece → (spelled_entry (entry_in piece) ≡ piece) × FitsEntry false (entry_in piece)
spelled-entry_in piece is it =
    let c : ℕ = slice_index piece 16 in
    let end : ℕ = entry_end piece in
    let size = is.size in
    let few : c ≤ greatest_chunks = it.count in
    let part : List ℕ = field 17 (entry_end piece) piece in
    let are : IsBytes part = IsBytes-field piece 17 (entry_end piece) is.bytes in
    let long : length part ≡ 8 * c = length-field piece 17 (entry_end piece) (omega arith) (omega arith) ∙ omega arith in
    let spelled : spelled_locators false (locators_in false part) ≡ part = spelled-locators_in false c part are long in
    let k : length (locators_in false part) ≡ c = length-locators_in false c part long in
    let counted : take 17 piece ≡ id_in piece ++ length (locators_in false part) ∷ [] = take_more piece _ _ 16 17 (omega arith) refl (field_1 piece 16 17 refl (omega arith) ∙ ap (λ (b : ℕ). b ∷ []) (sym k)) in
    let front : take (entry_end piece) piece ≡ id_in piece ++ length (locators_in false part) ∷ [] ++ spelled_locators false (locators_in false part) = take_more piece _ _ 17 (entry_end piece) (omega arith) counted (sym spelled) in
    let rest : length (drop (entry_end piece) piece) ≡ 64 - 8 * length (locators_in false part) = omega (arith, length-drop (entry_end piece) piece, k) in
    let padding : drop (entry_end piece) piece ≡ zeros (64 - 8 * length (locators_in false part)) = all_zeros (drop (entry_end piece) piece) it.padding ∙ ap zeros rest in (
      ap (λ (xs : List ℕ). xs ++ zeros (64 - 8 * length (locators_in false part))) (sym front)
          ∙ ap (λ (xs : List ℕ). take (entry_end piece) piece ++ xs) (sym padding)
          ∙ take-append-drop (entry_end piece) piece,
      record {
        size = length-take-le 16 piece (omega arith);
        bytes = IsBytes-take 16 piece is.bytes;
        count = omega (arith, k, few);
        each = fit-locators_in false c part are long;
      },
    )

-- a payload without a fault spells what is read from it
pub spells : (payload : List ℕ) (entries : List Entry) → IsBytes payload → plain_fault payload ≡ None → entries ≡ entries_in payload → SpellsPlain payload entries
spells payload entries are h e =
    let p = passed (nat_le 4 (length payload) && nat_le 1 (number 0 4 payload) && length payload == 4 + 81 * number 0 4 payload) BadLength (entries_tests None (pieces_in payload)) h in
    let sizes = and_parts (nat_le 4 (length payload) && nat_le 1 (number 0 4 payload)) (length payload == 4 + 81 * number 0 4 payload) p.0 in
    let lows = and_parts (nat_le 4 (length payload)) (nat_le 1 (number 0 4 payload)) sizes.0 in
    let n : ℕ = number 0 4 payload in
    let long : length payload ≡ 4 + 81 * n = eqb-true (length payload) (4 + 81 * n) sizes.1 in
    let some : 1 ≤ n = leb-true 1 n lows.1 in
    let rest : List ℕ = drop 4 payload in
    let size : length rest ≡ 81 * n = omega (arith, length-drop 4 payload, long) in
    let quotient : length rest / 81 ≡ n = omega (arith, size) in
    let pieces : pieces_in payload ≡ first_chunks 81 n rest = ap (λ (k : ℕ). first_chunks 81 k rest) quotient in
    let sound : AllByRecursion IsSoundPiece (first_chunks 81 n rest) = subst (λ (ps : List (List ℕ)). AllByRecursion IsSoundPiece ps) pieces (each_is_sound None (pieces_in payload) p.1) in
    let whole : AllByRecursion IsPiece (first_chunks 81 n rest) = each_piece IsPiece 81 n rest (λ piece is l. record { bytes = is; size = l }) (IsBytes-drop 4 payload are) size in
    let spelled : AllByRecursion (λ (piece : List ℕ). spelled_entry (entry_in piece) ≡ piece) (first_chunks 81 n rest) = AllByRecursion-and IsPiece IsSoundPiece (λ (piece : List ℕ). spelled_entry (entry_in piece) ≡ piece) (λ piece a b. (spelled-entry_in piece a b).0) (first_chunks 81 n rest) whole sound in
    let fit : AllByRecursion (λ (piece : List ℕ). FitsEntry false (entry_in piece)) (first_chunks 81 n rest) = AllByRecursion-and IsPiece IsSoundPiece (λ (piece : List ℕ). FitsEntry false (entry_in piece)) (λ piece a b. (spelled-entry_in piece a b).1) (first_chunks 81 n rest) whole sound in
    let count : length (map entry_in (first_chunks 81 n rest)) ≡ n = length-map (first_chunks 81 n rest) entry_in ∙ length-first_chunks 81 n rest in
    let front : take 4 payload ≡ big_bytes 4 n = field_4 payload 0 4 refl (omega (arith, long)) are in
    let bytes : payload ≡ plain_run (map entry_in (first_chunks 81 n rest)) =
    sym (take-append-drop 4 payload)
    ∙ ap (λ (xs : List ℕ). xs ++ drop 4 payload) (front ∙ ap (big_bytes 4) (sym count))
    ∙ ap (λ (xs : List ℕ). big_bytes 4 (length (map entry_in (first_chunks 81 n rest))) ++ xs) (sym (spelled_pieces spelled_entry entry_in 81 n rest spelled size)) in
    let below : n < 2 ^ 32 = number_below payload 0 4 are in
    let it : SpellsPlain payload (map entry_in (first_chunks 81 n rest)) = record {
      fits = record {
        some = subst (λ (k : ℕ). 1 ≤ k) (sym count) some;
        most = subst (λ (k : ℕ). k < 2 ^ 32) (sym count) below;
        each = AllByRecursion-map (FitsEntry false) entry_in (first_chunks 81 n rest) fit;
        rising = subst (λ (ps : List (List ℕ)). Rises (map entry_in ps)) pieces (rises (pieces_in payload) p.1);
      };
      spelled = bytes;
    } in
    subst (λ (es : List Entry). SpellsPlain payload es) (sym (e ∙ ap (λ (ps : List (List ℕ)). map entry_in ps) pieces)) it

-- each count of a payload without a fault is at most 8
pub counts : (payload : List ℕ) → plain_fault payload ≡ None → (i : ℕ) → i < length (pieces_in payload) → slice_index (get_or (pieces_in payload) i []) 16 ≤ greatest_chunks
counts payload h i inside =
    let p = passed (nat_le 4 (length payload) && nat_le 1 (number 0 4 payload) && length payload == 4 + 81 * number 0 4 payload) BadLength (entries_tests None (pieces_in payload)) h in
    at (pieces_in payload) i (each_is_sound None (pieces_in payload) p.1) inside
  where
    at : (ps : List (List ℕ)) (i : ℕ) → AllByRecursion IsSoundPiece ps → i < length ps → slice_index (get_or ps i []) 16 ≤ greatest_chunks
    at [] i all inside = absurd (omega arith)
    at (p ∷ ps) zero all inside = all.0.count
    at (p ∷ ps) (suc i) all inside = at ps i all.1 (omega arith)

-- ---- what is spelled

entry_grouped : (id k ls rest : List ℕ) → id ++ k ++ ls ++ rest ≡ id ++ (k ++ (ls ++ rest))
entry_grouped id k ls rest = simp append_assoc

length-spelled_entry : (e : Entry) → FitsEntry false e → length (spelled_entry e) ≡ 81
length-spelled_entry e fits =
    let left : ℕ = 64 - 8 * length e.locators in
    omega (
      arith,
      ap length (entry_grouped e.id (length e.locators ∷ []) (spelled_locators false e.locators) (zeros left)),
      length-append e.id (length e.locators ∷ spelled_locators false e.locators ++ zeros left),
      length-append (spelled_locators false e.locators) (zeros left),
      length-spelled_locators false e.locators,
      length-replicate {A = ℕ} left 0,
      fits.size,
      fits.count,
    )

module _ (e : Entry) (fits : FitsEntry false e) where
  piece : List ℕ
  piece = spelled_entry e

  all : drop 0 (spelled_entry e) ≡ e.id ++ (length e.locators ∷ spelled_locators false e.locators ++ zeros (64 - 8 * length e.locators))
  all = entry_grouped e.id (length e.locators ∷ []) (spelled_locators false e.locators) (zeros (64 - 8 * length e.locators))

  at_count : drop 16 (spelled_entry e) ≡ length e.locators ∷ spelled_locators false e.locators ++ zeros (64 - 8 * length e.locators)
  at_count = after_field (spelled_entry e) e.id _ 0 16 all (omega (arith, fits.size))

  at_locators : drop 17 (spelled_entry e) ≡ spelled_locators false e.locators ++ zeros (64 - 8 * length e.locators)
  at_locators = after_field (spelled_entry e) (length e.locators ∷ []) _ 16 17 at_count refl

  id_is_read : id_in (spelled_entry e) ≡ e.id
  id_is_read = ap (take 16) all ∙ take_at e.id _ 16 fits.size

  count_is_read : slice_index (spelled_entry e) 16 ≡ length e.locators
  count_is_read = byte_at_front (spelled_entry e) _ 16 (length e.locators) at_count

  end_is_read : 17 + length (spelled_locators false e.locators) ≡ entry_end (spelled_entry e)
  end_is_read = omega (arith, length-spelled_locators false e.locators, count_is_read)

  locators_are_read : locators_in false (field 17 (entry_end (spelled_entry e)) (spelled_entry e)) ≡ e.locators
  locators_are_read = ap (locators_in false) (field_at (spelled_entry e) (spelled_locators false e.locators) _ 17 (entry_end (spelled_entry e)) at_locators end_is_read) ∙ locators_in-spelled false e.locators fits.each

  entry_is_read : entry_in (spelled_entry e) ≡ e
  entry_is_read = λ i. record { id = id_is_read i; locators = locators_are_read i }

  is_sound : IsSoundPiece (spelled_entry e)
  is_sound = record {
    count = omega (arith, count_is_read, fits.count);
    padding = ap all_zero (after_field (spelled_entry e) (spelled_locators false e.locators) (zeros (64 - 8 * length e.locators)) 17 (entry_end (spelled_entry e)) at_locators end_is_read) ∙ all_zero-zeros (64 - 8 * length e.locators);
  }

entries_are_read : (es : List Entry) → AllByRecursion (FitsEntry false) es → map entry_in (map spelled_entry es) ≡ es
entries_are_read [] fits = refl
entries_are_read (e ∷ es) fits = ap (λ (x : Entry). x ∷ map entry_in (map spelled_entry es)) (entry_is_read e fits.0) ∙ ap (λ (xs : List Entry). e ∷ xs) (entries_are_read es fits.1)

-- the tests of an entry after its order, and of those after it
pass_after : (e : Entry) (es : List Entry) → FitsEntry false e → AllByRecursion (FitsEntry false) es → Rises (e ∷ es) → Passes (count_test (spelled_entry e) ∷ zeros_test (spelled_entry e) ∷ entries_tests (Some (id_in (spelled_entry e))) (map spelled_entry es))
pass_after e [] fits others rising =
    let it = is_sound e fits in
    and_passes _ BadLength _ (le-leb _ _ it.count) (and_passes _ BadPadding _ it.padding no_test)
pass_after e (f ∷ es) fits others rising =
    let it = is_sound e fits in
    let order : is_before (id_in (spelled_entry e)) (id_in (spelled_entry f)) ≡ true = ap (λ (a : List ℕ). is_before a (id_in (spelled_entry f))) (id_is_read e fits) ∙ ap (is_before e.id) (id_is_read f others.0) ∙ rising.0 in
    and_passes _ BadLength _ (le-leb _ _ it.count)
    (and_passes _ BadPadding _ it.padding
    (and_passes _ OutOfOrder _ order (pass_after f es others.0 others.1 rising.1)))

pass_all : (es : List Entry) → AllByRecursion (FitsEntry false) es → Rises es → first_fault (entries_tests None (map spelled_entry es)) ≡ None
pass_all [] fits rising = refl
pass_all (e ∷ es) fits rising = (pass_after e es fits.0 fits.1 rising).none

module _ (payload : List ℕ) (es : List Entry) (it : SpellsPlain payload es) where
  rest : drop 4 payload ≡ flat_map spelled_entry es
  rest = ap (drop 4) it.spelled

  size : length (flat_map spelled_entry es) ≡ 81 * length es
  size = length-spelled_fit spelled_entry 81 (FitsEntry false) length-spelled_entry es it.fits.each

  pieces : pieces_in payload ≡ map spelled_entry es
  pieces =
      let quotient : length (flat_map spelled_entry es) / 81 ≡ length es = omega (arith, size) in
      ap (λ (xs : List ℕ). first_chunks 81 (length xs / 81) xs) rest
      ∙ ap (λ (n : ℕ). first_chunks 81 n (flat_map spelled_entry es)) quotient
      ∙ cut_spelled spelled_entry 81 (FitsEntry false) length-spelled_entry es it.fits.each

  -- what is spelled is read again
  pub run_is_read : entries_in payload ≡ es
  run_is_read = ap (map entry_in) pieces ∙ entries_are_read es it.fits.each

  -- and has no fault
  pub run_fault-spelled : plain_fault payload ≡ None
  run_fault-spelled =
      let counted : number 0 4 payload ≡ length es = number_at payload (flat_map spelled_entry es) 0 4 4 (length es) it.spelled refl refl (omega (arith, it.fits.most)) in
      let long : length payload ≡ 4 + 81 * length es = omega (arith, ap length it.spelled, length-append (big_bytes 4 (length es)) (flat_map spelled_entry es), size) in
      let low : nat_le 4 (length payload) ≡ true = le-leb _ _ (omega (arith, long)) in
      let some : nat_le 1 (number 0 4 payload) ≡ true = le-leb _ _ (omega (arith, counted, it.fits.some)) in
      let exact : (length payload == 4 + 81 * number 0 4 payload) ≡ true = eq-eqb _ _ (omega (arith, long, counted)) in
      let others : Passes (entries_tests None (pieces_in payload)) = record { none = ap (λ (ps : List (List ℕ)). first_fault (entries_tests None ps)) pieces ∙ pass_all es it.fits.each it.fits.rising } in
      let every : Passes (plain_tests payload) = and_passes _ BadLength (entries_tests None (pieces_in payload)) (and_from _ _ (and_from _ _ low some) exact) others in
      every.none
