-- A payload ends with one head alone.
use Rattle.std.proofs.Common.{◌≡◌, ℕ, zero, suc, ◌<◌, ◌≤◌, ◌^◌, ◌/◌, List, [], ◌∷◌, ◌++◌, append-nil, length, length-append, take, drop, slice_index, slice_set, refl, sym, subst, ap, ◌∙◌, arith}
use Rattle.std.proofs.Math.Nat.{div-eq_of_lt}
use Rattle.std.proofs.lemmas.List.{length-take-le, take-append-drop, take_more}
use borrow.Rule.Slice.PartMut.{put_mid}
use Rattle.byteorder.specs.Endian.{big_bytes}
use Rattle.cs_frame.specs.declared.identifiers.ShardId.{ShardId}
use Rattle.cs_frame.specs.Bytes.{IsBytes, number}
use Rattle.cs_frame.specs.Heads.{spelled_head}
use Rattle.cs_frame.specs.Identifiers.{id_bytes, id_number}
use Rattle.cs_frame.proofs.Fields.{IsBytes-take, field_8, take-field}
use Rattle.cs_frame.proofs.NamedRuns.{id_of_16, one_id, one_number, one_split}
use Rattle.cs_frame.proofs.HeadLaws.{length-head}

-- the byte at a place
at : ℕ → List ℕ → ℕ
at n [] = 0
at zero (x ∷ xs) = x
at (suc n) (x ∷ xs) = at n xs

-- two heads that are spelled alike are one
same_head : (id number count command other other_number other_count other_command : ℕ) (front other_front : List ℕ)
    → command < 2 ^ 64 → other_command < 2 ^ 64
    → spelled_head id number count command front ≡ spelled_head other other_number other_count other_command other_front
    → (id ≡ other) × (number ≡ other_number) × (count ≡ other_count) × (command ≡ other_command) × (front ≡ other_front)
unfolding at
same_head id number count command other other_number other_count other_command front other_front small also is = (
  one_id id other (ap (λ (xs : List ℕ). take 16 xs) is),
  ap (λ (xs : List ℕ). at 16 xs) is,
  ap (λ (xs : List ℕ). at 17 xs) is,
  one_number 8 command other_command (above command small ∙ sym (above other_command also))
      (ap (λ (xs : List ℕ). take 8 (drop 18 xs)) is),
  ap (λ (xs : List ℕ). drop 26 xs) is,
)
  where
    above : (n : ℕ) → n < 2 ^ 64 → n / 256 ^ 8 ≡ 0
    above n lt = div-eq_of_lt lt

-- so are two that end one payload
pub one_head : (id number count command other other_number other_count other_command : ℕ) (front other_front piece other_piece : List ℕ)
    → length front ≡ 8 → length other_front ≡ 8 → command < 2 ^ 64 → other_command < 2 ^ 64
    → piece ++ spelled_head id number count command front ≡ other_piece ++ spelled_head other other_number other_count other_command other_front
    → (id ≡ other) × (number ≡ other_number) × (count ≡ other_count) × (command ≡ other_command) × (front ≡ other_front) × (piece ≡ other_piece)
one_head id number count command other other_number other_count other_command front other_front piece other_piece eight also_eight small also is =
    let head : List ℕ = spelled_head id number count command front in
    let other_head : List ℕ = spelled_head other other_number other_count other_command other_front in
    let a = length-head id number count command front eight in
    let b = length-head other other_number other_count other_command other_front also_eight in
    let size : length piece ≡ length other_piece = omega (arith, a, b, ap length is, length-append piece head, length-append other_piece other_head) in
    let split = one_split piece other_piece head other_head size is in
    let heads = same_head id number count command other other_number other_count other_command front other_front small also split.1 in
    (heads.0, heads.1, heads.2, heads.3, heads.4, split.0)

-- sixteen bytes are those of the number that they spell
id_spelled : (bytes : List ℕ) → IsBytes bytes → length bytes ≡ 16 → id_bytes (id_number (record { 0 = bytes })) ≡ bytes
unfolding id_number
id_spelled bytes are size = id_of_16 bytes are size

-- the bytes of a head before its command is written, from those of the identifier and of the store
abbrev pub begun : (number count : ℕ) → (ids store : List ℕ) → List ℕ
begun number count ids store = slice_set (slice_set (ids ++ 0 ∷ 0 ∷ 0 ∷ 0 ∷ 0 ∷ 0 ∷ 0 ∷ 0 ∷ 0 ∷ 0 ∷ (store ++ [])) 16 number) 17 count

-- a head that is written, part by part
pub write_head : (id : ShardId) (number count command : ℕ) (front ids store ys : List ℕ) → ids ≡ id.0 → IsBytes ids → length ids ≡ 16
    → ys ≡ big_bytes 8 command ++ drop 8 (take 8 (drop 18 (begun number count ids store))) → store ≡ front
    → put_mid 18 8 (begun number count ids store) ys ≡ spelled_head (id_number id) number count command front
write_head id number count command front ids store ys same are size written last =
    let spelled : ids ≡ id_bytes (id_number id) = sym (id_spelled ids are size) ∙ ap (λ (xs : List ℕ). id_bytes (id_number (record { 0 = xs }))) same in
    ap (λ (xs : List ℕ). put_mid 18 8 (begun number count ids store) xs) written
    ∙ ap (λ (xs : List ℕ). put_mid 18 8 (begun number count xs store) (big_bytes 8 command ++ drop 8 (take 8 (drop 18 (begun number count xs store))))) spelled
    ∙ ap (λ (xs : List ℕ). spelled_head (id_number id) number count command xs) (append-nil store ∙ last)

-- and one that is read
pub read_head : (payload ids front : List ℕ) (command : ℕ) → IsBytes payload → 26 ≤ length payload → ids ≡ take 16 payload → command ≡ number 18 26 payload → front ≡ drop 26 payload
    → payload ≡ spelled_head (id_number (record { 0 = ids })) (slice_index payload 16) (slice_index payload 17) command front
read_head payload ids front command are long first last behind =
    let size : length ids ≡ 16 = ap length first ∙ length-take-le 16 payload (omega (arith, long)) in
    let id : take 16 payload ≡ id_bytes (id_number (record { 0 = ids })) =
    sym first ∙ sym (id_spelled ids (subst IsBytes (sym first) (IsBytes-take 16 payload are)) size) in
    let number_at : take 17 payload ≡ take 16 payload ++ slice_index payload 16 ∷ [] = take_more payload 16 0 (omega (arith, long)) in
    let count_at : take 18 payload ≡ take 17 payload ++ slice_index payload 17 ∷ [] = take_more payload 17 0 (omega (arith, long)) in
    let command_at : take 26 payload ≡ take 18 payload ++ big_bytes 8 command = take-field payload 18 26 (omega arith)
    ∙ ap (λ (xs : List ℕ). take 18 payload ++ xs) (field_8 payload 18 26 refl long are ∙ ap (big_bytes 8) (sym last)) in
    let told : take 26 payload ≡ id_bytes (id_number (record { 0 = ids })) ++ slice_index payload 16 ∷ [] ++ slice_index payload 17 ∷ [] ++ big_bytes 8 command =
    command_at
    ∙ ap (λ (xs : List ℕ). xs ++ big_bytes 8 command) (count_at ∙ ap (λ (xs : List ℕ). xs ++ slice_index payload 17 ∷ []) (number_at ∙ ap (λ (xs : List ℕ). xs ++ slice_index payload 16 ∷ []) id)) in
    sym (take-append-drop 26 payload) ∙ ap (λ (xs : List ℕ). xs ++ drop 26 payload) told
    ∙ ap (λ (xs : List ℕ). spelled_head (id_number (record { 0 = ids })) (slice_index payload 16) (slice_index payload 17) command xs) (sym behind)
