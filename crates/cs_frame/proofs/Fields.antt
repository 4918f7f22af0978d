-- Fields of a list of bytes: cutting one off, finding one where it was written, and the numbers in them.
use Rattle.std.proofs.Common.{◌≡◌, ℕ, ◌+◌, ◌-◌, ◌<◌, ◌≤◌, ◌^◌, List, [], ◌∷◌, ◌++◌, length, take, drop, get_or, slice_index, refl, sym, ap, ◌∙◌, arith, length-append, inl, inr}
use Rattle.std.proofs.lemmas.List.{take_at, drop_at, drop-drop, length-drop, length-take, length-take-le, take-append-drop, drop-replicate, drop-take, take-take, get_or-take, get_or-drop, get_or_past}
use Rattle.std.proofs.lemmas.Slice.{drop-put_mid}
use Rattle.std.proofs.lemmas.Bool.{cases_lt}
use Rattle.std.proofs.Math.Seq.{take-add}
use Rattle.std.proofs.lemmas.Nat.{be_bytes_2, be_bytes_4, be_bytes_8}
use borrow.Rule.Slice.PartMut.{put_mid}
use Rattle.byteorder.specs.Endian.{big_bytes, big_number}
use Rattle.byteorder.specs.Numbers.{big_from-lt, big_number-reads_back}
use Rattle.cs_frame.specs.Bytes.{IsBytes, field, number, zeros}

-- a cut part and what follows it
pub drop-field : (xs : List ℕ) (i j : ℕ) → i ≤ j → drop i xs ≡ field i j xs ++ drop j xs
drop-field xs i j h =
    let e : i + (j - i) ≡ j = omega arith in
    sym (take-append-drop (j - i) (drop i xs)) ∙ ap (λ (ys : List ℕ). field i j xs ++ ys) (drop-drop (j - i) i xs ∙ ap (λ (n : ℕ). drop n xs) e)

-- the front up to the end of a field
pub take-field : (xs : List ℕ) (i j : ℕ) → i ≤ j → take j xs ≡ take i xs ++ field i j xs
take-field xs i j h =
    let e : i + (j - i) ≡ j = omega arith in
    ap (λ (n : ℕ). take n xs) (sym e) ∙ take-add i (j - i) xs

-- a field where it was written
pub field_at : (xs a rest : List ℕ) (i j : ℕ) → drop i xs ≡ a ++ rest → i + length a ≡ j → field i j xs ≡ a
field_at xs a rest i j e n = ap (take (j - i)) e ∙ take_at a rest (j - i) (omega arith)

-- what follows a field
pub after_field : (xs a rest : List ℕ) (i j : ℕ) → drop i xs ≡ a ++ rest → i + length a ≡ j → drop j xs ≡ rest
after_field xs a rest i j e n =
    ap (λ (m : ℕ). drop m xs) (sym n) ∙ sym (drop-drop (length a) i xs) ∙ ap (drop (length a)) e ∙ drop_at a rest (length a) refl

-- a number where it was written
pub number_at : (xs rest : List ℕ) (i j n x : ℕ) → drop i xs ≡ big_bytes n x ++ rest → length (big_bytes n x) ≡ n → i + n ≡ j → x < 256 ^ n → number i j xs ≡ x
number_at xs rest i j n x e len at fits =
    let width : j - i ≡ n = omega arith in
    let bytes : field i j xs ≡ big_bytes n x ++ [] = field_at xs (big_bytes n x) rest i j e (omega arith) ∙ sym (append-nil (big_bytes n x)) in
    ap (λ (k : ℕ). big_number k (field i j xs)) width ∙ ap (big_number n) bytes ∙ big_number-reads_back n x [] fits
  where
    append-nil : (ys : List ℕ) → ys ++ [] ≡ ys
    append-nil [] = refl
    append-nil (y ∷ ys) = ap (λ (zs : List ℕ). y ∷ zs) (append-nil ys)

-- the bytes of a part are bytes
pub IsBytes-take : (n : ℕ) (xs : List ℕ) → IsBytes xs → IsBytes (take n xs)
IsBytes-take n xs h k = elim (cases_lt k n) [
  | inl inside ↦ let e = get_or-take n xs k 0 inside in let byte = h k in omega (arith, e, byte)
  | inr past ↦ let e = get_or_past (take n xs) k 0 (omega (arith, length-take n xs)) in omega (arith, e)
]

pub IsBytes-drop : (n : ℕ) (xs : List ℕ) → IsBytes xs → IsBytes (drop n xs)
IsBytes-drop n xs h k = let e = get_or-drop n xs k 0 in let byte = h (n + k) in omega (arith, e, byte)

pub IsBytes-field : (xs : List ℕ) (i j : ℕ) → IsBytes xs → IsBytes (field i j xs)
IsBytes-field xs i j h = IsBytes-take (j - i) (drop i xs) (IsBytes-drop i xs h)

-- a field has its length
pub length-field : (xs : List ℕ) (i j : ℕ) → i ≤ j → j ≤ length xs → length (field i j xs) ≡ j - i
length-field xs i j h inside = length-take-le (j - i) (drop i xs) (omega (arith, length-drop i xs))

-- two, four or eight bytes are those of the number that they spell
pub field_2 : (xs : List ℕ) (i j : ℕ) → i + 2 ≡ j → j ≤ length xs → IsBytes xs → field i j xs ≡ big_bytes 2 (number i j xs)
field_2 xs i j e inside h =
    let two : j - i ≡ 2 = omega arith in
    let len : length (field i j xs) ≡ 2 = length-field xs i j (omega arith) inside ∙ two in
    let same : number i j xs ≡ big_number 2 (field i j xs) = ap (λ (k : ℕ). big_number k (field i j xs)) two in
    sym (be_bytes_2 (field i j xs) (number i j xs) len (IsBytes-field xs i j h) (omega (arith, same)))

pub field_4 : (xs : List ℕ) (i j : ℕ) → i + 4 ≡ j → j ≤ length xs → IsBytes xs → field i j xs ≡ big_bytes 4 (number i j xs)
field_4 xs i j e inside h =
    let two : j - i ≡ 4 = omega arith in
    let len : length (field i j xs) ≡ 4 = length-field xs i j (omega arith) inside ∙ two in
    let same : number i j xs ≡ big_number 4 (field i j xs) = ap (λ (k : ℕ). big_number k (field i j xs)) two in
    sym (be_bytes_4 (field i j xs) (number i j xs) len (IsBytes-field xs i j h) (omega (arith, same)))

pub field_8 : (xs : List ℕ) (i j : ℕ) → i + 8 ≡ j → j ≤ length xs → IsBytes xs → field i j xs ≡ big_bytes 8 (number i j xs)
field_8 xs i j e inside h =
    let two : j - i ≡ 8 = omega arith in
    let len : length (field i j xs) ≡ 8 = length-field xs i j (omega arith) inside ∙ two in
    let same : number i j xs ≡ big_number 8 (field i j xs) = ap (λ (k : ℕ). big_number k (field i j xs)) two in
    sym (be_bytes_8 (field i j xs) (number i j xs) len (IsBytes-field xs i j h) (omega (arith, same)))

-- after a write the zeros begin where it ended
pub zeros_after : (bytes new : List ℕ) (i j n total : ℕ) → i ≤ length bytes → length new ≡ n → i + n ≡ j → drop i bytes ≡ zeros (total - i) → drop j (put_mid i n bytes new) ≡ zeros (total - j)
zeros_after bytes new i j n total inside len at before =
    let e : total - i - n ≡ total - j = omega arith in
    drop-put_mid i n bytes new j (omega arith) inside len ∙ ap (λ (m : ℕ). drop m bytes) (sym at) ∙ sym (drop-drop n i bytes) ∙ ap (drop n) before ∙ drop-replicate n (total - i) 0 ∙ ap zeros e

pub length-put_mid : (bytes new : List ℕ) (i n : ℕ) → i + n ≤ length bytes → length new ≡ n → length (put_mid i n bytes new) ≡ length bytes
length-put_mid bytes new i n inside len =
    omega (arith, length-append (take i bytes) (new ++ drop n (drop i bytes)), length-append new (drop n (drop i bytes)), length-take-le i bytes (omega arith), length-drop n (drop i bytes), length-drop i bytes)

-- a field of one byte
pub field_1 : (xs : List ℕ) (i j : ℕ) → i + 1 ≡ j → j ≤ length xs → field i j xs ≡ slice_index xs i ∷ []
field_1 xs i j e inside =
    let one : j - i ≡ 1 = omega arith in
    ap (λ (n : ℕ). take n (drop i xs)) one ∙ first (drop i xs) (omega (arith, length-drop i xs)) ∙ ap (λ (b : ℕ). b ∷ []) (get_or-drop i xs 0 0 ∙ ap (λ (n : ℕ). get_or xs n 0) (let same : i + 0 ≡ i = omega arith in same))
  where
    first : (ys : List ℕ) → 0 < length ys → take 1 ys ≡ get_or ys 0 0 ∷ []
    first [] h = absurd (omega arith)
    first (y ∷ ys) h = refl

-- a byte where it was written
pub byte_at_front : (xs rest : List ℕ) (i b : ℕ) → drop i xs ≡ b ∷ rest → slice_index xs i ≡ b
byte_at_front xs rest i b e =
    let same : i + 0 ≡ i = omega arith in
    ap (λ (n : ℕ). get_or xs n 0) (sym same) ∙ sym (get_or-drop i xs 0 0) ∙ ap (λ (ys : List ℕ). get_or ys 0 0) e

-- one field more at the end of a front
pub take_more : (xs a b : List ℕ) (i j : ℕ) → i ≤ j → take i xs ≡ a → field i j xs ≡ b → take j xs ≡ a ++ b
take_more xs a b i j h front more = take-field xs i j h ∙ ap (λ (ys : List ℕ). ys ++ field i j xs) front ∙ ap (λ (ys : List ℕ). a ++ ys) more

-- what was written, after one write more
pub wrote : {before after x y z : List ℕ} → before ≡ x → after ≡ before ++ y → y ≡ z → after ≡ x ++ z
wrote {x = x} {y = y} text more same = more ∙ ap (λ (xs : List ℕ). xs ++ y) text ∙ ap (λ (xs : List ℕ). x ++ xs) same

-- a number is below what its bytes can spell
pub number_below : (xs : List ℕ) (i j : ℕ) → IsBytes xs → number i j xs < 256 ^ (j - i)
number_below xs i j are = big_from-lt 0 (j - i) (field i j xs) (IsBytes-field xs i j are)

-- a field in a front
pub field_of_take : (xs : List ℕ) (i j m : ℕ) → i ≤ j → j ≤ m → field i j (take m xs) ≡ field i j xs
field_of_take xs i j m ij jm =
    let e : i + (m - i) ≡ m = omega arith in
    ap (λ (n : ℕ). take (j - i) (drop i (take n xs))) (sym e) ∙ ap (take (j - i)) (drop-take i (m - i) xs) ∙ take-take (j - i) (m - i) (drop i xs) (omega arith)
