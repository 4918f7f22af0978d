-- Identifiers compare by bytes as by number.
use Rattle.std.proofs.Common.{◌≡◌, ◌⊎◌, inl, inr, ℕ, zero, suc, ◌+◌, ◌*◌, ◌<◌, ◌≤◌, ◌^◌, List, [], ◌∷◌, length, nat_lt, ◌==◌, eq-eqb, ne_eqb, refl, sym, ap, ap₂, subst, ◌∙◌, arith}
use Rattle.std.proofs.Math.Nat.{mul-le-mul_right}
use Rattle.std.proofs.lemmas.Bool.{cases_eq, cases_lt, cases_order, false_from_ne_true, lt-ltb, le-ltb}
use Rattle.std.specs.Prelude.{bytes_eq}
use Rattle.std.specs.Cmp.Lexicographic.{bytes_decides, slice_cmp}
use Rattle.std.specs.Cmp.{nat_cmp_is}
use Rattle.std.specs.declared.cmp.Ordering.{Ordering}
use Rattle.std.specs.declared.cmp.Ordering.TheVariants.{Less, Equal, Greater}
use Rattle.std.specs.Ordering.{is_lt, nat_cmp, ordering_then}
use Rattle.byteorder.specs.Endian.{big_from}
use Rattle.byteorder.specs.Numbers.{big_from-cons, big_from-lt}
use Rattle.cs_frame.specs.Bytes.{IsBytes}
use Rattle.cs_frame.proofs.NamedRuns.{id_of_16}
use Rattle.cs_frame.specs.Formats.{id_bytes}
use Rattle.cs_frame.specs.Runs.{is_before}
use Rattle.cs_frame.specs.declared.identifiers.ShardId.{ShardId}
use Rattle.cs_frame.specs.Identifiers.{id_number}
use Rattle.cs_index.specs.State.{IsId}

-- which of two numbers is less is told by their heads, or by their tails where the heads are the same
heads : (x y p r s : ℕ) → r < p → s < p → x < y → x * p + r < y * p + s
heads x y p r s small small' lt =
    let up : (x + 1) * p ≤ y * p = mul-le-mul_right p (omega arith) in
    let is : (x + 1) * p ≡ x * p + p = omega arith in
    omega arith

before : (n : ℕ) (xs ys : List ℕ) → IsBytes xs → IsBytes ys → length xs ≡ n → length ys ≡ n
    → is_before xs ys ≡ nat_lt (big_from 0 n xs) (big_from 0 n ys)
before zero [] [] are are' size size' = refl
before zero [] (y ∷ ys) are are' size size' = absurd (omega arith)
before zero (x ∷ xs) ys are are' size size' = absurd (omega arith)
before (suc n) [] ys are are' size size' = absurd (omega arith)
before (suc n) (x ∷ xs) [] are are' size size' = absurd (omega arith)
before (suc n) (x ∷ xs) (y ∷ ys) are are' size size' =
    let r : big_from 0 n xs < 256 ^ n = big_from-lt 0 n xs (λ i. are (suc i)) in
    let s : big_from 0 n ys < 256 ^ n = big_from-lt 0 n ys (λ i. are' (suc i)) in
    let a : big_from 0 (suc n) (x ∷ xs) ≡ x * 256 ^ n + big_from 0 n xs = ap (λ (k : ℕ). x * 256 ^ n + k) (big_from-cons 0 n x xs) in
    let b : big_from 0 (suc n) (y ∷ ys) ≡ y * 256 ^ n + big_from 0 n ys = ap (λ (k : ℕ). y * 256 ^ n + k) (big_from-cons 0 n y ys) in
    let more : is_before xs ys ≡ nat_lt (big_from 0 n xs) (big_from 0 n ys) = before n xs ys (λ i. are (suc i)) (λ i. are' (suc i)) (omega (arith, size)) (omega (arith, size')) in
    by_head x y (slice_cmp nat_cmp xs ys) (256 ^ n) (big_from 0 n xs) (big_from 0 n ys) r s more (cases_order x y)
    ∙ ap₂ (λ (i j : ℕ). nat_lt i j) (sym a) (sym b)
  where
    by_head : (x y : ℕ) (o : Ordering) (p i j : ℕ) → i < p → j < p → is_lt o ≡ nat_lt i j → (x ≡ y) ⊎ ((x < y) ⊎ (y < x))
        → is_lt (ordering_then (nat_cmp x y) o) ≡ nat_lt (x * p + i) (y * p + j)
    by_head x y o p i j small small' more (inl is) =
        let cmp : Equal ≡ nat_cmp x y = nat_cmp_is x y Equal is in
        ap (λ (c : Ordering). is_lt (ordering_then c o)) (sym cmp) ∙ more ∙ elim (cases_lt i j) [
          | inl lt ↦ lt-ltb i j lt ∙ sym (lt-ltb (x * p + i) (y * p + j) (let e : x * p ≡ y * p = ap (λ (k : ℕ). k * p) is in omega arith))
          | inr ge ↦ le-ltb i j ge ∙ sym (le-ltb (x * p + i) (y * p + j) (let e : x * p ≡ y * p = ap (λ (k : ℕ). k * p) is in omega arith))
        ]
    by_head x y o p i j small small' more (inr (inl lt)) =
        let cmp : Less ≡ nat_cmp x y = nat_cmp_is x y Less lt in
        ap (λ (c : Ordering). is_lt (ordering_then c o)) (sym cmp) ∙ sym (lt-ltb _ _ (heads x y p i j small small' lt))
    by_head x y o p i j small small' more (inr (inr gt)) =
        let cmp : Greater ≡ nat_cmp x y = nat_cmp_is x y Greater gt in
        ap (λ (c : Ordering). is_lt (ordering_then c o)) (sym cmp) ∙ sym (le-ltb _ _ (let up : y * p + j < x * p + i = heads y x p j i small' small gt in omega arith))

-- identifiers compare by bytes as by number
pub before_is : (a b : ShardId) → IsId a → IsId b → is_before a.0 b.0 ≡ nat_lt (id_number a) (id_number b)
unfolding id_number
before_is a b are are' = before 16 a.0 b.0 are.bytes are'.bytes are.size are'.size

pub same_bytes : (a b : ShardId) → IsId a → IsId b → id_number a ≡ id_number b → a.0 ≡ b.0
unfolding id_number
same_bytes a b are are' is = sym (id_of_16 a.0 are.bytes are.size) ∙ ap id_bytes is ∙ id_of_16 b.0 are'.bytes are'.size

pub same_number : (a b : ShardId) → a.0 ≡ b.0 → id_number a ≡ id_number b
unfolding id_number
same_number a b is = ap (big_from 0 16) is

-- an identifier is a number of 128 bits
pub small_number : (a : ShardId) → IsId a → id_number a < 2 ^ 128
unfolding id_number
small_number a are = big_from-lt 0 16 a.0 are.bytes

pub bytes_are : (a : ShardId) → IsId a → id_bytes (id_number a) ≡ a.0
unfolding id_number
bytes_are a are = id_of_16 a.0 are.bytes are.size

pub id_is : (a : ShardId) (bytes : List ℕ) → bytes ≡ a.0 → length bytes ≡ 16 → IsBytes bytes → IsId a
id_is a bytes is size are = record { bytes = subst IsBytes is are; size = ap length (sym is) ∙ size }

-- identifiers are the same where their numbers are
pub same_is : (a b : ShardId) → IsId a → IsId b → bytes_eq a.0 b.0 ≡ (id_number a == id_number b)
same_is a b are are' = elim (cases_eq (id_number a) (id_number b)) [
  | inl is ↦ ap (λ (xs : List ℕ). bytes_eq xs b.0) (same_bytes a b are are' is) ∙ (bytes_decides b.0 b.0).1 refl ∙ sym (eq-eqb _ _ is)
  | inr not ↦ false_from_ne_true (bytes_eq a.0 b.0) (λ t. not (same_number a b ((bytes_decides a.0 b.0).0 t))) ∙ sym (ne_eqb _ _ not)
]
