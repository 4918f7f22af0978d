-- A piece has a byte at least, and no more than a chunk holds; and there are no more pieces than a shard may have.
use Rattle.std.proofs.Common.{◌≡◌, ℕ, zero, suc, ◌+◌, ◌-◌, ◌*◌, ◌<◌, ◌≤◌, Bool, inl, inr, mul-le-mul_right, arith}
use Rattle.std.specs.Prelude.{max}
use Rattle.std.specs.Int.{div_ceil}
use Rattle.std.proofs.lemmas.Bool.{cases_Bool, cases_lt}
use Rattle.std.proofs.lemmas.Grind.{div_ceil_times}
use Rattle.law_machine.specs.Format.{Format}
use Rattle.law_machine.specs.Pieces.{chunk_bytes_in, even_bytes, evenly_in, fewest, is_cheap, is_small, least_passing, of_greatest_passing, piece_bytes_in, share, wanted}

-- so many shares are as many as all
pub shares_all : (all count : ℕ) → 0 < count → all ≤ count * share all count
shares_all all count some =
    let whole : all ≤ div_ceil all count * count = (div_ceil_times all count some).0 in
    let up : div_ceil all count * count ≤ share all count * count = mul-le-mul_right count (let le : div_ceil all count ≤ max (div_ceil all count) 1 = omega arith in le) in
    let turn : share all count * count ≡ count * share all count = omega arith in omega (arith, whole, up, turn)

-- and no number that has this is below a share
pub share_least : (all count most : ℕ) → 0 < count → 0 < most → all ≤ count * most → share all count ≤ most
share_least all count most some one fits = elim (cases_lt most (div_ceil all count)) [
  | inl more ↦ absurd (
      let below : div_ceil all count * count < all + count = (div_ceil_times all count some).1 in
      let up : suc most * count ≤ div_ceil all count * count = mul-le-mul_right count (let le : suc most ≤ div_ceil all count = omega (arith, more) in le) in
      let next : suc most * count ≡ count + count * most = omega arith in omega (arith, below, up, next, fits))
  | inr le ↦ (let is : max (div_ceil all count) 1 ≤ most = omega (arith, le, one) in is)
]

-- a number that is sought from one on is none below it, and at most the one after the last
pub least_low : (test : ℕ → Bool) (first count : ℕ) → first ≤ least_passing test first count
least_low test first zero = omega arith
least_low test first (suc count) = elim (cases_Bool (test first)) [
  | inl on ↦ rw on (let is : first ≤ first = omega arith in is)
  | inr off ↦ rw off (let rest = least_low test (suc first) count in omega (arith, rest))
]

pub least_high : (test : ℕ → Bool) (first count : ℕ) → least_passing test first count ≤ first + count
least_high test first zero = omega arith
least_high test first (suc count) = elim (cases_Bool (test first)) [
  | inl on ↦ rw on (let is : first ≤ first + suc count = omega arith in is)
  | inr off ↦ rw off (let rest = least_high test (suc first) count in omega (arith, rest))
]

-- what the greatest number gives that passes is what one of them gives, or the other
pub given_by : (P : ℕ → Type 0) (test : ℕ → Bool) (given : ℕ → ℕ) (otherwise first count : ℕ) → P otherwise
    → ((k : ℕ) → first ≤ k → k < first + count → P (given k)) → P (of_greatest_passing test given otherwise first count)
given_by P test given otherwise first zero other each = other
given_by P test given otherwise first (suc count) other each = elim (cases_Bool (test (first + count))) [
  | inl on ↦ rw on (each (first + count) (omega arith) (omega arith))
  | inr off ↦ rw off (given_by P test given otherwise first count other (λ k low high. each k low (omega (arith, high))))
]

-- what a size of pieces has to keep to, if a chunk has so many bytes at most
pub record IsSize (most bytes size : ℕ) : Type 0 where
  pub some : 0 < size
  pub small : size ≤ most
  pub few : bytes ≤ 8 * most → bytes ≤ 8 * size

module _ (format : Format) (pages bytes : ℕ) (some : 0 < chunk_bytes_in format pages) where
  -- as the fewest pieces are enough, so are more
  shared : (k : ℕ) → fewest format pages bytes ≤ k → k < fewest format pages bytes + suc (wanted format pages bytes - fewest format pages bytes)
      → IsSize (chunk_bytes_in format pages) bytes (share bytes k)
  shared k low high =
      let one : 1 ≤ fewest format pages bytes = (let is : 1 ≤ max (div_ceil bytes (chunk_bytes_in format pages)) 1 = omega arith in is) in
      let all : bytes ≤ chunk_bytes_in format pages * fewest format pages bytes = shares_all bytes (chunk_bytes_in format pages) some in
      let up : fewest format pages bytes * chunk_bytes_in format pages ≤ k * chunk_bytes_in format pages = mul-le-mul_right (chunk_bytes_in format pages) low in
      let turn : chunk_bytes_in format pages * fewest format pages bytes ≡ fewest format pages bytes * chunk_bytes_in format pages = omega arith in record {
        some = (let is : 0 < max (div_ceil bytes k) 1 = omega arith in is);
        small = share_least bytes k (chunk_bytes_in format pages) (omega (arith, one, low)) some (omega (arith, all, up, turn));
        few = λ short.
            let eight : fewest format pages bytes ≤ 8 = share_least bytes (chunk_bytes_in format pages) 8 some (omega arith) (omega (arith, short)) in
            let begins : fewest format pages bytes ≤ wanted format pages bytes = least_low (is_small format pages bytes) (fewest format pages bytes) (8 - fewest format pages bytes) in
            let ends : wanted format pages bytes ≤ fewest format pages bytes + (8 - fewest format pages bytes) =
            least_high (is_small format pages bytes) (fewest format pages bytes) (8 - fewest format pages bytes) in
            let k_is : k ≤ 8 = omega (arith, eight, begins, ends, high) in
            let held : bytes ≤ k * share bytes k = shares_all bytes k (omega (arith, one, low)) in
            let times : k * share bytes k ≤ 8 * share bytes k = mul-le-mul_right (share bytes k) k_is in omega (arith, held, times);
      }

  whole_size : IsSize (chunk_bytes_in format pages) bytes (chunk_bytes_in format pages)
  whole_size = record { some = some; small = (let is : chunk_bytes_in format pages ≤ chunk_bytes_in format pages = omega arith in is); few = λ short. short }

  even_size : IsSize (chunk_bytes_in format pages) bytes (even_bytes format pages bytes)
  even_size = given_by (λ (size : ℕ). IsSize (chunk_bytes_in format pages) bytes size) (is_cheap format pages bytes) (share bytes) (chunk_bytes_in format pages)
      (fewest format pages bytes) (suc (wanted format pages bytes - fewest format pages bytes))
      whole_size shared

  piece_size : IsSize (chunk_bytes_in format pages) bytes (piece_bytes_in format pages bytes)
  piece_size = elim (cases_Bool (evenly_in format)) [
    | inl on ↦ rw on even_size
    | inr off ↦ rw off whole_size
  ]

  pub some_piece : 0 < piece_bytes_in format pages bytes
  some_piece = piece_size.some

  pub small_piece : piece_bytes_in format pages bytes ≤ chunk_bytes_in format pages
  small_piece = piece_size.small

  pub few_pieces : bytes ≤ 8 * chunk_bytes_in format pages → bytes ≤ 8 * piece_bytes_in format pages bytes
  few_pieces = piece_size.few
