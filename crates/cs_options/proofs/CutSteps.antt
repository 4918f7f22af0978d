-- How the length of the pieces is found.
use Rattle.std.proofs.Common.{◌≡◌, ◌∙◌, ℕ, suc, ◌+◌, ◌-◌, ◌*◌, ◌<◌, ◌≤◌, Bool, true, false, if◌then◌else◌, add-one, ap, arith, refl, sym}
use Rattle.law_machine.specs.Pieces.{chunk_bytes_in, fewest, is_cheap, is_small, least_passing, of_greatest_passing, share, wanted}
use Rattle.law_machine.proofs.Pieces.{few_pieces, least_high, least_low, share_least, small_piece, some_piece}
use Rattle.cs_options.specs.SureRooms.{new_format, piece_size}

-- the least of the numbers up to 8 that passes a test: this one, or one after it, or 8
module _ (test : ℕ → Bool) (n : ℕ) where
  one_less : n < 8 → 8 - n ≡ suc (8 - (n + 1))
  one_less lt = omega (arith, lt)

  pub passes_first : n < 8 → test n ≡ true → least_passing test n (8 - n) ≡ n
  passes_first lt on = ap (least_passing test n) (one_less lt) ∙ rw on refl

  pub passes_later : n < 8 → test n ≡ false → least_passing test n (8 - n) ≡ least_passing test (n + 1) (8 - (n + 1))
  passes_later lt off = ap (least_passing test n) (one_less lt) ∙ rw (off, add-one) refl

  pub passes_none : n ≡ 8 → least_passing test n (8 - n) ≡ 8
  passes_none is = rw is refl

-- the numbers from the greatest on down, one after another
pub greatest_at : (test : ℕ → Bool) (given : ℕ → ℕ) (otherwise first count here left : ℕ) → count ≡ suc left → here ≡ first + left
    → of_greatest_passing test given otherwise first count ≡ (if test here then given here else of_greatest_passing test given otherwise first left)
greatest_at test given otherwise first count here left is at =
    ap (of_greatest_passing test given otherwise first) is
    ∙ ap (λ (n : ℕ). if test n then given n else of_greatest_passing test given otherwise first left) (sym at)

module _ (test : ℕ → Bool) (given : ℕ → ℕ) (otherwise first last k : ℕ) where
  -- what is found from number last - k on down
  abbrev pub found_below : ℕ
  found_below = of_greatest_passing test given otherwise first (last - first + 1 - k)

  here : first ≤ last → k < last - first + 1
      → found_below ≡ (if test (last - k) then given (last - k) else of_greatest_passing test given otherwise first (last - first - k))
  here le lt = greatest_at test given otherwise first (last - first + 1 - k) (last - k) (last - first - k)
      (let is : last - first + 1 - k ≡ suc (last - first - k) = omega (arith, lt) in is)
      (let at : last - k ≡ first + (last - first - k) = omega (arith, le, lt) in at)

  pub passes_here : first ≤ last → k < last - first + 1 → test (last - k) ≡ true → found_below ≡ given (last - k)
  passes_here le lt on = here le lt ∙ rw on refl

  pub fails_here : first ≤ last → k < last - first + 1 → test (last - k) ≡ false
      → found_below ≡ of_greatest_passing test given otherwise first (last - first + 1 - (k + 1))
  fails_here le lt off = here le lt
      ∙ rw off (ap (of_greatest_passing test given otherwise first) (let same : last - first - k ≡ last - first + 1 - (k + 1) = omega arith in same))

  pub none_left : last - first + 1 ≤ k → found_below ≡ otherwise
  none_left done = ap (of_greatest_passing test given otherwise first) (let none : last - first + 1 - k ≡ 0 = omega (arith, done) in none)

-- the fewest pieces are 1 at least, and not more than are wanted, which are 8 at most
module _ (pages bytes : ℕ) (some : 2 ≤ pages) (short : bytes ≤ 8 * (4096 * pages - 75)) where
  some_bytes : 0 < chunk_bytes_in new_format pages
  some_bytes = omega (arith, some)

  pub few_fewest : fewest new_format pages bytes ≤ 8
  few_fewest = share_least bytes (chunk_bytes_in new_format pages) 8 some_bytes (omega arith) (let le : bytes ≤ chunk_bytes_in new_format pages * 8 = omega (arith, short) in le)

  pub some_fewest : 1 ≤ fewest new_format pages bytes
  some_fewest = omega arith

  pub fewest_wanted : fewest new_format pages bytes ≤ wanted new_format pages bytes
  fewest_wanted = least_low (is_small new_format pages bytes) (fewest new_format pages bytes) (8 - fewest new_format pages bytes)

  pub few_wanted : wanted new_format pages bytes ≤ 8
  few_wanted = omega (arith, few_fewest, least_high (is_small new_format pages bytes) (fewest new_format pages bytes) (8 - fewest new_format pages bytes))

  -- it begins at the number that is wanted
  pub begun : (most first last : ℕ) → most ≡ 4096 * pages - 75 → first ≡ share bytes most → last ≡ wanted new_format pages bytes
      → piece_size bytes pages ≡ found_below (is_cheap new_format pages bytes) (share bytes) most first last 0
  unfolding piece_size
  begun most first last most_is first_is last_is = rw (last_is, first_is, most_is)
      (ap (of_greatest_passing (is_cheap new_format pages bytes) (share bytes) (chunk_bytes_in new_format pages) (fewest new_format pages bytes))
      (let same : suc (wanted new_format pages bytes - fewest new_format pages bytes) ≡ wanted new_format pages bytes - fewest new_format pages bytes + 1 - 0 = omega arith in same))

  -- a piece has a byte at least, no more than an extent holds, and there are 8 at most
  pub some_size : 1 ≤ piece_size bytes pages
  unfolding piece_size
  some_size = some_piece new_format pages bytes some_bytes

  pub small_size : piece_size bytes pages ≤ 4096 * pages - 75
  unfolding piece_size
  small_size = small_piece new_format pages bytes some_bytes

  many_bytes : bytes ≤ 8 * piece_size bytes pages
  unfolding piece_size
  many_bytes = few_pieces new_format pages bytes some_bytes short

  pub few_chunks : share bytes (piece_size bytes pages) ≤ 8
  few_chunks = share_least bytes (piece_size bytes pages) 8 some_size (omega arith) (omega (arith, many_bytes))
