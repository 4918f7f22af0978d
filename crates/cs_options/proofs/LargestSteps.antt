-- How many extents a shard takes that is cut evenly.
use Rattle.std.proofs.Common.{◌≡◌, ℕ, zero, suc, ◌+◌, ◌*◌, ◌-◌, ◌/◌, ◌<◌, ◌≤◌, Bool, true, if◌then◌else◌, inl, inr, ap, arith, mul-le-mul_right, nat_le, refl, subst}
use Rattle.std.specs.Prelude.{◌⊎◌}
use Rattle.std.specs.Int.{div_ceil}
use Rattle.std.proofs.Math.Nat.{le-div_iff_mul-le, mul-le-mul_left}
use Rattle.std.proofs.lemmas.Bool.{cases_Bool, leb-true}
use Rattle.std.proofs.lemmas.Bool.Decides.{nat_tests}
use Rattle.std.proofs.lemmas.Grind.{div_ceil_times}
use Rattle.law_machine.specs.Pieces.{chunk_bytes_in, chunk_pages, fewest, is_cheap, of_greatest_passing, pages_cut, share, wanted}
use Rattle.law_machine.proofs.Pieces.{share_least, shares_all}
use Rattle.cs_options.specs.SureRooms.{Takes, chunk_count, largest_shard, longest_chunk, new_format, piece_size, put_extents}
use Rattle.cs_options.proofs.CutSteps.{few_chunks, few_fewest, few_wanted, small_size, some_fewest}
use Rattle.cs_options.proofs.ExtentSteps.{either, put_grows}

-- what the greatest number gives that passes has what each has that passes, or it is the other
given_passing : (P : ℕ → Type 0) (test : ℕ → Bool) (given : ℕ → ℕ) (otherwise first count : ℕ) → P otherwise
    → ((k : ℕ) → first ≤ k → k < first + count → test k ≡ true → P (given k)) → P (of_greatest_passing test given otherwise first count)
given_passing P test given otherwise first zero other each = other
given_passing P test given otherwise first (suc count) other each = elim (cases_Bool (test (first + count))) [
  | inl on ↦ rw on (each (first + count) (omega arith) (omega arith) on)
  | inr off ↦ rw off (given_passing P test given otherwise first count other (λ k low high. each k low (omega (arith, high))))
]

-- as many chunks lie on so many extents, if so many of them have room on each
module _ (pages longest : ℕ) (some : 1 ≤ longest) where
  room_each : (n : ℕ) → n * longest ≤ pages → n ≤ pages / longest
  room_each n le = (le-div_iff_mul-le {k = longest} {x = n} {y = pages} some).1 le

  on_extents : (chunks extents n : ℕ) → n * longest ≤ pages → chunks ≤ extents * n → chunks ≤ extents * (pages / longest)
  on_extents chunks extents n le all =
      let up : n * extents ≤ pages / longest * extents = mul-le-mul_right extents (room_each n le) in omega (arith, up, all)

-- A shard has so many bytes, no more than so many extents hold, and is cut in k pieces. They are cheap.
module _ (bytes pages full k size longest : ℕ) (two : 2 ≤ pages) (fits : bytes ≤ full * (4096 * pages - 75)) (few : k ≤ 8) (some : 1 ≤ k)
    (size_is : size ≡ share bytes k) (longest_is : longest ≡ (41 + (34 + size) + 4095) / 4096)
    (cheap : 16 * ((k - 1) * longest + 1) ≤ 17 * (full * pages)) where
  some_longest : 1 ≤ longest
  some_longest = omega (arith, longest_is)

  -- if there are more pieces than a number below 8, each has less than its share
  short_piece : (m : ℕ) → m ≤ k → m ≤ 7 → m * size < bytes + 8
  short_piece m le small = by_place (either (div_ceil bytes k) 1)
    where
      by_place : (div_ceil bytes k ≤ 1) ⊎ (1 < div_ceil bytes k) → m * size < bytes + 8
      by_place (inl low) = let one : size ≡ 1 = omega (arith, size_is, low) in rw one (omega (arith, small))
      by_place (inr high) =
          let is : size ≡ div_ceil bytes k = omega (arith, size_is, high) in
          let below : div_ceil bytes k * k < bytes + k = (div_ceil_times bytes k some).1 in
          let up : m * div_ceil bytes k ≤ k * div_ceil bytes k = mul-le-mul_right (div_ceil bytes k) le in
          rw is (omega (arith, below, up, few))

  -- and the others have so many pages together
  cheap_pages : (m : ℕ) → m + 1 ≤ k → 16 * (m * longest + 1) ≤ 17 * (full * pages)
  cheap_pages m le =
      let up : m * longest ≤ (k - 1) * longest = mul-le-mul_right longest (let less : m ≤ k - 1 = omega (arith, le) in less) in omega (arith, up, cheap)

  -- so many extents hold so many bytes, and have so many pages
  bytes_of : (n : ℕ) → full ≡ n → bytes ≤ n * (4096 * pages - 75)
  bytes_of n is = subst (λ (m : ℕ). bytes ≤ m * (4096 * pages - 75)) is fits

  pages_of : (m n : ℕ) → full ≡ n → m + 1 ≤ k → 16 * (m * longest + 1) ≤ 17 * (n * pages)
  pages_of m n is le = subst (λ (o : ℕ). 16 * (m * longest + 1) ≤ 17 * (o * pages)) is (cheap_pages m le)

  -- two chunks have room on an extent: by their pages if it is short, and by their bytes if it is long
  two_of_one : full ≡ 1 → 3 ≤ k → 2 * longest ≤ pages
  two_of_one is more = by_size (either pages 16)
    where
      by_size : (pages ≤ 16) ⊎ (16 < pages) → 2 * longest ≤ pages
      by_size (inl low) = let le = pages_of 2 1 is more in omega (arith, le, low)
      by_size (inr high) = let lt = short_piece 3 more (omega arith) in let le = bytes_of 1 is in omega (arith, lt, le, longest_is, high)

  two_of_two : full ≡ 2 → 5 ≤ k → 2 * longest ≤ pages
  two_of_two is more = by_size (either pages 23)
    where
      by_size : (pages ≤ 23) ⊎ (23 < pages) → 2 * longest ≤ pages
      by_size (inl low) = let le = pages_of 4 2 is more in omega (arith, le, low)
      by_size (inr high) = let lt = short_piece 5 more (omega arith) in let le = bytes_of 2 is in omega (arith, lt, le, longest_is, high)

  two_of_three : full ≡ 3 → 7 ≤ k → 2 * longest ≤ pages
  two_of_three is more = by_size (either pages 20)
    where
      by_size : (pages ≤ 20) ⊎ (20 < pages) → 2 * longest ≤ pages
      by_size (inl low) = let le = pages_of 6 3 is more in omega (arith, le, low)
      by_size (inr high) = let lt = short_piece 7 more (omega arith) in let le = bytes_of 3 is in omega (arith, lt, le, longest_is, high)

  -- so they lie on twice as many extents
  module _ (extents : ℕ) (enough : 2 * full ≤ extents) (full_some : 1 ≤ full) (within : longest ≤ pages) where
    each_one : k ≤ 2 * full → k ≤ extents * (pages / longest)
    each_one le = on_extents pages longest some_longest k extents 1 (omega (arith, within)) (omega (arith, le, enough))

    of_one : full ≡ 1 → (k ≤ 2) ⊎ (2 < k) → (k ≤ 4) ⊎ (4 < k) → (k ≤ 6) ⊎ (6 < k) → k ≤ extents * (pages / longest)
    of_one is (inl a) b d = each_one (omega (arith, is, a))
    of_one is (inr a) (inl b) d = on_extents pages longest some_longest k extents 2 (two_of_one is a) (omega (arith, is, b, enough))
    of_one is (inr a) (inr b) (inl d) = on_extents pages longest some_longest k extents 3 (let le = pages_of 4 1 is b in omega (arith, le)) (omega (arith, is, d, enough))
    of_one is (inr a) (inr b) (inr d) = on_extents pages longest some_longest k extents 4 (let le = pages_of 6 1 is d in omega (arith, le)) (omega (arith, is, few, enough))

    of_two : full ≡ 2 → (k ≤ 4) ⊎ (4 < k) → k ≤ extents * (pages / longest)
    of_two is (inl a) = each_one (omega (arith, is, a))
    of_two is (inr a) = on_extents pages longest some_longest k extents 2 (two_of_two is a) (omega (arith, is, few, enough))

    of_three : full ≡ 3 → (k ≤ 6) ⊎ (6 < k) → k ≤ extents * (pages / longest)
    of_three is (inl a) = each_one (omega (arith, is, a))
    of_three is (inr a) = on_extents pages longest some_longest k extents 2 (two_of_three is a) (omega (arith, is, few, enough))

    pub on_twice : k ≤ extents * (pages / longest)
    on_twice = by_full (either full 1) (either full 2) (either full 3)
      where
        by_full : (full ≤ 1) ⊎ (1 < full) → (full ≤ 2) ⊎ (2 < full) → (full ≤ 3) ⊎ (3 < full) → k ≤ extents * (pages / longest)
        by_full (inl a) b d = of_one (omega (arith, a, full_some)) (either k 2) (either k 4) (either k 6)
        by_full (inr a) (inl b) d = of_two (omega (arith, a, b)) (either k 4)
        by_full (inr a) (inr b) (inl d) = of_three (omega (arith, b, d)) (either k 6)
        by_full (inr a) (inr b) (inr d) = each_one (omega (arith, d, few))

-- a shard that is no longer than so many extents hold
module _ (bytes pages full : ℕ) (two : 2 ≤ pages) (some : 1 ≤ full) (eight : full ≤ 8) (fits : bytes ≤ full * (4096 * pages - 75)) where
  -- how many chunks there are, and the pages of the longest, if the pieces have so many bytes
  abbrev Lies : ℕ → (size : ℕ) → Type 0
  Lies extents size = share bytes size ≤ extents * (pages / chunk_pages new_format size)

  short : bytes ≤ 8 * (4096 * pages - 75)
  short = let up : full * (4096 * pages - 75) ≤ 8 * (4096 * pages - 75) = mul-le-mul_right (4096 * pages - 75) eight in omega (arith, up, fits)

  fewest_full : fewest new_format pages bytes ≤ full
  fewest_full = share_least bytes (4096 * pages - 75) full (omega (arith, two)) some (let le : bytes ≤ (4096 * pages - 75) * full = omega (arith, fits) in le)

  -- so many pieces that are as long as may be have the pages of as many extents at most
  pages_full : (n : ℕ) → 1 ≤ n → bytes ≤ n * (4096 * pages - 75) → pages_cut new_format bytes (chunk_bytes_in new_format pages) n ≤ n * pages
  pages_full n one held =
      let whole : (n - 1) * chunk_pages new_format (chunk_bytes_in new_format pages) ≤ (n - 1) * pages =
      mul-le-mul_left (n - 1) (let le : chunk_pages new_format (chunk_bytes_in new_format pages) ≤ pages = omega (arith, two) in le) in
      let next : n * (4096 * pages - 75) ≡ (n - 1) * (4096 * pages - 75) + (4096 * pages - 75) = again n (4096 * pages - 75) one in
      let last : chunk_pages new_format (bytes - (n - 1) * (4096 * pages - 75)) ≤ pages =
      last_pages (bytes - (n - 1) * (4096 * pages - 75)) (omega (arith, held, next)) in
      let all : n * pages ≡ (n - 1) * pages + pages = again n pages one in
      omega (arith, whole, last, all)
    where
      again : (m each : ℕ) → 1 ≤ m → m * each ≡ (m - 1) * each + each
      again m each one = let is : m ≡ (m - 1) + 1 = omega (arith, one) in
          let times : m * each ≡ ((m - 1) + 1) * each = ap (λ (o : ℕ). o * each) is in omega (arith, times)

      last_pages : (size : ℕ) → size ≤ 4096 * pages - 75 → chunk_pages new_format size ≤ pages
      last_pages size le = omega (arith, le, two)

  fewest_pages : pages_cut new_format bytes (chunk_bytes_in new_format pages) (fewest new_format pages bytes) ≤ full * pages
  fewest_pages =
      let held : bytes ≤ (4096 * pages - 75) * fewest new_format pages bytes = shares_all bytes (4096 * pages - 75) (omega (arith, two)) in
      let cut = pages_full (fewest new_format pages bytes) (some_fewest pages bytes two short) (omega (arith, held)) in
      let up : fewest new_format pages bytes * pages ≤ full * pages = mul-le-mul_right pages fewest_full in omega (arith, cut, up)

  -- so many pieces, which are cheap, lie on twice as many extents
  cheap_lie : (extents : ℕ) → 2 * full ≤ extents → (k : ℕ) → fewest new_format pages bytes ≤ k
      → k < fewest new_format pages bytes + suc (wanted new_format pages bytes - fewest new_format pages bytes)
      → is_cheap new_format pages bytes k ≡ true → Lies extents (share bytes k)
  cheap_lie extents enough k low high on =
      let one : 1 ≤ k = omega (arith, low, some_fewest pages bytes two short) in
      let few : k ≤ 8 = omega (arith, high, few_wanted pages bytes two short, few_fewest pages bytes two short) in
      let held : bytes ≤ k * share bytes k = shares_all bytes k one in
      let chunks : share bytes (share bytes k) ≤ k = share_least bytes (share bytes k) k (some_share k) one (omega (arith, held)) in
      let cheap : 16 * pages_cut new_format bytes (share bytes k) k ≤ 17 * pages_cut new_format bytes (chunk_bytes_in new_format pages) (fewest new_format pages bytes) =
      leb-true _ _ on in
      let first : (k - 1) * chunk_pages new_format (share bytes k) + 1 ≤ pages_cut new_format bytes (share bytes k) k = some_last (share bytes k) k in
      let lie = on_twice bytes pages full k (share bytes k) (chunk_pages new_format (share bytes k)) two fits few one refl refl
      (omega (arith, cheap, first, fewest_pages)) extents enough some (within k one low) in
      omega (arith, chunks, lie)
    where
      some_share : (count : ℕ) → 0 < share bytes count
      some_share count = omega arith

      some_last : (size count : ℕ) → (count - 1) * chunk_pages new_format size + 1 ≤ pages_cut new_format bytes size count
      some_last size count = omega arith

      within : (count : ℕ) → 1 ≤ count → fewest new_format pages bytes ≤ count → chunk_pages new_format (share bytes count) ≤ pages
      within count one low =
          let all : bytes ≤ (4096 * pages - 75) * fewest new_format pages bytes = shares_all bytes (4096 * pages - 75) (omega (arith, two)) in
          let up : fewest new_format pages bytes * (4096 * pages - 75) ≤ count * (4096 * pages - 75) = mul-le-mul_right (4096 * pages - 75) low in
          let size : share bytes count ≤ 4096 * pages - 75 = share_least bytes count (4096 * pages - 75) one (omega (arith, two)) (omega (arith, all, up)) in
          short_pages (share bytes count) size
        where
          short_pages : (size : ℕ) → size ≤ 4096 * pages - 75 → chunk_pages new_format size ≤ pages
          short_pages size le = omega (arith, le, two)

  -- and so do pieces that are as long as may be
  full_lie : (extents : ℕ) → 2 * full ≤ extents → Lies extents (chunk_bytes_in new_format pages)
  full_lie extents enough =
      on_extents pages (chunk_pages new_format (chunk_bytes_in new_format pages)) (omega arith) (fewest new_format pages bytes) extents 1
      (let le : chunk_pages new_format (chunk_bytes_in new_format pages) ≤ pages = omega (arith, two) in omega (arith, le)) (omega (arith, fewest_full, enough))

  pub lie_on_twice : (extents : ℕ) → 2 * full ≤ extents → chunk_count bytes pages ≤ extents * (pages / longest_chunk bytes pages)
  unfolding piece_size chunk_count longest_chunk
  lie_on_twice extents enough =
      given_passing (Lies extents) (is_cheap new_format pages bytes) (share bytes) (chunk_bytes_in new_format pages) (fewest new_format pages bytes)
      (suc (wanted new_format pages bytes - fewest new_format pages bytes)) (full_lie extents enough) (cheap_lie extents enough)

-- a shard has 8 chunks at most
eight_lie : (bytes pages : ℕ) → 2 ≤ pages → bytes ≤ 8 * (4096 * pages - 75) → (extents : ℕ) → 8 ≤ extents
    → chunk_count bytes pages ≤ extents * (pages / longest_chunk bytes pages)
unfolding chunk_count longest_chunk
eight_lie bytes pages two short extents many =
    on_extents pages (chunk_pages new_format (piece_size bytes pages)) (omega arith) (share bytes (piece_size bytes pages)) extents 1
    (let le : chunk_pages new_format (piece_size bytes pages) ≤ pages = omega (arith, small_size pages bytes two short) in omega (arith, le))
    (omega (arith, few_chunks pages bytes two short, many))

-- so a new store takes each shard up to that length
pub largest_taken : (bytes extents pages : ℕ) → 2 ≤ pages → 5 ≤ extents → bytes ≤ largest_shard extents pages → Takes 1 bytes extents pages
largest_taken bytes extents pages two some fits = elim (cases_Bool (nat_le 8 (put_extents extents))) [
  | inl on ↦ (
      let many : 8 ≤ put_extents extents = grind (arith, nat_tests, on) in
      let short : bytes ≤ 8 * (4096 * pages - 75) = subst (λ (t : Bool). bytes ≤ (if t then 8 else put_extents extents / 2) * (4096 * pages - 75)) on fits in
      let lie = eight_lie bytes pages two short (put_extents extents) many in omega (arith, lie))
  | inr off ↦ (
      let low : put_extents extents < 8 = grind (arith, nat_tests, off) in
      let more : 2 ≤ put_extents extents = put_grows 5 extents some in
      let short : bytes ≤ put_extents extents / 2 * (4096 * pages - 75) =
      subst (λ (t : Bool). bytes ≤ (if t then 8 else put_extents extents / 2) * (4096 * pages - 75)) off fits in
      let lie = lie_on_twice bytes pages (put_extents extents / 2) two (omega (arith, more)) (omega (arith, low)) short (put_extents extents) (omega arith) in
      omega (arith, lie))
]
