-- The length of the pieces of a shard, as it is found.
use Rattle.std.proofs.Common.{◌≡◌, ◌∙◌, ℕ, zero, suc, ◌+◌, ◌-◌, ◌*◌, ◌<◌, ◌≤◌, Bool, true, false, nat_le, if◌then◌else◌, inl, inr, mul-le-mul_right, refl, sym, ap, arith}
use Rattle.std.specs.Prelude.{max, min}
use Rattle.std.specs.Int.{div_ceil}
use Rattle.std.proofs.lemmas.Bool.{cases_Bool}
use Rattle.std.proofs.lemmas.Bool.Decides.{nat_tests}
use Rattle.law_machine.specs.Format.{Format, Four, Two}
use Rattle.law_machine.specs.Pieces.{chunk_bytes_in, chunk_pages, eighth, even_bytes, evenly_in, fewest, is_cheap, is_small, least_passing, of_greatest_passing, pages_cut, piece_bytes_in, share, wanted}
use Rattle.law_machine.proofs.Pieces.{share_least, shares_all}

-- two tests that tell the same
same_tests : (a b c d : ℕ) → (a ≤ b → c ≤ d) → (c ≤ d → a ≤ b) → nat_le a b ≡ nat_le c d
same_tests a b c d there back = elim (cases_Bool (nat_le a b)) [
  | inl on ↦ (let few : c ≤ d = there (let le : a ≤ b = grind (arith, nat_tests, on) in le) in
      let also : nat_le c d ≡ true = grind (arith, nat_tests, few) in on ∙ sym also)
  | inr off ↦ elim (cases_Bool (nat_le c d)) [
    | inl on ↦ absurd (let few : a ≤ b = back (let le : c ≤ d = grind (arith, nat_tests, on) in le) in
        let wrong : nat_le a b ≡ true = grind (arith, nat_tests, few) in cc (off, wrong))
    | inr also ↦ off ∙ sym also
  ]
]

-- the least number that a bound is no more than
least_bounded : (test : ℕ → Bool) (bound first count : ℕ) → ((n : ℕ) → first ≤ n → test n ≡ nat_le bound n)
    → least_passing test first count ≡ min (max bound first) (first + count)
least_bounded test bound first zero is = omega arith
least_bounded test bound first (suc count) is = elim (cases_Bool (test first)) [
  | inl on ↦ rw on (
      let tells : nat_le bound first ≡ true = sym (is first (omega arith)) ∙ on in
      let le : bound ≤ first = grind (arith, nat_tests, tells) in
      let same : first ≡ min (max bound first) (first + suc count) = omega (arith, le) in same)
  | inr off ↦ rw off (
      let rest = least_bounded test bound (suc first) count (λ n le. is n (omega (arith, le))) in
      let tells : nat_le bound first ≡ false = sym (is first (omega arith)) ∙ off in
      let lt : first < bound = grind (arith, nat_tests, tells) in
      rest ∙ (let same : min (max bound (suc first)) (suc first + count) ≡ min (max bound first) (first + suc count) = omega (arith, lt) in same))
]

-- a piece is no longer than may be where its chunk has no more than so many pages
short_by_pages : (format : Format) (pages size : ℕ) → 1 ≤ pages → chunk_pages format size ≤ pages → size ≤ chunk_bytes_in format pages
short_by_pages Two pages size one few = omega (arith, one, few)
short_by_pages (Four store device) pages size one few = omega (arith, one, few)

pub pages_by_size : (format : Format) (pages size : ℕ) → 1 ≤ pages → size ≤ chunk_bytes_in format pages → chunk_pages format size ≤ pages
pages_by_size Two pages size one short = omega (arith, one, short)
pages_by_size (Four store device) pages size one short = omega (arith, one, short)

pub some_bytes : (format : Format) (pages : ℕ) → 1 ≤ pages → 0 < chunk_bytes_in format pages
some_bytes Two pages one = omega (arith, one)
some_bytes (Four store device) pages one = omega (arith, one)

some_eighth : (pages : ℕ) → 1 ≤ eighth pages
some_eighth pages = omega arith

small_eighth : (pages : ℕ) → 1 ≤ pages → eighth pages ≤ pages
small_eighth pages one = omega (arith, one)

pub small_most : (format : Format) (pages : ℕ) → 1 ≤ pages → chunk_bytes_in format (eighth pages) ≤ chunk_bytes_in format pages
small_most format pages one =
    let le : eighth pages ≤ pages = small_eighth pages one in
    let times : 4096 * eighth pages ≤ 4096 * pages = omega (arith, le) in omega (arith, times)

-- a share is 1 at least
one_share : (all count : ℕ) → 1 ≤ share all count
one_share all count = omega arith

-- the numbers from the greatest on down, one after another
pub greatest_at : (test : ℕ → Bool) (given : ℕ → ℕ) (otherwise first count here left : ℕ) → count ≡ suc left → here ≡ first + left
    → of_greatest_passing test given otherwise first count ≡ (if test here then given here else of_greatest_passing test given otherwise first left)
greatest_at test given otherwise first count here left is at =
    ap (of_greatest_passing test given otherwise first) is
    ∙ ap (λ (n : ℕ). if test n then given n else of_greatest_passing test given otherwise first left) (sym at)

module _ (test : ℕ → Bool) (given : ℕ → ℕ) (otherwise first last k : ℕ) where
  -- what is found from number last - k on down
  abbrev pub found_below : ℕ
  found_below = of_greatest_passing test given otherwise first (last - first + 1 - k)

  here : first ≤ last → k < last - first + 1
      → found_below ≡ (if test (last - k) then given (last - k) else of_greatest_passing test given otherwise first (last - first - k))
  here le lt = greatest_at test given otherwise first (last - first + 1 - k) (last - k) (last - first - k)
      (let is : last - first + 1 - k ≡ suc (last - first - k) = omega (arith, lt) in is)
      (let at : last - k ≡ first + (last - first - k) = omega (arith, le, lt) in at)

  pub passes_here : first ≤ last → k < last - first + 1 → test (last - k) ≡ true → found_below ≡ given (last - k)
  passes_here le lt on = here le lt ∙ rw on refl

  pub none_left : last - first + 1 ≤ k → found_below ≡ otherwise
  none_left done = ap (of_greatest_passing test given otherwise first) (let none : last - first + 1 - k ≡ 0 = omega (arith, done) in none)

pub fails_here : (test : ℕ → Bool) (given : ℕ → ℕ) (otherwise first last k : ℕ) → first ≤ last → k < last - first + 1 → test (last - k) ≡ false
    → found_below test given otherwise first last k ≡ found_below test given otherwise first last (k + 1)
fails_here test given otherwise first last k le lt off =
    here test given otherwise first last k le lt
    ∙ rw off (ap (of_greatest_passing test given otherwise first) (let same : last - first - k ≡ last - first + 1 - (k + 1) = omega arith in same))

last_alone : (full last : ℕ) → (1 - 1) * full + last ≡ last
last_alone full last = omega arith

module _ (format : Format) (pages bytes : ℕ) (one : 1 ≤ pages) where
  abbrev most : ℕ
  most = chunk_bytes_in format pages

  abbrev small : ℕ
  small = chunk_bytes_in format (eighth pages)

  some_small : 0 < small
  some_small = some_bytes format (eighth pages) (some_eighth pages)

  -- so many pieces are small where they are as many as it takes for an eighth
  small_by : (n : ℕ) → 1 ≤ n → is_small format pages bytes n ≡ nat_le (share bytes small) n
  small_by n some = same_tests (chunk_pages format (share bytes n)) (eighth pages) (share bytes small) n
      (λ few. let short : share bytes n ≤ small = short_by_pages format (eighth pages) (share bytes n) (some_eighth pages) few in
      let all : bytes ≤ n * share bytes n = shares_all bytes n some in
      let up : share bytes n * n ≤ small * n = mul-le-mul_right n short in
      share_least bytes small n some_small some (omega (arith, all, up)))
      (λ few. let all : bytes ≤ small * share bytes small = shares_all bytes small some_small in
      let up : share bytes small * small ≤ n * small = mul-le-mul_right small few in
      pages_by_size format (eighth pages) (share bytes n) (some_eighth pages) (share_least bytes n small some some_small (omega (arith, all, up))))

  fewest_least : fewest format pages bytes ≤ share bytes small
  fewest_least =
      let all : bytes ≤ small * share bytes small = shares_all bytes small some_small in
      let up : small * share bytes small ≤ most * share bytes small = mul-le-mul_right (share bytes small) (small_most format pages one) in
      share_least bytes most (share bytes small) (some_bytes format pages one) (one_share bytes small) (omega (arith, all, up))

  module _ (short : bytes ≤ 8 * chunk_bytes_in format pages) where
    pub fewest_few : (1 ≤ fewest format pages bytes) × (fewest format pages bytes ≤ 8)
    fewest_few = (one_share bytes most, share_least bytes most 8 (some_bytes format pages one) (omega arith) (omega (arith, short)))

    -- as many pieces are wanted as it takes for an eighth, and 8 at most
    pub wanted_is : wanted format pages bytes ≡ min (share bytes small) 8
    wanted_is =
        least_bounded (is_small format pages bytes) (share bytes small) (fewest format pages bytes) (8 - fewest format pages bytes)
        (λ n le. small_by n (let some : 1 ≤ n = omega (arith, le, fewest_few.0) in some))
        ∙ (let same : min (max (share bytes small) (fewest format pages bytes)) (fewest format pages bytes + (8 - fewest format pages bytes)) ≡ min (share bytes small) 8 =
        omega (arith, fewest_few.1, fewest_least) in same)

    pub fewest_wanted : fewest format pages bytes ≤ min (share bytes small) 8
    fewest_wanted = omega (arith, fewest_least, fewest_few.1)

    -- the numbers that the search goes by
    module _ (longest few small_size all last : ℕ) (longest_is : longest ≡ chunk_bytes_in format pages) (few_is : few ≡ share bytes longest)
        (small_is : small_size ≡ chunk_bytes_in format (eighth pages)) (all_is : all ≡ share bytes small_size) (last_is : last ≡ min all 8) where
      pub few_fewest : few ≡ fewest format pages bytes
      few_fewest = few_is ∙ ap (share bytes) longest_is

      last_least : last ≡ min (share bytes small) 8
      last_least = last_is ∙ ap (λ (n : ℕ). min n 8) (all_is ∙ ap (share bytes) small_is)

      pub few_last : few ≤ last
      few_last = omega (arith, few_fewest, last_least, fewest_wanted)

      pub few_number : (1 ≤ few) × (few ≤ 8)
      few_number = (omega (arith, few_fewest, fewest_few.0), omega (arith, few_fewest, fewest_few.1))

      pub last_number : last ≤ 8
      last_number = omega (arith, last_least)

      -- it begins at the number that is wanted
      pub begun : even_bytes format pages bytes ≡ found_below (is_cheap format pages bytes) (share bytes) longest few last 0
      begun = rw (longest_is, few_fewest, last_least ∙ sym wanted_is)
          (ap (of_greatest_passing (is_cheap format pages bytes) (share bytes) most (fewest format pages bytes))
          (let same : suc (wanted format pages bytes - fewest format pages bytes) ≡ wanted format pages bytes - fewest format pages bytes + 1 - 0 = omega arith in same))

  -- the pages of one chunk
  one_cut : (size : ℕ) → pages_cut format bytes size 1 ≡ chunk_pages format bytes
  one_cut size = last_alone (chunk_pages format size) (chunk_pages format (bytes - (1 - 1) * size))
      ∙ ap (chunk_pages format) (let same : bytes - (1 - 1) * size ≡ bytes = omega arith in same)

  -- one chunk is small enough
  module _ (fits : bytes ≤ chunk_bytes_in format (eighth pages)) where
    one_small : share bytes small ≡ 1
    one_small = (let le : share bytes small ≤ 1 = share_least bytes small 1 some_small (omega arith) (omega (arith, fits)) in
        omega (arith, le, one_share bytes small))

    one_fewest : fewest format pages bytes ≡ 1
    one_fewest = omega (arith, one_small, fewest_least, one_share bytes most)

    one_cheap : is_cheap format pages bytes 1 ≡ true
    one_cheap =
        let mine : pages_cut format bytes (share bytes 1) 1 ≡ chunk_pages format bytes = one_cut (share bytes 1) in
        let other : pages_cut format bytes most (fewest format pages bytes) ≡ chunk_pages format bytes = ap (pages_cut format bytes most) one_fewest ∙ one_cut most in
        let le : 16 * pages_cut format bytes (share bytes 1) 1 ≤ 17 * pages_cut format bytes most (fewest format pages bytes) = omega (arith, mine, other) in
        grind (arith, nat_tests, le)

    one_wanted : wanted format pages bytes ≡ 1
    one_wanted = (let short : bytes ≤ 8 * most = omega (arith, fits, small_most format pages one) in
        wanted_is short ∙ (let same : min (share bytes small) 8 ≡ 1 = omega (arith, one_small) in same))

    pub one_piece : even_bytes format pages bytes ≡ max bytes 1
    one_piece =
        ap (λ (n : ℕ). of_greatest_passing (is_cheap format pages bytes) (share bytes) most n (suc (wanted format pages bytes - n))) one_fewest
        ∙ greatest_at (is_cheap format pages bytes) (share bytes) most 1 (suc (wanted format pages bytes - 1)) 1 0
        (let is : suc (wanted format pages bytes - 1) ≡ 1 = omega (arith, one_wanted) in is) refl
        ∙ rw one_cheap (let same : max (div_ceil bytes 1) 1 ≡ max bytes 1 = omega arith in same)

-- in format 4 one chunk is made where it is small enough
pub piece_alone : (format : Format) (pages bytes limit found : ℕ) → 1 ≤ pages → evenly_in format ≡ true → limit ≡ chunk_bytes_in format (eighth pages) → bytes ≤ limit
    → found ≡ max bytes 1 → found ≡ piece_bytes_in format pages bytes
piece_alone format pages bytes limit found one on is fits found_is =
    rw on (found_is ∙ sym (one_piece format pages bytes one (let le : bytes ≤ chunk_bytes_in format (eighth pages) = omega (arith, is, fits) in le)))
