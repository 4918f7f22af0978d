-- In how many pieces bytes are put.
use Rattle.std.proofs.Common.{◌≡◌, ◌⊎◌, ℕ, suc, ◌+◌, ◌-◌, ◌*◌, ◌<◌, ◌≤◌, List, [], ◌∷◌, ◌++◌, length, length-append, append-nil, inl, inr, mul-le-mul_right, subst, sym, ap, arith}
use Rattle.std.specs.Prelude.{max}
use Rattle.std.specs.Int.{div_ceil}
use Rattle.std.proofs.lemmas.Bool.{cases_lt}
use Rattle.std.proofs.lemmas.Grind.{div_ceil_times}
use Rattle.law_machine.proofs.Counting.{few_chunks}
use Rattle.law_machine.specs.Events.{AllFullButLast, Chunked}
use Rattle.law_machine.specs.Index.{joined}

-- pieces have no more bytes than as many full ones
joined_most : (most : ℕ) (c : List ℕ) (cs : List (List ℕ)) → AllFullButLast most (c ∷ cs) → length (joined (c ∷ cs)) ≤ suc (length cs) * most
joined_most most c [] all =
    let alone : length (c ++ []) ≡ length c = ap length (append-nil c) in
    let small : length c ≤ most = all in
    omega (arith, alone, small)
joined_most most c (d ∷ cs) all =
    let both : length (joined (c ∷ d ∷ cs)) ≡ length c + length (joined (d ∷ cs)) = length-append c (joined (d ∷ cs)) in
    let here : length c ≡ most = all.0 in
    let rest : length (joined (d ∷ cs)) ≤ suc (length cs) * most = joined_most most d cs all.2 in
    let next : suc (suc (length cs)) * most ≡ most + suc (length cs) * most = omega arith in
    omega (arith, both, here, rest, next)

module _ (most size rounded count : ℕ) (some : 0 < most) (is : rounded ≡ div_ceil size most) (rounds : count ≡ max rounded 1) where
  above : size ≤ rounded * most
  above = subst (λ (n : ℕ). size ≤ n * most) (sym is) (div_ceil_times size most some).0

  below : rounded * most < size + most
  below = subst (λ (n : ℕ). n * most < size + most) (sym is) (div_ceil_times size most some).1

  up : rounded * most ≤ count * most
  up = mul-le-mul_right most (let le : rounded ≤ count = omega (arith, rounds) in le)

  -- so many are enough for what goes into so many
  rounded_few : (n : ℕ) → size ≤ n * most → rounded ≤ n
  rounded_few n fits = elim (cases_lt n rounded) [
    | inl more ↦ absurd (
        let times : suc n * most ≤ rounded * most = mul-le-mul_right most (let le : suc n ≤ rounded = omega (arith, more) in le) in
        let next : suc n * most ≡ most + n * most = omega arith in
        omega (arith, times, next, below, fits))
    | inr le ↦ le
  ]

  -- there are enough pieces, and all of them are needed
  pub all_bytes : size ≤ count * most
  all_bytes = omega (arith, above, up)

  front : 2 ≤ count → (count - 1) * most < size
  front more =
      let same : rounded ≡ suc (count - 1) = omega (arith, rounds, more) in
      let times : rounded * most ≡ suc (count - 1) * most = ap (λ (n : ℕ). n * most) same in
      let next : suc (count - 1) * most ≡ most + (count - 1) * most = omega arith in omega (arith, times, next, below)

  pub all_needed : (count ≡ 1) ⊎ ((count - 1) * most < size)
  all_needed = elim (cases_lt 1 count) [
    | inl more ↦ inr (front (omega (arith, more)))
    | inr le ↦ inl (omega (arith, le, rounds))
  ]

  pub full_bytes : (count - 1) * most ≤ size
  full_bytes = elim (cases_lt 1 count) [
    | inl more ↦ (let lt = front (omega (arith, more)) in omega (arith, lt))
    | inr le ↦ (let none : count - 1 ≡ 0 = omega (arith, le) in
        let zeros : (count - 1) * most ≡ 0 * most = ap (λ (n : ℕ). n * most) none in omega (arith, zeros))
  ]

  pub few_enough : (n : ℕ) → 1 ≤ n → size ≤ n * most → count ≤ n
  few_enough n one fits = omega (arith, rounds, rounded_few n fits, one)

  pub piece_count : (bytes : List ℕ) (pieces : List (List ℕ)) → length bytes ≡ size → Chunked most bytes pieces → length pieces ≡ count
  piece_count bytes [] same cut = absurd (let none : 0 < 0 = cut.1 in omega (arith, none))
  piece_count bytes (c ∷ cs) same cut =
      let held : length (joined (c ∷ cs)) ≡ length bytes = ap length cut.0 in
      let fits : size ≤ suc (length cs) * most = omega (arith, held, same, joined_most most c cs cut.2) in
      let no_more : count ≤ suc (length cs) = few_enough (suc (length cs)) (omega arith) fits in
      let no_fewer : suc (length cs) ≤ count = few_chunks most count bytes (c ∷ cs) (omega (arith, rounds)) cut.2 cut.0 (omega (arith, same, above, up)) in
      omega (arith, no_more, no_fewer)
