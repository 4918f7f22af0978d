-- Numbers in decimal digits: what is read is what `decimal` writes.
use Rattle.std.proofs.Common.{◌≡◌, ◌≢◌, ◌⊎◌, ◌∙◌, ℕ, ◌+◌, ◌*◌, ◌-◌, ◌/◌, ◌%◌, ◌^◌, ◌<◌, ◌≤◌, Bool, true, false, cond, List, [], ◌∷◌, ◌++◌, Result, Ok, Err, refl, sym, ap, subst, inl, inr, append_assoc, eqb, ltb, arith, rules}
use Rattle.std.specs.Char.{is_ascii_digit}
use Rattle.std.specs.Fmt.{decimal}
use Rattle.std.proofs.lemmas.Bool.{eqb-true, cases_lt, ltb-false}
use Rattle.std.proofs.lemmas.Bool.Decides.{nat_tests}
use Rattle.std.proofs.lemmas.Fmt.{decimal_digit, decimal_step, decimal_by_steps}
use Rattle.cs_resp.specs.declared.faults.Fault.{Fault}
use Rattle.cs_resp.specs.declared.faults.Fault.TheVariants.{BadLength}
use Rattle.cs_resp.specs.declared.faults.End.{End}
use Rattle.cs_resp.specs.declared.faults.End.TheVariants.{More, Wrong}
use Rattle.cs_resp.specs.Spelling.{line_end}
use Rattle.cs_resp.specs.Reading.{◌>>=◌, byte_at, line_end_at, with_digit, digits_at, number_at}
use Rattle.cs_resp.proofs.Readers.{Skips, Reads, bind_ok, bind_err, chosen, ok_is, done, byte_skips, skip_skip}

-- the line break of a length
pub breaks : (fault : Fault) → Skips (line_end_at fault) line_end
breaks fault = skip_skip (byte_at 13 fault) (13 ∷ []) (byte_at 10 fault) (10 ∷ []) (byte_skips 13 fault) (byte_skips 10 fault)

digit_test : (d : ℕ) → d < 10 → is_ascii_digit (48 + d) ≡ true
digit_test d lt = search (rules, nat_tests)

-- a digit is taken
digit_again : (most : ℕ) (fault : Fault) (m d n : ℕ) → d < 10 → n ≡ m * 10 + d → n ≤ most → with_digit most fault m (48 + d) ≡ Ok n
digit_again most fault m d n lt is le =
    let sum : m * 10 + ((48 + d) - 48) ≡ n = omega arith in
    let fits : ltb most n ≡ false = grind (arith, nat_tests) in
    rw (digit_test d lt, sum, fits) refl

-- what a digit that was taken is
digit_takes : (most : ℕ) (fault : Fault) (n b m : ℕ) → with_digit most fault n b ≡ Ok m → (48 ≤ b) × (b < 58) × (m ≡ n * 10 + (b - 48)) × (m ≤ most)
digit_takes most fault n b m h = by_test (chosen (is_ascii_digit b) (cond (ltb most (n * 10 + (b - 48))) (Err (Wrong fault)) (done (n * 10 + (b - 48)))) (Err (Wrong BadLength)) (done m) h)
  where
    within : (b : ℕ) → is_ascii_digit b ≡ true → (48 ≤ b) × (b < 58)
    within b test = grind (arith, nat_tests)

    by_size : ((ltb most (n * 10 + (b - 48)) ≡ true) × (Err (Wrong fault) ≡ done m)) ⊎ ((ltb most (n * 10 + (b - 48)) ≡ false) × (done (n * 10 + (b - 48)) ≡ Ok m)) → (m ≡ n * 10 + (b - 48)) × (m ≤ most)
    by_size (inl (test, is)) = absurd cc
    by_size (inr (test, is)) = let same : n * 10 + (b - 48) ≡ m = ok_is (n * 10 + (b - 48)) m is in (sym same, omega (arith, ltb-false most (n * 10 + (b - 48)) test))

    by_test : ((is_ascii_digit b ≡ true) × (cond (ltb most (n * 10 + (b - 48))) (Err (Wrong fault)) (done (n * 10 + (b - 48))) ≡ Ok m)) ⊎ ((is_ascii_digit b ≡ false) × (Err (Wrong BadLength) ≡ done m)) → (48 ≤ b) × (b < 58) × (m ≡ n * 10 + (b - 48)) × (m ≤ most)
    by_test (inl (test, is)) =
        let s = by_size (chosen (ltb most (n * 10 + (b - 48))) (Err (Wrong fault)) (done (n * 10 + (b - 48))) (done m) is) in
        let w = within b test in
        (w.0, w.1, s.0, s.1)
    by_test (inr (test, is)) = absurd cc

-- a digit asks for no more
digit_ends : (most : ℕ) (fault : Fault) (n b : ℕ) → with_digit most fault n b ≡ Err More → ⊥
digit_ends most fault n b h = by_test (is_ascii_digit b) (ltb most (n * 10 + (b - 48))) h
  where
    by_test : (t u : Bool) → cond t (cond u (Err (Wrong fault)) (done (n * 10 + (b - 48)))) (Err (Wrong BadLength)) ≡ Err More → ⊥
    by_test true true h = absurd cc
    by_test true false h = absurd cc
    by_test false u h = absurd cc

-- one digit more at the end
decimal_more : (n b m : ℕ) → 0 < n → 48 ≤ b → b < 58 → m ≡ n * 10 + (b - 48) → m < 2 ^ 64 → decimal m ≡ decimal n ++ b ∷ []
decimal_more n b m pos low high is small =
    let step : decimal m ≡ decimal (m / 10) ++ (48 + m % 10) ∷ [] = decimal_step m (omega arith) small in
    let front : m / 10 ≡ n = omega arith in
    let last : 48 + m % 10 ≡ b = omega arith in
    step ∙ (rw (front, last) refl)

decimal_one : (b m : ℕ) → 48 ≤ b → b < 58 → m ≡ 0 * 10 + (b - 48) → decimal m ≡ b ∷ []
decimal_one b m low high is =
    let digit : decimal m ≡ (48 + m) ∷ [] = decimal_digit m (omega arith) in
    let same : 48 + m ≡ b = omega arith in
    digit ∙ (rw same refl)

-- a first digit that isn't 0
positive : (b m : ℕ) → eqb b 48 ≡ false → 48 ≤ b → m ≡ 0 * 10 + (b - 48) → 0 < m
positive b m no_zero low is = grind (arith, nat_tests)

module _ (most : ℕ) (fault : Fault) (small : most < 2 ^ 64) where
  -- what is left to read behind these digits
  abbrev rest_of : ℕ → List ℕ → Result (ℕ × List ℕ) End
  rest_of n bytes = digits_at most fault n bytes

  abbrev at_break : ℕ → List ℕ → Result (ℕ × List ℕ) End
  at_break n bs = byte_at 10 BadLength bs >>= λ rest. Ok (n, rest)

  abbrev at_digit : ℕ → ℕ → List ℕ → Result (ℕ × List ℕ) End
  at_digit n b bs = with_digit most fault n b >>= λ m. digits_at most fault m bs

  -- the digits of a number are read to its end
  abbrev ReadOn : ℕ → List ℕ → Type 0
  ReadOn n digits = 0 < n → n ≤ most → (rest : List ℕ) → number_at most fault (digits ++ rest) ≡ digits_at most fault n rest

  one_digit : (n : ℕ) → n < 10 → ReadOn n ((48 + n) ∷ [])
  unfolding number_at
  one_digit n lt pos le rest =
      let no_zero : eqb (48 + n) 48 ≡ false = grind (arith, nat_tests) in
      rw (no_zero, digit_again most fault 0 n n lt (omega arith) le) refl

  next_digit : (n : ℕ) (rest : List ℕ) → 10 ≤ n → n ≤ most → rest_of (n / 10) ((48 + n % 10) ∷ rest) ≡ rest_of n rest
  unfolding digits_at
  next_digit n rest ge le =
      let no_break : eqb (48 + n % 10) 13 ≡ false = grind (arith, nat_tests) in
      rw (no_break, digit_again most fault (n / 10) (n % 10) n (omega arith) (omega arith) le) refl

  one_more_digit : (n : ℕ) (digits : List ℕ) → 10 ≤ n → ReadOn (n / 10) digits → ReadOn n (digits ++ (48 + n % 10) ∷ [])
  one_more_digit n digits ge before pos le rest =
      ap (number_at most fault) (append_assoc digits ((48 + n % 10) ∷ []) rest) ∙ before (omega arith) (omega arith) ((48 + n % 10) ∷ rest) ∙ next_digit n rest ge le

  front : (n : ℕ) → 0 < n → n ≤ most → (rest : List ℕ) → number_at most fault (decimal n ++ rest) ≡ rest_of n rest
  front n pos le rest = decimal_by_steps ReadOn one_digit one_more_digit n (omega arith) pos le rest

  -- a number is read again
  abbrev IsNumber : ℕ → List ℕ → Type 0
  IsNumber n text = (n ≤ most) × (text ≡ decimal n ++ line_end)

  ends_at : (n : ℕ) (rest : List ℕ) → rest_of n (line_end ++ rest) ≡ Ok (n, rest)
  unfolding digits_at
  ends_at n rest = refl

  zero_again : (rest : List ℕ) → number_at most fault (48 ∷ line_end ++ rest) ≡ Ok (0, rest)
  unfolding number_at
  zero_again rest = refl

  abbrev known : List ℕ → ℕ → Result (ℕ × List ℕ) End
  known rest n = Ok (n, rest)

  number_again : (n : ℕ) (text rest : List ℕ) → IsNumber n text → number_at most fault (text ++ rest) ≡ Ok (n, rest)
  number_again n text rest (le, is) = by_size (cases_lt 0 n)
    where
      by_size : (0 < n) ⊎ (n ≤ 0) → number_at most fault (text ++ rest) ≡ Ok (n, rest)
      by_size (inl pos) = ap (number_at most fault) (ap (λ (x : List ℕ). x ++ rest) is ∙ append_assoc (decimal n) line_end rest) ∙ front n pos le (line_end ++ rest) ∙ ends_at n rest
      by_size (inr none) =
          let zero_is : n ≡ 0 = omega arith in
          let spelled : text ++ rest ≡ 48 ∷ line_end ++ rest = ap (λ (x : List ℕ). x ++ rest) (is ∙ ap (λ k. decimal k ++ line_end) zero_is ∙ ap (λ (x : List ℕ). x ++ line_end) (decimal_digit 0 (omega arith))) in
          ap (number_at most fault) spelled ∙ zero_again rest ∙ ap (known rest) (sym zero_is)

  -- what the digits behind these are
  abbrev Goes : ℕ → List ℕ → ℕ × List ℕ → Type 0
  Goes n bytes x = (x.0 ≤ most) × (decimal n ++ bytes ≡ (decimal x.0 ++ line_end) ++ x.1)

  abbrev with_rest : ℕ → List ℕ → ℕ × List ℕ
  with_rest n rest = (n, rest)

  break_takes : (n : ℕ) (bs : List ℕ) (x : ℕ × List ℕ) → n ≤ most → at_break n bs ≡ Ok x → Goes n (13 ∷ bs) x
  break_takes n bs x le h =
      let b = bind_ok (byte_at 10 BadLength bs) (λ rest. Ok (n, rest)) x h in
      let is : bs ≡ 10 ∷ b.0 = (byte_skips 10 BadLength).takes bs b.0 b.1 in
      ended b.0 is (ok_is (with_rest n b.0) x b.2)
    where
      ended : (rest : List ℕ) → bs ≡ 10 ∷ rest → with_rest n rest ≡ x → Goes n (13 ∷ bs) x
      ended rest is e = subst (Goes n (13 ∷ bs)) e (le, ap (λ (t : List ℕ). decimal n ++ 13 ∷ t) is ∙ sym (append_assoc (decimal n) line_end rest))

  digit_goes : (n b m : ℕ) (bs : List ℕ) (x : ℕ × List ℕ) → decimal m ≡ decimal n ++ b ∷ [] → Goes m bs x → Goes n (b ∷ bs) x
  digit_goes n b m bs x is goes = (goes.0, sym (append_assoc (decimal n) (b ∷ []) bs) ∙ ap (λ (t : List ℕ). t ++ bs) (sym is) ∙ goes.1)

  digits_take : (n : ℕ) (bytes : List ℕ) (x : ℕ × List ℕ) → 0 < n → n ≤ most → rest_of n bytes ≡ Ok x → Goes n bytes x
  unfolding digits_at
  digits_take n [] x pos le h = absurd cc
  digits_take n (b ∷ bs) x pos le h = by_test (λ m more fits e. digits_take m bs x more fits e) (chosen (eqb b 13) (at_break n bs) (at_digit n b bs) (Ok x) h)
    where
      by_test : ((m : ℕ) → 0 < m → m ≤ most → rest_of m bs ≡ Ok x → Goes m bs x) → ((eqb b 13 ≡ true) × (at_break n bs ≡ Ok x)) ⊎ ((eqb b 13 ≡ false) × (at_digit n b bs ≡ Ok x)) → Goes n (b ∷ bs) x
      by_test later (inl (test, is)) = subst (λ k. Goes n (k ∷ bs) x) (sym (eqb-true b 13 test)) (break_takes n bs x le is)
      by_test later (inr (test, is)) =
          let d = bind_ok (with_digit most fault n b) (λ m. digits_at most fault m bs) x is in
          let t = digit_takes most fault n b d.0 d.1 in
          digit_goes n b d.0 bs x (decimal_more n b d.0 pos t.0 t.1 t.2 (omega (arith, small, t.3))) (later d.0 (omega (arith, t.2, pos)) t.3 d.2)

  -- where more is asked for
  abbrev Continues : ℕ → List ℕ → Type 0
  Continues n bytes = (m : ℕ) × (tail : List ℕ) × (m ≤ most) × (tail ≢ []) × (decimal n ++ (bytes ++ tail) ≡ decimal m ++ line_end)

  break_more : (n : ℕ) (bs : List ℕ) → n ≤ most → at_break n bs ≡ Err More → Continues n (13 ∷ bs)
  break_more n bs le h = by_step (bind_err (byte_at 10 BadLength bs) (λ rest. known rest n) More h)
    where
      by_step : (byte_at 10 BadLength bs ≡ Err More) ⊎ ((rest : List ℕ) × (byte_at 10 BadLength bs ≡ Ok rest) × (known rest n ≡ Err More)) → Continues n (13 ∷ bs)
      by_step (inl e) = let m = (byte_skips 10 BadLength).more bs e in (n, m.0, le, m.1, ap (λ (t : List ℕ). decimal n ++ 13 ∷ t) m.2)
      by_step (inr (rest, e, f)) = absurd cc

  digits_more : (n : ℕ) (bytes : List ℕ) → 0 < n → n ≤ most → rest_of n bytes ≡ Err More → Continues n bytes
  unfolding digits_at
  digits_more n [] pos le h = (n, line_end, le, (λ e. absurd cc), refl)
  digits_more n (b ∷ bs) pos le h = by_test (λ m more fits e. digits_more m bs more fits e) (chosen (eqb b 13) (at_break n bs) (at_digit n b bs) (Err More) h)
    where
      by_step : ((m : ℕ) → 0 < m → m ≤ most → rest_of m bs ≡ Err More → Continues m bs) → (with_digit most fault n b ≡ Err More) ⊎ ((m : ℕ) × (with_digit most fault n b ≡ Ok m) × (digits_at most fault m bs ≡ Err More)) → Continues n (b ∷ bs)
      by_step later (inl e) = absurd (digit_ends most fault n b e)
      by_step later (inr (m, e, f)) =
          let t = digit_takes most fault n b m e in
          let c = later m (omega (arith, t.2, pos)) t.3 f in
          (c.0, c.1, c.2, c.3, sym (append_assoc (decimal n) (b ∷ []) (bs ++ c.1)) ∙ ap (λ (x : List ℕ). x ++ (bs ++ c.1)) (sym (decimal_more n b m pos t.0 t.1 t.2 (omega (arith, small, t.3)))) ∙ c.4)

      by_test : ((m : ℕ) → 0 < m → m ≤ most → rest_of m bs ≡ Err More → Continues m bs) → ((eqb b 13 ≡ true) × (at_break n bs ≡ Err More)) ⊎ ((eqb b 13 ≡ false) × (at_digit n b bs ≡ Err More)) → Continues n (b ∷ bs)
      by_test later (inl (test, is)) = subst (λ k. Continues n (k ∷ bs)) (sym (eqb-true b 13 test)) (break_more n bs le is)
      by_test later (inr (test, is)) = by_step later (bind_err (with_digit most fault n b) (λ m. digits_at most fault m bs) More is)

  -- where a fault stays
  break_stays : (n : ℕ) (bs tail : List ℕ) (other : Fault) → at_break n bs ≡ Err (Wrong other) → at_break n (bs ++ tail) ≡ Err (Wrong other)
  break_stays n bs tail other h = by_step (bind_err (byte_at 10 BadLength bs) (λ rest. known rest n) (Wrong other) h)
    where
      by_step : (byte_at 10 BadLength bs ≡ Err (Wrong other)) ⊎ ((rest : List ℕ) × (byte_at 10 BadLength bs ≡ Ok rest) × (known rest n ≡ Err (Wrong other))) → at_break n (bs ++ tail) ≡ Err (Wrong other)
      by_step (inl e) = ap (λ (x : Result (List ℕ) End). x >>= λ rest. known rest n) ((byte_skips 10 BadLength).stays bs tail other e)
      by_step (inr (rest, e, f)) = absurd cc

  digit_stays : (n b : ℕ) (bs tail : List ℕ) (other : Fault) → ((m : ℕ) → rest_of m bs ≡ Err (Wrong other) → rest_of m (bs ++ tail) ≡ Err (Wrong other)) → at_digit n b bs ≡ Err (Wrong other) → at_digit n b (bs ++ tail) ≡ Err (Wrong other)
  digit_stays n b bs tail other later h = by_step (bind_err (with_digit most fault n b) (λ m. digits_at most fault m bs) (Wrong other) h)
    where
      by_step : (with_digit most fault n b ≡ Err (Wrong other)) ⊎ ((m : ℕ) × (with_digit most fault n b ≡ Ok m) × (digits_at most fault m bs ≡ Err (Wrong other))) → at_digit n b (bs ++ tail) ≡ Err (Wrong other)
      by_step (inl e) = ap (λ (x : Result ℕ End). x >>= λ m. digits_at most fault m (bs ++ tail)) e
      by_step (inr (m, e, f)) = ap (λ (x : Result ℕ End). x >>= λ m. digits_at most fault m (bs ++ tail)) e ∙ later m f

  digits_stay : (n : ℕ) (bytes tail : List ℕ) (other : Fault) → rest_of n bytes ≡ Err (Wrong other) → rest_of n (bytes ++ tail) ≡ Err (Wrong other)
  unfolding digits_at
  digits_stay n [] tail other h = absurd cc
  digits_stay n (b ∷ bs) tail other h = by_test (λ m e. digits_stay m bs tail other e) (eqb b 13) h
    where
      by_test : ((m : ℕ) → rest_of m bs ≡ Err (Wrong other) → rest_of m (bs ++ tail) ≡ Err (Wrong other)) → (t : Bool) → cond t (at_break n bs) (at_digit n b bs) ≡ Err (Wrong other) → cond t (at_break n (bs ++ tail)) (at_digit n b (bs ++ tail)) ≡ Err (Wrong other)
      by_test later true h = break_stays n bs tail other h
      by_test later false h = digit_stays n b bs tail other later h

  -- the number from its first digit
  abbrev at_zero : List ℕ → Result (ℕ × List ℕ) End
  at_zero bs = line_end_at BadLength bs >>= λ rest. Ok (0, rest)

  zero_is : decimal 0 ++ line_end ≡ 48 ∷ line_end
  zero_is = ap (λ (x : List ℕ). x ++ line_end) (decimal_digit 0 (omega arith))

  abbrev TakesNumber : List ℕ → ℕ × List ℕ → Type 0
  TakesNumber bytes x = (text : List ℕ) × IsNumber x.0 text × (bytes ≡ text ++ x.1)

  zero_takes : (bs : List ℕ) (x : ℕ × List ℕ) → at_zero bs ≡ Ok x → TakesNumber (48 ∷ bs) x
  zero_takes bs x h =
      let b = bind_ok (line_end_at BadLength bs) (λ rest. Ok (0, rest)) x h in
      let is : bs ≡ line_end ++ b.0 = (breaks BadLength).takes bs b.0 b.1 in
      subst (TakesNumber (48 ∷ bs)) (ok_is (with_rest 0 b.0) x b.2) (48 ∷ line_end, (omega arith, sym zero_is), ap (λ (t : List ℕ). 48 ∷ t) is)

  first_takes : (b : ℕ) (bs : List ℕ) (x : ℕ × List ℕ) → eqb b 48 ≡ false → at_digit 0 b bs ≡ Ok x → TakesNumber (b ∷ bs) x
  first_takes b bs x no_zero h =
      let d = bind_ok (with_digit most fault 0 b) (λ m. digits_at most fault m bs) x h in
      let t = digit_takes most fault 0 b d.0 d.1 in
      let pos : 0 < d.0 = positive b d.0 no_zero t.0 t.2 in
      let goes = digits_take d.0 bs x pos t.3 d.2 in
      (decimal x.0 ++ line_end, (goes.0, refl), ap (λ (y : List ℕ). y ++ bs) (sym (decimal_one b d.0 t.0 t.1 t.2)) ∙ goes.1)

  number_takes : (bytes : List ℕ) (x : ℕ × List ℕ) → number_at most fault bytes ≡ Ok x → TakesNumber bytes x
  unfolding number_at
  number_takes [] x h = absurd cc
  number_takes (b ∷ bs) x h = by_test (chosen (eqb b 48) (at_zero bs) (at_digit 0 b bs) (Ok x) h)
    where
      by_test : ((eqb b 48 ≡ true) × (at_zero bs ≡ Ok x)) ⊎ ((eqb b 48 ≡ false) × (at_digit 0 b bs ≡ Ok x)) → TakesNumber (b ∷ bs) x
      by_test (inl (test, is)) = subst (λ k. TakesNumber (k ∷ bs) x) (sym (eqb-true b 48 test)) (zero_takes bs x is)
      by_test (inr (test, is)) = first_takes b bs x test is

  abbrev NumberContinues : List ℕ → Type 0
  NumberContinues bytes = (n : ℕ) × (text tail : List ℕ) × IsNumber n text × (tail ≢ []) × (bytes ++ tail ≡ text)

  zero_more : (bs : List ℕ) → at_zero bs ≡ Err More → NumberContinues (48 ∷ bs)
  zero_more bs h = by_step (bind_err (line_end_at BadLength bs) (λ rest. known rest 0) More h)
    where
      by_step : (line_end_at BadLength bs ≡ Err More) ⊎ ((rest : List ℕ) × (line_end_at BadLength bs ≡ Ok rest) × (known rest 0 ≡ Err More)) → NumberContinues (48 ∷ bs)
      by_step (inl e) = let m = (breaks BadLength).more bs e in (0, 48 ∷ line_end, m.0, (omega arith, sym zero_is), m.1, ap (λ (t : List ℕ). 48 ∷ t) m.2)
      by_step (inr (rest, e, f)) = absurd cc

  first_more : (b : ℕ) (bs : List ℕ) → eqb b 48 ≡ false → at_digit 0 b bs ≡ Err More → NumberContinues (b ∷ bs)
  first_more b bs no_zero h = by_step (bind_err (with_digit most fault 0 b) (λ m. digits_at most fault m bs) More h)
    where
      by_step : (with_digit most fault 0 b ≡ Err More) ⊎ ((m : ℕ) × (with_digit most fault 0 b ≡ Ok m) × (digits_at most fault m bs ≡ Err More)) → NumberContinues (b ∷ bs)
      by_step (inl e) = absurd (digit_ends most fault 0 b e)
      by_step (inr (m, e, f)) =
          let t = digit_takes most fault 0 b m e in
          let c = digits_more m bs (positive b m no_zero t.0 t.2) t.3 f in
          (c.0, decimal c.0 ++ line_end, c.1, (c.2, refl), c.3, ap (λ (y : List ℕ). y ++ (bs ++ c.1)) (sym (decimal_one b m t.0 t.1 t.2)) ∙ c.4)

  number_more : (bytes : List ℕ) → number_at most fault bytes ≡ Err More → NumberContinues bytes
  unfolding number_at
  number_more [] h = (0, 48 ∷ line_end, 48 ∷ line_end, (omega arith, sym zero_is), (λ e. absurd cc), refl)
  number_more (b ∷ bs) h = by_test (chosen (eqb b 48) (at_zero bs) (at_digit 0 b bs) (Err More) h)
    where
      by_test : ((eqb b 48 ≡ true) × (at_zero bs ≡ Err More)) ⊎ ((eqb b 48 ≡ false) × (at_digit 0 b bs ≡ Err More)) → NumberContinues (b ∷ bs)
      by_test (inl (test, is)) = subst (λ k. NumberContinues (k ∷ bs)) (sym (eqb-true b 48 test)) (zero_more bs is)
      by_test (inr (test, is)) = first_more b bs test is

  zero_stays : (bs tail : List ℕ) (other : Fault) → at_zero bs ≡ Err (Wrong other) → at_zero (bs ++ tail) ≡ Err (Wrong other)
  zero_stays bs tail other h = by_step (bind_err (line_end_at BadLength bs) (λ rest. known rest 0) (Wrong other) h)
    where
      by_step : (line_end_at BadLength bs ≡ Err (Wrong other)) ⊎ ((rest : List ℕ) × (line_end_at BadLength bs ≡ Ok rest) × (known rest 0 ≡ Err (Wrong other))) → at_zero (bs ++ tail) ≡ Err (Wrong other)
      by_step (inl e) = ap (λ (x : Result (List ℕ) End). x >>= λ rest. known rest 0) ((breaks BadLength).stays bs tail other e)
      by_step (inr (rest, e, f)) = absurd cc

  number_stays : (bytes tail : List ℕ) (other : Fault) → number_at most fault bytes ≡ Err (Wrong other) → number_at most fault (bytes ++ tail) ≡ Err (Wrong other)
  unfolding number_at
  number_stays [] tail other h = absurd cc
  number_stays (b ∷ bs) tail other h = by_test (eqb b 48) h
    where
      by_test : (t : Bool) → cond t (at_zero bs) (at_digit 0 b bs) ≡ Err (Wrong other) → cond t (at_zero (bs ++ tail)) (at_digit 0 b (bs ++ tail)) ≡ Err (Wrong other)
      by_test true h = zero_stays bs tail other h
      by_test false h = digit_stays 0 b bs tail other (λ m e. digits_stay m bs tail other e) h

  -- a number of at most so much, and a line break
  pub number_reads : Reads (number_at most fault) (λ n text. (n ≤ most) × (text ≡ decimal n ++ line_end))
  number_reads = record { takes = number_takes; again = number_again; more = number_more; stays = number_stays; some = (0, decimal 0 ++ line_end, (omega arith, refl)) }
