-- What one more stretch leaves to be seen.
use Rattle.std.proofs.Common.{◌≡◌, ℕ, zero, suc, ◌+◌, ◌-◌, ◌<◌, ◌≤◌, ◌&&◌, Bool, List, [], ◌∷◌, cond, drop, get_or, length, max, min, refl, sym, ap, ◌∙◌, ⊎_elim, arith, get_or-drop, length-drop}
use Rattle.std.specs.Prelude.{◌↔◌, ◌==◌, IsTrue, nat_le, nat_lt}
use Rattle.std.specs.List.Sorted.{IsNonDecreasingBy}
use Rattle.std.proofs.lemmas.Bool.{cases_lt}
use Rattle.std.proofs.lemmas.Bool.Decides.{nat_tests}
use Rattle.std.proofs.lemmas.List.{get_or_default}
use Rattle.cs_node.specs.Numbers.{lacking, times}
use Rattle.cs_node.specs.Tallies.{AreFrom, StartAt, lacking_from}
use Rattle.cs_node.specs.declared.stretches.Stretch.{Stretch}
use Rattle.cs_node.proofs.Times.{share, share_below, share_in, times-cons}

-- 1 at the numbers above `seen` up to n
abbrev pub due : ℕ → ℕ → ℕ → ℕ
due seen n x = cond (nat_lt seen x && nat_le x n) 1 0

pub due_in : (seen n x : ℕ) → seen < x → x ≤ n → due seen n x ≡ 1
due_in seen n x above below = grind (arith, nat_tests)

pub due_only : (seen n x : ℕ) → 0 < due seen n x → (seen < x) × (x ≤ n)
due_only seen n x some = grind (arith, nat_tests)

-- 1 at a number above `seen` that is there so often, where that is 0 times
abbrev pub gap : ℕ → ℕ → ℕ → ℕ
gap seen x often = cond (nat_lt seen x && (often == 0)) 1 0

-- a stretch that begins right above what was seen, and then the others
pub goes_on : (seen n : ℕ) (s : Stretch) (rest : List Stretch) → s.first ≤ s.last → s.first ≡ seen + 1 → AreFrom (max seen s.last) n rest → AreFrom seen n (s ∷ rest)
goes_on seen n s rest filled next (most, all) = (
  omega arith,
  λ x. let here : times x (s ∷ rest) ≡ share s x + times x rest = times-cons x s rest in let there : times x rest ≡ due (max seen s.last) n x = all x in grind (arith, nat_tests),
)

-- such a stretch is needed
pub is_next : (seen n : ℕ) (s : Stretch) (rest : List Stretch) → s.first ≤ s.last → StartAt s.first rest → AreFrom seen n (s ∷ rest) → (s.first ≡ seen + 1) × (s.last ≤ n)
is_next seen n s rest filled behind (most, all) =
    let low : (seen < s.first) × (s.first ≤ n) = due_only seen n s.first (omega (arith, all s.first, times-cons s.first s rest, share_in s s.first (omega arith) filled)) in
    let high : (seen < s.last) × (s.last ≤ n) = due_only seen n s.last (omega (arith, all s.last, times-cons s.last s rest, share_in s s.last filled (omega arith))) in
    ⊎_elim
    (λ (gap : seen + 1 < s.first). absurd (omega (arith, all (seen + 1), times-cons (seen + 1) s rest, share_below s (seen + 1) gap, behind (seen + 1) gap, due_in seen n (seen + 1) (omega arith) (omega (arith, low)))))
    (λ (none : s.first ≤ seen + 1). (omega (arith, low), high.1))
    (cases_lt (seen + 1) s.first)

-- what is left then
pub goes_from : (seen n : ℕ) (s : Stretch) (rest : List Stretch) → s.first ≤ s.last → StartAt s.first rest → AreFrom seen n (s ∷ rest) → AreFrom (max seen s.last) n rest
goes_from seen n s rest filled behind (most, all) =
    let (next, high) = is_next seen n s rest filled behind (most, all) in (
      omega (arith, next, high),
      λ x. let here : times x (s ∷ rest) ≡ share s x + times x rest = times-cons x s rest in let there : times x (s ∷ rest) ≡ due seen n x = all x in let low : s.first ≡ seen + 1 = next in grind (arith, nat_tests),
    )

-- at one number: it was counted before the stretch where it was missing, or is behind it
pub counted : (seen n t : ℕ) (s : Stretch) → s.first ≤ s.last → (suc n < s.first → t ≡ 0) → gap seen (suc n) (share s (suc n) + t) + (min (s.first - 1) n - seen) ≡ min (s.first - 1) (suc n) - seen + gap (max seen s.last) (suc n) t
counted seen n t s filled behind = grind (arith, nat_tests)

-- the numbers that are missing before the stretch, and those that are behind it
pub lacking_from-cons : (seen n : ℕ) (s : Stretch) (rest : List Stretch) → s.first ≤ s.last → StartAt s.first rest → lacking_from seen n (s ∷ rest) ≡ min (s.first - 1) n - seen + lacking_from (max seen s.last) n rest
lacking_from-cons seen zero s rest filled behind = omega arith
lacking_from-cons seen (suc n) s rest filled behind =
    omega (arith, lacking_from-cons seen n s rest filled behind, counted seen n (times (suc n) rest) s filled (behind (suc n)), ap (gap seen (suc n)) (times-cons (suc n) s rest))

-- what stands in a list alone by how often each number is there
pub lacking_from-same : (seen n : ℕ) (xs ys : List Stretch) → ((x : ℕ) → times x xs ≡ times x ys) → lacking_from seen n xs ≡ lacking_from seen n ys
lacking_from-same seen zero xs ys same = refl
lacking_from-same seen (suc n) xs ys same =
    omega (arith, lacking_from-same seen n xs ys same, ap (gap seen (suc n)) (same (suc n)))

-- an empty stretch changes nothing
pub times-empty : (s : Stretch) (rest : List Stretch) → s.last < s.first → (x : ℕ) → times x (s ∷ rest) ≡ times x rest
times-empty s rest empty x = let here : times x (s ∷ rest) ≡ share s x + times x rest = times-cons x s rest in grind (arith, nat_tests)

pub AreFrom-same : (seen n : ℕ) (xs ys : List Stretch) → ((x : ℕ) → times x xs ≡ times x ys) → AreFrom seen n xs → AreFrom seen n ys
AreFrom-same seen n xs ys same (most, all) = (most, λ x. sym (same x) ∙ all x)

-- the tally before and after an empty stretch
pub skipped : (seen n : ℕ) (s : Stretch) (rest : List Stretch) (so_far : Bool) → s.last < s.first → (IsTrue so_far × AreFrom seen n rest) ↔ (IsTrue so_far × AreFrom seen n (s ∷ rest))
skipped seen n s rest so_far empty = (
  λ (whole, from). (whole, AreFrom-same seen n rest (s ∷ rest) (λ x. sym (times-empty s rest empty x)) from),
  λ (whole, from). (whole, AreFrom-same seen n (s ∷ rest) rest (times-empty s rest empty) from),
)

-- the tally before and after a stretch that has numbers
pub taken : (seen n : ℕ) (s : Stretch) (rest : List Stretch) (before now : Bool) → s.first ≤ s.last → StartAt s.first rest → (IsTrue now ↔ (IsTrue before × (s.first ≡ seen + 1))) → (IsTrue now × AreFrom (max seen s.last) n rest) ↔ (IsTrue before × AreFrom seen n (s ∷ rest))
taken seen n s rest before now filled behind test = (
  λ (is, from). ((test.0 is).0, goes_on seen n s rest filled (test.0 is).1 from),
  λ (was, from). (test.1 (was, (is_next seen n s rest filled behind from).0), goes_from seen n s rest filled behind from),
)

-- nothing is left
pub AreFrom-none : (seen n : ℕ) → AreFrom seen n [] ↔ (seen ≡ n)
AreFrom-none seen n = (
  λ (most, all). ⊎_elim
      (λ (less : seen < n). absurd (omega (arith, all n, due_in seen n n less (omega arith))))
      (λ (no_less : n ≤ seen). omega (arith, most))
      (cases_lt seen n),
  λ same. (omega arith, λ x. grind (arith, nat_tests)),
)

pub lacking_from-none : (seen n : ℕ) → lacking_from seen n [] ≡ n - seen
lacking_from-none seen zero = omega arith
lacking_from-none seen (suc n) = let before : lacking_from seen n [] ≡ n - seen = lacking_from-none seen n in grind (arith, nat_tests)

-- nothing was seen yet
pub lacking_from-all : (n : ℕ) (xs : List Stretch) → lacking_from 0 n xs ≡ lacking n xs
lacking_from-all zero xs = refl
lacking_from-all (suc n) xs = let before : lacking_from 0 n xs ≡ lacking n xs = lacking_from-all n xs in grind (arith, nat_tests)

-- in order of their first, none of those behind one begins below it
pub starts_at : (n : ℕ) (xs : List Stretch) → ((k : ℕ) (d : Stretch) → k < length xs → n ≤ (get_or xs k d).first) → StartAt n xs
starts_at n [] each x below = refl
starts_at n (s ∷ xs) each x below =
    omega (arith, times-cons x s xs, share_below s x (omega (arith, each 0 s (omega arith))), starts_at n xs (λ k d within. each (suc k) d (omega arith)) x below)

pub starts_behind : (xs : List Stretch) (i : ℕ) (s d : Stretch) → IsNonDecreasingBy (λ s. s.first) xs → i < length xs → s ≡ get_or xs i d → StartAt s.first (drop (i + 1) xs)
starts_behind xs i s d up within is =
    starts_at s.first (drop (i + 1) xs) (λ k e below. let later : i + 1 + k < length xs = omega (arith, length-drop (i + 1) xs) in rw get_or-drop (omega (arith, ap (λ (t : Stretch). t.first) (is ∙ get_or_default xs i d e within), up i (i + 1 + k) e (omega arith) later)))
