-- How often numbers are there.
use Rattle.std.proofs.Common.{◌≡◌, ℕ, ◌+◌, ◌<◌, ◌≤◌, All, List, [], ◌∷◌, ◌++◌, cond, get_or, insert, refl, ⊎_elim, arith}
use Rattle.std.proofs.lemmas.Bool.{cases_lt}
use Rattle.std.proofs.lemmas.Bool.Decides.{nat_tests}
use Rattle.std.proofs.lemmas.List.Elements.{All-tail}
use Rattle.std.proofs.lemmas.List.Sums.{get_or-le-sum_by, sum_by-append, sum_by-cons, sum_by-insert}
use Rattle.cs_node.specs.Numbers.{NoneEmpty, Within, has, times}
use Rattle.cs_node.specs.declared.stretches.Stretch.{Stretch}

-- 1 at the numbers of a stretch
abbrev pub share : Stretch → ℕ → ℕ
share s x = cond (has s x) 1 0

pub share_in : (s : Stretch) (x : ℕ) → s.first ≤ x → x ≤ s.last → share s x ≡ 1
share_in s x above below = grind (arith, nat_tests)

pub share_below : (s : Stretch) (x : ℕ) → x < s.first → share s x ≡ 0
share_below s x below = grind (arith, nat_tests)

pub share_above : (s : Stretch) (x : ℕ) → s.last < x → share s x ≡ 0
share_above s x above = grind (arith, nat_tests)

pub times-cons : (x : ℕ) (s : Stretch) (xs : List Stretch) → times x (s ∷ xs) ≡ share s x + times x xs
times-cons x s xs = sum_by-cons (λ s. share s x) s xs

pub times-append : (x : ℕ) (xs ys : List Stretch) → times x (xs ++ ys) ≡ times x xs + times x ys
times-append x xs ys = sum_by-append (λ s. share s x) xs ys

-- s goes in at i
pub times-insert : (x : ℕ) (xs : List Stretch) (i : ℕ) (s : Stretch) → times x (insert xs i s) ≡ times x xs + share s x
times-insert x xs i s = sum_by-insert (λ s. share s x) xs i s

-- no stretch ends above n
pub within_from_ends : (n : ℕ) (xs : List Stretch) → All (λ s. s.last ≤ n) xs → Within n xs
within_from_ends n [] ends x above = refl
within_from_ends n (s ∷ xs) ends x above =
    omega (arith, times-cons x s xs, share_above s x (omega (arith, ends 0 s (omega arith))), within_from_ends n xs (All-tail (λ s. s.last ≤ n) s xs ends) x above)

-- each stretch has its last number
pub ends_from_within : (n : ℕ) (xs : List Stretch) → NoneEmpty xs → Within n xs → All (λ s. s.last ≤ n) xs
ends_from_within n xs filled none k d within = ⊎_elim
    (λ (above : n < (get_or xs k d).last). absurd (omega (arith, none (get_or xs k d).last above, get_or-le-sum_by (λ s. share s (get_or xs k d).last) xs k d within, share_in (get_or xs k d) (get_or xs k d).last (filled k d within) (omega arith))))
    (λ (below : (get_or xs k d).last ≤ n). below)
    (cases_lt n (get_or xs k d).last)
