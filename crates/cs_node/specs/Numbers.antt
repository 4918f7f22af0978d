-- Numbers that are held, each as often as it was added.
use Rattle.std.specs.Prelude.{◌≡◌, ℕ, zero, suc, ◌+◌, ◌<◌, ◌≤◌, ◌==◌, ◌&&◌, All, Bool, List, cond, count_by, nat_le}
use Rattle.cs_node.specs.declared.stretches.Stretch.{Stretch}

-- whether a number is one of a stretch
abbrev pub has : Stretch → ℕ → Bool
has s x = nat_le s.first x && nat_le x s.last

-- how often a number is there
abbrev pub times : ℕ → List Stretch → ℕ
times x xs = count_by (λ s. has s x) xs

-- the same numbers, and this one once more
abbrev pub Gains : ℕ → (old new : List Stretch) → Type 0
Gains n old new = (x : ℕ) → times x new ≡ times x old + cond (x == n) 1 0

-- the numbers of both
abbrev pub GainsAll : (old more new : List Stretch) → Type 0
GainsAll old more new = (x : ℕ) → times x new ≡ times x old + times x more

-- none is above n
abbrev pub Within : ℕ → List Stretch → Type 0
Within n xs = (x : ℕ) → n < x → times x xs ≡ 0

-- 1 at the numbers 1 to n
abbrev pub once_to : ℕ → ℕ → ℕ
once_to n x = cond (nat_le 1 x && nat_le x n) 1 0

-- they are the numbers 1 to n, each once
abbrev pub AreNumbers : ℕ → List Stretch → Type 0
AreNumbers n xs = (x : ℕ) → times x xs ≡ once_to n x

-- how many of the numbers 1 to n aren't there
abbrev pub lacking : ℕ → List Stretch → ℕ
lacking zero xs = 0
lacking (suc n) xs = lacking n xs + cond (times (suc n) xs == 0) 1 0

-- none of the stretches is empty
abbrev pub NoneEmpty : List Stretch → Type 0
NoneEmpty xs = All (λ s. s.first ≤ s.last) xs
