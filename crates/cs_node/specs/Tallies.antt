-- What is left of numbers to be seen, once those up to one of them were.
use Rattle.std.specs.Prelude.{◌≡◌, ℕ, zero, suc, ◌+◌, ◌<◌, ◌≤◌, ◌==◌, ◌&&◌, List, cond, nat_le, nat_lt}
use Rattle.cs_node.specs.declared.stretches.Stretch.{Stretch}
use Rattle.cs_node.specs.Numbers.{times}

-- none is below n
abbrev pub StartAt : ℕ → List Stretch → Type 0
StartAt n xs = (x : ℕ) → x < n → times x xs ≡ 0

-- they are the numbers above `seen` up to n, each once
abbrev pub AreFrom : ℕ → ℕ → List Stretch → Type 0
AreFrom seen n xs = (seen ≤ n) × ((x : ℕ) → times x xs ≡ cond (nat_lt seen x && nat_le x n) 1 0)

-- how many of the numbers above `seen` up to n aren't there
abbrev pub lacking_from : ℕ → ℕ → List Stretch → ℕ
lacking_from seen zero xs = 0
lacking_from seen (suc n) xs = lacking_from seen n xs + cond (nat_lt seen (suc n) && (times (suc n) xs == 0)) 1 0
