-- Lists of identifiers.
use Rattle.std.specs.Prelude.{◌≡◌, ◌↔◌, ◌⊎◌, ◌∷◌, ◌<◌, ◌≤◌, ℕ, List, [], length}
use Rattle.law_machine.specs.Lists.{◌∈◌}

-- the numbers rise
abbrev pub Rising : List ℕ → Type 0
Rising [] = Unit {0}
Rising (x ∷ []) = Unit {0}
Rising (x ∷ y ∷ xs) = (x < y) × Rising (y ∷ xs)

-- The first so many of the identifiers that are there, from one on, by rising numbers; all of them where there are no
-- more.
pub record AreFirst (is_there : ℕ → Type 0) (from most : ℕ) (ids : List ℕ) : Type 0 where
  pub rising : Rising ids
  pub each : (id : ℕ) → id ∈ ids → (from ≤ id) × is_there id
  pub few : length ids ≤ most
  pub rest : (id : ℕ) → from ≤ id → is_there id → (id ∈ ids) ⊎ ((length ids ≡ most) × ((x : ℕ) → x ∈ ids → x < id))

-- All of the identifiers that are there, and no others, by rising numbers.
pub record AreAll (is_there : ℕ → Type 0) (ids : List ℕ) : Type 0 where
  pub rising : Rising ids
  pub each : (id : ℕ) → (id ∈ ids) ↔ is_there id
