-- How many identifiers have something.
use Rattle.std.specs.Prelude.{◌≡◌, ◌↔◌, ◌<◌, ℕ, AllPairs, Contains, List, length}

-- the identifiers that have it are these, by rising number
pub record AreThose (Has : ℕ → Type 0) (ids : List ℕ) : Type 0 where
  pub rising : AllPairs (λ a b. a < b) ids
  pub exact : (id : ℕ) → Contains ids id ↔ Has id

-- so many have it
abbrev pub HasCount : (ℕ → Type 0) → ℕ → Type 0
HasCount Has n = (ids : List ℕ) × AreThose Has ids × (length ids ≡ n)
