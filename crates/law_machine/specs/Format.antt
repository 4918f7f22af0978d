-- The format of a store.
use Rattle.std.specs.Prelude.{ℕ, List}

-- In format 4 a store has an identity of 16 bytes, and says how many pages its device had as the store was made.
-- Format 2 has neither
pub data Format : Type 0 where
  Two : Format
  Four : (store : List ℕ) → (device : ℕ) → Format

-- the number of a format
abbrev pub number_of : Format → ℕ
number_of Two = 2
number_of (Four store device) = 4
