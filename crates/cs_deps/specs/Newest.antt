-- Of each page the newest plain write of which a record is kept.
use Rattle.std.specs.Prelude.{◌≡◌, ℕ, ◌≤◌, ◌<◌, ◌≢◌, Option, Some, None, MatchOption}
use Rattle.slab.specs.Slab.{Slab, get}
use Rattle.cs_deps.specs.declared.elements.Element.TheVariants.{Plain}
use Rattle.cs_deps.specs.declared.levels.Kept.{Kept}
use Rattle.cs_deps.specs.declared.levels.Levels.{Levels}
use Rattle.cs_deps.specs.declared.records.Record.{Record}
use Rattle.cs_deps.specs.Levels.{kept_by}

-- a record of plain write n to page p is kept
abbrev pub IsPut : Slab Record → ℕ → ℕ → Type 0
IsPut records p n = (key : ℕ) × (r : Record) × (get records key ≡ Some r) × (r.element ≡ Plain n) × (r.page ≡ p)

-- each record stands under the key that is kept of its element
abbrev pub AreKeyed : Levels → Slab Record → Type 0
AreKeyed l records = (key : ℕ) (r : Record) → get records key ≡ Some r → (k : Kept) × (kept_by l r.element ≡ Some k) × (k.key ≡ key)

-- of the plain writes to page p up to `last` of which a record is kept, this is the greatest
abbrev pub IsLastUpTo : Slab Record → ℕ → ℕ → Option ℕ → Type 0
IsLastUpTo records p last found = MatchOption found ((m : ℕ) → IsPut records p m → last < m) (λ n. IsPut records p n × ((m : ℕ) → IsPut records p m → m ≤ last → m ≤ n))

-- the record under a key is gone
pub record IsGivenUp (old new : Slab Record) (key : ℕ) (r : Record) : Type 0 where
  pub was : get old key ≡ Some r
  pub gone : get new key ≡ None
  pub others : (other : ℕ) → other ≢ key → get new other ≡ get old other

-- the number that was found, 0 where none was
abbrev pub number_or_none : Option ℕ → ℕ
number_or_none None = 0
number_or_none (Some n) = n

-- For each page the greatest number is noted, and each record has a number that no plain write before it to its page is above.
pub record AreNewest (records : Slab Record) (newest : ℕ → Option ℕ) : Type 0 where
  pub last : (p n : ℕ) → IsPut records p n → (m : ℕ) × (newest p ≡ Some m) × (n ≤ m)
  pub there : (p m : ℕ) → newest p ≡ Some m → IsPut records p m
  pub older : (key : ℕ) (r : Record) (n m : ℕ) → get records key ≡ Some r → r.element ≡ Plain n → IsPut records r.page m → m < n → m ≤ r.older
