-- Some locators as they are held: in place, or elsewhere in memory.
use Rattle.std.specs.Prelude.{ℕ, ◌+◌, ◌≤◌, List, [], ◌∷◌, length, vec_capacity}
use Rattle.cs_frame.specs.declared.locators.Locator.{Locator}
use Rattle.cs_frame.specs.declared.locators.Held.{Held}
use Rattle.cs_frame.specs.declared.locators.Held.TheVariants.{Nothing, One, Many}

-- locators in order, and how many of them there may be without asking for memory
pub record Listed : Type 0 where
  pub items : List Locator
  pub capacity : ℕ

-- so many more locators ask for no memory
abbrev pub HasPlaceFor : Listed → ℕ → Type 0
HasPlaceFor places more = length places.items + more ≤ places.capacity

-- what is listed by what is held
abbrev pub listed_by : Held → Listed
listed_by Nothing = record { items = []; capacity = 1 }
listed_by (One place) = record { items = place ∷ []; capacity = 1 }
listed_by (Many places) = record { items = places.value.items; capacity = vec_capacity places.value }
