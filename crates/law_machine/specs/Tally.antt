-- Sums over the identifiers of an index, each counted by the locators that it has.
use Rattle.std.specs.Prelude.{◌+◌, ◌-◌, ◌*◌, ◌∷◌, ◌==◌, ℕ, suc, List, length, [], if◌then◌else◌}
use Rattle.law_machine.specs.Element.{Entry, Locator}
use Rattle.law_machine.specs.Index.{live_at, names}

-- what the identifiers of an index come to, each as f says of its locators
abbrev pub tally : (f : List Locator → ℕ) → List Entry → ℕ
tally f [] = 0
tally f (x ∷ xs) = (tally f xs - f (live_at xs x.id)) + f x.locators

-- 1 where there is a locator, 0 where there is none
abbrev pub one_if_some : List Locator → ℕ
one_if_some [] = 0
one_if_some (l ∷ ls) = 1

-- how many of the locators are on the extent
abbrev pub places_on : (extent : ℕ) → List Locator → ℕ
places_on e [] = 0
places_on e (l ∷ ls) = if l.extent == e then suc (places_on e ls) else places_on e ls

-- how many identifiers of an index live
abbrev pub shards : List Entry → ℕ
shards index = tally one_if_some index

-- how many chunks of them are on the extent
abbrev pub lives_on : (extent : ℕ) → List Entry → ℕ
lives_on e index = tally (places_on e) index

-- by the rule of how much an entry weighs that has so many chunks
module _ (weigh : (chunks : ℕ) → ℕ) where
  -- what an entry of these locators weighs where there is one, nothing where there is none
  abbrev pub weight_if_some : List Locator → ℕ
  weight_if_some [] = 0
  weight_if_some (l ∷ ls) = weigh (length (l ∷ ls))

  -- what the entries weigh of the identifiers that live
  abbrev pub living_weight : List Entry → ℕ
  living_weight index = tally weight_if_some index

  -- what the deletions weigh among the newest entries: so many identifiers are named and don't live
  abbrev pub dead_weight : List Entry → ℕ
  dead_weight index = (names index - shards index) * weigh 0
