-- What a plan has to show.
use Rattle.std.specs.Prelude.{◌≡◌, ℕ, ◌+◌, ◌≤◌, List, Contains, Some, length, slice_get, take}
use Rattle.cs_deps.specs.declared.elements.Element.{Element}
use Rattle.cs_deps.specs.declared.elements.Element.TheVariants.{Version}
use Rattle.cs_deps.specs.Named.{Named}
use Rattle.cs_deps.specs.Pending.{Pending, Waits, Needs, Satisfied}
use Rattle.cs_deps.specs.Schedule.{all_of, Covers}
use Rattle.cs_deps.specs.Chain.{IsChainOf}
use Rattle.cs_check.specs.Listing.{IsWellFormed}

-- a waiting version needs each waiting element that the version before it needs
abbrev pub IsNested : Pending → Type 0
IsNested g = (f v : ℕ) (x : Element) → Needs g (Version f v) x → Waits g x → Waits g (Version f (v + 1)) → Needs g (Version f (v + 1)) x

-- what a member of a round needs is satisfied in the persistent set with the rounds before
abbrev pub InTime : Pending → List (List Element) → Type 0
InTime g rounds = (i : ℕ) (round : List Element) (x y : Element) → slice_get rounds i ≡ Some round → Contains round x → Needs g x y → Satisfied g (all_of (take i rounds)) y

-- All tests are passed.
pub record Passes (g : Pending) (target : Named) (rounds : List (List Element)) (chain : List Element) : Type 0 where
  pub well_formed : IsWellFormed g target rounds chain
  pub nested : IsNested g
  pub covers : Covers g rounds target
  pub in_time : InTime g rounds
  pub linked : IsChainOf g target chain
  pub long_enough : length rounds ≤ length chain
