-- What a view and a plan have to be before they are compared.
use Rattle.std.specs.Prelude.{◌≡◌, ℕ, ◌+◌, ◌^◌, ◌≤◌, ◌<◌, ◌⊎◌, ◌==◌, List, Bool, false, All, AllPairs, count_by, length, take, slice_index}
use Rattle.cs_deps.specs.declared.elements.Element.{Element}
use Rattle.cs_deps.specs.declared.elements.Element.TheVariants.{Plain, Version}
use Rattle.cs_deps.specs.Named.{Named, Names}
use Rattle.cs_deps.specs.Pending.{Pending, WaitsAt, Waits, IsPersistent}
use Rattle.cs_deps.specs.Schedule.{IsSchedule}

-- whether it is a version of this family
abbrev pub is_of : ℕ → Element → Bool
is_of f (Plain n) = false
is_of f (Version g v) = f == g

-- how many versions of a family are listed before place k
abbrev pub versions_before : Pending → ℕ → ℕ → ℕ
versions_before g f k = count_by (λ w. is_of f w.0) (take k g.waiting)

-- listed before place k
abbrev pub WaitsBefore : Pending → ℕ → Element → Type 0
WaitsBefore g k x = (j : ℕ) × (d : Named) × (j < k) × WaitsAt g j x d

-- The numbers of plain writes rise. Those of a family's versions follow on its persistent one, with none left out.
abbrev pub IsNumberedAt : Pending → ℕ → Element → Type 0
IsNumberedAt g k (Plain n) = (1 ≤ n) × (n < 2 ^ 63) × ((j m : ℕ) (d : Named) → j < k → WaitsAt g j (Plain m) d → m < n)
IsNumberedAt g k (Version f v) = (f < length g.persistent) × (v < 2 ^ 63) × (v ≡ slice_index g.persistent f + 1 + versions_before g f k)

-- a version names no version of its own family but persistent ones
abbrev pub NamesOthers : Pending → Element → Named → Type 0
NamesOthers g (Plain n) d = Unit {0}
NamesOthers g (Version f v) d = (w : ℕ) → Names d (Version f w) → IsPersistent g (Version f w)

-- x, with needs d, may stand at place k of the list.
pub record IsListedAt (g : Pending) (k : ℕ) (x : Element) (d : Named) : Type 0 where
  pub number : IsNumberedAt g k x
  -- what it names is persistent or listed before it
  pub needs : (y : Element) → Names d y → IsPersistent g y ⊎ WaitsBefore g k y
  pub others : NamesOthers g x d

-- each listed element stands where it may, and needs what it may
abbrev pub IsListing : Pending → Type 0
IsListing g = (k : ℕ) (x : Element) (d : Named) → WaitsAt g k x d → IsListedAt g k x d

-- no element twice
abbrev pub IsOnce : List Element → Type 0
IsOnce xs = AllPairs (λ x y. x ≡ y → ⊥) xs

-- What a document may say: a view, a target, rounds and a chain that keep the rules of its names and numbers.
pub record IsWellFormed (g : Pending) (target : Named) (rounds : List (List Element)) (chain : List Element) : Type 0 where
  pub families : (1 ≤ length g.persistent) × (length g.persistent ≤ 16)
  pub persistent : All (λ v. v < 2 ^ 63) g.persistent
  pub elements : IsListing g
  -- the rounds and the chain are of waiting elements
  pub schedule : IsSchedule g rounds
  pub once : All IsOnce rounds
  pub links : All (Waits g) chain
