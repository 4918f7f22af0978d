-- What happens to extents, one change after another, and which pages are given.
use Rattle.std.specs.Prelude.{◌≡◌, ◌++◌, ◌∷◌, ℕ, zero, suc, Bool, List, [], Option}
use Rattle.law_machine.specs.Device.{Shape}
use Rattle.law_machine.specs.Extents.{Extents, Goes, Purpose as Reason, emptied, forgotten, marked, taken_by}

-- what is done to the extents, one thing at a time
pub data Change : Type 0 where
  -- a frame of so many pages goes to an extent
  Append : (reason : Reason) (pages extent : ℕ) → Change
  -- an extent is emptied under a version of the root
  Reset : (extent root : ℕ) → Change
  -- an extent is marked as being swept, or no longer
  Mark : (extent : ℕ) (swept : Bool) → Change
  -- something else is noted of the extents
  Note : (opened fresh last : Option ℕ) (of_runs : ℕ → Bool) → Change

-- a page of an extent, in one of its generations
pub record Given : Type 0 where
  pub extent : ℕ
  pub page : ℕ
  pub generation : ℕ

-- so many pages of an extent, in order from this page on
abbrev pub given_from : (extent page generation count : ℕ) → List Given
given_from e p g zero = []
given_from e p g (suc n) = record { extent = e; page = p; generation = g } ∷ given_from e (suc p) g n

-- these changes lead from the extents x to y, and give these pages, in order
abbrev pub LeadsTo : Shape → Extents → List Change → List Given → Extents → Type 0
LeadsTo S x [] given y = (x ≡ y) × (given ≡ [])
LeadsTo S x (Append reason k e ∷ changes) given y = (rest : List Given)
    × Goes S S.apart x reason k e × (given ≡ given_from e (x.pointer e) (x.generation e) k ++ rest)
    × LeadsTo S (taken_by S S.apart reason x e k) changes rest y
LeadsTo S x (Reset e root ∷ changes) given y = LeadsTo S (forgotten S.apart (emptied x e root) e) changes given y
LeadsTo S x (Mark e b ∷ changes) given y = LeadsTo S (marked x e b) changes given y
LeadsTo S x (Note o fresh last of_runs ∷ changes) given y =
    LeadsTo S (record x { open_extent = o; fresh = fresh; last = last; of_runs = of_runs }) changes given y
