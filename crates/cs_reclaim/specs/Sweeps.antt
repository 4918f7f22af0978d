-- Sweeps: which extents may be swept, and what a sweep does to them.
use Rattle.std.specs.Prelude.{◌≡◌, ◌⊎◌, ◌≤◌, ◌<◌, ℕ, true, false, Some}
use Rattle.law_machine.specs.Device.{Shape}
use Rattle.law_machine.specs.Extents.{Extents}

-- an extent that can't be swept: it is open, it isn't there, it is empty, or it is being swept
abbrev pub IsNotSweepable : Shape → Extents → ℕ → Type 0
IsNotSweepable S x e = (x.open_extent ≡ Some e) ⊎ (S.extents ≤ e) ⊎ (x.pointer e ≡ 0) ⊎ (x.swept e ≡ true)

-- an extent that is being swept: it is there and marked, neither open nor empty
pub record IsSwept (S : Shape) (x : Extents) (e : ℕ) : Type 0 where
  pub inside : e < S.extents
  pub marked : x.swept e ≡ true
  pub closed : ¬ (x.open_extent ≡ Some e)
  pub written : 0 < x.pointer e

-- where chunks and runs lie apart, an extent that is being swept: it is there and marked, and chunks lie on it
pub record IsSweptApart (S : Shape) (x : Extents) (e : ℕ) : Type 0 where
  pub inside : e < S.extents
  pub marked : x.swept e ≡ true
  pub written : 0 < x.pointer e
  pub of_chunks : x.of_runs e ≡ false

-- an extent that is there and marked as being swept
abbrev pub IsMarked : Shape → Extents → ℕ → Type 0
IsMarked S x e = (e < S.extents) × (x.swept e ≡ true)

-- one that isn't
abbrev pub IsNotMarked : Shape → Extents → ℕ → Type 0
IsNotMarked S x e = (S.extents ≤ e) ⊎ (x.swept e ≡ false)
