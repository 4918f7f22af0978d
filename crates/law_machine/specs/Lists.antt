-- Lists with the newest first, and functions that are changed at one place.
use Rattle.std.specs.Prelude.{◌≡◌, ◌⊎◌, ◌∷◌, ◌==◌, ℕ, zero, suc, Bool, List, Option, Some, None, [], if◌then◌else◌}
use Rattle.law_machine.specs.Device.{Page}

-- x is a member of the list
abbrev pub ◌∈◌ : {A : Type 0} → A → List A → Type 0
◌∈◌ x [] = ⊥
◌∈◌ x (y ∷ ys) = (x ≡ y) ⊎ (◌∈◌ x ys)

infix 40 ◌∈◌
-- the bytes of the newest that passes the test, else these
abbrev pub latest : {A : Type 0} → (A → Bool) → (A → Page) → Page → List A → Page
latest has bytes base [] = base
latest has bytes base (x ∷ xs) = if has x then bytes x else latest has bytes base xs

-- newest first, where each comes before those that stand ahead of it
abbrev pub Descends : {A : Type 0} → (A → A → Type 0) → List A → Type 0
Descends Before [] = Unit {0}
Descends {A} Before (x ∷ xs) = ((y : A) → y ∈ xs → Before y x) × Descends Before xs

-- f with the value v at e
abbrev pub with : (ℕ → ℕ) → ℕ → ℕ → ℕ → ℕ
with f e v x = if x == e then v else f x

-- member k of a list, counted from 0
abbrev pub nth : {A : Type 0} → List A → ℕ → Option A
nth [] k = None
nth (x ∷ xs) zero = Some x
nth (x ∷ xs) (suc k) = nth xs k

-- the list with y as its member k
abbrev pub replaced : {A : Type 0} → List A → ℕ → A → List A
replaced [] k y = []
replaced (x ∷ xs) zero y = y ∷ xs
replaced (x ∷ xs) (suc k) y = x ∷ replaced xs k y
