-- What stands in a queue is what a round would take of that level.
use Rattle.std.proofs.Common.{◌≡◌, ◌∙◌, ℕ, ◌+◌, ◌≤◌, List, get_or, sym, ap, subst, arith}
use Rattle.cs_deps.specs.declared.elements.Element.{Element}
use Rattle.cs_deps.specs.declared.elements.Element.TheVariants.{Plain, Version}
use Rattle.cs_deps.specs.declared.levels.Levels.{Levels}
use Rattle.cs_deps.specs.declared.levels.Row.{Row}
use Rattle.cs_deps.specs.Chain.{IsHeight}
use Rattle.cs_deps.specs.Pending.{Pending, IsStaged}
use Rattle.cs_deps.specs.State.{IsInQueue}
use Rattle.cs_deps.specs.Levels.{kept_by, level_by, row_at, IsInRow, AreKeptLevels, AreRows}
use Rattle.cs_deps.proofs.AllHeights.{all_have_heights}
use Rattle.cs_deps.proofs.KeptIn.{level_one}

-- the level of what stands in a queue
pub row_level : (l : Levels) (ended : ℕ) (rows : List Row) → AreRows (kept_by l) ended rows → (i : ℕ) (x : Element) → IsInRow (kept_by l) ended rows i x → level_by l x ≡ ended + i + 1
row_level l ended rows are i (Plain n) h = h
row_level l ended rows are i (Version f v) h = ap (λ u. level_by l (Version f u)) (sym h.1) ∙ are.greatest i f (omega (arith, h.0, h.1))

-- it stands in one queue alone
pub one_row : (l : Levels) (ended : ℕ) (rows : List Row) → AreRows (kept_by l) ended rows → (i j : ℕ) (x : Element) → IsInRow (kept_by l) ended rows i x → IsInRow (kept_by l) ended rows j x → i ≡ j
one_row l ended rows are i j x h k = omega (arith, row_level l ended rows are i x h, row_level l ended rows are j x k)

-- two versions of one family in one queue are the same
pub same_in_row : (l : Levels) (ended : ℕ) (rows : List Row) (i f v w : ℕ) → IsInRow (kept_by l) ended rows i (Version f v) → IsInRow (kept_by l) ended rows i (Version f w) → v ≡ w
same_in_row l ended rows i f v w h k = sym h.1 ∙ k.1

module _ (g : Pending) (ok : IsStaged g) (l : Levels) (base : ℕ) (are : AreKeptLevels g base (level_by l)) (ended : ℕ) (rows : List Row) (ready : AreRows (kept_by l) ended rows) (n i : ℕ) (place : ended + i + 1 ≡ base + n) (one : 1 ≤ n) where
  height_from : (x : Element) → level_by l x ≡ base + n → IsHeight g x n
  height_from x lv =
      let h = all_have_heights g ok x (are.gone x (omega (arith, lv, one))) in
      let same : h.0 ≡ n = omega (arith, are.waiting x h.0 h.1, lv) in
      subst (IsHeight g x) same h.1

  -- what a round would take stands in the queue
  pub level_in_row : (x : Element) → IsInQueue g n x → IsInRow (kept_by l) ended rows i x
  level_in_row (Plain m) h = are.waiting (Plain m) n h ∙ sym place
  level_in_row (Version f v) h =
      let lv : level_by l (Version f v) ≡ ended + i + 1 = are.waiting (Version f v) n h.0 ∙ sym place in
      let le = ready.version i f v lv in
      let up = level_one l f v (omega (arith, lv)) in
      let top = ready.greatest i f (omega (arith, le, up)) in
      let most = h.1 (get_or (row_at rows i).versions f 0) (height_from (Version f (get_or (row_at rows i).versions f 0)) (top ∙ place)) in
      (up, omega (arith, le, most))

  -- what stands in the queue a round would take
  pub row_of_level : (x : Element) → IsInRow (kept_by l) ended rows i x → IsInQueue g n x
  row_of_level (Plain m) h = height_from (Plain m) (h ∙ place)
  row_of_level (Version f v) h = (
    height_from (Version f v) (row_level l ended rows ready i (Version f v) h ∙ place),
    (λ w hw. omega (arith, ready.version i f w (are.waiting (Version f w) n hw ∙ sym place), h.1)),
  )
