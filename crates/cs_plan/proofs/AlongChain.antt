-- Heights along a chain of the target.
use Rattle.std.proofs.Common.{◌≡◌, ℕ, ◌+◌, ◌<◌, ◌≤◌, List, [], ◌∷◌, length, subst, ⊎_elim, arith}
use Rattle.std.proofs.lemmas.Bool.{cases_lt}
use Rattle.cs_deps.specs.declared.elements.Element.{Element}
use Rattle.cs_deps.specs.Named.{Named}
use Rattle.cs_deps.specs.Pending.{Pending}
use Rattle.cs_deps.specs.Chain.{IsChainOf, IsHeight}
use Rattle.cs_deps.specs.Rounds.{IsDue}
use Rattle.cs_deps.proofs.Chains.{need_is_lower, first_waits}
use Rattle.cs_deps.proofs.ByHeight.{HaveHeights}

module _ (g : Pending) (heights : HaveHeights g) (target : Named) (height : ℕ) (within : (n : ℕ) (x : Element) → IsDue g target n x → n ≤ height) where
  room_above : (x : Element) (rest : List Element) (n : ℕ) → IsChainOf g target (x ∷ rest) → IsHeight g x n → n + length rest ≤ height
  room_above x [] n c h = omega (arith, within n x (([], c), h))
  room_above x (y ∷ ys) n c h =
      let hy = heights y (first_waits g y ys c.0.2) in
      omega (arith, room_above y ys hy.0 (c.0.2, c.1) hy.1, need_is_lower g y x hy.0 n hy.1 h c.0.1)

  -- where a chain is as long as that, it has an element of each height
  due_at_each : (x : Element) (rest : List Element) (n a : ℕ) → IsChainOf g target (x ∷ rest) → IsHeight g x n → a < n → a + length (x ∷ rest) ≡ height → (i : ℕ) → a ≤ i → i < height → (y : Element) × IsDue g target (i + 1) y
  due_at_each x [] n a c h low total i from to =
      let same : n ≡ i + 1 = omega (arith, room_above x [] n c h, low, total, from, to) in
      (x, subst (λ m. IsDue g target m x) same (([], c), h))
  due_at_each x (y ∷ ys) n a c h low total i from to =
      ⊎_elim
      (λ (l : a < i).
      let hy = heights y (first_waits g y ys c.0.2) in
      due_at_each y ys hy.0 (a + 1) (c.0.2, c.1) hy.1 (omega (arith, need_is_lower g y x hy.0 n hy.1 h c.0.1, low)) (omega (arith, total)) i (omega (arith, l)) to)
      (λ (l : i ≤ a).
      let same : n ≡ i + 1 = omega (arith, room_above x (y ∷ ys) n c h, low, total, l, from) in
      (x, subst (λ m. IsDue g target m x) same ((y ∷ ys, c), h)))
      (cases_lt a i)

  pub due_somewhere : (chain : List Element) → IsChainOf g target chain → length chain ≡ height → (i : ℕ) → i < height → (y : Element) × IsDue g target (i + 1) y
  due_somewhere [] c total i lt = absurd (omega (arith, total, lt))
  due_somewhere (x ∷ rest) c total i lt =
      let h = heights x (first_waits g x rest c.0) in
      due_at_each x rest h.0 0 c h.1 (omega (arith, h.1.reached.4)) (omega (arith, total)) i (omega arith) lt
