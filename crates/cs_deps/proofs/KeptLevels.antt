-- Kept levels: staging and rounds leave each kept level, and the level of a new element comes from those of what it needs.
use Rattle.std.proofs.Common.{◌≡◌, ℕ, zero, suc, ◌+◌, ◌<◌, ◌≤◌, ◌⊎◌, List, max, refl, sym, ap, ◌∙◌, subst, inl, inr, ⊎_elim, arith}
use Rattle.std.proofs.lemmas.Bool.{cases_lt}
use Rattle.cs_deps.specs.declared.elements.Element.{Element}
use Rattle.cs_deps.specs.declared.elements.Element.TheVariants.{Version}
use Rattle.cs_deps.specs.Named.{Named, Names}
use Rattle.cs_deps.specs.Pending.{Pending, WaitsAt, Waits, IsStaged}
use Rattle.cs_deps.specs.Chain.{IsHeight, ChainTo}
use Rattle.cs_deps.specs.Staging.{staged_after, settled, IsJoined}
use Rattle.cs_deps.specs.State.{IsQueue}
use Rattle.cs_deps.specs.Levels.{AreKeptLevels, IsTop}
use Rattle.cs_deps.proofs.Chains.{chain_of_one, chain_to_next, need_is_lower}
use Rattle.cs_deps.proofs.ByHeight.{HaveHeights}
use Rattle.cs_deps.proofs.AllHeights.{all_have_heights}
use Rattle.cs_deps.proofs.Kept.{MayFollow, old_or_new}
use Rattle.cs_deps.proofs.HeightSteps.{chain_ends_waiting, need_of_chain, same_height, height_was, height_new, lowered, entry_left, more_waits, new_waits}
use Rattle.cs_deps.proofs.Settled.{waited}

-- KEPT LEVELS
-- a round taken raises the base by one and leaves each level
pub levels_taken : (g : Pending) (ok : IsStaged g) (base : ℕ) (level : Element → ℕ) → AreKeptLevels g base level → (round : List Element) → IsQueue g 1 round → AreKeptLevels (settled g round) (base + 1) level
levels_taken g ok base level are round first = record {
  waiting = λ x n h.
      let w = chain_ends_waiting (settled g round) x n h.reached in
      let old = all_have_heights g ok x (waited g ok round x w) in
      let r = lowered g ok (all_have_heights g ok) round first x old.0 w old.1 in
      omega (arith, are.waiting x old.0 old.1, r.1, same_height (settled g round) x n r.0 h r.2);
  gone = λ x up.
      let w = are.gone x (omega (arith, up)) in
      let h = all_have_heights g ok x w in
      high x w h.0 h.1 (omega (arith, are.waiting x h.0 h.1, up));
}
  where
    high : (x : Element) → Waits g x → (n : ℕ) → IsHeight g x n → 1 < n → Waits (settled g round) x
    high x w zero h lt = absurd (omega (arith, lt))
    high x w (suc zero) h lt = absurd (omega (arith, lt))
    high x w (suc (suc n)) h lt = let r = entry_left g ok (all_have_heights g ok) round first w.0 x w.1 w.2 n h.reached in (r.0, w.1, r.1)

-- an element staged gets its level and leaves those of the others
pub levels_staged : (g : Pending) (ok : IsStaged g) (x : Element) (d : Named) (may : MayFollow g x d) (base : ℕ) (level next : Element → ℕ) → AreKeptLevels g base level → (m : ℕ) → IsHeight (staged_after g x d) x m → next x ≡ base + m → ((y : Element) → (next y ≡ level y) ⊎ (x ≡ y)) → ((y : Element) → Waits g y → next y ≡ level y) → AreKeptLevels (staged_after g x d) base next
levels_staged g ok x d may base level next are m new is cases old = record {
  waiting = λ y n h. ⊎_elim
      (λ (o : Waits g y). omega (arith, are.waiting y n (height_was g ok x d may y n o h), old y o))
      (λ (e : x ≡ y). omega (arith, is, ap next e, same_height (staged_after g x d) y m n (subst (λ u. IsHeight (staged_after g x d) u m) e new) h))
      (old_or_new g ok x d may y (chain_ends_waiting (staged_after g x d) y n h.reached));
  gone = λ y up. ⊎_elim
      (λ (s : next y ≡ level y). more_waits g ok x d may y (are.gone y (omega (arith, s, up))))
      (λ (e : x ≡ y). subst (Waits (staged_after g x d)) e (new_waits g ok x d may))
      (cases y);
}

-- THE LEVEL OF A NEW ELEMENT
-- heights rise along a family
pub heights_rise : (g : Pending) → IsStaged g → (f v w n m : ℕ) → v ≤ w → Waits g (Version f w) → IsHeight g (Version f v) n → IsHeight g (Version f w) m → n ≤ m
heights_rise g ok f v w n m le ww hv hw = hw.greatest n (moved n hv.reached)
  where
    moved : (k : ℕ) → ChainTo g (Version f v) k → ChainTo g (Version f w) k
    moved zero c = absurd (omega (arith, c.3, c.4))
    moved (suc zero) c = chain_of_one g (Version f w) ww
    moved (suc (suc k)) c = let r = need_of_chain g (Version f v) k c in
        let longer : ChainTo g (Version f w) (suc k + 1) = chain_to_next g (Version f w) r.0 (suc k) r.2 (ok.nested f v w r.0 le r.1 ww) in
        let same : suc k + 1 ≡ suc (suc k) = omega arith in subst (ChainTo g (Version f w)) same longer

-- the level of the new element: one more than the greatest kept level of what it needs, or than the base
pub level_of_new : (g : Pending) (ok : IsStaged g) (x : Element) (d : Named) (may : MayFollow g x d) (base : ℕ) (level : Element → ℕ) → AreKeptLevels g base level → HaveHeights g → (top : ℕ) → IsTop g base level d top → (m : ℕ) → top ≡ base + m → IsHeight (staged_after g x d) x (m + 1)
level_of_new g ok x d may base level are heights top is m same = height_new g ok x d may m
    (⊎_elim
    (λ (e : top ≡ base). let none : m ≡ 0 = omega (arith, e, same) in inl none)
    (λ (r : (y : Element) × Names d y × Waits g y × (level y ≡ top)).
    let h = heights r.0 r.2 in
    let eq : h.0 ≡ m = omega (arith, are.waiting r.0 h.0 h.1, r.3, same) in
    inr (r.0, r.1, subst (IsHeight g r.0) eq h.1))
    is.reached)
    (λ y k named c.
    let w = chain_ends_waiting g y k c in
    let h = heights y w in
    omega (arith, h.1.greatest k c, are.waiting y h.0 h.1, is.above y named w, same))

-- the needs of the version before add only its own level less one
pub joined_top : (g : Pending) (ok : IsStaged g) (base : ℕ) (level : Element → ℕ) → AreKeptLevels g base level → HaveHeights g → (x : Element) (d e : Named) → IsJoined g.waiting x d e → (top : ℕ) → IsTop g base level d top → base ≤ top → (k : ℕ) → IsHeight g x (k + 1) → IsTop g base level e (max top (base + k))
joined_top g ok base level are heights x d e joined top is least k hx = record {
  above = λ y named w. ⊎_elim
      (λ (n : Names d y). omega (arith, is.above y n w))
      (λ (n : (j : ℕ) × (h : Named) × WaitsAt g j x h × Names h y). let hy = heights y w in omega (arith, are.waiting y hy.0 hy.1, need_is_lower g x y (k + 1) hy.0 hx hy.1 (n.0, n.1, n.2, n.3)))
      ((joined y).0 named);
  reached = ⊎_elim
      (λ (a : top < base + k). from k refl a)
      (λ (a : base + k ≤ top). let same : top ≡ max top (base + k) = omega (arith, a) in ⊎_elim
      (λ (b : top ≡ base). inl (sym same ∙ b))
      (λ (r : (y : Element) × Names d y × Waits g y × (level y ≡ top)). inr (r.0, (joined r.0).1 (inl r.1), r.2, r.3 ∙ same))
      is.reached)
      (cases_lt top (base + k));
}
  where
    from : (i : ℕ) → i ≡ k → top < base + k → (max top (base + k) ≡ base) ⊎ ((y : Element) × Names e y × Waits g y × (level y ≡ max top (base + k)))
    from zero s a = absurd (omega (arith, s, a, least))
    from (suc i) s a =
        let two : k + 1 ≡ suc (suc i) = omega (arith, s) in
        let r = need_of_chain g x i (subst (ChainTo g x) two hx.reached) in
        let w = chain_ends_waiting g r.0 (suc i) r.2 in
        let hy = heights r.0 w in
        let eq : level r.0 ≡ max top (base + k) = omega (arith, are.waiting r.0 hy.0 hy.1, hy.1.greatest (suc i) r.2, need_is_lower g x r.0 (k + 1) hy.0 hx hy.1 r.1, s, a) in
        inr (r.0, (joined r.0).1 (inr (r.1.0, r.1.1, r.1.2, r.1.3)), w, eq)
