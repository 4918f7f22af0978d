-- What is found among the kept levels of what a new element needs is the greatest.
use Rattle.std.proofs.Common.{◌≡◌, ℕ, ◌<◌, ◌≤◌, Bool, true, false, List, get_or, Option, Some, None, refl, sym, ap, ◌∙◌, inl, inr, ⊎_elim, arith}
use Rattle.std.specs.Prelude.{Contains}
use Rattle.std.proofs.lemmas.Bool.{cases_lt}
use Rattle.cs_deps.specs.declared.elements.Element.{Element}
use Rattle.cs_deps.specs.declared.elements.Element.TheVariants.{Plain, Version}
use Rattle.cs_deps.specs.declared.levels.Kept.{Kept}
use Rattle.cs_deps.specs.declared.levels.Levels.{Levels}
use Rattle.cs_deps.specs.Named.{Named, Names, IsInSpans, IsWithin, StandsFor}
use Rattle.cs_deps.specs.Pending.{Pending, Waits}
use Rattle.cs_deps.specs.Staging.{IsKept, staged_after, is_left_waiting}
use Rattle.cs_deps.specs.State.{State, after, after_round}
use Rattle.cs_deps.specs.Entries.{IsSound}
use Rattle.cs_deps.specs.Levels.{kept_by, level_by, level_of, IsTop, IsCandidate, IsBest, IsIndexed}
use Rattle.cs_deps.proofs.AllHeights.{all_have_heights}
use Rattle.cs_deps.proofs.HeightSteps.{height_positive, settled_then_staged}
use Rattle.cs_deps.proofs.KeptLevels.{heights_rise}
use Rattle.cs_deps.proofs.Settled.{kept_settled, one_stands}

-- what is left once the round that is out has joined is kept well
pub kept_after : (s : State) → IsSound s → IsKept (record { pending = after s; staged = s.staging.staged; latest = s.staging.latest })
kept_after s whole = from s.round refl
  where
    from : (o : Option (List Element)) → s.round ≡ o → IsKept (record { pending = after_round s.staging.pending o; staged = s.staging.staged; latest = s.staging.latest })
    from None is = whole.kept
    from (Some round) is = kept_settled s.staging whole.kept round (λ x c. whole.kept.numbered x (whole.out x (round, is, c)))

-- where the round that is out does not stand for what is staged, staging comes before or after it
pub after_staged : (g : Pending) (o : Option (List Element)) (x : Element) (d : Named) → ((round : List Element) (y : Element) → o ≡ Some round → Contains round y → StandsFor y x → ⊥) → after_round (staged_after g x d) o ≡ staged_after (after_round g o) x d
after_staged g None x d none = refl
after_staged g (Some round) x d none = settled_then_staged g round x d (left (is_left_waiting round (x, d)) refl)
  where
    left : (b : Bool) → is_left_waiting round (x, d) ≡ b → is_left_waiting round (x, d) ≡ true
    left true is = is
    left false is = let s = one_stands round (x, d) is in absurd (none round s.0 refl s.1 s.2)

module _ (s : State) (whole : IsSound s) (l : Levels) (ix : IsIndexed s l) where
  abbrev g : Pending
  g = after s

  kept : IsKept (record { pending = g; staged = s.staging.staged; latest = s.staging.latest })
  kept = kept_after s whole

  -- what waits has a level above the base
  pub up : (x : Element) → Waits g x → l.base < level_by l x
  up x w = let h = all_have_heights g kept.staged x w in omega (arith, ix.levels.waiting x h.0 h.1, height_positive g x h.0 h.1)

  -- levels rise along a family
  pub later_levels : (f v w : ℕ) → v ≤ w → w ≤ get_or s.staging.latest f 0 → Waits g (Version f v) → level_by l (Version f v) ≤ level_by l (Version f w)
  later_levels f v w le top at =
      let low = kept.staged.not_yet f v at in
      let then : Waits g (Version f w) = kept.versions_wait f w (omega (arith, low, le)) top in
      let hv = all_have_heights g kept.staged (Version f v) at in
      let hw = all_have_heights g kept.staged (Version f w) then in
      omega (arith, ix.levels.waiting (Version f v) hv.0 hv.1, ix.levels.waiting (Version f w) hw.0 hw.1, heights_rise g kept.staged f v w hv.0 hw.0 le then hv.1 hw.1)

  module _ (d : Named) (within : IsWithin d s.staging.staged s.staging.latest) (level : ℕ) (before : Option Element) (best : IsBest (kept_by l) l.base d level before) where
    above : (y : Element) → Names d y → Waits g y → level_by l y ≤ level
    above (Plain n) named w = ⊎_elim
        (λ (t : (1 ≤ n) × (n ≤ d.through)). at (kept_by l (Plain d.through)) refl t.1 (within (Plain d.through) (inl (omega (arith, t.0, t.1), omega arith))).1)
        (λ (c : IsInSpans d.spans n). best.listed n c)
        named
      where
        at : (o : Option Kept) → kept_by l (Plain d.through) ≡ o → n ≤ d.through → d.through ≤ s.staging.staged → level_by l (Plain n) ≤ level
        at None is le top = omega (arith, ix.tops.none d.through n top le is, up (Plain n) w, ix.low)
        at (Some k) is le top = omega (arith, ix.tops.above d.through n k le is (omega (arith, up (Plain n) w, ix.low)), best.through k is)
    above (Version f v) named w =
        let top : get_or d.least f 0 ≤ get_or s.staging.latest f 0 = within (Version f (get_or d.least f 0)) (omega (arith, named.0, named.1), omega arith) in
        omega (arith, later_levels f v (get_or d.least f 0) named.1 top w, best.versions f)

    -- above the base the element that was found has the level, and is named
    pub best_before : l.base < level → (y : Element) × (before ≡ Some y) × Names d y × Waits g y × (level_by l y ≡ level)
    best_before lt = ⊎_elim
        (λ (e : level ≡ l.base). absurd (omega (arith, e, lt)))
        (λ (r : (y : Element) × (before ≡ Some y) × IsCandidate (kept_by l) d y level). ⊎_elim
        (λ (t : (k : Kept) × (kept_by l (Plain d.through) ≡ Some k) × (r.0 ≡ Plain k.least) × (level ≡ k.top)).
        let p = ix.tops.least d.through t.0 t.1 (omega (arith, t.3, lt, ix.low)) in
        (Plain t.0.least, r.1 ∙ ap (λ (y : Element). Some y) t.2, inl (p.0, p.1), ix.levels.gone (Plain t.0.least) (omega (arith, p.2, t.3, lt)), p.2 ∙ sym t.3))
        (λ (t : Names d r.0 × (level_of (kept_by l r.0) ≡ level)). (r.0, r.1, t.0, ix.levels.gone r.0 (omega (arith, t.1, lt)), t.1))
        r.2)
        best.reached

    pub best_top : IsTop g l.base (level_by l) d level
    best_top = record {
      above = above;
      reached = ⊎_elim
          (λ (lt : l.base < level). let r = best_before lt in inr (r.0, r.2, r.3, r.4))
          (λ (le : level ≤ l.base). let e : level ≡ l.base = omega (arith, le, best.low) in inl e)
          (cases_lt l.base level);
    }
