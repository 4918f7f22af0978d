-- What the kept levels say of what has ended: what neither waits nor is one of the round that is out.
use Rattle.std.proofs.Common.{◌≡◌, ℕ, ◌+◌, ◌<◌, ◌≤◌, Bool, true, false, List, length, get_or, Option, Some, None, refl, sym, ◌∙◌, subst, inl, inr, ⊎_elim, arith}
use Rattle.std.specs.Prelude.{Contains, ◌↔◌}
use Rattle.std.proofs.lemmas.Bool.{cases_lt, ltb-true}
use Rattle.cs_deps.specs.declared.elements.Element.{Element}
use Rattle.cs_deps.specs.declared.elements.Element.TheVariants.{Plain, Version}
use Rattle.cs_deps.specs.declared.levels.Kept.{Kept}
use Rattle.cs_deps.specs.declared.levels.Levels.{Levels}
use Rattle.cs_deps.specs.Named.{Named, Names, IsInSpans, IsWithin, StandsFor}
use Rattle.cs_deps.specs.Pending.{Waits}
use Rattle.cs_deps.specs.Staging.{IsSatisfied, is_left_waiting, waits_still}
use Rattle.cs_deps.specs.State.{State, after_round}
use Rattle.cs_deps.specs.Entries.{IsSound}
use Rattle.cs_deps.specs.Levels.{kept_by, level_by, top_of, row_at, IsInRow, IsIndexed}
use Rattle.cs_deps.proofs.Filtered.{filter_keeps}
use Rattle.cs_deps.proofs.KeptIn.{level_one}
use Rattle.cs_deps.proofs.LeftOver.{level_test}
use Rattle.cs_deps.proofs.Settled.{one_stands}
use Rattle.cs_deps.proofs.StateSteps.{after_waits}
use Rattle.cs_deps.proofs.Tops.{up}

module _ (s : State) (whole : IsSound s) (l : Levels) (ix : IsIndexed s l) where
  -- a plain write that waits, in the round that is out or not, has a level above the rounds that have ended
  pub above_ended : (n : ℕ) → Waits s.staging.pending (Plain n) → l.ended < level_by l (Plain n)
  above_ended n w = from s.round refl
    where
      member : (round : List Element) → s.round ≡ Some round → (b : Bool) → waits_still round (Plain n) ≡ b → l.ended < level_by l (Plain n)
      member round is true q = (let lt = ltb-true l.base (level_by l (Plain n)) (level_test s whole l ix round is n w ∙ q) in omega (arith, lt, ix.low))
      member round is false q =
          let y = one_stands round (Plain n, w.1) q in
          stands y.0 y.1 y.2
        where
          stands : (y : Element) → Contains round y → StandsFor y (Plain n) → l.ended < level_by l (Plain n)
          stands (Plain m) c e = (let o = ix.out (Plain n) (round, is, subst (λ u. Contains round (Plain u)) e c) in omega (arith, o.1))
          stands (Version f v) c e = absurd e

      from : (o : Option (List Element)) → s.round ≡ o → l.ended < level_by l (Plain n)
      from None is = (let lt = up s whole l ix (Plain n) (subst (λ o. Waits (after_round s.staging.pending o) (Plain n)) (sym is) w) in omega (arith, lt, ix.low))
      from (Some round) is = member round is (waits_still round (Plain n)) refl

  -- and one that has such a level waits
  pub waits_where_above : (n : ℕ) → l.ended < level_by l (Plain n) → Waits s.staging.pending (Plain n)
  waits_where_above n hi = ⊎_elim
      (λ (lt : l.base < level_by l (Plain n)). after_waits s.staging.pending whole.kept.staged s.round (Plain n) (ix.levels.gone (Plain n) lt))
      (λ (le : level_by l (Plain n) ≤ l.base). whole.out (Plain n) (ix.first (omega (arith, hi, le)) (Plain n) (omega (arith, hi, le, ix.near))))
      (cases_lt l.base (level_by l (Plain n)))

  -- something waits exactly where there is a queue
  pub queue_where_waits : (x : Element) → Waits s.staging.pending x → 0 < length l.rows.items
  queue_where_waits x w = from s.round refl
    where
      after_it : Waits (after_round s.staging.pending s.round) x → 0 < length l.rows.items
      after_it a = (let lt = up s whole l ix x a in omega (arith, lt, ix.within x, ix.low))

      member : (round : List Element) → s.round ≡ Some round → (b : Bool) → waits_still round x ≡ b → 0 < length l.rows.items
      member round is true q = (let r = filter_keeps (is_left_waiting round) s.staging.pending.waiting w.0 (x, w.1) w.2 q in after_it (subst (λ o. Waits (after_round s.staging.pending o) x) (sym is) (r.0, w.1, r.1)))
      member round is false q =
          let y = one_stands round (x, w.1) q in
          let o = ix.out y.0 (round, is, y.1) in
          omega (arith, o.0, ix.high)

      from : (o : Option (List Element)) → s.round ≡ o → 0 < length l.rows.items
      from None is = after_it (subst (λ o. Waits (after_round s.staging.pending o) x) (sym is) w)
      from (Some round) is = member round is (waits_still round x) refl

  pub waits_where_queue : 0 < length l.rows.items → (x : Element) × Waits s.staging.pending x
  waits_where_queue some = from (ix.deepest some).0 (ix.deepest some).1
    where
      first_row : (x : Element) → level_by l x ≡ l.ended + 0 + 1 → (y : Element) × IsInRow (kept_by l) l.ended l.rows.items 0 y
      first_row (Plain n) lv = (Plain n, lv)
      first_row (Version f v) lv =
          let le = ix.rows.version 0 f v lv in
          let up = level_one l f v (omega (arith, lv)) in
          (Version f (get_or (row_at l.rows.items 0).versions f 0), (omega (arith, le, up), refl))

      from : (x : Element) → level_by l x ≡ l.ended + length l.rows.items → (y : Element) × Waits s.staging.pending y
      from x lv = ⊎_elim
          (λ (lt : l.base < level_by l x). (x, after_waits s.staging.pending whole.kept.staged s.round x (ix.levels.gone x lt)))
          (λ (le : level_by l x ≤ l.base).
          let y = first_row x (omega (arith, lv, le, some, ix.near)) in
          (y.0, whole.out y.0 (ix.first (omega (arith, lv, le, some)) y.0 y.1)))
          (cases_lt l.base (level_by l x))

  -- the plain writes up to a number have ended exactly where the greatest level of them has
  pub ended_to : (through : ℕ) → through ≤ s.staging.staged → (top_of (kept_by l (Plain through)) ≤ l.ended) ↔ ((n : ℕ) → 1 ≤ n → n ≤ through → level_by l (Plain n) ≤ l.ended)
  ended_to through top = from (kept_by l (Plain through)) refl
    where
      from : (o : Option Kept) → kept_by l (Plain through) ≡ o → (top_of o ≤ l.ended) ↔ ((n : ℕ) → 1 ≤ n → n ≤ through → level_by l (Plain n) ≤ l.ended)
      from None is = ((λ low n one le. ix.tops.none through n top le is), (λ all. omega arith))
      from (Some k) is = (
        (λ low n one le. ⊎_elim
            (λ (lt : l.ended < level_by l (Plain n)). absurd (omega (arith, ix.tops.above through n k le is lt, lt, low)))
            (λ (at : level_by l (Plain n) ≤ l.ended). at)
            (cases_lt l.ended (level_by l (Plain n)))),
        (λ all. ⊎_elim
            (λ (lt : l.ended < k.top). let r = ix.tops.least through k is lt in absurd (omega (arith, all k.least r.0 r.1, r.2, lt)))
            (λ (at : k.top ≤ l.ended). at)
            (cases_lt l.ended k.top)),
      )

  module _ (d : Named) (within : IsWithin d s.staging.staged s.staging.latest) where
    through_staged : d.through ≤ s.staging.staged
    through_staged = ⊎_elim
        (λ (lt : s.staging.staged < d.through). absurd (omega (arith, (within (Plain d.through) (inl (omega (arith, lt), omega arith))).1, lt)))
        (λ (le : d.through ≤ s.staging.staged). le)
        (cases_lt s.staging.staged d.through)

    pub satisfied_where_ended : ((f v : ℕ) → Names d (Version f v) → v ≤ get_or s.staging.pending.persistent f 0) → top_of (kept_by l (Plain d.through)) ≤ l.ended → ((n : ℕ) → IsInSpans d.spans n → level_by l (Plain n) ≤ l.ended) → (x : Element) → Names d x → IsSatisfied s.staging x
    satisfied_where_ended versions top listed (Version f v) named = (within (Version f v) named, versions f v named)
    satisfied_where_ended versions top listed (Plain n) named = (within (Plain n) named, λ w. (let hi = above_ended n w in omega (arith, hi, low)))
      where
        low : level_by l (Plain n) ≤ l.ended
        low = ⊎_elim
            (λ (t : (1 ≤ n) × (n ≤ d.through)). (ended_to d.through through_staged).0 top n t.0 t.1)
            (λ (c : IsInSpans d.spans n). listed n c)
            named

    module _ (all : (x : Element) → Names d x → IsSatisfied s.staging x) where
      low_where_named : (n : ℕ) → Names d (Plain n) → level_by l (Plain n) ≤ l.ended
      low_where_named n named = ⊎_elim
          (λ (hi : l.ended < level_by l (Plain n)). absurd ((all (Plain n) named).1 (waits_where_above n hi)))
          (λ (le : level_by l (Plain n) ≤ l.ended). le)
          (cases_lt l.ended (level_by l (Plain n)))

      pub top_where_satisfied : top_of (kept_by l (Plain d.through)) ≤ l.ended
      top_where_satisfied = (ended_to d.through through_staged).1 (λ n one le. low_where_named n (inl (one, le)))

      pub listed_where_satisfied : (n : ℕ) → IsInSpans d.spans n → level_by l (Plain n) ≤ l.ended
      listed_where_satisfied n c = low_where_named n (inr c)
