-- A version is staged: what is kept of levels stays right.
use Rattle.std.proofs.Common.{◌≡◌, ◌≢◌, ℕ, ◌+◌, ◌<◌, ◌≤◌, ◌⊎◌, Bool, true, false, List, length, set, get_or, max, Option, Some, None, slice_get, refl, sym, ap, ◌∙◌, subst, inl, inr, ⊎_elim, arith, get_or-set_same, get_or-set_other}
use Rattle.std.specs.Prelude.{◌-◌, ◌&&◌, if◌then◌else◌, nat_lt, nat_le, Contains}
use Rattle.std.proofs.lemmas.Bool.{cases_lt}
use Rattle.std.proofs.lemmas.List.{length-set}
use Rattle.std.proofs.lemmas.Bool.Decides.{nat_tests}
use Rattle.std.proofs.lemmas.Option.{same_Some, some_pair_parts}
use Rattle.cs_deps.specs.declared.elements.Element.{Element}
use Rattle.cs_deps.specs.declared.elements.Element.TheVariants.{Plain, Version}
use Rattle.cs_deps.specs.declared.levels.Kept.{Kept}
use Rattle.cs_deps.specs.declared.levels.Row.{Row}
use Rattle.cs_deps.specs.declared.levels.Levels.{Levels}
use Rattle.cs_deps.specs.Named.{Named, Names, IsWithin, StandsFor}
use Rattle.cs_deps.specs.Pending.{Pending, Waits, Needs, IsStaged}
use Rattle.cs_deps.specs.Chain.{IsHeight}
use Rattle.cs_deps.specs.Staging.{staged_after, is_left_waiting, IsJoined}
use Rattle.cs_deps.specs.State.{State, Write, after, after_round}
use Rattle.cs_deps.specs.Entries.{IsSound}
use Rattle.cs_deps.specs.Levels.{IsInRow, kept_by, level_by, level_of, row_at, family_at, keyed, next_version, with_version, AreKeptLevels, IsTop, AreTops, AreRows, AreLinked, IsBest, HasRoom, IsIndexed, IsVersionPushed}
use Rattle.cs_deps.proofs.AllHeights.{all_have_heights}
use Rattle.cs_deps.proofs.LowerBound.{waiting_not_persistent}
use Rattle.cs_deps.proofs.Filtered.{filter_keeps}
use Rattle.cs_deps.proofs.Kept.{MayFollow, version_may, keep, needs_cases, at_end}
use Rattle.cs_deps.proofs.KeptIn.{in_within, kept_from, is_version}
use Rattle.cs_deps.proofs.KeptLevels.{levels_staged, level_of_new, joined_top}
use Rattle.cs_deps.proofs.HeightSteps.{height_positive}
use Rattle.cs_deps.proofs.StateSteps.{after_waits}
use Rattle.cs_deps.proofs.AfterRound.{may_after, staged_then, persists_staged}
use Rattle.cs_deps.proofs.Settled.{same_family, one_stands, came}
use Rattle.cs_deps.proofs.Tops.{kept_after, up, best_top, best_before}

-- which of the two goes for a new version
version_case : (o : Option Kept) (base level : ℕ) (before : Option Element) → ((u : Kept) × (o ≡ Some u) × (level ≤ u.level) × (base < u.level) × (next_version o base level before ≡ u)) ⊎ ((next_version o base level before ≡ record { level = level; before = before; next = 0; top = 0; least = 0; key = 0 }) × ((level_of o ≤ base) ⊎ (level_of o < level)))
version_case None base level before = inr (refl, inl (omega arith))
version_case (Some u) base level before = go (nat_le level u.level) refl (nat_lt base u.level) refl
  where
    own : Kept
    own = record { level = level; before = before; next = 0; top = 0; least = 0; key = 0 }

    go : (p : Bool) → nat_le level u.level ≡ p → (q : Bool) → nat_lt base u.level ≡ q → ((w : Kept) × (Some u ≡ Some w) × (level ≤ w.level) × (base < w.level) × ((if p && q then u else own) ≡ w)) ⊎ (((if p && q then u else own) ≡ own) × ((u.level ≤ base) ⊎ (u.level < level)))
    go true a true b = inl (u, refl, grind (arith, nat_tests), grind (arith, nat_tests), refl)
    go true a false b = inr (refl, inl (grind (arith, nat_tests)))
    go false a q b = inr (refl, inr (grind (arith, nat_tests)))

module _ (s : State) (whole : IsSound s) (l : Levels) (ix : IsIndexed s l) (f : ℕ) (inside : f < length s.staging.latest) (d : Named) (within : IsWithin d s.staging.staged s.staging.latest) (own : (u : ℕ) → Names d (Version f u) → ⊥) (v : ℕ) (last : v ≡ get_or s.staging.latest f 0) (e : Named) (joined : IsJoined s.staging.pending.waiting (Version f v) d e) (level : ℕ) (before : Option Element) (best : IsBest (kept_by l) l.base d level before) (key : ℕ) (m : Levels) (i : ℕ) (new : IsVersionPushed l m f v i (keyed key (next_version (kept_by l (Version f v)) l.base (level + 1) before))) where
  abbrev x : Element
  x = Version f (v + 1)

  abbrev g : Pending
  g = after s

  abbrev row : Row
  row = row_at l.rows.items i

  abbrev k : Kept
  k = next_version (kept_by l (Version f v)) l.base (level + 1) before

  ok : IsStaged g
  ok = (kept_after s whole).staged

  may : MayFollow s.staging.pending x e
  may = version_may s.staging whole.kept f inside d within own v last e joined

  follows : MayFollow g x e
  follows = may_after s whole x e may

  abbrev h : Pending
  h = staged_after g x e

  numbered : (w : ℕ) → 0 < level_by l (Version f w) → w ≤ v
  numbered w lt = let q = kept_from (kept_by l (Version f w)) lt in let r = in_within (family_at l.versions.items f) (get_or l.starts.items f 0) w q.0 q.1 in omega (arith, r.1, ix.version_count f, last)

  old_level : (y : Element) → y ≢ x → level_by m y ≡ level_by l y
  old_level y ne = ap level_of (new.others y ne)

  new_level : level_by m x ≡ l.ended + i + 1
  new_level = ap level_of new.itself ∙ new.level

  -- what the version before needs the new one needs, where that one waits still
  joined_now : Waits g (Version f v) → IsJoined g.waiting (Version f v) d e
  joined_now w y = (
    (λ n. ⊎_elim
        (λ (a : Names d y). inl a)
        (λ (a : (j : ℕ) × (c : Named) × (slice_get s.staging.pending.waiting j ≡ Some (Version f v, c)) × Names c y). inr (w.0, w.1, w.2, subst (λ c. Names c y) (same_needs s.round refl w.0 w.1 w.2 a.0 a.1 a.2) a.3))
        ((joined y).0 n)),
    (λ n. ⊎_elim
        (λ (a : Names d y). (joined y).1 (inl a))
        (λ (a : (j : ℕ) × (c : Named) × (slice_get g.waiting j ≡ Some (Version f v, c)) × Names c y). let b = was s.round refl a.0 a.1 a.2 in (joined y).1 (inr (b.0, a.1, b.1, a.3)))
        n),
  )
    where
      was : (o : Option (List Element)) → s.round ≡ o → (j : ℕ) (c : Named) → slice_get (after_round s.staging.pending o).waiting j ≡ Some (Version f v, c) → (a : ℕ) × (slice_get s.staging.pending.waiting a ≡ Some (Version f v, c))
      was None is j c at = (j, at)
      was (Some round) is j c at = let r = came s.staging.pending whole.kept.staged round j (Version f v) c at in (r.0, r.1)

      same_needs : (o : Option (List Element)) → s.round ≡ o → (j : ℕ) (c : Named) → slice_get (after_round s.staging.pending o).waiting j ≡ Some (Version f v, c) → (a : ℕ) (b : Named) → slice_get s.staging.pending.waiting a ≡ Some (Version f v, b) → b ≡ c
      same_needs o is j c at a b there =
          let r = was o is j c at in
          let q : r.0 ≡ a = whole.kept.staged.once r.0 a (Version f v) c b r.1 there in
          (some_pair_parts (Version f v) (Version f v) b c (sym there ∙ ap (slice_get s.staging.pending.waiting) (sym q) ∙ r.1)).1

  -- where the version before waits no more, neither does what it needed
  gone_needs : (Waits g (Version f v) → ⊥) → (y : Element) → (j : ℕ) × (c : Named) × (slice_get s.staging.pending.waiting j ≡ Some (Version f v, c)) × Names c y → Waits g y → ⊥
  gone_needs none y n w = from s.round refl
    where
      from : (o : Option (List Element)) → s.round ≡ o → ⊥
      from None is = none (subst (λ o. Waits (after_round s.staging.pending o) (Version f v)) (sym is) (n.0, n.1, n.2))
      from (Some round) is = left (is_left_waiting round (Version f v, n.1)) refl
        where
          left : (b : Bool) → is_left_waiting round (Version f v, n.1) ≡ b → ⊥
          left true q = let r = filter_keeps (is_left_waiting round) s.staging.pending.waiting n.0 (Version f v, n.1) n.2 q in none (subst (λ o. Waits (after_round s.staging.pending o) (Version f v)) (sym is) (r.0, n.1, r.1))
          left false q = let t = one_stands round (Version f v, n.1) q in out t.0 t.1 t.2
            where
              out : (z : Element) → Contains round z → StandsFor z (Version f v) → ⊥
              out (Plain a) c t = absurd t
              out (Version a b) c t =
                  let there : Contains round (Version f b) = subst (λ u. Contains round (Version u b)) t.0 c in
                  let low : b ≤ get_or s.staging.latest f 0 = whole.kept.numbered (Version f b) (whole.out (Version f b) (round, is, there)) in
                  let same : b ≡ v = omega (arith, low, last, t.1) in
                  let p = ix.ready (Version f v) y (round, is, subst (λ u. Contains round (Version f u)) same there) (n.0, n.1, n.2, n.3) in
                  waiting_not_persistent s.staging.pending whole.kept.staged y (after_waits s.staging.pending whole.kept.staged s.round y w) p

  -- the level is one more than the greatest of what is needed
  new_top : (t : ℕ) × (l.base ≤ t) × (k.level ≡ t + 1) × IsTop g l.base (level_by l) e t
  new_top = ⊎_elim
      (λ (hi : l.base < level_by l (Version f v)).
      let w = ix.levels.gone (Version f v) hi in
      let hv = all_have_heights g ok (Version f v) w in
      let lv = ix.levels.waiting (Version f v) hv.0 hv.1 in
      let one = height_positive g (Version f v) hv.0 hv.1 in
      let less : hv.0 ≡ (hv.0 - 1) + 1 = omega (arith, one) in
      let t = joined_top g ok l.base (level_by l) ix.levels (all_have_heights g ok) (Version f v) d e (joined_now w) level (best_top s whole l ix d within level before best) best.low (hv.0 - 1) (subst (IsHeight g (Version f v)) less hv.1) in (
        max level (l.base + (hv.0 - 1)),
        omega (arith, best.low),
        ⊎_elim
            (λ (a : (u : Kept) × (kept_by l (Version f v) ≡ Some u) × (level + 1 ≤ u.level) × (l.base < u.level) × (k ≡ u)). omega (arith, ap (λ (u : Kept). u.level) a.4, ap level_of a.1, a.2, lv, one))
            (λ (a : (k ≡ record { level = level + 1; before = before; next = 0; top = 0; least = 0; key = 0 }) × ((level_by l (Version f v) ≤ l.base) ⊎ (level_by l (Version f v) < level + 1))). ⊎_elim
            (λ (b : level_by l (Version f v) ≤ l.base). absurd (omega (arith, b, hi)))
            (λ (b : level_by l (Version f v) < level + 1). omega (arith, ap (λ (u : Kept). u.level) a.0, b, lv, one))
            a.1)
            (version_case (kept_by l (Version f v)) l.base (level + 1) before),
        t,
      ))
      (λ (lo : level_by l (Version f v) ≤ l.base).
      let top = best_top s whole l ix d within level before best in (
        level,
        best.low,
        ⊎_elim
            (λ (a : (u : Kept) × (kept_by l (Version f v) ≡ Some u) × (level + 1 ≤ u.level) × (l.base < u.level) × (k ≡ u)). absurd (omega (arith, ap level_of a.1, a.3, lo)))
            (λ (a : (k ≡ record { level = level + 1; before = before; next = 0; top = 0; least = 0; key = 0 }) × ((level_by l (Version f v) ≤ l.base) ⊎ (level_by l (Version f v) < level + 1))). ap (λ (u : Kept). u.level) a.0)
            (version_case (kept_by l (Version f v)) l.base (level + 1) before),
        record {
          above = λ y named w. ⊎_elim
              (λ (a : Names d y). top.above y a w)
              (λ (a : (j : ℕ) × (c : Named) × (slice_get s.staging.pending.waiting j ≡ Some (Version f v, c)) × Names c y). absurd (gone_needs (λ (z : Waits g (Version f v)). omega (arith, up s whole l ix (Version f v) z, lo)) y a w))
              ((joined y).0 named);
          reached = ⊎_elim
              (λ (a : level ≡ l.base). inl a)
              (λ (a : (y : Element) × Names d y × Waits g y × (level_by l y ≡ level)). inr (a.0, (joined a.0).1 (inl a.1), a.2, a.3))
              top.reached;
        },
      ))
      (cases_lt l.base (level_by l (Version f v)))

  pub levels_new : AreKeptLevels h m.base (level_by m)
  levels_new = let t = new_top in subst (λ b. AreKeptLevels h b (level_by m)) (sym new.base)
      (levels_staged g ok x e follows l.base (level_by l) (level_by m) ix.levels (t.0 - l.base + 1)
      (level_of_new g ok x e follows l.base (level_by l) ix.levels (all_have_heights g ok) t.0 t.3 (t.0 - l.base) (omega (arith, t.1)))
      (omega (arith, ap level_of new.itself, t.2, t.1))
      (λ y. ⊎_elim (λ (q : y ≡ x). inr (sym q)) (λ (ne : y ≢ x). inl (old_level y ne)) (is_version f (v + 1) y))
      (λ y w. old_level y (λ q. follows.fresh (subst (Waits g) q w))))

  plain : (n : ℕ) → kept_by m (Plain n) ≡ kept_by l (Plain n)
  plain n = new.others (Plain n) (λ q. absurd (cc q))

  pub tops_new : AreTops (kept_by m) m.ended s.staging.staged
  tops_new = subst (λ b. AreTops (kept_by m) b s.staging.staged) (sym new.ended) (record {
    above = λ n w u le is hi. (let r = ix.tops.above n w u le (sym (plain n) ∙ is) (omega (arith, ap level_of (plain w), hi)) in omega (arith, ap level_of (plain w), r));
    least = λ n u is hi. (let r = ix.tops.least n u (sym (plain n) ∙ is) hi in (r.0, r.1, ap level_of (plain u.least) ∙ r.2));
    none = λ n w le lower is. (let r = ix.tops.none n w le lower (sym (plain n) ∙ is) in omega (arith, ap level_of (plain w), r));
  })

  pub linked_new : AreLinked (kept_by m) m.ended
  linked_new = subst (AreLinked (kept_by m)) (sym new.ended) (record {
    up = λ n u is hi some. (let r = ix.linked.up n u (sym (plain n) ∙ is) hi some in (r.0, ap level_of (plain u.next) ∙ r.1));
    passed = λ n b u is hi lt lv. ix.linked.passed n b u (sym (plain n) ∙ is) hi lt (sym (ap level_of (plain b)) ∙ lv);
  })

  row_here : (j : ℕ) → j ≡ i → row_at m.rows.items j ≡ with_version f (v + 1) row
  row_here j q = ap (row_at m.rows.items) q ∙ new.rows.here

  same_first : (j : ℕ) → (row_at m.rows.items j).first ≡ (row_at l.rows.items j).first
  same_first j = ⊎_elim
      (λ (q : j ≡ i). ap (λ (r : Row). r.first) (row_here j q) ∙ ap (λ u. (row_at l.rows.items u).first) (sym q))
      (λ (q : j ≢ i). ap (λ (r : Row). r.first) (new.rows.others j q))
      (same_family i j)

  same_last : (j : ℕ) → (row_at m.rows.items j).last ≡ (row_at l.rows.items j).last
  same_last j = ⊎_elim
      (λ (q : j ≡ i). ap (λ (r : Row). r.last) (row_here j q) ∙ ap (λ u. (row_at l.rows.items u).last) (sym q))
      (λ (q : j ≢ i). ap (λ (r : Row). r.last) (new.rows.others j q))
      (same_family i j)

  place_of : f < length row.versions
  place_of = omega (arith, inside, ix.at_most, ix.rows_wide i)

  -- the greatest version of a family in a queue
  pub versions_here : (j c : ℕ) → ((j ≡ i) × (c ≡ f) × (get_or (row_at m.rows.items j).versions c 0 ≡ v + 1)) ⊎ (((j ≡ i) × (c ≡ f) → ⊥) × (get_or (row_at m.rows.items j).versions c 0 ≡ get_or (row_at l.rows.items j).versions c 0))
  versions_here j c = ⊎_elim
      (λ (q : j ≡ i).
      let t = ap (λ (r : Row). get_or r.versions c 0) (row_here j q) in
      ⊎_elim
      (λ (z : c ≡ f). inl (q, z, t ∙ ap (λ u. get_or (set row.versions f (v + 1)) u 0) z ∙ get_or-set_same row.versions f (v + 1) 0 place_of))
      (λ (z : c ≢ f). inr ((λ w. z w.1), t ∙ get_or-set_other row.versions f c (v + 1) 0 z ∙ ap (λ u. get_or (row_at l.rows.items u).versions c 0) (sym q)))
      (same_family f c))
      (λ (q : j ≢ i). inr ((λ w. q w.0), ap (λ (r : Row). get_or r.versions c 0) (new.rows.others j q)))
      (same_family i j)

  pub rows_new : AreRows (kept_by m) m.ended m.rows.items
  rows_new = subst (λ b. AreRows (kept_by m) b m.rows.items) (sym new.ended) (record {
    plain = λ j w lv. (let r = ix.rows.plain j w (sym (ap level_of (plain w)) ∙ lv) in (omega (arith, same_first j, r.0), omega (arith, same_first j, r.1), omega (arith, same_last j, r.2)));
    first = λ j hi. ap level_of (plain (row_at m.rows.items j).first) ∙ ap (λ u. level_by l (Plain u)) (same_first j) ∙ ix.rows.first j (omega (arith, same_first j, hi));
    last = λ j hi. ap level_of (plain (row_at m.rows.items j).last) ∙ ap (λ u. level_by l (Plain u)) (same_last j) ∙ ix.rows.last j (omega (arith, same_last j, hi));
    empty = λ j z. same_last j ∙ ix.rows.empty j (sym (same_first j) ∙ z);
    version = λ j c w lv. ⊎_elim
        (λ (q : Version c w ≡ x).
        let fam : c ≡ f = cc q in let ver : w ≡ v + 1 = cc q in
        let at : j ≡ i = (let t = sym lv ∙ ap (level_by m) q ∙ new_level in omega (arith, t)) in
        ⊎_elim
        (λ (a : (j ≡ i) × (c ≡ f) × (get_or (row_at m.rows.items j).versions c 0 ≡ v + 1)). omega (arith, a.2, ver))
        (λ (a : ((j ≡ i) × (c ≡ f) → ⊥) × (get_or (row_at m.rows.items j).versions c 0 ≡ get_or (row_at l.rows.items j).versions c 0)). absurd (a.0 (at, fam)))
        (versions_here j c))
        (λ (ne : Version c w ≢ x).
        let was = sym (old_level (Version c w) ne) ∙ lv in
        let r = ix.rows.version j c w was in
        ⊎_elim
        (λ (a : (j ≡ i) × (c ≡ f) × (get_or (row_at m.rows.items j).versions c 0 ≡ v + 1)).
        let b = numbered w (let t = ap (λ u. level_by l (Version u w)) a.1 in omega (arith, t, was)) in
        omega (arith, a.2, b))
        (λ (a : ((j ≡ i) × (c ≡ f) → ⊥) × (get_or (row_at m.rows.items j).versions c 0 ≡ get_or (row_at l.rows.items j).versions c 0)). omega (arith, a.1, r))
        (versions_here j c))
        (is_version f (v + 1) (Version c w));
    greatest = λ j c hi. ⊎_elim
        (λ (a : (j ≡ i) × (c ≡ f) × (get_or (row_at m.rows.items j).versions c 0 ≡ v + 1)). ap (λ u. level_by m (Version c u)) a.2 ∙ ap (λ u. level_by m (Version u (v + 1))) a.1 ∙ new_level ∙ ap (λ u. l.ended + u + 1) (sym a.0))
        (λ (a : ((j ≡ i) × (c ≡ f) → ⊥) × (get_or (row_at m.rows.items j).versions c 0 ≡ get_or (row_at l.rows.items j).versions c 0)).
        let r = ix.rows.greatest j c (omega (arith, a.1, hi)) in
        ap (λ u. level_by m (Version c u)) a.1 ∙ old_level (Version c (get_or (row_at l.rows.items j).versions c 0)) (λ q.
        let fam : c ≡ f = cc q in let ver : get_or (row_at l.rows.items j).versions c 0 ≡ v + 1 = cc q in
        let b = numbered (v + 1) (let t = ap (level_by l) q in omega (arith, t, r)) in absurd (omega (arith, b))) ∙ r)
        (versions_here j c);
  })

  -- the version that stood at the new one's place stands there no more, all others as before
  abbrev replaced : Element
  replaced = Version f (get_or row.versions f 0)

  pub rows_there : (j : ℕ) (y : Element) → y ≢ replaced → IsInRow (kept_by l) l.ended l.rows.items j y → IsInRow (kept_by m) m.ended m.rows.items j y
  rows_there j (Plain w) ne q = ap level_of (plain w) ∙ q ∙ ap (λ n. n + j + 1) (sym new.ended)
  rows_there j (Version c w) ne q = ⊎_elim
      (λ (a : (j ≡ i) × (c ≡ f) × (get_or (row_at m.rows.items j).versions c 0 ≡ v + 1)).
      absurd (ne (ap (λ u. Version u w) a.1 ∙ ap (λ u. Version f u) (sym q.1 ∙ ap (λ u. get_or (row_at l.rows.items u).versions c 0) a.0 ∙ ap (λ u. get_or row.versions u 0) a.1))))
      (λ (a : ((j ≡ i) × (c ≡ f) → ⊥) × (get_or (row_at m.rows.items j).versions c 0 ≡ get_or (row_at l.rows.items j).versions c 0)). (q.0, a.1 ∙ q.1))
      (versions_here j c)

  pub rows_back : (j : ℕ) (y : Element) → y ≢ x → IsInRow (kept_by m) m.ended m.rows.items j y → IsInRow (kept_by l) l.ended l.rows.items j y × (y ≢ replaced)
  rows_back j (Plain w) ne q = (sym (ap level_of (plain w)) ∙ q ∙ ap (λ n. n + j + 1) new.ended, (λ u. absurd (cc u)))
  rows_back j (Version c w) ne q = ⊎_elim
      (λ (a : (j ≡ i) × (c ≡ f) × (get_or (row_at m.rows.items j).versions c 0 ≡ v + 1)). absurd (ne (ap (λ u. Version u w) a.1 ∙ ap (λ u. Version f u) (sym q.1 ∙ a.2))))
      (λ (a : ((j ≡ i) × (c ≡ f) → ⊥) × (get_or (row_at m.rows.items j).versions c 0 ≡ get_or (row_at l.rows.items j).versions c 0)).
      let was : get_or (row_at l.rows.items j).versions c 0 ≡ w = sym a.1 ∙ q.1 in
      ((q.0, was), (λ u. apart j c w a.0 was q.0 (let e : c ≡ f = cc u in e) (let e : w ≡ get_or row.versions f 0 = cc u in e))))
      (versions_here j c)
    where
      apart : (j c w : ℕ) → ((j ≡ i) × (c ≡ f) → ⊥) → get_or (row_at l.rows.items j).versions c 0 ≡ w → 0 < w → c ≡ f → w ≡ get_or row.versions f 0 → ⊥
      apart j c w ne was up fam ver =
          let here : get_or (row_at l.rows.items j).versions f 0 ≡ w = ap (λ u. get_or (row_at l.rows.items j).versions u 0) (sym fam) ∙ was in
          let a = ix.rows.greatest j f (omega (arith, here, up)) in
          let b = ix.rows.greatest i f (omega (arith, ver, up)) in
          let t = ap (λ u. level_by l (Version f u)) (here ∙ ver) in
          let e : j ≡ i = omega (arith, a, b, t) in
          ne (e, fam)

  pub before_new : (y : Element) (u : Kept) → kept_by m y ≡ Some u → m.base + 1 < u.level → (p : Element) × (u.before ≡ Some p) × Needs h y p × (level_by m p + 1 ≡ u.level)
  before_new y u is hi = ⊎_elim
      (λ (q : y ≡ x).
      let it : keyed key k ≡ u = same_Some (keyed key k) u (sym new.itself ∙ ap (kept_by m) (sym q) ∙ is) in
      let r = itself (omega (arith, hi, ap (λ (a : Kept). a.level) it, new.base)) in
      let lv = old_level r.0 (λ q. follows.fresh (subst (Waits g) {x = r.0} q r.3)) in
      (r.0, ap (λ (a : Kept). a.before) (sym it) ∙ r.1, subst (λ a. Needs h a r.0) (sym q) (length g.waiting, e, at_end g.waiting (x, e), r.2), omega (arith, lv, r.4, ap (λ (a : Kept). a.level) it)))
      (λ (ne : y ≢ x).
      let b = ix.before y u (sym (new.others y ne) ∙ is) (omega (arith, hi, new.base)) in
      let w = ix.levels.gone b.0 (omega (arith, b.3, hi, new.base)) in
      let lv = old_level b.0 (λ q. follows.fresh (subst (Waits g) q w)) in
      (b.0, b.1, (b.2.0, b.2.1, keep g ok x e follows b.2.0 y b.2.1 b.2.2, b.2.3), omega (arith, lv, b.3)))
      (is_version f (v + 1) y)
    where
      itself : l.base + 1 < k.level → (p : Element) × (k.before ≡ Some p) × Names e p × Waits g p × (level_by l p + 1 ≡ k.level)
      itself hi = ⊎_elim
          (λ (a : (u : Kept) × (kept_by l (Version f v) ≡ Some u) × (level + 1 ≤ u.level) × (l.base < u.level) × (k ≡ u)).
          let b = ix.before (Version f v) a.0 a.1 (omega (arith, hi, ap (λ (u : Kept). u.level) a.4)) in
          let w : Waits g (Version f v) = (b.2.0, b.2.1, b.2.2) in
          (b.0, ap (λ (u : Kept). u.before) a.4 ∙ b.1, (joined_now w b.0).1 (inr (b.2.0, b.2.1, b.2.2, b.2.3)), ix.levels.gone b.0 (omega (arith, b.3, hi, ap (λ (u : Kept). u.level) a.4)), b.3 ∙ ap (λ (u : Kept). u.level) (sym a.4)))
          (λ (a : (k ≡ record { level = level + 1; before = before; next = 0; top = 0; least = 0; key = 0 }) × ((level_by l (Version f v) ≤ l.base) ⊎ (level_by l (Version f v) < level + 1))).
          let lvl = ap (λ (u : Kept). u.level) a.0 in
          let b = best_before s whole l ix d within level before best (omega (arith, hi, lvl)) in
          (b.0, ap (λ (u : Kept). u.before) a.0 ∙ b.1, (joined b.0).1 (inl b.2), b.3, omega (arith, b.4, lvl)))
          (version_case (kept_by l (Version f v)) l.base (level + 1) before)

  pub indexed_version : (pages : List (Element × Write)) (left : ℕ) → HasRoom m left → IsIndexed (record { staging = record { pending = staged_after s.staging.pending x e; staged = s.staging.staged; latest = set s.staging.latest f (v + 1) }; round = s.round; pages = pages; room = left }) m
  indexed_version pages left room = record {
    levels = subst (λ p. AreKeptLevels p m.base (level_by m)) (sym then_joined) levels_new;
    tops = tops_new;
    rows = rows_new;
    linked = linked_new;
    before = λ y u is hi. subst (λ p. (q : Element) × (u.before ≡ Some q) × Needs p y q × (level_by m q + 1 ≡ u.level)) (sym then_joined) (before_new y u is hi);
    within = λ y. ⊎_elim
        (λ (q : y ≡ x). omega (arith, ap (level_by m) q, new_level, new.ended, new.rows.count))
        (λ (ne : y ≢ x). omega (arith, old_level y ne, ix.within y, new.ended, new.rows.count))
        (is_version f (v + 1) y);
    deepest = λ some. ⊎_elim
        (λ (far : length l.rows.items < i + 1). (x, omega (arith, new_level, new.ended, new.rows.count, far)))
        (λ (near : i + 1 ≤ length l.rows.items).
        let r = ix.deepest (omega (arith, near)) in
        (r.0, omega (arith, old_level r.0 (λ q. let c = numbered (v + 1) (let t = ap (level_by l) q in omega (arith, t, r.1, near)) in absurd (omega (arith, c))), r.1, new.ended, new.rows.count, near)))
        (cases_lt (length l.rows.items) (i + 1));
    low = omega (arith, ix.low, new.base, new.ended);
    high = omega (arith, ix.high, new.base, new.ended, new.rows.count);
    near = omega (arith, ix.near, new.base, new.ended);
    still = λ none. new.base ∙ ix.still none ∙ sym new.ended;
    plain_count = omega (arith, new.dropped, new.plain_count, ix.plain_count);
    version_count = λ c. ⊎_elim
        (λ (q : c ≡ f).
        let a = ap (λ u. get_or m.starts.items u 0 + length (family_at m.versions.items u)) q in
        let b = ap (λ xs. get_or xs f 0) new.starts in
        let z = ap (λ u. get_or (set s.staging.latest f (v + 1)) u 0) q in
        omega (arith, a, b, new.here, ix.version_count f, last, z, get_or-set_same s.staging.latest f (v + 1) 0 inside))
        (λ (q : c ≢ f).
        let b = ap (λ xs. get_or xs c 0) new.starts in
        omega (arith, b, new.there c q, ix.version_count c, get_or-set_other s.staging.latest f c (v + 1) 0 q))
        (same_family f c);
    families = new.count ∙ ix.families ∙ sym (length-set s.staging.latest f (v + 1));
    at_most = omega (arith, length-set s.staging.latest f (v + 1), ix.at_most);
    room = room;
    ready = λ y z out needs. ⊎_elim
        (λ (o : Needs s.staging.pending y z). persists_staged s.staging.pending x e z (may.stays o.0 z y o.1 o.2 o.3) whole.kept.staged may (ix.ready y z (out.0, out.1, out.2) o))
        (λ (o : (x ≡ y) × Names e z). absurd (may.fresh (subst (Waits s.staging.pending) (sym o.0) (whole.out y (out.0, out.1, out.2)))))
        (needs_cases s.staging.pending whole.kept.staged x e may y z needs);
    out = λ y o.
        let r = ix.out y (o.0, o.1, o.2) in
        (omega (arith, r.0, new.base, new.ended), rows_there 0 y (λ q. not_replaced y q r.0 r.1) r.1);
    first = λ lt y q.
        let o = ix.first (omega (arith, lt, new.base, new.ended)) y (rows_back 0 y (λ u. not_first y u q lt) q).0 in
        (o.0, o.1, o.2);
    rows_wide = λ j. ⊎_elim
        (λ (q : j ≡ i). ap (λ (r : Row). length r.versions) (row_here j q) ∙ length-set row.versions f (v + 1) ∙ ix.rows_wide i)
        (λ (q : j ≢ i). ap (λ (r : Row). length r.versions) (new.rows.others j q) ∙ ix.rows_wide j)
        (same_family i j);
  }
    where
      -- the new version's queue is not the first where a round is out
      later : l.ended < l.base → 0 < i
      later lt = let t = new_top in omega (arith, t.1, t.2, new.level, lt)

      not_replaced : (y : Element) → y ≡ replaced → l.ended < l.base → IsInRow (kept_by l) l.ended l.rows.items 0 y → ⊥
      not_replaced y q lt r =
          let here : IsInRow (kept_by l) l.ended l.rows.items 0 replaced = subst (IsInRow (kept_by l) l.ended l.rows.items 0) q r in
          let a = ix.rows.greatest 0 f (omega (arith, here.0, here.1)) in
          let b = ix.rows.greatest i f here.0 in
          let t = ap (λ u. level_by l (Version f u)) here.1 in
          omega (arith, a, b, t, later lt)

      not_first : (y : Element) → y ≡ x → IsInRow (kept_by m) m.ended m.rows.items 0 y → m.ended < m.base → ⊥
      not_first y u q lt =
          let here : IsInRow (kept_by m) m.ended m.rows.items 0 x = subst (IsInRow (kept_by m) m.ended m.rows.items 0) u q in
          let up = later (omega (arith, lt, new.base, new.ended)) in
          ⊎_elim
          (λ (a : (0 ≡ i) × (f ≡ f) × (get_or (row_at m.rows.items 0).versions f 0 ≡ v + 1)). omega (arith, a.0, up))
          (λ (a : ((0 ≡ i) × (f ≡ f) → ⊥) × (get_or (row_at m.rows.items 0).versions f 0 ≡ get_or (row_at l.rows.items 0).versions f 0)).
          let was : get_or (row_at l.rows.items 0).versions f 0 ≡ v + 1 = sym a.1 ∙ here.1 in
          let r = ix.rows.greatest 0 f (omega (arith, was)) in
          let t = ap (λ u. level_by l (Version f u)) was in
          let b = numbered (v + 1) (omega (arith, r, t)) in
          omega (arith, b))
          (versions_here 0 f)

      then_joined : after_round (staged_after s.staging.pending x e) s.round ≡ h
      then_joined = staged_then s whole x e may
