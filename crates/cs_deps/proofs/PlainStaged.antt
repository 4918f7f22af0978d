-- A plain write is staged: what is kept of levels stays right.
use Rattle.std.proofs.Common.{◌≡◌, ◌≢◌, ℕ, ◌+◌, ◌<◌, ◌≤◌, ◌⊎◌, Bool, true, false, List, length, get_or, Option, Some, None, refl, sym, ap, ◌∙◌, subst, inl, inr, ⊎_elim, arith}
use Rattle.std.specs.Prelude.{◌-◌, if◌then◌else◌, nat_lt, ◌==◌}
use Rattle.std.proofs.lemmas.Bool.{cases_lt}
use Rattle.std.proofs.lemmas.Bool.Decides.{nat_tests}
use Rattle.std.proofs.lemmas.Option.{same_Some}
use Rattle.cs_deps.specs.declared.elements.Element.{Element}
use Rattle.cs_deps.specs.declared.elements.Element.TheVariants.{Plain, Version}
use Rattle.cs_deps.specs.declared.levels.Kept.{Kept}
use Rattle.cs_deps.specs.declared.levels.Row.{Row}
use Rattle.cs_deps.specs.declared.levels.Levels.{Levels}
use Rattle.cs_deps.specs.Named.{Named, Names, IsWithin}
use Rattle.cs_deps.specs.Pending.{Pending, Waits, Needs, IsStaged}
use Rattle.cs_deps.specs.Staging.{staged_after}
use Rattle.cs_deps.specs.State.{State, Write, after, after_round}
use Rattle.cs_deps.specs.Entries.{IsSound}
use Rattle.cs_deps.specs.Levels.{IsInRow, kept_by, level_by, level_of, row_at, top_of, least_of, next_plain, with_plain, AreKeptLevels, AreTops, AreRows, AreLinked, IsBest, HasRoom, IsIndexed, IsPlainPushed, family_at}
use Rattle.cs_deps.proofs.AllHeights.{all_have_heights}
use Rattle.cs_deps.proofs.Kept.{MayFollow, plain_may, keep, needs_cases, at_end}
use Rattle.cs_deps.proofs.KeptIn.{in_within, kept_from, relinked_level, relinked_none, relinked_from, IsRelinked, is_plain}
use Rattle.cs_deps.proofs.KeptLevels.{levels_staged, level_of_new}
use Rattle.cs_deps.proofs.AfterRound.{may_after, staged_then, persists_staged}
use Rattle.cs_deps.proofs.Settled.{same_family}
use Rattle.cs_deps.proofs.Tops.{kept_after, best_top, best_before}

module _ (s : State) (whole : IsSound s) (l : Levels) (ix : IsIndexed s l) (d : Named) (within : IsWithin d s.staging.staged s.staging.latest) (level : ℕ) (before : Option Element) (best : IsBest (kept_by l) l.base d level before) (key : ℕ) (m : Levels) (i : ℕ) (place : l.ended + i ≡ level) (new : IsPlainPushed l m s.staging.staged i before key) where
  abbrev n : ℕ
  n = s.staging.staged

  abbrev x : Element
  x = Plain (n + 1)

  abbrev g : Pending
  g = after s

  abbrev row : Row
  row = row_at l.rows.items i

  ok : IsStaged g
  ok = (kept_after s whole).staged

  may : MayFollow s.staging.pending x d
  may = plain_may s.staging whole.kept d within

  follows : MayFollow g x d
  follows = may_after s whole x d may

  numbered : (w : ℕ) (k : Kept) → kept_by l (Plain w) ≡ Some k → (1 ≤ w) × (w ≤ n)
  numbered w k is = let r = in_within l.plains.items l.dropped w k is in (omega (arith, r.0), omega (arith, r.1, ix.plain_count))

  has_number : (w : ℕ) → 0 < level_by l (Plain w) → (1 ≤ w) × (w ≤ n)
  has_number w up = let k = kept_from (kept_by l (Plain w)) up in numbered w k.0 k.1

  old_level : (y : Element) → y ≢ x → level_by m y ≡ level_by l y
  old_level y ne = ap level_of (new.others y ne) ∙ relinked_level row.last (n + 1) (kept_by l) y

  new_level : level_by m x ≡ l.ended + i + 1
  new_level = ap level_of new.itself

  plain_level : (w : ℕ) → w ≤ n → level_by m (Plain w) ≡ level_by l (Plain w)
  plain_level w le = old_level (Plain w) (λ e. let s : w ≡ n + 1 = cc e in absurd (omega (arith, s, le)))

  high_level : (w : ℕ) → n + 1 < w → level_by m (Plain w) ≡ 0
  high_level w lt = ⊎_elim
      (λ (up : 0 < level_by l (Plain w)). absurd (omega (arith, (has_number w up).1, lt)))
      (λ (z : level_by l (Plain w) ≤ 0). let e = old_level (Plain w) (λ e. let s : w ≡ n + 1 = cc e in absurd (omega (arith, s, lt))) in omega (arith, e, z))
      (cases_lt 0 (level_by l (Plain w)))

  -- what is kept of another plain write was kept
  was : (w : ℕ) (k : Kept) → w ≢ n + 1 → kept_by m (Plain w) ≡ Some k → (u : Kept) × (kept_by l (Plain w) ≡ Some u) × IsRelinked row.last (n + 1) (Plain w) u k
  was w k ne is = relinked_from row.last (n + 1) (kept_by l) (Plain w) k (sym (new.others (Plain w) (λ e. ne (cc e))) ∙ is)

  abbrev h : Pending
  h = staged_after g x d

  pub levels_new : AreKeptLevels h m.base (level_by m)
  levels_new = subst (λ b. AreKeptLevels h b (level_by m)) (sym new.base)
      (levels_staged g ok x d follows l.base (level_by l) (level_by m) ix.levels (level - l.base + 1)
      (level_of_new g ok x d follows l.base (level_by l) ix.levels (all_have_heights g ok) level (best_top s whole l ix d within level before best) (level - l.base) (omega (arith, best.low)))
      (omega (arith, new_level, place, best.low))
      (λ y. ⊎_elim (λ (e : y ≡ x). inr (sym e)) (λ (ne : y ≢ x). inl (old_level y ne)) (is_plain (n + 1) y))
      (λ y w. old_level y (λ e. follows.fresh (subst (Waits g) e w))))

  pub tops_new : AreTops (kept_by m) m.ended (n + 1)
  tops_new = subst (λ b. AreTops (kept_by m) b (n + 1)) (sym new.ended) (record {
    above = λ a w k le is up. ⊎_elim
        (λ (e : a ≡ n + 1). newest w k (omega (arith, e, le)) (sym (sym new.itself ∙ ap (λ u. kept_by m (Plain u)) (sym e) ∙ is)) up)
        (λ (ne : a ≢ n + 1).
        let r = was a k ne is in
        let b = (numbered a r.0 r.1).1 in
        let e = plain_level w (omega (arith, b, le)) in
        omega (arith, ix.tops.above a w r.0 le r.1 (omega (arith, e, up)), e, r.2.top))
        (same_family (n + 1) a);
    least = λ a k is up. ⊎_elim
        (λ (e : a ≡ n + 1). first a k e (sym (sym new.itself ∙ ap (λ u. kept_by m (Plain u)) (sym e) ∙ is)) up)
        (λ (ne : a ≢ n + 1).
        let r = was a k ne is in
        let b = (numbered a r.0 r.1).1 in
        let t = ix.tops.least a r.0 r.1 (omega (arith, up, r.2.top)) in
        let e = plain_level r.0.least (omega (arith, t.1, b)) in
        let f = ap (λ u. level_by m (Plain u)) r.2.least in
        (omega (arith, t.0, r.2.least), omega (arith, t.1, r.2.least), omega (arith, f, e, t.2, r.2.top)))
        (same_family (n + 1) a);
    none = λ a w le lower is. ⊎_elim
        (λ (e : a ≡ n + 1). absurd (cc (sym new.itself ∙ ap (λ u. kept_by m (Plain u)) (sym e) ∙ is)))
        (λ (ne : a ≢ n + 1).
        let low : a ≤ n = omega (arith, le, ne) in
        let gone = relinked_none row.last (n + 1) (kept_by l) (Plain a) (sym (new.others (Plain a) (λ e. ne (cc e))) ∙ is) in
        omega (arith, plain_level w (omega (arith, lower, low)), ix.tops.none a w low lower gone))
        (same_family (n + 1) a);
  })
    where
      last : Option Kept
      last = kept_by l (Plain n)

      -- the greatest level before
      so_far : (w : ℕ) → w ≤ n → l.ended < level_by l (Plain w) → level_by l (Plain w) ≤ top_of last
      so_far w le up = at last refl
        where
          at : (o : Option Kept) → last ≡ o → level_by l (Plain w) ≤ top_of o
          at None is = let z = ix.tops.none n w (omega arith) le is in absurd (omega (arith, z, up))
          at (Some k) is = ix.tops.above n w k le is up

      fact : (b : Bool) → nat_lt (top_of last) (l.ended + i + 1) ≡ b → (top_of last ≤ (if b then l.ended + i + 1 else top_of last)) × (l.ended + i + 1 ≤ (if b then l.ended + i + 1 else top_of last))
      fact true is = (let lt : top_of last < l.ended + i + 1 = grind (arith, nat_tests) in omega (arith, lt), omega arith)
      fact false is = (omega arith, grind (arith, nat_tests))

      newest : (w : ℕ) (k : Kept) → w ≤ n + 1 → Some k ≡ Some (next_plain last (n + 1) (l.ended + i + 1) before key) → l.ended < level_by m (Plain w) → level_by m (Plain w) ≤ k.top
      newest w k le is up =
          let e = ap (λ (u : Kept). u.top) (same_Some k (next_plain last (n + 1) (l.ended + i + 1) before key) is) in
          let f = fact (nat_lt (top_of last) (l.ended + i + 1)) refl in
          ⊎_elim
          (λ (q : w ≡ n + 1). let lv = ap (λ u. level_by m (Plain u)) q in omega (arith, lv, new_level, e, f.1))
          (λ (ne : w ≢ n + 1). let lv = plain_level w (omega (arith, le, ne)) in omega (arith, lv, so_far w (omega (arith, le, ne)) (omega (arith, lv, up)), e, f.0))
          (same_family (n + 1) w)

      first : (a : ℕ) (k : Kept) → a ≡ n + 1 → Some k ≡ Some (next_plain last (n + 1) (l.ended + i + 1) before key) → l.ended < k.top → (1 ≤ k.least) × (k.least ≤ a) × (level_by m (Plain k.least) ≡ k.top)
      first a k is it up =
          let e = same_Some k (next_plain last (n + 1) (l.ended + i + 1) before key) it in
          which (nat_lt (top_of last) (l.ended + i + 1)) refl (ap (λ (u : Kept). u.top) e) (ap (λ (u : Kept). u.least) e)
        where
          which : (b : Bool) → nat_lt (top_of last) (l.ended + i + 1) ≡ b → k.top ≡ (if b then l.ended + i + 1 else top_of last) → k.least ≡ (if b then n + 1 else least_of last) → (1 ≤ k.least) × (k.least ≤ a) × (level_by m (Plain k.least) ≡ k.top)
          which true q t f = (omega (arith, f), omega (arith, f, is), ap (λ u. level_by m (Plain u)) f ∙ new_level ∙ sym t)
          which false q t f = at last refl t f
            where
              at : (o : Option Kept) → last ≡ o → k.top ≡ top_of o → k.least ≡ least_of o → (1 ≤ k.least) × (k.least ≤ a) × (level_by m (Plain k.least) ≡ k.top)
              at None z t f = absurd (omega (arith, t, up))
              at (Some u) z t f =
                  let r = ix.tops.least n u z (omega (arith, t, up)) in
                  let lv = plain_level u.least r.1 in
                  (omega (arith, f, r.0), omega (arith, f, r.1, is), ap (λ w. level_by m (Plain w)) f ∙ lv ∙ r.2 ∙ sym t)

  -- a level of a queue at another place is another
  other_place : (j k : ℕ) → l.ended + j + 1 ≡ l.ended + k + 1 → j ≡ k
  other_place j k e = omega (arith, e)

  row_here : (j : ℕ) → j ≡ i → row_at m.rows.items j ≡ with_plain (n + 1) row
  row_here j e = ap (row_at m.rows.items) e ∙ new.rows.here

  first_here : (j : ℕ) → j ≡ i → (row_at m.rows.items j).first ≡ (if row.first == 0 then n + 1 else row.first)
  first_here j e = ap (λ (r : Row). r.first) (row_here j e)

  last_here : (j : ℕ) → j ≡ i → (row_at m.rows.items j).last ≡ n + 1
  last_here j e = ap (λ (r : Row). r.last) (row_here j e)

  -- the first of the queue, whether it was empty or not
  first_is : ((row.first ≡ 0) × ((if row.first == 0 then n + 1 else row.first) ≡ n + 1)) ⊎ ((0 < row.first) × ((if row.first == 0 then n + 1 else row.first) ≡ row.first))
  first_is = go (row.first == 0) refl
    where
      go : (b : Bool) → (row.first == 0) ≡ b → ((row.first ≡ 0) × ((if b then n + 1 else row.first) ≡ n + 1)) ⊎ ((0 < row.first) × ((if b then n + 1 else row.first) ≡ row.first))
      go true q = inl (grind (arith, nat_tests), refl)
      go false q = inr (grind (arith, nat_tests), refl)

  rows_plain : (j w : ℕ) → level_by m (Plain w) ≡ l.ended + j + 1 → (0 < (row_at m.rows.items j).first) × ((row_at m.rows.items j).first ≤ w) × (w ≤ (row_at m.rows.items j).last)
  rows_plain j w lv = ⊎_elim
      (λ (q : w ≡ n + 1).
      let e : j ≡ i = other_place j i (sym lv ∙ ap (λ u. level_by m (Plain u)) q ∙ new_level) in
      let f = first_here j e in let z = last_here j e in
      ⊎_elim
      (λ (a : (row.first ≡ 0) × ((if row.first == 0 then n + 1 else row.first) ≡ n + 1)). (omega (arith, f, a.1), omega (arith, f, a.1, q), omega (arith, z, q)))
      (λ (a : (0 < row.first) × ((if row.first == 0 then n + 1 else row.first) ≡ row.first)).
      let b = ix.rows.first i a.0 in
      let c = has_number row.first (omega (arith, b)) in
      (omega (arith, f, a.1, a.0), omega (arith, f, a.1, c.1, q), omega (arith, z, q)))
      first_is)
      (λ (ne : w ≢ n + 1).
      let same = old_level (Plain w) (λ e. ne (cc e)) in
      let r = ix.rows.plain j w (sym same ∙ lv) in
      let c = has_number w (omega (arith, same, lv)) in
      ⊎_elim
      (λ (e : j ≡ i).
      let f = first_here j e in let z = last_here j e in
      let at = ap (λ u. (row_at l.rows.items u).first) e in
      ⊎_elim
      (λ (a : (row.first ≡ 0) × ((if row.first == 0 then n + 1 else row.first) ≡ n + 1)). absurd (omega (arith, a.0, r.0, at)))
      (λ (a : (0 < row.first) × ((if row.first == 0 then n + 1 else row.first) ≡ row.first)). (omega (arith, f, a.1, a.0), omega (arith, f, a.1, r.1, at), omega (arith, z, c.1)))
      first_is)
      (λ (e : j ≢ i). let t = new.rows.others j e in (omega (arith, ap (λ (u : Row). u.first) t, r.0), omega (arith, ap (λ (u : Row). u.first) t, r.1), omega (arith, ap (λ (u : Row). u.last) t, r.2)))
      (same_family i j))
      (same_family (n + 1) w)

  -- of the queues nothing else has changed
  rows_first : (j : ℕ) → 0 < (row_at m.rows.items j).first → level_by m (Plain (row_at m.rows.items j).first) ≡ l.ended + j + 1
  rows_first j up = ⊎_elim
      (λ (e : j ≡ i).
      let f = first_here j e in
      ⊎_elim
      (λ (a : (row.first ≡ 0) × ((if row.first == 0 then n + 1 else row.first) ≡ n + 1)). ap (λ u. level_by m (Plain u)) (f ∙ a.1) ∙ new_level ∙ ap (λ u. l.ended + u + 1) (sym e))
      (λ (a : (0 < row.first) × ((if row.first == 0 then n + 1 else row.first) ≡ row.first)).
      let b = ix.rows.first i a.0 in
      let c = has_number row.first (omega (arith, b)) in
      ap (λ u. level_by m (Plain u)) (f ∙ a.1) ∙ plain_level row.first c.1 ∙ b ∙ ap (λ u. l.ended + u + 1) (sym e))
      first_is)
      (λ (e : j ≢ i).
      let t = ap (λ (u : Row). u.first) (new.rows.others j e) in
      let b = ix.rows.first j (omega (arith, t, up)) in
      let c = has_number (row_at l.rows.items j).first (omega (arith, b)) in
      ap (λ u. level_by m (Plain u)) t ∙ plain_level (row_at l.rows.items j).first c.1 ∙ b)
      (same_family i j)

  rows_last : (j : ℕ) → 0 < (row_at m.rows.items j).last → level_by m (Plain (row_at m.rows.items j).last) ≡ l.ended + j + 1
  rows_last j up = ⊎_elim
      (λ (e : j ≡ i). ap (λ u. level_by m (Plain u)) (last_here j e) ∙ new_level ∙ ap (λ u. l.ended + u + 1) (sym e))
      (λ (e : j ≢ i).
      let t = ap (λ (u : Row). u.last) (new.rows.others j e) in
      let b = ix.rows.last j (omega (arith, t, up)) in
      let c = has_number (row_at l.rows.items j).last (omega (arith, b)) in
      ap (λ u. level_by m (Plain u)) t ∙ plain_level (row_at l.rows.items j).last c.1 ∙ b)
      (same_family i j)

  rows_empty : (j : ℕ) → (row_at m.rows.items j).first ≡ 0 → (row_at m.rows.items j).last ≡ 0
  rows_empty j z = ⊎_elim
      (λ (e : j ≡ i).
      let f = first_here j e in
      ⊎_elim
      (λ (a : (row.first ≡ 0) × ((if row.first == 0 then n + 1 else row.first) ≡ n + 1)). absurd (omega (arith, f, a.1, z)))
      (λ (a : (0 < row.first) × ((if row.first == 0 then n + 1 else row.first) ≡ row.first)). absurd (omega (arith, f, a.1, a.0, z)))
      first_is)
      (λ (e : j ≢ i). let t = new.rows.others j e in ap (λ (u : Row). u.last) t ∙ ix.rows.empty j (sym (ap (λ (u : Row). u.first) t) ∙ z))
      (same_family i j)

  version_level : (f v : ℕ) → level_by m (Version f v) ≡ level_by l (Version f v)
  version_level f v = old_level (Version f v) (λ e. absurd (cc e))

  same_versions : (j : ℕ) → (row_at m.rows.items j).versions ≡ (row_at l.rows.items j).versions
  same_versions j = ⊎_elim
      (λ (e : j ≡ i). ap (λ (r : Row). r.versions) (row_here j e) ∙ ap (λ u. (row_at l.rows.items u).versions) (sym e))
      (λ (e : j ≢ i). ap (λ (r : Row). r.versions) (new.rows.others j e))
      (same_family i j)

  pub rows_new : AreRows (kept_by m) m.ended m.rows.items
  rows_new = subst (λ b. AreRows (kept_by m) b m.rows.items) (sym new.ended) (record {
    plain = rows_plain;
    first = rows_first;
    last = rows_last;
    empty = rows_empty;
    version = λ j f v lv. (let r = ix.rows.version j f v (sym (version_level f v) ∙ lv) in omega (arith, r, ap (λ vs. get_or vs f 0) (same_versions j)));
    greatest = λ j f up.
        let t = ap (λ vs. get_or vs f 0) (same_versions j) in
        ap (λ v. level_by m (Version f v)) t ∙ version_level f (get_or (row_at l.rows.items j).versions f 0) ∙ ix.rows.greatest j f (omega (arith, t, up));
  })

  -- LINKS
  pub linked_new : AreLinked (kept_by m) m.ended
  linked_new = subst (AreLinked (kept_by m)) (sym new.ended) (record {
    up = λ a k is high some. ⊎_elim
        (λ (e : a ≡ n + 1). absurd (let z = ap (λ (u : Kept). u.next) (same_Some k (next_plain (kept_by l (Plain n)) (n + 1) (l.ended + i + 1) before key) (sym (sym new.itself ∙ ap (λ u. kept_by m (Plain u)) (sym e) ∙ is))) in omega (arith, z, some)))
        (λ (ne : a ≢ n + 1). let r = was a k ne is in ups a k r.0 (numbered a r.0 r.1) r.1 r.2 high some r.2.next)
        (same_family (n + 1) a);
    passed = λ a b k is high lt lv. ⊎_elim
        (λ (e : a ≡ n + 1). absurd (omega (arith, high_level b (omega (arith, e, lt)), lv, high)))
        (λ (ne : a ≢ n + 1). let r = was a k ne is in passes a b k r.0 (numbered a r.0 r.1) r.1 r.2 high lt lv (same_family (n + 1) b) r.2.next)
        (same_family (n + 1) a);
  })
    where
      -- the last of the queue has its level, and is before the new one
      last_level : (a : ℕ) (u : Kept) → 1 ≤ a → kept_by l (Plain a) ≡ Some u → Plain a ≡ Plain row.last → (a ≡ row.last) × (u.level ≡ l.ended + i + 1)
      last_level a u one is e =
          let s : a ≡ row.last = cc e in
          (s, sym (ap level_of is) ∙ ap (λ w. level_by l (Plain w)) s ∙ ix.rows.last i (omega (arith, s, one)))

      ups : (a : ℕ) (k u : Kept) → (1 ≤ a) × (a ≤ n) → kept_by l (Plain a) ≡ Some u → IsRelinked row.last (n + 1) (Plain a) u k → l.ended < k.level → 0 < k.next → (Plain a ≡ Plain row.last × (k.next ≡ n + 1)) ⊎ ((Plain a ≢ Plain row.last) × (k.next ≡ u.next)) → (a < k.next) × (level_by m (Plain k.next) ≡ k.level)
      ups a k u count is r high some (inl (e, f)) =
          let t = last_level a u count.0 is e in
          (omega (arith, f, count.1), ap (λ w. level_by m (Plain w)) f ∙ new_level ∙ sym t.1 ∙ sym r.level)
      ups a k u count is r high some (inr (ne, f)) =
          let t = ix.linked.up a u is (omega (arith, r.level, high)) (omega (arith, f, some)) in
          let c = has_number u.next (omega (arith, t.1, r.level, high)) in
          (omega (arith, f, t.0), ap (λ w. level_by m (Plain w)) f ∙ plain_level u.next c.1 ∙ t.1 ∙ sym r.level)

      passes : (a b : ℕ) (k u : Kept) → (1 ≤ a) × (a ≤ n) → kept_by l (Plain a) ≡ Some u → IsRelinked row.last (n + 1) (Plain a) u k → l.ended < k.level → a < b → level_by m (Plain b) ≡ k.level → (b ≡ n + 1) ⊎ (b ≢ n + 1) → (Plain a ≡ Plain row.last × (k.next ≡ n + 1)) ⊎ ((Plain a ≢ Plain row.last) × (k.next ≡ u.next)) → (0 < k.next) × (k.next ≤ b)
      passes a b k u count is r high lt lv (inl q) (inl (e, f)) = (omega (arith, f), omega (arith, f, q))
      passes a b k u count is r high lt lv (inl q) (inr (ne, f)) =
          let here : level_by l (Plain a) ≡ l.ended + i + 1 = ap level_of is ∙ sym r.level ∙ sym lv ∙ ap (λ w. level_by m (Plain w)) q ∙ new_level in
          let p = ix.rows.plain i a here in
          let apart : a ≢ row.last = (λ e. ne (ap (λ w. Plain w) e)) in
          let z = ix.rows.last i (omega (arith, p.2, count.0)) in
          let t = ix.linked.passed a row.last u is (omega (arith, r.level, high)) (omega (arith, p.2, apart)) (z ∙ sym here ∙ ap level_of is) in
          let c = has_number row.last (omega (arith, z)) in
          (omega (arith, f, t.0), omega (arith, f, t.1, c.1, q))
      passes a b k u count is r high lt lv (inr ne) (inl (e, f)) =
          let t = last_level a u count.0 is e in
          let same = old_level (Plain b) (λ e. ne (cc e)) in
          let p = ix.rows.plain i b (sym same ∙ lv ∙ r.level ∙ t.1) in
          absurd (omega (arith, p.2, t.0, lt))
      passes a b k u count is r high lt lv (inr ne) (inr (apart, f)) =
          let same = old_level (Plain b) (λ e. ne (cc e)) in
          let t = ix.linked.passed a b u is (omega (arith, r.level, high)) lt (sym same ∙ lv ∙ r.level) in
          (omega (arith, f, t.0), omega (arith, f, t.1))

  -- WHAT COMES BEFORE
  pub before_new : (y : Element) (k : Kept) → kept_by m y ≡ Some k → m.base + 1 < k.level → (p : Element) × (k.before ≡ Some p) × Needs h y p × (level_by m p + 1 ≡ k.level)
  before_new y k is high = ⊎_elim
      (λ (e : y ≡ x). itself (same_Some k (next_plain (kept_by l (Plain n)) (n + 1) (l.ended + i + 1) before key) (sym (sym new.itself ∙ ap (kept_by m) (sym e) ∙ is))) e)
      (λ (ne : y ≢ x).
      let r = relinked_from row.last (n + 1) (kept_by l) y k (sym (new.others y ne) ∙ is) in
      let b = ix.before y r.0 r.1 (omega (arith, high, r.2.level, new.base)) in
      let w = ix.levels.gone b.0 (omega (arith, b.3, high, r.2.level, new.base)) in
      let lv = old_level b.0 (λ e. follows.fresh (subst (Waits g) e w)) in
      (b.0, r.2.before ∙ b.1, (b.2.0, b.2.1, keep g ok x d follows b.2.0 y b.2.1 b.2.2, b.2.3), omega (arith, lv, b.3, r.2.level)))
      (is_plain (n + 1) y)
    where
      itself : k ≡ next_plain (kept_by l (Plain n)) (n + 1) (l.ended + i + 1) before key → y ≡ x → (p : Element) × (k.before ≡ Some p) × Needs h y p × (level_by m p + 1 ≡ k.level)
      itself e q =
          let lvl = ap (λ (u : Kept). u.level) e in
          let b = best_before s whole l ix d within level before best (omega (arith, lvl, high, new.base, place)) in
          let lv = old_level b.0 (λ e. follows.fresh (subst (Waits g) e b.3)) in
          (b.0, ap (λ (u : Kept). u.before) e ∙ b.1, subst (λ u. Needs h u b.0) (sym q) (length g.waiting, d, at_end g.waiting (x, d), b.2), omega (arith, lv, b.4, lvl, place))

  pub within_new : (y : Element) → level_by m y ≤ m.ended + length m.rows.items
  within_new y = ⊎_elim
      (λ (e : y ≡ x). omega (arith, ap (level_by m) e, new_level, new.ended, new.rows.count))
      (λ (ne : y ≢ x). omega (arith, old_level y ne, ix.within y, new.ended, new.rows.count))
      (is_plain (n + 1) y)

  pub deepest_new : 0 < length m.rows.items → (y : Element) × (level_by m y ≡ m.ended + length m.rows.items)
  deepest_new up = ⊎_elim
      (λ (far : length l.rows.items < i + 1). (x, omega (arith, new_level, new.ended, new.rows.count, far)))
      (λ (near : i + 1 ≤ length l.rows.items).
      let r = ix.deepest (omega (arith, near)) in
      (r.0, omega (arith, old_level r.0 (λ e. let c = has_number (n + 1) (let t = ap (level_by l) e in omega (arith, t, r.1, near)) in absurd (omega (arith, c.1))), r.1, new.ended, new.rows.count, near)))
      (cases_lt (length l.rows.items) (i + 1))

  -- other elements stand in the queues as before
  pub rows_there : (j : ℕ) (y : Element) → y ≢ x → IsInRow (kept_by l) l.ended l.rows.items j y → IsInRow (kept_by m) m.ended m.rows.items j y
  rows_there j (Plain w) ne q = old_level (Plain w) ne ∙ q ∙ ap (λ e. e + j + 1) (sym new.ended)
  rows_there j (Version f v) ne q = (q.0, ap (λ vs. get_or vs f 0) (same_versions j) ∙ q.1)

  pub rows_back : (j : ℕ) (y : Element) → y ≢ x → IsInRow (kept_by m) m.ended m.rows.items j y → IsInRow (kept_by l) l.ended l.rows.items j y
  rows_back j (Plain w) ne q = sym (old_level (Plain w) ne) ∙ q ∙ ap (λ e. e + j + 1) new.ended
  rows_back j (Version f v) ne q = (q.0, sym (ap (λ vs. get_or vs f 0) (same_versions j)) ∙ q.1)

  -- ALL OF IT
  pub indexed_plain : (pages : List (Element × Write)) (left : ℕ) → HasRoom m left → IsIndexed (record { staging = record { pending = staged_after s.staging.pending x d; staged = n + 1; latest = s.staging.latest }; round = s.round; pages = pages; room = left }) m
  indexed_plain pages left room = record {
    levels = subst (λ p. AreKeptLevels p m.base (level_by m)) (sym joined) levels_new;
    tops = tops_new;
    rows = rows_new;
    linked = linked_new;
    before = λ y k is high. subst (λ p. (q : Element) × (k.before ≡ Some q) × Needs p y q × (level_by m q + 1 ≡ k.level)) (sym joined) (before_new y k is high);
    within = within_new;
    deepest = deepest_new;
    low = omega (arith, ix.low, new.base, new.ended);
    high = omega (arith, ix.high, new.base, new.ended, new.rows.count);
    near = omega (arith, ix.near, new.base, new.ended);
    still = λ none. new.base ∙ ix.still none ∙ sym new.ended;
    plain_count = omega (arith, new.dropped, new.plain_count, ix.plain_count);
    version_count = λ f. ap (λ xs. get_or xs f 0 + length (family_at m.versions.items f)) new.starts ∙ ap (λ qs. get_or l.starts.items f 0 + length (family_at qs f)) new.versions ∙ ix.version_count f;
    families = ap length new.versions ∙ ix.families;
    at_most = ix.at_most;
    room = room;
    ready = λ y z out needs. ⊎_elim
        (λ (o : Needs s.staging.pending y z). persists_staged s.staging.pending x d z (may.stays o.0 z y o.1 o.2 o.3) whole.kept.staged may (ix.ready y z (out.0, out.1, out.2) o))
        (λ (o : (x ≡ y) × Names d z). absurd (may.fresh (subst (Waits s.staging.pending) (sym o.0) (whole.out y (out.0, out.1, out.2)))))
        (needs_cases s.staging.pending whole.kept.staged x d may y z needs);
    out = λ y o.
        let r = ix.out y (o.0, o.1, o.2) in
        (omega (arith, r.0, new.base, new.ended), rows_there 0 y (λ e. may.fresh (subst (Waits s.staging.pending) e (whole.out y (o.0, o.1, o.2)))) r.1);
    first = λ lt y q.
        let o = ix.first (omega (arith, lt, new.base, new.ended)) y (rows_back 0 y (λ e. not_first y e q lt) q) in
        (o.0, o.1, o.2);
    rows_wide = λ j. ap length (same_versions j) ∙ ix.rows_wide j;
  }
    where
      not_first : (y : Element) → y ≡ x → IsInRow (kept_by m) m.ended m.rows.items 0 y → m.ended < m.base → ⊥
      not_first y e q lt =
          let lv : level_by m x ≡ m.ended + 0 + 1 = subst (IsInRow (kept_by m) m.ended m.rows.items 0) e q in
          omega (arith, lv, new_level, place, best.low, lt, new.base, new.ended)

      joined : after_round (staged_after s.staging.pending x d) s.round ≡ h
      joined = staged_then s whole x d may
