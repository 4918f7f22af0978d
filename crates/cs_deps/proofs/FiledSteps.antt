-- Records stay filed as elements are staged and rounds settled.
use Rattle.std.proofs.Common.{◌≡◌, ◌∙◌, ◌≢◌, ℕ, zero, suc, ◌+◌, ◌<◌, ◌≤◌, ◌⊎◌, Bool, true, false, List, [], length, get_or, Option, Some, None, refl, sym, ap, subst, inl, inr, ⊎_elim, arith}
use Rattle.std.specs.Prelude.{count_by, is_some, IfSome, Contains, if◌then◌else◌, ◌==◌, option_map}
use Rattle.std.proofs.lemmas.Bool.{cases_lt}
use Rattle.std.proofs.lemmas.Option.{same_Some}
use Rattle.slab.specs.Slab.{Slab, get, slab_len, HasRoomFor, Updates}
use Rattle.cs_deps.specs.declared.elements.Element.{Element}
use Rattle.cs_deps.specs.declared.elements.Element.TheVariants.{Plain, Version}
use Rattle.cs_deps.specs.declared.levels.Kept.{Kept}
use Rattle.cs_deps.specs.declared.levels.Row.{Row}
use Rattle.cs_deps.specs.declared.levels.Levels.{Levels}
use Rattle.cs_deps.specs.declared.records.Record.{Record}
use Rattle.cs_deps.specs.Named.{Named, Names, IsWithin}
use Rattle.cs_deps.specs.Entries.{IsSound}
use Rattle.cs_deps.proofs.PlainStaged.{rows_there as plain_there, rows_back as plain_back}
use Rattle.cs_deps.proofs.VersionStaged.{rows_there, rows_back, versions_here}
use Rattle.cs_deps.specs.Staging.{IsJoined}
use Rattle.cs_deps.specs.Levels.{IsBest, next_plain, next_version, kept_by, kept_in, family_at, level_of, row_at, relinked, with_next, keyed, IsInRow, IsQueued, IsIndexed, IsSameBut, IsNew, IsPlainPushed, IsVersionPushed, IsLevelsSettled}
use Rattle.cs_deps.specs.Records.{AreFiled}
use Rattle.cs_deps.specs.State.{State}
use Rattle.cs_deps.proofs.InRow.{one_row}
use Rattle.cs_deps.proofs.KeptIn.{relinked_from, is_plain, is_version, none_in, in_within, kept_from}
use Rattle.cs_deps.proofs.Settled.{same_family}

-- no version has number 0
pub no_version : (l : Levels) (f : ℕ) → IsQueued l (Version f 0) → ⊥
no_version l f q = omega (arith, q.1.0)

-- ONE RECORD MORE
-- The new records are the old ones, but for those of `gone`, and r under a free key.
module _ (l m : Levels) (old now : Slab Record) (filed : AreFiled l old) (key : ℕ) (r : Record) (gone : Element)
    (came : get now key ≡ Some r)
    (stays : (other : ℕ) (u : Record) → get old other ≡ Some u → u.element ≢ gone → (other ≢ key) × (get now other ≡ Some u))
    (was : (other : ℕ) (u : Record) → other ≢ key → get now other ≡ Some u → (get old other ≡ Some u) × (u.element ≢ gone))
    (itself : (k : Kept) → kept_by m r.element ≡ Some k → k.key ≡ key)
    (kept : (k : Kept) × (kept_by m r.element ≡ Some k))
    (queued : IsQueued m r.element)
    (fresh : (k : Kept) → kept_by l r.element ≡ Some k → ⊥)
    (forth : (y : Element) (k : Kept) → y ≢ r.element → kept_by l y ≡ Some k → (u : Kept) × (kept_by m y ≡ Some u) × (u.key ≡ k.key))
    (back : (y : Element) (u : Kept) → y ≢ r.element → kept_by m y ≡ Some u → (k : Kept) × (kept_by l y ≡ Some k) × (u.key ≡ k.key))
    (rows_forth : (y : Element) → y ≢ gone → IsQueued l y → IsQueued m y)
    (rows_back : (y : Element) → y ≢ r.element → IsQueued m y → IsQueued l y × (y ≢ gone))
    (same : (y : Element) → (y ≡ r.element) ⊎ (y ≢ r.element)) where
  pub filed_more : AreFiled m now
  filed_more = record {
    here = λ x k q is. ⊎_elim
        (λ (e : x ≡ r.element). (r, ap (get now) (itself k (ap (kept_by m) (sym e) ∙ is)) ∙ came, sym e))
        (λ (ne : x ≢ r.element).
        let b = back x k ne is in
        let o = rows_back x ne q in
        let h = filed.here x b.0 o.0 b.1 in
        let t = stays b.0.key h.0 h.1 (λ e. o.1 (sym h.2 ∙ e)) in
        (h.0, ap (get now) b.2 ∙ t.1, h.2))
        (same x);
    there = λ other u at. ⊎_elim
        (λ (e : other ≡ key).
        let s : r ≡ u = same_Some r u (sym came ∙ ap (get now) (sym e) ∙ at) in
        (kept.0, ap (λ (w : Record). kept_by m w.element) (sym s) ∙ kept.1, itself kept.0 kept.1 ∙ sym e, subst (λ (w : Record). IsQueued m w.element) s queued))
        (λ (ne : other ≢ key).
        let o = was other u ne at in
        let h = filed.there other u o.0 in
        let apart : u.element ≢ r.element = (λ e. fresh h.0 (ap (kept_by l) (sym e) ∙ h.1)) in
        let f = forth u.element h.0 apart h.1 in
        (f.0, f.1, f.2 ∙ h.2, rows_forth u.element o.1 h.3))
        (same_family key other);
  }

-- a link keeps the key
pub relinked_key : (a b : ℕ) (kept : Element → Option Kept) (y : Element) (k : Kept) → kept y ≡ Some k → (u : Kept) × (relinked a b kept y ≡ Some u) × (u.key ≡ k.key)
relinked_key a b kept (Plain n) k is = go (n == a)
  where
    go : (t : Bool) → (u : Kept) × ((if t then option_map (with_next b) (kept (Plain n)) else kept (Plain n)) ≡ Some u) × (u.key ≡ k.key)
    go true = (with_next b k, ap (option_map (with_next b)) is, refl)
    go false = (k, is, refl)
relinked_key a b kept (Version f v) k is = (k, is, refl)

-- A plain write is staged, with its record under a free key.
module _ (s : State) (l : Levels) (ix : IsIndexed s l) (d : Named) (whole : IsSound s) (within : IsWithin d s.staging.staged s.staging.latest) (level : ℕ) (before : Option Element) (best : IsBest (kept_by l) l.base d level before) (m : Levels) (key : ℕ) (i : ℕ) (place : l.ended + i ≡ level) (new : IsPlainPushed l m s.staging.staged i before key) (old now : Slab Record) (filed : AreFiled l old) (free : get old key ≡ None) (r : Record) (up : Updates old now key (Some r)) (is : r.element ≡ Plain (s.staging.staged + 1)) where
  pub filed_plain : AreFiled m now
  filed_plain = filed_more l m old now filed key r (Version 0 0) up.changed
      (λ other u at ne. let apart : other ≢ key = (λ e. absurd (cc (free, ap (get old) (sym e) ∙ at))) in (apart, up.others other apart ∙ at))
      (λ other u ne at.
      let was = sym (up.others other ne) ∙ at in
      (was, (λ e. let q = (filed.there other u was).3 in no_version l 0 (subst (IsQueued l) e q))))
      (λ k at. ap (λ (u : Kept). u.key) (same_Some k (next_plain (kept_by l (Plain s.staging.staged)) (s.staging.staged + 1) (l.ended + i + 1) before key) (sym at ∙ ap (kept_by m) is ∙ new.itself)))
      (next_plain (kept_by l (Plain s.staging.staged)) (s.staging.staged + 1) (l.ended + i + 1) before key, ap (kept_by m) is ∙ new.itself)
      (i, subst (IsInRow (kept_by m) m.ended m.rows.items i) (sym is) (let e = ap level_of new.itself in omega (arith, e, new.ended)))
      (λ k at. let w = in_within l.plains.items l.dropped (s.staging.staged + 1) k (ap (kept_by l) (sym is) ∙ at) in omega (arith, w.1, ix.plain_count))
      (λ y k ne at. let t = relinked_key (row_at l.rows.items i).last (s.staging.staged + 1) (kept_by l) y k at in (t.0, new.others y (λ e. ne (e ∙ sym is)) ∙ t.1, t.2))
      (λ y u ne at. let t = relinked_from (row_at l.rows.items i).last (s.staging.staged + 1) (kept_by l) y u (sym (new.others y (λ e. ne (e ∙ sym is))) ∙ at) in (t.0, t.1, t.2.key))
      (λ y ne q. (q.0, plain_there s whole l ix d within level before best key m i place new q.0 y (λ e. not_old y e q) q.1))
      (λ y ne q. let o = plain_back s whole l ix d within level before best key m i place new q.0 y (λ e. ne (e ∙ sym is)) q.1 in ((q.0, o), (λ e. no_version l 0 (subst (IsQueued l) e (q.0, o)))))
      (λ y. ⊎_elim (λ (e : y ≡ Plain (s.staging.staged + 1)). inl (e ∙ sym is)) (λ (ne : y ≢ Plain (s.staging.staged + 1)). inr (λ e. ne (e ∙ is))) (is_plain (s.staging.staged + 1) y))
    where
      not_old : (y : Element) → y ≡ Plain (s.staging.staged + 1) → IsQueued l y → ⊥
      not_old y e q =
          let o = subst (IsQueued l) e q in
          let k = kept_from (kept_by l (Plain (s.staging.staged + 1))) (omega (arith, o.1)) in
          let w = in_within l.plains.items l.dropped (s.staging.staged + 1) k.0 k.1 in
          omega (arith, w.1, ix.plain_count)

-- What stood under the key of the version at a place is given up, and nothing else.
module _ (l : Levels) (f i : ℕ) (old mid : Slab Record) (filed : AreFiled l old) (found : Option ℕ)
    (some : IfSome found (λ key. (k : Kept) × (0 < get_or (row_at l.rows.items i).versions f 0) × (kept_by l (Version f (get_or (row_at l.rows.items i).versions f 0)) ≡ Some k) × (k.key ≡ key)))
    (none : found ≡ None → (get_or (row_at l.rows.items i).versions f 0 ≡ 0) ⊎ (kept_by l (Version f (get_or (row_at l.rows.items i).versions f 0)) ≡ None))
    (same : found ≡ None → mid ≡ old)
    (cleared : IfSome found (λ key. get mid key ≡ None))
    (others : (other : ℕ) → found ≢ Some other → get mid other ≡ get old other) where
  abbrev before_it : Element
  before_it = Version f (get_or (row_at l.rows.items i).versions f 0)

  pub left_of : (other : ℕ) (u : Record) → get old other ≡ Some u → u.element ≢ before_it → get mid other ≡ Some u
  left_of other u at ne = from found refl some
    where
      from : (o : Option ℕ) → found ≡ o → IfSome o (λ key. (k : Kept) × (0 < get_or (row_at l.rows.items i).versions f 0) × (kept_by l before_it ≡ Some k) × (k.key ≡ key)) → get mid other ≡ Some u
      from None is t = ap (λ (r : Slab Record). get r other) (same is) ∙ at
      from (Some key) is t = others other (λ e.
          let k : key ≡ other = same_Some key other (sym is ∙ e) in
          let h = filed.here before_it t.0 (i, (t.1, refl)) t.2 in
          let r : h.0 ≡ u = same_Some h.0 u (sym h.1 ∙ ap (get old) (t.3 ∙ k) ∙ at) in
          ne (ap (λ (w : Record). w.element) (sym r) ∙ h.2)) ∙ at

  pub came_of : (other : ℕ) (u : Record) → get mid other ≡ Some u → (get old other ≡ Some u) × (u.element ≢ before_it)
  came_of other u at = from found refl some none cleared
    where
      from : (o : Option ℕ) → found ≡ o → IfSome o (λ key. (k : Kept) × (0 < get_or (row_at l.rows.items i).versions f 0) × (kept_by l before_it ≡ Some k) × (k.key ≡ key)) → (o ≡ None → (get_or (row_at l.rows.items i).versions f 0 ≡ 0) ⊎ (kept_by l before_it ≡ None)) → IfSome o (λ key. get mid key ≡ None) → (get old other ≡ Some u) × (u.element ≢ before_it)
      from None is t z c =
          let was = ap (λ (r : Slab Record). get r other) (sym (same is)) ∙ at in (
            was,
            (λ e.
                let h = filed.there other u was in
                ⊎_elim
                (λ (n : get_or (row_at l.rows.items i).versions f 0 ≡ 0). let q = subst (IsQueued l) e h.3 in omega (arith, q.1.0, n))
                (λ (n : kept_by l before_it ≡ None). cc (sym h.1 ∙ ap (kept_by l) e ∙ n))
                (z refl)),
          )
      from (Some key) is t z c =
          let apart : key ≢ other = (λ e. absurd (cc (c, ap (get mid) e ∙ at))) in
          let was = sym (others other (λ e. apart (same_Some key other (sym is ∙ e)))) ∙ at in (
            was,
            (λ e.
                let h = filed.there other u was in
                let k : h.0 ≡ t.0 = same_Some h.0 t.0 (sym h.1 ∙ ap (kept_by l) e ∙ t.2) in
                apart (sym t.3 ∙ ap (λ (w : Kept). w.key) (sym k) ∙ h.2)),
          )

-- The next version of a family is staged, with its record under a free key, and in place of that of its level.
module _ (s : State) (whole : IsSound s) (l : Levels) (ix : IsIndexed s l) (f : ℕ) (inside : f < length s.staging.latest) (d : Named) (within : IsWithin d s.staging.staged s.staging.latest) (own : (u : ℕ) → Names d (Version f u) → ⊥) (v : ℕ) (last : v ≡ get_or s.staging.latest f 0) (e : Named) (joined : IsJoined s.staging.pending.waiting (Version f v) d e) (level : ℕ) (before : Option Element) (best : IsBest (kept_by l) l.base d level before) (key : ℕ) (m : Levels) (i : ℕ) (new : IsVersionPushed l m f v i (keyed key (next_version (kept_by l (Version f v)) l.base (level + 1) before))) (old mid now : Slab Record) (filed : AreFiled l old)
    (left : (other : ℕ) (u : Record) → get old other ≡ Some u → u.element ≢ Version f (get_or (row_at l.rows.items i).versions f 0) → get mid other ≡ Some u)
    (came : (other : ℕ) (u : Record) → get mid other ≡ Some u → (get old other ≡ Some u) × (u.element ≢ Version f (get_or (row_at l.rows.items i).versions f 0)))
    (free : get mid key ≡ None) (r : Record) (up : Updates mid now key (Some r)) (is : r.element ≡ Version f (v + 1)) where
  pub filed_version : AreFiled m now
  filed_version = filed_more l m old now filed key r (Version f (get_or (row_at l.rows.items i).versions f 0)) up.changed
      (λ other u at ne.
      let there = left other u at ne in
      let apart : other ≢ key = (λ e. absurd (cc (free, ap (get mid) (sym e) ∙ there))) in
      (apart, up.others other apart ∙ there))
      (λ other u ne at. came other u (sym (up.others other ne) ∙ at))
      (λ k at. ap (λ (u : Kept). u.key) (same_Some k (keyed key (next_version (kept_by l (Version f v)) l.base (level + 1) before)) (sym at ∙ ap (kept_by m) is ∙ new.itself)))
      (keyed key (next_version (kept_by l (Version f v)) l.base (level + 1) before), ap (kept_by m) is ∙ new.itself)
      (i, subst (IsInRow (kept_by m) m.ended m.rows.items i) (sym is) (omega arith, here))
      (λ k at. old_number k (ap (kept_by l) (sym is) ∙ at))
      (λ y k ne at. (k, new.others y (λ e. ne (e ∙ sym is)) ∙ at, refl))
      (λ y u ne at. (u, sym (new.others y (λ e. ne (e ∙ sym is))) ∙ at, refl))
      (λ y ne q. (q.0, rows_there s whole l ix f inside d within own v last e joined level before best key m i new q.0 y ne q.1))
      (λ y ne q. let o = rows_back s whole l ix f inside d within own v last e joined level before best key m i new q.0 y (λ e. ne (e ∙ sym is)) q.1 in ((q.0, o.0), o.1))
      (λ y. ⊎_elim (λ (q : y ≡ Version f (v + 1)). inl (q ∙ sym is)) (λ (ne : y ≢ Version f (v + 1)). inr (λ q. ne (q ∙ is))) (is_version f (v + 1) y))
    where
      old_number : (k : Kept) → kept_by l (Version f (v + 1)) ≡ Some k → ⊥
      old_number k at = let w = in_within (family_at l.versions.items f) (get_or l.starts.items f 0) (v + 1) k at in omega (arith, w.1, ix.version_count f, last)

      here : get_or (row_at m.rows.items i).versions f 0 ≡ v + 1
      here = ⊎_elim
          (λ (a : (i ≡ i) × (f ≡ f) × (get_or (row_at m.rows.items i).versions f 0 ≡ v + 1)). a.2)
          (λ (a : ((i ≡ i) × (f ≡ f) → ⊥) × (get_or (row_at m.rows.items i).versions f 0 ≡ get_or (row_at l.rows.items i).versions f 0)). absurd (a.0 (refl, refl)))
          (versions_here s whole l ix f inside d within own v last e joined level before best key m i new i f)

-- A ROUND IS SETTLED
module _ (s : State) (l m : Levels) (ix : IsIndexed s l) (old now : Slab Record) (filed : AreFiled l old) (none : l.base ≤ l.ended → m ≡ l) (one : l.ended < l.base → IsLevelsSettled l m) (round : List Element) (is : s.round ≡ Some round)
    (less : (key : ℕ) (r : Record) → get now key ≡ Some r → get old key ≡ Some r)
    (gone : (x : Element) (k : Kept) → Contains round x → kept_by l x ≡ Some k → get now k.key ≡ None)
    (rest : (key : ℕ) (r : Record) → get old key ≡ Some r → ((x : Element) (k : Kept) → Contains round x → kept_by l x ≡ Some k → k.key ≢ key) → get now key ≡ Some r) where
  settled_same : l.base ≤ l.ended → AreFiled l now
  settled_same le = record {
    here = λ x k q at. (let h = filed.here x k q at in (h.0, rest k.key h.0 h.1 (λ y u c w e. no_member y c), h.2));
    there = λ key r at. filed.there key r (less key r at);
  }
    where
      no_member : (y : Element) → Contains round y → ⊥
      no_member y c = omega (arith, (ix.out y (round, is, c)).0, le)

  module _ (lt : l.ended < l.base) (t : IsLevelsSettled l m) where
    ended : m.ended ≡ l.ended + 1
    ended = omega (arith, t.ended, lt, ix.near)

    forth : (j : ℕ) (x : Element) → IsInRow (kept_by l) l.ended l.rows.items (j + 1) x → IsInRow (kept_by m) m.ended m.rows.items j x
    forth j (Plain n) q = let e = ap level_of (t.kept (Plain n)) in omega (arith, e, q, ended)
    forth j (Version f v) q = (q.0, ap (λ (r : Row). get_or r.versions f 0) (t.rows j) ∙ q.1)

    back : (j : ℕ) (x : Element) → IsInRow (kept_by m) m.ended m.rows.items j x → IsInRow (kept_by l) l.ended l.rows.items (j + 1) x
    back j (Plain n) q = let e = ap level_of (t.kept (Plain n)) in omega (arith, e, q, ended)
    back j (Version f v) q = (q.0, sym (ap (λ (r : Row). get_or r.versions f 0) (t.rows j)) ∙ q.1)

    settled_less : AreFiled m now
    settled_less = record {
      here = λ x k q at.
          let old_at = sym (t.kept x) ∙ at in
          let old_q : IsInRow (kept_by l) l.ended l.rows.items (q.0 + 1) x = back q.0 x q.1 in
          let h = filed.here x k (q.0 + 1, old_q) old_at in (
            h.0,
            rest k.key h.0 h.1 (λ y u c w e.
                let out = (ix.out y (round, is, c)).1 in
                let o = filed.here y u (0, out) w in
                let r : o.0 ≡ h.0 = same_Some o.0 h.0 (sym o.1 ∙ ap (get old) e ∙ h.1) in
                let x_is : y ≡ x = sym o.2 ∙ ap (λ (u : Record). u.element) r ∙ h.2 in
                let zero_one : 0 ≡ q.0 + 1 = one_row l l.ended l.rows.items ix.rows 0 (q.0 + 1) x (subst (IsInRow (kept_by l) l.ended l.rows.items 0) x_is out) old_q in
                omega (arith, zero_one)),
            h.2,
          );
      there = λ key r at.
          let h = filed.there key r (less key r at) in
          (h.0, t.kept r.element ∙ h.1, h.2, place h.3.0 r key at h.0 h.1 h.2 h.3.1);
    }
      where
        place : (i : ℕ) (r : Record) (key : ℕ) → get now key ≡ Some r → (k : Kept) → kept_by l r.element ≡ Some k → k.key ≡ key → IsInRow (kept_by l) l.ended l.rows.items i r.element → IsQueued m r.element
        place zero r key at k kept same q =
            let o = ix.first lt r.element q in
            let c : Contains round r.element = subst (λ u. Contains u r.element) (same_Some o.0 round (sym o.1 ∙ is)) o.2 in
            absurd (cc (gone r.element k c kept, ap (get now) same, at))
        place (suc j) r key at k kept same q =
            let e : suc j ≡ j + 1 = omega arith in
            (j, forth j r.element (subst (λ i. IsInRow (kept_by l) l.ended l.rows.items i r.element) e q))

  pub filed_settled : AreFiled m now
  filed_settled = ⊎_elim
      (λ (lt : l.ended < l.base). settled_less lt (one lt))
      (λ (le : l.base ≤ l.ended). subst (λ (u : Levels). AreFiled u now) (sym (none le)) (settled_same le))
      (cases_lt l.ended l.base)

-- ROOM
pub filed_same : (l m : Levels) (old now : Slab Record) → AreFiled l old → IsSameBut l m → ((key : ℕ) → get now key ≡ get old key) → AreFiled m now
filed_same l m old now filed is same = record {
  here = λ x k q at. (let h = filed.here x k (q.0, back q.0 x q.1) (sym (kept x) ∙ at) in (h.0, same k.key ∙ h.1, h.2));
  there = λ key r at. (let h = filed.there key r (sym (same key) ∙ at) in (h.0, kept r.element ∙ h.1, h.2, (h.3.0, forth h.3.0 r.element h.3.1)));
}
  where
    kept : (x : Element) → kept_by m x ≡ kept_by l x
    kept (Plain n) = ap (λ xs. kept_in xs m.dropped n) is.plains ∙ ap (λ d. kept_in l.plains.items d n) is.dropped
    kept (Version f v) = ap (λ xs. kept_in (family_at m.versions.items f) (get_or xs f 0) v) is.starts ∙ ap (λ xs. kept_in xs (get_or l.starts.items f 0) v) (is.versions f)

    forth : (j : ℕ) (x : Element) → IsInRow (kept_by l) l.ended l.rows.items j x → IsInRow (kept_by m) m.ended m.rows.items j x
    forth j (Plain n) q = ap level_of (kept (Plain n)) ∙ q ∙ ap (λ e. e + j + 1) (sym is.ended)
    forth j (Version f v) q = (q.0, ap (λ rs. get_or (row_at rs j).versions f 0) is.rows ∙ q.1)

    back : (j : ℕ) (x : Element) → IsInRow (kept_by m) m.ended m.rows.items j x → IsInRow (kept_by l) l.ended l.rows.items j x
    back j (Plain n) q = sym (ap level_of (kept (Plain n))) ∙ q ∙ ap (λ e. e + j + 1) is.ended
    back j (Version f v) q = (q.0, sym (ap (λ rs. get_or (row_at rs j).versions f 0) is.rows) ∙ q.1)

pub room_same : (old now : Slab Record) → now ≡ record { slots = old.slots; vacant_key = old.vacant_key; capacity = now.capacity } → old.capacity ≤ now.capacity → (room : ℕ) → HasRoomFor old room → HasRoomFor now room
room_same old now is more room fits = let e = ap (λ (r : Slab Record). slab_len r) is in omega (arith, e, more, fits)

-- NOTHING IS KEPT
pub filed_new : (ps : List ℕ) (l : Levels) → IsNew ps l → (records : Slab Record) → records.slots ≡ [] → AreFiled l records
filed_new ps l is records none = record {
  here = λ x k q at. absurd (cc (sym (nothing x) ∙ at));
  there = λ key r at. absurd (cc (ap (λ slots. get_or slots key None) none, at));
}
  where
    nothing : (x : Element) → kept_by l x ≡ None
    nothing (Plain n) = ap (λ xs. kept_in xs l.dropped n) is.plains ∙ none_in l.dropped n
    nothing (Version f v) = ap (λ xs. kept_in xs (get_or l.starts.items f 0) v) (is.versions f) ∙ none_in (get_or l.starts.items f 0) v

-- A ROUND IS TAKEN
pub filed_taken : (s : State) (l m : Levels) (records : Slab Record) → AreFiled l records → (length l.rows.items ≡ 0 → m ≡ l) → (0 < length l.rows.items → m ≡ record { ended = l.ended; base = l.ended + 1; plains = l.plains; dropped = l.dropped; versions = l.versions; starts = l.starts; rows = l.rows }) → AreFiled m records
filed_taken s l m records filed empty one = ⊎_elim
    (λ (some : 0 < length l.rows.items). subst (λ (u : Levels). AreFiled u records) (sym (one some)) (record { here = filed.here; there = filed.there }))
    (λ (le : length l.rows.items ≤ 0). subst (λ (u : Levels). AreFiled u records) (sym (empty (omega (arith, le)))) filed)
    (cases_lt 0 (length l.rows.items))

pub room_new : (records : Slab Record) → records.slots ≡ [] → HasRoomFor records 0
room_new records none = let e = ap (λ (slots : List (Option Record)). count_by is_some slots) none in omega (arith, e)
