-- What the kept levels and queues say where no round is out.
use Rattle.std.proofs.Common.{◌≡◌, ℕ, ◌+◌, ◌<◌, ◌≤◌, List, [], length, get_or, Some, None, sym, ap, ◌∙◌, subst, ⊎_elim, arith, rules}
use Rattle.std.specs.Prelude.{Contains, ◌-◌, AllPairs}
use Rattle.std.proofs.lemmas.Option.{same_Some}
use Rattle.cs_deps.specs.declared.elements.Element.{Element}
use Rattle.cs_deps.specs.declared.elements.Element.TheVariants.{Plain, Version}
use Rattle.cs_deps.specs.declared.levels.Kept.{Kept}
use Rattle.cs_deps.specs.declared.levels.Levels.{Levels}
use Rattle.cs_deps.specs.Named.{IsPlain}
use Rattle.cs_deps.specs.Pending.{Pending, Waits, Needs}
use Rattle.cs_deps.specs.Chain.{IsHeight}
use Rattle.cs_deps.specs.Rounds.{IsListedBefore}
use Rattle.cs_deps.specs.State.{State, Write, IsInQueue, IsQueue, after, after_round}
use Rattle.cs_deps.specs.Entries.{IsSound}
use Rattle.cs_deps.specs.Levels.{IsInRow, kept_in, kept_by, level_by, level_of, row_at, family_at, AreKeptLevels, AreTops, AreRows, AreLinked, HasRoom, IsIndexed, IsNew, IsSameBut, ArePlainsListed, AreVersionsListed}
use Rattle.cs_deps.proofs.AllHeights.{all_have_heights}
use Rattle.cs_deps.proofs.HeightSteps.{chain_ends_waiting, height_positive}
use Rattle.cs_deps.proofs.KeptIn.{none_in, kept_from, in_within}
use Rattle.cs_deps.proofs.Sets.{no_element}

module _ (s : State) (whole : IsSound s) (none : s.round ≡ None) (l : Levels) (ix : IsIndexed s l) where
  abbrev g : Pending
  g = s.staging.pending

  now : AreKeptLevels g l.ended (level_by l)
  now = subst (λ b. AreKeptLevels g b (level_by l)) (ix.still none) (subst (λ o. AreKeptLevels (after_round g o) l.base (level_by l)) none ix.levels)

  -- an element that has a level n above the rounds that have ended has height n
  pub height_is : (x : Element) (n : ℕ) → 0 < n → level_by l x ≡ l.ended + n → IsHeight g x n
  height_is x n some is =
      let w = now.gone x (omega (arith, is, some)) in
      let h = all_have_heights g whole.kept.staged x w in
      let e : h.0 ≡ n = omega (arith, now.waiting x h.0 h.1, is) in
      subst (IsHeight g x) e h.1

  pub level_is : (x : Element) (n : ℕ) → IsHeight g x n → level_by l x ≡ l.ended + n
  level_is x n h = now.waiting x n h

  -- the plain writes and versions of a row are what waits at its height
  pub queue_is : (i : ℕ) (ys xs : List Element) → ArePlainsListed (kept_by l) (l.ended + i + 1) ys → AreVersionsListed ys (row_at l.rows.items i).versions 16 xs → IsQueue g (i + 1) xs
  queue_is i ys xs plains versions = record {
    members = λ x. (has x, of x);
    order = versions.order (λ x c. (let r = plains.plain x c in subst IsPlain (sym r.1) (is_plain r.0))) plains.order;
  }
    where
      is_plain : (n : ℕ) → IsPlain (Plain n)
      is_plain n = tt

      height : (x : Element) → level_by l x ≡ l.ended + i + 1 → IsHeight g x (i + 1)
      height x is = height_is x (i + 1) (omega arith) (omega (arith, is))

      level : (x : Element) → IsHeight g x (i + 1) → level_by l x ≡ l.ended + i + 1
      level x h = omega (arith, level_is x (i + 1) h)

      greatest : (f v w : ℕ) → v ≡ get_or (row_at l.rows.items i).versions f 0 → IsHeight g (Version f w) (i + 1) → w ≤ v
      greatest f v w is h = omega (arith, is, ix.rows.version i f w (level (Version f w) h))

      has : (x : Element) → Contains xs x → IsInQueue g (i + 1) x
      has (Plain n) c = ⊎_elim
          (λ (o : Contains ys (Plain n)). let r = plains.plain (Plain n) o in height (Plain n) (ap (level_by l) r.1 ∙ r.2))
          (λ (o : (f : ℕ) × (f < 16) × (0 < get_or (row_at l.rows.items i).versions f 0) × (Plain n ≡ Version f (get_or (row_at l.rows.items i).versions f 0))). absurd (cc o.3))
          (versions.came (Plain n) c)
      has (Version f v) c = ⊎_elim
          (λ (o : Contains ys (Version f v)). let r = plains.plain (Version f v) o in absurd (cc r.1))
          (λ (o : (a : ℕ) × (a < 16) × (0 < get_or (row_at l.rows.items i).versions a 0) × (Version f v ≡ Version a (get_or (row_at l.rows.items i).versions a 0))).
          let fam : f ≡ o.0 = cc o.3 in let ver : v ≡ get_or (row_at l.rows.items i).versions o.0 0 = cc o.3 in
          (height (Version f v) (ap (level_by l) o.3 ∙ ix.rows.greatest i o.0 o.2), λ w h. greatest f v w (ver ∙ ap (λ u. get_or (row_at l.rows.items i).versions u 0) (sym fam)) h))
          (versions.came (Version f v) c)

      of : (x : Element) → IsInQueue g (i + 1) x → Contains xs x
      of (Plain n) h = versions.old_there (Plain n) (plains.all n (level (Plain n) h))
      of (Version f v) h =
          let lv = level (Version f v) h.0 in
          let u = ix.rows.version i f v lv in
          let w = chain_ends_waiting g (Version f v) (i + 1) h.0.reached in
          let low = whole.kept.staged.not_yet f v w in
          let some : 0 < get_or (row_at l.rows.items i).versions f 0 = omega (arith, u, low) in
          let top = h.1 (get_or (row_at l.rows.items i).versions f 0) (height (Version f (get_or (row_at l.rows.items i).versions f 0)) (ix.rows.greatest i f some)) in
          let same : get_or (row_at l.rows.items i).versions f 0 ≡ v = omega (arith, u, top) in
          let inside : f < 16 = omega (arith, whole.kept.staged.family f v w, whole.kept.families, ix.at_most) in
          subst (λ a. Contains xs (Version f a)) same (versions.new_there f inside some)

  -- past the last queue nothing waits
  pub no_queue : (n : ℕ) → length l.rows.items < n → IsQueue g n []
  no_queue n far = record {
    members = λ x. ((λ c. absurd (no_element x c)), (λ h. absurd (too_high x (height x h))));
    order = none_ordered;
  }
    where
      height : (x : Element) → IsInQueue g n x → IsHeight g x n
      height (Plain m) h = h
      height (Version f v) h = h.0

      too_high : (x : Element) → IsHeight g x n → ⊥
      too_high x h = absurd (omega (arith, ix.within x, level_is x n h, far))

      none_ordered : AllPairs IsListedBefore []
      none_ordered = λ i j d lt bound. absurd (omega (arith, bound))

  pub depth_all : (x : Element) (n : ℕ) → IsHeight g x n → n ≤ length l.rows.items
  depth_all x n h = omega (arith, ix.within x, level_is x n h)

  pub depth_reached : 0 < length l.rows.items → (x : Element) × IsHeight g x (length l.rows.items)
  depth_reached some = let r = ix.deepest some in (r.0, height_is r.0 (length l.rows.items) some r.1)

  -- what is kept of a waiting element
  pub kept_is : (x : Element) → Waits g x → (k : Kept) × (kept_by l x ≡ Some k) × (l.ended < k.level) × IsHeight g x (k.level - l.ended)
  kept_is x w =
      let h = all_have_heights g whole.kept.staged x w in
      let lv = level_is x h.0 h.1 in
      let one = height_positive g x h.0 h.1 in
      let k = kept_from (kept_by l x) (omega (arith, lv, one)) in
      let at = ap level_of k.1 in
      let e : h.0 ≡ k.0.level - l.ended = omega (arith, at, lv) in
      (k.0, k.1, omega (arith, at, lv, one), subst (IsHeight g x) e h.1)

  pub kept_here : (x : Element) (k : Kept) → kept_by l x ≡ Some k → Waits g x → (l.ended < k.level) × IsHeight g x (k.level - l.ended)
  kept_here x k is w =
      let r = kept_is x w in
      let same : r.0 ≡ k = same_Some r.0 k (sym r.1 ∙ is) in
      subst (λ (u : Kept). (l.ended < u.level) × IsHeight g x (u.level - l.ended)) same (r.2, r.3)

  pub waits_above : (x : Element) → l.ended < level_by l x → Waits g x
  waits_above x hi = now.gone x hi

  pub kept_before : (x : Element) (k : Kept) → kept_by l x ≡ Some k → l.ended + 1 < k.level → (p : Element) × (k.before ≡ Some p) × Needs g x p × IsHeight g p (k.level - l.ended - 1)
  kept_before x k is high =
      let b = ix.before x k is (omega (arith, ix.still none, high)) in
      (b.0, b.1, subst (λ o. Needs (after_round g o) x b.0) none b.2, height_is b.0 (k.level - l.ended - 1) (omega (arith, high)) (omega (arith, b.3, high)))

  -- NUMBERS
  pub plain_number : (n : ℕ) → 0 < level_by l (Plain n) → n ≤ s.staging.staged
  plain_number n up = let k = kept_from (kept_by l (Plain n)) up in omega (arith, (in_within l.plains.items l.dropped n k.0 k.1).1, ix.plain_count)

-- ROOM
pub indexed_same : (s : State) (l : Levels) → IsIndexed s l → (m : Levels) → IsSameBut l m → (pages : List (Element × Write)) (room : ℕ) → HasRoom m room → IsIndexed (record { staging = s.staging; round = s.round; pages = pages; room = room }) m
indexed_same s l ix m is pages room fits = record {
  levels = subst (λ b. AreKeptLevels (after s) b (level_by m)) (sym is.base) (record {
    waiting = λ x n h. same x ∙ ix.levels.waiting x n h;
    gone = λ x hi. ix.levels.gone x (omega (arith, same x, hi));
  });
  tops = subst (λ b. AreTops (kept_by m) b s.staging.staged) (sym is.ended) (record {
    above = λ n w k le it hi. omega (arith, same (Plain w), ix.tops.above n w k le (sym (kept (Plain n)) ∙ it) (omega (arith, same (Plain w), hi)));
    least = λ n k it hi. (let r = ix.tops.least n k (sym (kept (Plain n)) ∙ it) hi in (r.0, r.1, same (Plain k.least) ∙ r.2));
    none = λ n w le lower it. omega (arith, same (Plain w), ix.tops.none n w le lower (sym (kept (Plain n)) ∙ it));
  });
  rows = subst (λ b. AreRows (kept_by m) b m.rows.items) (sym is.ended) (subst (λ rs. AreRows (kept_by m) l.ended rs) (sym is.rows) (record {
    plain = λ j n lv. ix.rows.plain j n (sym (same (Plain n)) ∙ lv);
    first = λ j hi. same (Plain (row_at l.rows.items j).first) ∙ ix.rows.first j hi;
    last = λ j hi. same (Plain (row_at l.rows.items j).last) ∙ ix.rows.last j hi;
    empty = ix.rows.empty;
    version = λ j f v lv. ix.rows.version j f v (sym (same (Version f v)) ∙ lv);
    greatest = λ j f hi. same (Version f (get_or (row_at l.rows.items j).versions f 0)) ∙ ix.rows.greatest j f hi;
  }));
  linked = subst (AreLinked (kept_by m)) (sym is.ended) (record {
    up = λ n k it hi some. (let r = ix.linked.up n k (sym (kept (Plain n)) ∙ it) hi some in (r.0, same (Plain k.next) ∙ r.1));
    passed = λ n b k it hi less lv. ix.linked.passed n b k (sym (kept (Plain n)) ∙ it) hi less (sym (same (Plain b)) ∙ lv);
  });
  before = λ x k it hi. (let b = ix.before x k (sym (kept x) ∙ it) (omega (arith, hi, is.base)) in (b.0, b.1, b.2, omega (arith, same b.0, b.3)));
  within = λ x. omega (arith, same x, ix.within x, is.ended, count);
  deepest = λ some. (let r = ix.deepest (omega (arith, count, some)) in (r.0, omega (arith, same r.0, r.1, is.ended, count)));
  low = omega (arith, is.base, is.ended, ix.low);
  high = omega (arith, is.base, is.ended, ix.high, count);
  near = omega (arith, is.base, is.ended, ix.near);
  still = λ none. is.base ∙ ix.still none ∙ sym is.ended;
  plain_count = omega (arith, is.dropped, ap length is.plains, ix.plain_count);
  version_count = λ f. ap (λ xs. get_or xs f 0 + length (family_at m.versions.items f)) is.starts ∙ ap (λ xs. get_or l.starts.items f 0 + length xs) (is.versions f) ∙ ix.version_count f;
  families = is.count ∙ ix.families;
  at_most = ix.at_most;
  room = fits;
  ready = λ x y out n. ix.ready x y (out.0, out.1, out.2) n;
  out = λ x o. (let r = ix.out x (o.0, o.1, o.2) in (omega (arith, r.0, is.base, is.ended), there x r.1));
  first = λ lt x q. (let o = ix.first (omega (arith, lt, is.base, is.ended)) x (back x q) in (o.0, o.1, o.2));
  rows_wide = λ j. ap (λ rs. length (row_at rs j).versions) is.rows ∙ ix.rows_wide j;
}
  where
    kept : (x : Element) → kept_by m x ≡ kept_by l x
    kept (Plain n) = ap (λ xs. kept_in xs m.dropped n) is.plains ∙ ap (λ d. kept_in l.plains.items d n) is.dropped
    kept (Version f v) = ap (λ xs. kept_in (family_at m.versions.items f) (get_or xs f 0) v) is.starts ∙ ap (λ xs. kept_in xs (get_or l.starts.items f 0) v) (is.versions f)

    same : (x : Element) → level_by m x ≡ level_by l x
    same x = ap level_of (kept x)

    count : length m.rows.items ≡ length l.rows.items
    count = ap length is.rows

    there : (x : Element) → IsInRow (kept_by l) l.ended l.rows.items 0 x → IsInRow (kept_by m) m.ended m.rows.items 0 x
    there (Plain n) q = same (Plain n) ∙ q ∙ ap (λ e. e + 0 + 1) (sym is.ended)
    there (Version f v) q = (q.0, ap (λ rs. get_or (row_at rs 0).versions f 0) is.rows ∙ q.1)

    back : (x : Element) → IsInRow (kept_by m) m.ended m.rows.items 0 x → IsInRow (kept_by l) l.ended l.rows.items 0 x
    back (Plain n) q = sym (same (Plain n)) ∙ q ∙ ap (λ e. e + 0 + 1) is.ended
    back (Version f v) q = (q.0, sym (ap (λ rs. get_or (row_at rs 0).versions f 0) is.rows) ∙ q.1)

-- NOTHING IS STAGED
pub indexed_new : (ps : List ℕ) (l : Levels) → IsNew ps l → length ps ≤ 16 → (ws : List (Element × Write)) → IsIndexed (record { staging = record { pending = record { persistent = ps; waiting = [] }; staged = 0; latest = ps }; round = None; pages = ws; room = 0 }) l
indexed_new ps l is most ws = record {
  levels = record {
    waiting = λ x n h. absurd (let w = chain_ends_waiting (record { persistent = ps; waiting = [] }) x n h.reached in cc w.2);
    gone = λ x hi. absurd (omega (arith, low x, hi));
  };
  tops = record {
    above = λ n w k le it hi. absurd (omega (arith, low (Plain w), hi));
    least = λ n k it hi. absurd (cc (sym (nothing (Plain n)) ∙ it));
    none = λ n w le lower it. omega (arith, low (Plain w));
  };
  rows = record {
    plain = λ j n lv. absurd (omega (arith, low (Plain n), lv));
    first = λ j hi. absurd (let e = ap (λ rs. (row_at rs j).first) is.rows in omega (arith, e, hi));
    last = λ j hi. absurd (let e = ap (λ rs. (row_at rs j).last) is.rows in omega (arith, e, hi));
    empty = λ j z. ap (λ rs. (row_at rs j).last) is.rows;
    version = λ j f v lv. absurd (omega (arith, low (Version f v), lv));
    greatest = λ j f hi. absurd (let e = ap (λ rs. get_or (row_at rs j).versions f 0) is.rows in omega (arith, e, hi, zeros f));
  };
  linked = record {
    up = λ n k it hi some. absurd (cc (sym (nothing (Plain n)) ∙ it));
    passed = λ n b k it hi less lv. absurd (cc (sym (nothing (Plain n)) ∙ it));
  };
  before = λ x k it hi. absurd (cc (sym (nothing x) ∙ it));
  within = λ x. omega (arith, low x);
  deepest = λ some. absurd (omega (arith, ap length is.rows, some));
  low = omega (arith, is.ended);
  high = omega (arith, is.base);
  near = omega (arith, is.base);
  still = λ none. is.base ∙ sym is.ended;
  plain_count = omega (arith, is.dropped, ap length is.plains);
  version_count = λ f. omega (arith, ap (λ xs. get_or xs f 0) is.starts, ap length (is.versions f));
  families = is.count;
  at_most = most;
  room = is.room;
  ready = λ x y out n. absurd (cc out.1);
  out = λ x o. absurd (cc o.1);
  first = λ lt x q. absurd (omega (arith, lt, is.base, is.ended));
  rows_wide = λ j. ap (λ rs. length (row_at rs j).versions) is.rows;
}
  where
    nothing : (x : Element) → kept_by l x ≡ None
    nothing (Plain n) = ap (λ xs. kept_in xs l.dropped n) is.plains ∙ none_in l.dropped n
    nothing (Version f v) = ap (λ xs. kept_in xs (get_or l.starts.items f 0) v) (is.versions f) ∙ none_in (get_or l.starts.items f 0) v

    low : (x : Element) → level_by l x ≡ 0
    low x = ap level_of (nothing x)

    zeros : (f : ℕ) → get_or (row_at [] 0).versions f 0 ≡ 0
    zeros f = search rules
