-- A round is taken, and settled: what is kept of levels stays right.
use Rattle.std.proofs.Common.{◌≡◌, ◌+◌, ◌<◌, ◌≤◌, List, length, get_or, Some, None, slice_get, refl, sym, ap, ◌∙◌, subst, arith}
use Rattle.std.specs.Prelude.{Contains}
use Rattle.std.proofs.lemmas.Option.{same_Some, some_pair_parts}
use Rattle.cs_deps.specs.declared.elements.Element.{Element}
use Rattle.cs_deps.specs.declared.elements.Element.TheVariants.{Plain, Version}
use Rattle.cs_deps.specs.declared.levels.Row.{Row}
use Rattle.cs_deps.specs.declared.levels.Levels.{Levels}
use Rattle.cs_deps.specs.Named.{Names}
use Rattle.cs_deps.specs.Pending.{Pending, Waits, Needs, IsPersistent, IsStaged}
use Rattle.cs_deps.specs.Staging.{settled}
use Rattle.cs_deps.specs.State.{State, Write, IsQueue, after, after_round}
use Rattle.cs_deps.specs.Entries.{IsSound}
use Rattle.cs_deps.specs.Levels.{kept_by, level_by, level_of, row_at, AreKeptLevels, AreTops, IsIndexed, IsLevelsSettled}
use Rattle.cs_deps.proofs.HeightSteps.{chain_ends_waiting}
use Rattle.cs_deps.proofs.InRow.{level_in_row, row_of_level}
use Rattle.cs_deps.proofs.KeptLevels.{levels_taken}
use Rattle.cs_deps.proofs.Ready.{queue_ready}
use Rattle.cs_deps.proofs.Settled.{came, waited}
use Rattle.cs_deps.proofs.Tops.{up}

-- A ROUND IS TAKEN
module _ (s : State) (whole : IsSound s) (none : s.round ≡ None) (l : Levels) (ix : IsIndexed s l) (round : List Element) (first : IsQueue s.staging.pending 1 round) where
  abbrev g : Pending
  g = s.staging.pending

  ok : IsStaged g
  ok = whole.kept.staged

  now : AreKeptLevels g l.ended (level_by l)
  now = subst (λ b. AreKeptLevels g b (level_by l)) (ix.still none) (subst (λ o. AreKeptLevels (after_round g o) l.base (level_by l)) none ix.levels)

  is_ready : (x y : Element) (r : List Element) → Some round ≡ Some r → Contains r x → Needs g x y → IsPersistent g y
  is_ready x y r is c n = (queue_ready g ok round first).satisfied n.0 x y n.1 (subst (λ u. Contains u x) (sym (same_Some round r is)) c) n.2 n.3

  -- where no queue is there, nothing waits, and nothing changes
  pub taken_empty : length l.rows.items ≡ 0 → IsIndexed (record { staging = s.staging; round = Some round; pages = s.pages; room = s.room }) l
  taken_empty empty = record {
    levels = record {
      waiting = λ x n h. absurd (nothing x (waited g ok round x (chain_ends_waiting (settled g round) x n h.reached)));
      gone = λ x hi. absurd (omega (arith, ix.within x, empty, ix.low, hi));
    };
    tops = ix.tops;
    rows = ix.rows;
    linked = ix.linked;
    before = λ x k is hi. absurd (omega (arith, ix.within x, ap level_of is, empty, ix.low, hi));
    within = ix.within;
    deepest = ix.deepest;
    low = ix.low;
    high = ix.high;
    near = ix.near;
    still = λ none. absurd (cc none);
    plain_count = ix.plain_count;
    version_count = ix.version_count;
    families = ix.families;
    at_most = ix.at_most;
    room = ix.room;
    ready = λ x y out n. is_ready x y out.0 out.1 out.2 n;
    out = λ x o. absurd (nothing x (wait x o.0 o.1 o.2));
    first = λ lt x q. absurd (omega (arith, lt, ix.still none));
    rows_wide = ix.rows_wide;
  }
    where
      nothing : (x : Element) → Waits g x → ⊥
      nothing x w =
          let hi = up s whole l ix x (subst (λ o. Waits (after_round g o) x) (sym none) w) in
          absurd (omega (arith, ix.within x, empty, ix.low, hi))

      wait : (x : Element) (r : List Element) → Some round ≡ Some r → Contains r x → Waits g x
      wait x r is c = (queue_ready g ok round first).wait x (subst (λ u. Contains u x) (sym (same_Some round r is)) c)

  still_needs : (x y : Element) → Needs g x y → Waits (settled g round) x → Needs (settled g round) x y
  still_needs x y n w =
      let o = came g ok round w.0 x w.1 w.2 in
      let same : o.0 ≡ n.0 = ok.once o.0 n.0 x w.1 n.1 o.1 n.2 in
      let e : n.1 ≡ w.1 = (some_pair_parts x x n.1 w.1 (sym n.2 ∙ subst (λ k. slice_get g.waiting k ≡ Some (x, w.1)) same o.1)).1 in
      (w.0, w.1, w.2, subst (λ d. Names d y) e n.3)

  -- the base is one more
  pub taken_one : 0 < length l.rows.items → IsIndexed (record { staging = s.staging; round = Some round; pages = s.pages; room = s.room }) (record { ended = l.ended; base = l.ended + 1; plains = l.plains; dropped = l.dropped; versions = l.versions; starts = l.starts; rows = l.rows })
  taken_one some = record {
    levels = then_levels;
    tops = ix.tops;
    rows = ix.rows;
    linked = ix.linked;
    before = λ x k is hi.
        let b = ix.before x k is (omega (arith, hi, ix.still none)) in
        let n : Needs g x b.0 = subst (λ o. Needs (after_round g o) x b.0) none b.2 in
        (b.0, b.1, still_needs x b.0 n (then_levels.gone x (omega (arith, ap level_of is, hi))), b.3);
    within = ix.within;
    deepest = ix.deepest;
    low = omega arith;
    high = omega (arith, some);
    near = omega arith;
    still = λ none. absurd (cc none);
    plain_count = ix.plain_count;
    version_count = ix.version_count;
    families = ix.families;
    at_most = ix.at_most;
    room = record { plains = ix.room.plains; rows = ix.room.rows; versions = ix.room.versions; limit = ix.room.limit };
    ready = λ x y out n. is_ready x y out.0 out.1 out.2 n;
    out = λ x o. (omega arith, level_in_row g ok l l.ended now l.ended l.rows.items ix.rows 1 0 (omega arith) (omega arith) x ((first.members x).0 (subst (λ u. Contains u x) (sym (same_Some round o.0 o.1)) o.2)));
    first = λ lt x q. (round, refl, (first.members x).1 (row_of_level g ok l l.ended now l.ended l.rows.items ix.rows 1 0 (omega arith) (omega arith) x q));
    rows_wide = ix.rows_wide;
  }
    where
      then_levels : AreKeptLevels (settled g round) (l.ended + 1) (level_by l)
      then_levels = levels_taken g ok l.ended (level_by l) now round first

-- A ROUND IS SETTLED
module _ (s : State) (whole : IsSound s) (l : Levels) (ix : IsIndexed s l) (pages : List (Element × Write)) where
  pub settled_none : l.base ≤ l.ended → IsIndexed (record { staging = record { pending = after s; staged = s.staging.staged; latest = s.staging.latest }; round = None; pages = pages; room = s.room }) l
  settled_none le = record {
    levels = ix.levels;
    tops = ix.tops;
    rows = ix.rows;
    linked = ix.linked;
    before = ix.before;
    within = ix.within;
    deepest = ix.deepest;
    low = ix.low;
    high = ix.high;
    near = ix.near;
    still = λ none. omega (arith, le, ix.low);
    plain_count = ix.plain_count;
    version_count = ix.version_count;
    families = ix.families;
    at_most = ix.at_most;
    room = ix.room;
    ready = λ x y out n. absurd (cc out.1);
    out = λ x o. absurd (cc o.1);
    first = λ lt x q. absurd (omega (arith, lt, le));
    rows_wide = ix.rows_wide;
  }

  pub settled_one : l.ended < l.base → (m : Levels) → IsLevelsSettled l m → IsIndexed (record { staging = record { pending = after s; staged = s.staging.staged; latest = s.staging.latest }; round = None; pages = pages; room = s.room }) m
  settled_one lt m is = record {
    levels = subst (λ b. AreKeptLevels (after s) b (level_by m)) (sym is.base) (record {
      waiting = λ x n h. same x ∙ ix.levels.waiting x n h;
      gone = λ x hi. ix.levels.gone x (omega (arith, same x, hi));
    });
    tops = subst (λ b. AreTops (kept_by m) b s.staging.staged) (sym is.ended) (record {
      above = λ n w k le it hi. omega (arith, same (Plain w), ix.tops.above n w k le (sym (is.kept (Plain n)) ∙ it) (omega (arith, same (Plain w), hi, lt)));
      least = λ n k it hi. (let r = ix.tops.least n k (sym (is.kept (Plain n)) ∙ it) (omega (arith, hi, lt)) in (r.0, r.1, same (Plain k.least) ∙ r.2));
      none = λ n w le lower it. omega (arith, same (Plain w), lt, ix.tops.none n w le lower (sym (is.kept (Plain n)) ∙ it));
    });
    rows = record {
      plain = λ j n lv. (let r = ix.rows.plain (j + 1) n (omega (arith, same (Plain n), lv, one, is.ended)) in let e = is.rows j in (omega (arith, ap (λ (r : Row). r.first) e, r.0), omega (arith, ap (λ (r : Row). r.first) e, r.1), omega (arith, ap (λ (r : Row). r.last) e, r.2)));
      first = λ j hi. (let e = ap (λ (r : Row). r.first) (is.rows j) in let r = ix.rows.first (j + 1) (omega (arith, e, hi)) in omega (arith, ap (λ u. level_by m (Plain u)) e, same (Plain (row_at l.rows.items (j + 1)).first), r, one, is.ended));
      last = λ j hi. (let e = ap (λ (r : Row). r.last) (is.rows j) in let r = ix.rows.last (j + 1) (omega (arith, e, hi)) in omega (arith, ap (λ u. level_by m (Plain u)) e, same (Plain (row_at l.rows.items (j + 1)).last), r, one, is.ended));
      empty = λ j z. (let e = is.rows j in ap (λ (r : Row). r.last) e ∙ ix.rows.empty (j + 1) (sym (ap (λ (r : Row). r.first) e) ∙ z));
      version = λ j f v lv. (let e = ap (λ (r : Row). get_or r.versions f 0) (is.rows j) in let r = ix.rows.version (j + 1) f v (omega (arith, same (Version f v), lv, one, is.ended)) in omega (arith, e, r));
      greatest = λ j f hi. (let e = ap (λ (r : Row). get_or r.versions f 0) (is.rows j) in let r = ix.rows.greatest (j + 1) f (omega (arith, e, hi)) in omega (arith, ap (λ u. level_by m (Version f u)) e, same (Version f (get_or (row_at l.rows.items (j + 1)).versions f 0)), r, one, is.ended));
    };
    linked = record {
      up = λ n k it hi some. (let r = ix.linked.up n k (sym (is.kept (Plain n)) ∙ it) (omega (arith, hi, one, is.ended)) some in (r.0, same (Plain k.next) ∙ r.1));
      passed = λ n b k it hi less lv. ix.linked.passed n b k (sym (is.kept (Plain n)) ∙ it) (omega (arith, hi, one, is.ended)) less (sym (same (Plain b)) ∙ lv);
    };
    before = λ x k it hi. (let b = ix.before x k (sym (is.kept x) ∙ it) (omega (arith, hi, is.base)) in (b.0, b.1, b.2, omega (arith, same b.0, b.3)));
    within = λ x. omega (arith, same x, ix.within x, one, is.ended, is.count);
    deepest = λ some. (let r = ix.deepest (omega (arith, is.count)) in (r.0, omega (arith, same r.0, r.1, one, is.ended, is.count)));
    low = omega (arith, is.base, is.ended);
    high = omega (arith, is.base, is.ended);
    near = omega (arith, is.base, is.ended);
    still = λ none. is.base ∙ sym is.ended;
    plain_count = omega (arith, is.dropped, is.plain_count, ix.plain_count);
    version_count = λ f. is.version_count f ∙ ix.version_count f;
    families = is.families ∙ ix.families;
    at_most = ix.at_most;
    room = is.room s.room ix.room;
    ready = λ x y out n. absurd (cc out.1);
    out = λ x o. absurd (cc o.1);
    first = λ lt x q. absurd (omega (arith, lt, is.base, is.ended));
    rows_wide = λ j. ap (λ (r : Row). length r.versions) (is.rows j) ∙ ix.rows_wide (j + 1);
  }
    where
      one : l.base ≡ l.ended + 1
      one = omega (arith, lt, ix.near)

      same : (x : Element) → level_by m x ≡ level_by l x
      same x = ap level_of (is.kept x)
