-- Lists that lose their first elements, and levels that are trimmed.
use Rattle.std.proofs.Common.{◌≡◌, ℕ, zero, suc, ◌+◌, ◌<◌, ◌≤◌, ◌⊎◌, List, [], ◌∷◌, ◌++◌, length, drop, set, get_or, Option, Some, None, slice_get, refl, sym, ap, ◌∙◌, subst, inl, inr, ⊎_elim, arith}
use Rattle.std.specs.Prelude.{Contains, ◌-◌, All}
use Rattle.std.specs.declared.collections.VecDeque.{VecDeque}
use Rattle.std.specs.VecDeque.{deque_len, deque_capacity}
use Rattle.std.specs.declared.vec.Vec.{Vec}
use Rattle.std.specs.Global.{Global}
use Rattle.std.proofs.lemmas.Bool.{cases_lt}
use Rattle.std.proofs.lemmas.List.{length-append, append_assoc}
use Rattle.std.proofs.lemmas.List.Elements.{Contains-append_cases, Contains-append_right, All-set, All-get_or}
use Rattle.std.proofs.lemmas.Option.{same_Some}
use Rattle.slab.specs.Slab.{Slab}
use Rattle.cs_deps.specs.declared.elements.Element.{Element}
use Rattle.cs_deps.specs.declared.elements.Element.TheVariants.{Plain, Version}
use Rattle.cs_deps.specs.declared.levels.Kept.{Kept}
use Rattle.cs_deps.specs.declared.levels.Levels.{Levels}
use Rattle.cs_deps.specs.declared.records.Record.{Record}
use Rattle.cs_deps.specs.Records.{AreFiled}
use Rattle.cs_deps.specs.State.{State, after}
use Rattle.cs_deps.specs.Levels.{IsInRow, kept_in, kept_by, family_at, level_by, level_of, row_at, AreKeptLevels, AreTops, AreRows, AreLinked, IsIndexed}
use Rattle.cs_deps.specs.Trimmed.{IsTrimmedList, IsTrimmed}
use Rattle.cs_deps.proofs.HeightSteps.{height_positive}
use Rattle.cs_deps.proofs.InRow.{row_level}
use Rattle.cs_deps.proofs.Sets.{no_element, only_element}
use Rattle.cs_deps.proofs.KeptIn.{in_at, in_within, kept_from}

-- A LIST
pub trimmed_none : (base : ℕ) (xs : List Kept) → IsTrimmedList base xs xs
trimmed_none base xs = record { gone = []; list = refl; low = λ k c. absurd (no_element k c) }

pub trimmed_more : (base : ℕ) (old mid new : List Kept) → IsTrimmedList base old mid → IsTrimmedList base mid new → IsTrimmedList base old new
trimmed_more base old mid new a b = record {
  gone = a.gone ++ b.gone;
  list = a.list ∙ ap (λ xs. a.gone ++ xs) b.list ∙ sym (append_assoc a.gone b.gone new);
  low = λ k c. ⊎_elim (a.low k) (b.low k) (Contains-append_cases a.gone b.gone k c);
}

pub trimmed_first : (base : ℕ) (k : Kept) (ks : List Kept) → k.level ≤ base → IsTrimmedList base (k ∷ ks) ks
trimmed_first base k ks low = record { gone = k ∷ []; list = refl; low = λ u c. subst (λ (w : Kept). w.level ≤ base) (only_element k u c) low }

pub without_first : (base : ℕ) (k : Kept) (ks xs ys : List Kept) → xs ≡ k ∷ ks → ys ≡ drop 1 xs → k.level ≤ base → IsTrimmedList base xs ys
without_first base k ks xs ys is rest low =
    let e : ys ≡ ks = rest ∙ ap (drop 1) is in
    subst (λ (us : List Kept). IsTrimmedList base us ys) (sym is) (subst (λ (us : List Kept). IsTrimmedList base (k ∷ ks) us) (sym e) (trimmed_first base k ks low))

pub trimmed_length : (base : ℕ) (old new : List Kept) → IsTrimmedList base old new → length new ≤ length old
trimmed_length base old new t = omega (arith, ap length t.list ∙ length-append t.gone new)

-- past the first elements
get_past : (gone xs : List Kept) (k : ℕ) → slice_get (gone ++ xs) (length gone + k) ≡ slice_get xs k
get_past [] xs k = ap (slice_get xs) (let e : length {A = Kept} [] + k ≡ k = omega arith in e)
get_past (g ∷ gone) xs k = ap (slice_get (g ∷ (gone ++ xs))) (let e : length (g ∷ gone) + k ≡ suc (length gone + k) = omega arith in e) ∙ get_past gone xs k

-- one of the first elements
get_gone : (gone xs : List Kept) (k : ℕ) (x : Kept) → k < length gone → slice_get (gone ++ xs) k ≡ Some x → Contains gone x
get_gone [] xs k x lt at = absurd (omega (arith, lt))
get_gone (g ∷ gone) xs zero x lt at = (0, omega arith, same_Some g x at)
get_gone (g ∷ gone) xs (suc k) x lt at = Contains-append_right (g ∷ []) gone x (get_gone gone xs k x (omega (arith, lt)) at)

-- What the list keeps at a number, where its last number stays.
module _ (base : ℕ) (old new : List Kept) (t : IsTrimmedList base old new) (start next : ℕ) (ends : next + length new ≡ start + length old) where
  begins : next ≡ start + length t.gone
  begins = omega (arith, ends, ap length t.list ∙ length-append t.gone new)

  pub past : (n : ℕ) → next < n → kept_in new next n ≡ kept_in old start n
  past n lt =
      let at : next + (n - next - 1) + 1 ≡ n = omega (arith, lt) in
      let was : start + (length t.gone + (n - next - 1)) + 1 ≡ n = omega (arith, lt, begins) in
      in_at new next n (n - next - 1) at
      ∙ sym (get_past t.gone new (n - next - 1))
      ∙ ap (λ xs. slice_get xs (length t.gone + (n - next - 1))) (sym t.list)
      ∙ sym (in_at old start n (length t.gone + (n - next - 1)) was)

  pub passed : (n : ℕ) → n ≤ next → level_of (kept_in old start n) ≤ base
  passed n le = from (kept_in old start n) refl
    where
      from : (o : Option Kept) → kept_in old start n ≡ o → level_of o ≤ base
      from None is = omega arith
      from (Some k) is =
          let w = in_within old start n k is in
          let place : start + (n - start - 1) + 1 ≡ n = omega (arith, w.0) in
          let at : slice_get (t.gone ++ new) (n - start - 1) ≡ Some k = ap (λ xs. slice_get xs (n - start - 1)) (sym t.list) ∙ sym (in_at old start n (n - start - 1) place) ∙ is in
          t.low k (get_gone t.gone new (n - start - 1) k (omega (arith, w.0, le, begins)) at)

  pub still : (n : ℕ) (k : Kept) → kept_in new next n ≡ Some k → kept_in old start n ≡ Some k
  still n k is = let w = in_within new next n k is in sym (past n w.0) ∙ is

  pub above : (n : ℕ) → base < level_of (kept_in old start n) → kept_in new next n ≡ kept_in old start n
  above n up = ⊎_elim
      (λ (lt : next < n). past n lt)
      (λ (le : n ≤ next). absurd (omega (arith, up, passed n le)))
      (cases_lt next n)

  pub before : (n w : ℕ) → w ≤ n → kept_in new next n ≡ None → (kept_in old start n ≡ None) ⊎ (level_of (kept_in old start w) ≤ base)
  before n w le none = ⊎_elim
      (λ (lt : next < n). inl (sym (past n lt) ∙ none))
      (λ (more : n ≤ next). inr (passed w (omega (arith, le, more))))
      (cases_lt next n)

-- A FAMILY'S LIST
pub room_trimmed : (qs : List (VecDeque Kept Global)) (f : ℕ) (q r : VecDeque Kept Global) → f < length qs → q ≡ get_or qs f q → deque_len r ≤ deque_len q → deque_capacity r ≡ deque_capacity q → (n : ℕ) → All (λ p. deque_len p + n ≤ deque_capacity p) qs → All (λ p. deque_len p + n ≤ deque_capacity p) (set qs f r)
room_trimmed qs f q r inside at len same n all =
    let old : deque_len q + n ≤ deque_capacity q = rw at (All-get_or (λ (p : VecDeque Kept Global). deque_len p + n ≤ deque_capacity p) qs f q inside all) in
    All-set (λ (p : VecDeque Kept Global). deque_len p + n ≤ deque_capacity p) qs f r (omega (arith, old, len, same)) all

-- LEVELS
pub trimmed : (l : Levels) (ps : VecDeque Kept Global) (qs : Vec (VecDeque Kept Global) Global) (ss : Vec ℕ Global) (dropped : ℕ) → IsTrimmedList l.base l.plains.items ps.items → dropped + length ps.items ≡ l.dropped + length l.plains.items → ((f : ℕ) → IsTrimmedList l.base (family_at l.versions.items f) (family_at qs.items f)) → ((f : ℕ) → get_or ss.items f 0 + length (family_at qs.items f) ≡ get_or l.starts.items f 0 + length (family_at l.versions.items f)) → length qs.items ≡ length l.versions.items → deque_len ps ≤ deque_len l.plains → deque_capacity ps ≡ deque_capacity l.plains → ((n : ℕ) → All (λ q. deque_len q + n ≤ deque_capacity q) l.versions.items → All (λ q. deque_len q + n ≤ deque_capacity q) qs.items) → IsTrimmed l (record { ended = l.ended; base = l.base; plains = ps; dropped = dropped; versions = qs; starts = ss; rows = l.rows })
trimmed l ps qs ss dropped plain plain_ends versions version_ends count fewer same_room room = record {
  ended = refl;
  base = refl;
  rows = refl;
  kept = kept;
  above = over;
  before = λ n w le none. before l.base l.plains.items ps.items plain l.dropped dropped plain_ends n w le none;
  plain_count = plain_ends;
  version_count = version_ends;
  families = count;
  room = λ n r. record { plains = omega (arith, r.plains, fewer, same_room); rows = r.rows; versions = room n r.versions; limit = r.limit };
}
  where
    m : Levels
    m = record { ended = l.ended; base = l.base; plains = ps; dropped = dropped; versions = qs; starts = ss; rows = l.rows }

    kept : (x : Element) (k : Kept) → kept_by m x ≡ Some k → kept_by l x ≡ Some k
    kept (Plain n) k is = still l.base l.plains.items ps.items plain l.dropped dropped plain_ends n k is
    kept (Version f v) k is = still l.base (family_at l.versions.items f) (family_at qs.items f) (versions f) (get_or l.starts.items f 0) (get_or ss.items f 0) (version_ends f) v k is

    over : (x : Element) → l.base < level_by l x → kept_by m x ≡ kept_by l x
    over (Plain n) up = above l.base l.plains.items ps.items plain l.dropped dropped plain_ends n up
    over (Version f v) up = above l.base (family_at l.versions.items f) (family_at qs.items f) (versions f) (get_or l.starts.items f 0) (get_or ss.items f 0) (version_ends f) v up

-- A GRAPH OF WHICH NO ROUND IS OUT
module _ (s : State) (l m : Levels) (is : IsTrimmed l m) where
  -- a level above the base is kept
  pub level_above : (x : Element) (n : ℕ) → l.base < n → level_by l x ≡ n → level_by m x ≡ n
  level_above x n up lv = ap level_of (is.above x (omega (arith, up, lv))) ∙ lv

  pub level_less : (x : Element) (n : ℕ) → 0 < n → level_by m x ≡ n → level_by l x ≡ n
  level_less x n up lv = let k = kept_from (kept_by m x) (omega (arith, up, lv)) in ap level_of (is.kept x k.0 k.1) ∙ sym (ap level_of k.1) ∙ lv

  pub level_low : (x : Element) → level_by m x ≤ level_by l x
  level_low x = from (kept_by m x) refl
    where
      from : (o : Option Kept) → kept_by m x ≡ o → level_by m x ≤ level_by l x
      from None none = omega (arith, ap level_of none)
      from (Some k) some = omega (arith, ap level_of some, ap level_of (is.kept x k some))

  module _ (ix : IsIndexed s l) (still : l.base ≡ l.ended) where
    pub indexed_trimmed : s.round ≡ None → IsIndexed s m
    indexed_trimmed none = record {
      levels = subst (λ b. AreKeptLevels (after s) b (level_by m)) (sym is.base) (record {
        waiting = λ x n h. (let lv = ix.levels.waiting x n h in level_above x (l.base + n) (let p = height_positive (after s) x n h in omega (arith, p)) lv);
        gone = λ x hi. ix.levels.gone x (omega (arith, hi, level_low x));
      });
      tops = subst (λ b. AreTops (kept_by m) b s.staging.staged) (sym is.ended) (record {
        above = λ n w k le it hi. (let lv = level_less (Plain w) (level_by m (Plain w)) (omega (arith, hi)) refl in omega (arith, lv, ix.tops.above n w k le (is.kept (Plain n) k it) (omega (arith, lv, hi))));
        least = λ n k it hi. (let r = ix.tops.least n k (is.kept (Plain n) k it) hi in (r.0, r.1, level_above (Plain k.least) k.top (omega (arith, hi, still)) r.2));
        none = λ n w le lower it. ⊎_elim
            (λ (o : kept_by l (Plain n) ≡ None). omega (arith, level_low (Plain w), ix.tops.none n w le lower o))
            (λ (o : level_by l (Plain w) ≤ l.base). omega (arith, level_low (Plain w), o, still))
            (is.before n w lower it);
      });
      rows = subst (λ rs. AreRows (kept_by m) m.ended rs) (sym is.rows) (subst (λ e. AreRows (kept_by m) e l.rows.items) (sym is.ended) (record {
        plain = λ i n lv. ix.rows.plain i n (level_less (Plain n) (l.ended + i + 1) (omega arith) lv);
        first = λ i some. level_above (Plain (row_at l.rows.items i).first) (l.ended + i + 1) (omega (arith, still)) (ix.rows.first i some);
        last = λ i some. level_above (Plain (row_at l.rows.items i).last) (l.ended + i + 1) (omega (arith, still)) (ix.rows.last i some);
        empty = ix.rows.empty;
        version = λ i f v lv. ix.rows.version i f v (level_less (Version f v) (l.ended + i + 1) (omega arith) lv);
        greatest = λ i f some. level_above (Version f (get_or (row_at l.rows.items i).versions f 0)) (l.ended + i + 1) (omega (arith, still)) (ix.rows.greatest i f some);
      }));
      linked = subst (λ e. AreLinked (kept_by m) e) (sym is.ended) (record {
        up = λ n k it hi some. (let r = ix.linked.up n k (is.kept (Plain n) k it) hi some in (r.0, level_above (Plain k.next) k.level (omega (arith, hi, still)) r.1));
        passed = λ n b k it hi less lv. ix.linked.passed n b k (is.kept (Plain n) k it) hi less (level_less (Plain b) k.level (omega (arith, hi)) lv);
      });
      before = λ x k it hi. (let b = ix.before x k (is.kept x k it) (omega (arith, hi, is.base)) in (b.0, b.1, b.2, ap (λ n. n + 1) (level_above b.0 (level_by l b.0) (omega (arith, b.3, hi, is.base)) refl) ∙ b.3));
      within = λ x. omega (arith, level_low x, ix.within x, is.ended, ap length is.rows);
      deepest = λ some. (let r = ix.deepest (omega (arith, some, ap length is.rows)) in (r.0, level_above r.0 (level_by l r.0) (omega (arith, r.1, some, ap length is.rows, still)) refl ∙ r.1 ∙ omega (arith, is.ended, ap length is.rows)));
      low = omega (arith, is.base, is.ended, ix.low);
      high = omega (arith, is.base, is.ended, ix.high, ap length is.rows);
      near = omega (arith, is.base, is.ended, ix.near);
      still = λ e. is.base ∙ still ∙ sym is.ended;
      plain_count = is.plain_count ∙ ix.plain_count;
      version_count = λ f. is.version_count f ∙ ix.version_count f;
      families = is.families ∙ ix.families;
      at_most = ix.at_most;
      room = is.room s.room ix.room;
      ready = ix.ready;
      out = λ x o. absurd (cc (sym none ∙ o.1));
      first = λ lt x q. absurd (omega (arith, lt, is.base, is.ended, still));
      rows_wide = λ i. ap (λ rs. length (row_at rs i).versions) is.rows ∙ ix.rows_wide i;
    }

    row_forth : (i : ℕ) (x : Element) → IsInRow (kept_by l) l.ended l.rows.items i x → IsInRow (kept_by m) m.ended m.rows.items i x
    row_forth i (Plain n) q = level_above (Plain n) (l.ended + i + 1) (omega (arith, still)) q ∙ ap (λ e. e + i + 1) (sym is.ended)
    row_forth i (Version f v) q = (q.0, ap (λ rs. get_or (row_at rs i).versions f 0) is.rows ∙ q.1)

    row_back : (i : ℕ) (x : Element) → IsInRow (kept_by m) m.ended m.rows.items i x → IsInRow (kept_by l) l.ended l.rows.items i x
    row_back i (Plain n) q = level_less (Plain n) (l.ended + i + 1) (omega arith) (q ∙ ap (λ e. e + i + 1) is.ended)
    row_back i (Version f v) q = (q.0, sym (ap (λ rs. get_or (row_at rs i).versions f 0) is.rows) ∙ q.1)

    pub filed_trimmed : (records : Slab Record) → AreFiled l records → AreFiled m records
    filed_trimmed records filed = record {
      here = λ x k q at. filed.here x k (q.0, row_back q.0 x q.1) (is.kept x k at);
      there = λ key r at. (let h = filed.there key r at in let lv = row_level l l.ended l.rows.items ix.rows h.3.0 r.element h.3.1 in (h.0, is.above r.element (omega (arith, lv, still)) ∙ h.1, h.2, (h.3.0, row_forth h.3.0 r.element h.3.1)));
    }
