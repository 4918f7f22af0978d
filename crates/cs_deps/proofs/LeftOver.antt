-- What waits once a round has joined, by levels and floors.
use Rattle.std.proofs.Common.{◌≡◌, ◌∙◌, ℕ, ◌<◌, ◌≤◌, Bool, true, false, List, get_or, Option, Some, slice_get, refl, sym, ap, subst, ⊎_elim, arith}
use Rattle.std.specs.Prelude.{filter, nat_lt, ◌&&◌, if◌then◌else◌}
use Rattle.std.proofs.lemmas.Bool.{cases_lt, lt-ltb, le-ltb}
use Rattle.std.proofs.lemmas.Bool.Decides.{nat_tests}
use Rattle.cs_deps.specs.declared.elements.Element.{Element}
use Rattle.cs_deps.specs.declared.elements.Element.TheVariants.{Plain, Version}
use Rattle.cs_deps.specs.declared.levels.Levels.{Levels}
use Rattle.cs_deps.specs.Named.{Named}
use Rattle.cs_deps.specs.Pending.{Waits}
use Rattle.cs_deps.specs.Staging.{is_left_waiting, raised, waits_still}
use Rattle.cs_deps.specs.State.{State, Write, after_round}
use Rattle.cs_deps.specs.Entries.{state_of, entry_stays, AreCurrent, IsSound}
use Rattle.cs_deps.specs.Levels.{level_by, level_of, entry_live, live_of, floor_of, IsIndexed, IsLevelsSettled}
use Rattle.cs_deps.specs.Trimmed.{IsTrimmed}
use Rattle.cs_deps.proofs.Entries.{listed_now}
use Rattle.cs_deps.proofs.Filtered.{filter_keeps}
use Rattle.cs_deps.proofs.Live.{filter_twice}
use Rattle.cs_deps.proofs.Settled.{came}
use Rattle.cs_deps.proofs.Tops.{up}
use Rattle.cs_deps.proofs.Trimmed.{level_above, level_low}

module _ (s : State) (whole : IsSound s) (l : Levels) (ix : IsIndexed s l) (round : List Element) (is : s.round ≡ Some round) where
  -- a plain write that waits is left exactly where its level is above the base
  pub level_test : (n : ℕ) → Waits s.staging.pending (Plain n) → nat_lt l.base (level_by l (Plain n)) ≡ waits_still round (Plain n)
  level_test n w = test (waits_still round (Plain n)) refl
    where
      test : (b : Bool) → waits_still round (Plain n) ≡ b → nat_lt l.base (level_by l (Plain n)) ≡ b
      test true q =
          let r = filter_keeps (is_left_waiting round) s.staging.pending.waiting w.0 (Plain n, w.1) w.2 q in
          lt-ltb l.base (level_by l (Plain n)) (up s whole l ix (Plain n) (subst (λ o. Waits (after_round s.staging.pending o) (Plain n)) (sym is) (r.0, w.1, r.1)))
      test false q = ⊎_elim
          (λ (lt : l.base < level_by l (Plain n)).
          let a = subst (λ o. Waits (after_round s.staging.pending o) (Plain n)) is (ix.levels.gone (Plain n) lt) in
          let c = came s.staging.pending whole.kept.staged round a.0 (Plain n) a.1 a.2 in
          let both : true ≡ false = sym c.2 ∙ q in absurd (cc both))
          (λ (le : level_by l (Plain n) ≤ l.base). le-ltb l.base (level_by l (Plain n)) le)
          (cases_lt l.base (level_by l (Plain n)))

module _ (s : State) (l : Levels) (ix : IsIndexed s l) (m : Levels) (none : l.base ≤ l.ended → m ≡ l) (one : l.ended < l.base → IsLevelsSettled l m) (o : Levels) (t : IsTrimmed m o) (still : m.base ≡ m.ended) where
  -- once the round is settled the rounds that ended are the base
  settled_test : (n : ℕ) → nat_lt m.ended (level_by m (Plain n)) ≡ nat_lt l.base (level_by l (Plain n))
  settled_test n = ⊎_elim
      (λ (lt : l.ended < l.base). let r = one lt in ap (λ b. nat_lt b (level_by m (Plain n))) r.ended ∙ ap (λ k. nat_lt l.base (level_of k)) (r.kept (Plain n)))
      (λ (le : l.base ≤ l.ended). let e : l.ended ≡ l.base = omega (arith, le, ix.low) in ap (λ (u : Levels). nat_lt u.ended (level_by u (Plain n))) (none le) ∙ ap (λ b. nat_lt b (level_by l (Plain n))) e)
      (cases_lt l.ended l.base)

  trimmed_test : (n : ℕ) → nat_lt o.ended (level_by o (Plain n)) ≡ nat_lt m.ended (level_by m (Plain n))
  trimmed_test n = ap (λ b. nat_lt b (level_by o (Plain n))) t.ended ∙ ⊎_elim
      (λ (lt : m.ended < level_by m (Plain n)). ap (λ v. nat_lt m.ended v) (level_above s m o t (Plain n) (level_by m (Plain n)) (omega (arith, lt, still)) refl))
      (λ (le : level_by m (Plain n) ≤ m.ended). le-ltb m.ended (level_by o (Plain n)) (omega (arith, le, level_low s m o t (Plain n))) ∙ sym (le-ltb m.ended (level_by m (Plain n)) le))
      (cases_lt m.ended (level_by m (Plain n)))

  pub base_test : (n : ℕ) → nat_lt o.ended (level_by o (Plain n)) ≡ nat_lt l.base (level_by l (Plain n))
  base_test n = trimmed_test n ∙ settled_test n

module _ (ps : List ℕ) (es : List (Element × Named)) (n : ℕ) (latest : List ℕ) (out : Option (List Element)) (ws : List (Element × Write)) (room : ℕ) (l : Levels) (floors : List ℕ) (whole : IsSound (state_of ps (live_of l floors es) n latest out ws room)) (current : AreCurrent ps latest (live_of l floors es)) (ix : IsIndexed (state_of ps (live_of l floors es) n latest out ws room) l) (m : Levels) (none : l.base ≤ l.ended → m ≡ l) (one : l.ended < l.base → IsLevelsSettled l m) (o : Levels) (t : IsTrimmed m o) (still : m.base ≡ m.ended) (round : List Element) (is : out ≡ Some round) (next : List ℕ) (low : (f : ℕ) → get_or floors f 0 ≤ get_or latest f 0) (raises : (f : ℕ) → get_or next f 0 ≡ floor_of (get_or (raised ps round) f 0) (get_or latest f 0) (get_or floors f 0)) where
  -- of the entries that were of use those are left that stay
  pub live_settled : live_of o next es ≡ filter (λ w. entry_stays round (raised ps round) latest w.0) (live_of l floors es)
  live_settled = filter_twice (λ (w : Element × Named). entry_live o next w.0) (λ w. entry_stays round (raised ps round) latest w.0) (λ w. entry_live l floors w.0) es each
    where
      plain : (k a : ℕ) (d : Named) → slice_get es k ≡ Some (Plain a, d) → (b : Bool) → nat_lt l.ended (level_by l (Plain a)) ≡ b → nat_lt o.ended (level_by o (Plain a)) ≡ (b && waits_still round (Plain a))
      plain k a d at true q =
          let r = filter_keeps (λ (w : Element × Named). entry_live l floors w.0) es k (Plain a, d) at q in
          let w = listed_now ps (live_of l floors es) r.0 (Plain a) d r.1 refl in
          base_test (state_of ps (live_of l floors es) n latest out ws room) l ix m none one o t still a ∙ level_test (state_of ps (live_of l floors es) n latest out ws room) whole l ix round is a (w.0, d, w.1)
      plain k a d at false q =
          let le : level_by l (Plain a) ≤ l.ended = grind (arith, nat_tests) in
          base_test (state_of ps (live_of l floors es) n latest out ws room) l ix m none one o t still a ∙ le-ltb l.base (level_by l (Plain a)) (omega (arith, le, ix.low))

      below : (k f v : ℕ) (d : Named) → slice_get es k ≡ Some (Version f v, d) → (b : Bool) → nat_lt (get_or floors f 0) v ≡ b → v ≤ get_or latest f 0
      below k f v d at true q = (let r = filter_keeps (λ (w : Element × Named). entry_live l floors w.0) es k (Version f v, d) at q in (current r.0 f v d r.1).0)
      below k f v d at false q = (let le : v ≤ get_or floors f 0 = grind (arith, nat_tests) in omega (arith, le, low f))

      version : (k f v : ℕ) (d : Named) → slice_get es k ≡ Some (Version f v, d) → (b : Bool) → nat_lt (get_or (raised ps round) f 0) (get_or latest f 0) ≡ b → nat_lt (get_or next f 0) v ≡ (nat_lt (get_or floors f 0) v && b)
      version k f v d at true q = ap (λ g. nat_lt g v) (raises f ∙ ap (λ b. if b then get_or floors f 0 else get_or latest f 0) q) ∙ with_true (nat_lt (get_or floors f 0) v)
        where
          with_true : (c : Bool) → c ≡ (c && true)
          with_true true = refl
          with_true false = refl
      version k f v d at false q = ap (λ g. nat_lt g v) (raises f ∙ ap (λ b. if b then get_or floors f 0 else get_or latest f 0) q) ∙ le-ltb (get_or latest f 0) v (below k f v d at (nat_lt (get_or floors f 0) v) refl) ∙ with_false (nat_lt (get_or floors f 0) v)
        where
          with_false : (c : Bool) → false ≡ (c && false)
          with_false true = refl
          with_false false = refl

      each : (k : ℕ) (w : Element × Named) → slice_get es k ≡ Some w → entry_live o next w.0 ≡ (entry_live l floors w.0 && entry_stays round (raised ps round) latest w.0)
      each k (Plain a, d) at = plain k a d at (nat_lt l.ended (level_by l (Plain a))) refl
      each k (Version f v, d) at = version k f v d at (nat_lt (get_or (raised ps round) f 0) (get_or latest f 0)) refl

-- a floor is no higher than the last version
pub floor_low : (persistent latest floor : ℕ) → floor ≤ latest → floor_of persistent latest floor ≤ latest
floor_low persistent latest floor le = go (nat_lt persistent latest)
  where
    go : (b : Bool) → (if b then floor else latest) ≤ latest
    go true = le
    go false = omega arith
