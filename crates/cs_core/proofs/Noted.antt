-- The roots that a store notes.
use Rattle.std.proofs.Common.{◌≡◌, ⊎_elim, ◌∙◌, ℕ, zero, suc, ◌<◌, ◌≤◌, List, [], ◌∷◌, ◌++◌, refl, sym, ap, subst, arith}
use Rattle.std.specs.Prelude.{Contains, slice_index_or}
use Rattle.std.proofs.lemmas.List.Elements.{Contains-append_cases, Contains-append_right}
use Rattle.cs_core.specs.declared.histories.Root.{Root}
use Rattle.cs_core.specs.Frontiers.{AreNoted, AreRising, LetsGo}

-- ---- roots that rise

-- no later than the latest, with no more commands than were accepted
within : (v c : ℕ) (rs : List Root) (l a : ℕ) → AreRising v c rs l a → (v ≤ l) × (c ≤ a)
within v c [] l a up = up
within v c (r ∷ rs) l a up = let rest = within r.version r.commands rs l a up.2 in (omega (arith, up.0, rest.0), omega (arith, up.1, rest.1))

-- from one of them on
onward : (v c : ℕ) (gone : List Root) (r : Root) (rs : List Root) (l a : ℕ) → AreRising v c (gone ++ r ∷ rs) l a → (v < r.version) × (c ≤ r.commands) × AreRising r.version r.commands rs l a
onward v c [] r rs l a up = up
onward v c (g ∷ gs) r rs l a up = let rest = onward g.version g.commands gs r rs l a up.2 in (omega (arith, up.0, rest.0), omega (arith, up.1, rest.1), rest.2)

-- those before one of them are earlier
earlier : (v c : ℕ) (gone : List Root) (r : Root) (rs : List Root) (l a : ℕ) → AreRising v c (gone ++ r ∷ rs) l a → (q : Root) → Contains gone q → q.version < r.version
earlier v c [] r rs l a up q (k, lt, at) = absurd (omega (arith, lt))
earlier v c (g ∷ gs) r rs l a up q (zero, lt, at) = subst (λ (u : Root). u.version < r.version) at (onward g.version g.commands gs r rs l a up.2).0
earlier v c (g ∷ gs) r rs l a up q (suc k, lt, at) = earlier g.version g.commands gs r rs l a up.2 q (k, omega (arith, lt), at)

-- all of them are later than the first of them, or that one
later : (v c : ℕ) (rs : List Root) (l a : ℕ) → AreRising v c rs l a → (p : ℕ) → ((r : Root) (later : List Root) → rs ≡ r ∷ later → p < r.version) → (q : Root) → Contains rs q → p < q.version
later v c [] l a up p first q (k, lt, at) = absurd (omega (arith, lt))
later v c (r ∷ rs) l a up p first q (zero, lt, at) = subst (λ (u : Root). p < u.version) at (first r rs refl)
later v c (r ∷ rs) l a up p first q (suc k, lt, at) =
    later r.version r.commands rs l a up.2 p (λ s more is. let here = first r rs refl in let next = (onward r.version r.commands [] s more l a (subst (λ (us : List Root). AreRising r.version r.commands us l a) is up.2)).0 in omega (arith, here, next)) q (k, omega (arith, lt), at)

-- more were accepted
accepts : (v c : ℕ) (rs : List Root) (l a b : ℕ) → a ≤ b → AreRising v c rs l a → AreRising v c rs l b
accepts v c [] l a b more up = (up.0, omega (arith, up.1, more))
accepts v c (r ∷ rs) l a b more up = (up.0, up.1, accepts r.version r.commands rs l a b more up.2)

-- one was staged that is later than all, and includes all that were accepted
pushed : (v c : ℕ) (rs : List Root) (l a next : ℕ) → l < next → AreRising v c rs l a → AreRising v c (rs ++ record { version = next; commands = a } ∷ []) next a
pushed v c [] l a next lt up = (omega (arith, up.0, lt), up.1, (omega arith, omega arith))
pushed v c (r ∷ rs) l a next lt up = (up.0, up.1, pushed r.version r.commands rs l a next lt up.2)

-- ---- roots that a store notes

-- one is noted last, where room was made before
pub pushed_last : (new roomy old : List Root) (r : Root) → new ≡ roomy ++ r ∷ [] → roomy ≡ old → new ≡ old ++ r ∷ []
pushed_last new roomy old r items same = items ∙ ap (λ (rs : List Root). rs ++ r ∷ []) same

-- the first that is left, as it is read
pub first_left : (p : ℕ) (roots rest : List Root) (goes : LetsGo p roots rest) (r : Root) → r ≡ slice_index_or rest 0 r → r.commands ≡ goes.first.commands
first_left p roots rest goes r is = ap (λ (u : Root). u.commands) (is ∙ ap (λ (us : List Root). slice_index_or us 0 r) goes.left)

-- a store begins on one root
pub noted_alone : (v p : ℕ) → p ≡ v → AreNoted p p (record { version = v; commands = 0 } ∷ []) 0 0
noted_alone v p same = record {
  first = record { version = v; commands = 0 };
  waiting = [];
  are = refl;
  settled = omega (arith, same);
  waits = λ r rs is. absurd (cc is);
  frontier_is = refl;
  rising = (omega (arith, same), omega arith);
}

module _ (p l : ℕ) (roots : List Root) (f a : ℕ) (are : AreNoted p l roots f a) where
  -- no more commands are persistent than were accepted
  pub frontier_within : f ≤ a
  frontier_within = let all = within are.first.version are.first.commands are.waiting l a are.rising in omega (arith, all.1, are.frontier_is)

  -- the first is persistent, and was staged
  pub noted_settled : (r : Root) (rs : List Root) → roots ≡ r ∷ rs → (r.version ≤ p) × (r.version ≤ l)
  noted_settled r rs is =
      let same : are.first ≡ r = (let e : are.first ∷ are.waiting ≡ r ∷ rs = sym are.are ∙ is in cc e) in
      subst (λ (u : Root). (u.version ≤ p) × (u.version ≤ l)) same (are.settled, (within are.first.version are.first.commands are.waiting l a are.rising).0)

  -- more commands were accepted
  pub noted_accepted : (b : ℕ) → a ≤ b → AreNoted p l roots f b
  noted_accepted b more = record {
    first = are.first;
    waiting = are.waiting;
    are = are.are;
    settled = are.settled;
    waits = are.waits;
    frontier_is = are.frontier_is;
    rising = accepts are.first.version are.first.commands are.waiting l a b more are.rising;
  }

  -- a root was staged
  pub noted_pushed : (next : ℕ) → p ≤ l → l < next → AreNoted p next (roots ++ record { version = next; commands = a } ∷ []) f a
  noted_pushed next low lt = record {
    first = are.first;
    waiting = are.waiting ++ record { version = next; commands = a } ∷ [];
    are = ap (λ (rs : List Root). rs ++ record { version = next; commands = a } ∷ []) are.are;
    settled = are.settled;
    waits = λ r rs is. first_waits are.waiting are.waits r rs is;
    frontier_is = are.frontier_is;
    rising = pushed are.first.version are.first.commands are.waiting l a next lt are.rising;
  }
    where
      first_waits : (ws : List Root) → ((r : Root) (rs : List Root) → ws ≡ r ∷ rs → p < r.version) → (r : Root) (rs : List Root) → ws ++ record { version = next; commands = a } ∷ [] ≡ r ∷ rs → p < r.version
      first_waits [] wait r rs is = let same : record { version = next; commands = a } ≡ r = cc is in subst (λ (u : Root). p < u.version) same (omega (arith, low, lt))
      first_waits (w ∷ ws) wait r rs is = let same : w ≡ r = cc is in subst (λ (u : Root). p < u.version) same (wait w ws refl)

  -- the first alone has no later version than what is persistent
  pub noted_first : (q : Root) → Contains roots q → q.version ≤ p → q.commands ≡ f
  noted_first q has old = go (subst (λ (rs : List Root). Contains rs q) are.are has)
    where
      go : Contains (are.first ∷ are.waiting) q → q.commands ≡ f
      go (zero, lt, at) = ap (λ (u : Root). u.commands) (sym at) ∙ are.frontier_is
      go (suc k, lt, at) = let young : p < q.version = later are.first.version are.first.commands are.waiting l a are.rising p are.waits q (k, omega (arith, lt), at) in absurd (omega (arith, young, old))

  -- those before the newest that is persistent now are let go of
  module _ (persistent : ℕ) (rest : List Root) (goes : LetsGo persistent roots rest) where
    parts : (gone : List Root) → are.first ∷ are.waiting ≡ gone ++ goes.first ∷ goes.waiting
        → (f ≤ goes.first.commands) × AreRising goes.first.version goes.first.commands goes.waiting l a × ((q : Root) → Contains gone q → q.version < goes.first.version)
    parts [] same =
        let first : are.first ≡ goes.first = cc same in
        let waiting : are.waiting ≡ goes.waiting = cc same in (
          (let count = ap (λ (u : Root). u.commands) first in omega (arith, count, are.frontier_is)),
          subst (λ (u : Root). AreRising u.version u.commands goes.waiting l a) first (subst (λ (us : List Root). AreRising are.first.version are.first.commands us l a) waiting are.rising),
          λ q has. absurd (let lt : has.0 < 0 = has.1 in omega (arith, lt)),
        )
    parts (g ∷ gs) same =
        let first : are.first ≡ g = cc same in
        let waiting : are.waiting ≡ gs ++ goes.first ∷ goes.waiting = cc same in
        let up : AreRising g.version g.commands (gs ++ goes.first ∷ goes.waiting) l a =
        subst (λ (u : Root). AreRising u.version u.commands (gs ++ goes.first ∷ goes.waiting) l a) first (subst (λ (us : List Root). AreRising are.first.version are.first.commands us l a) waiting are.rising) in
        let on = onward g.version g.commands gs goes.first goes.waiting l a up in (
          (let count = ap (λ (u : Root). u.commands) first in omega (arith, count, are.frontier_is, on.1)),
          on.2,
          λ q has. before g gs up on.0 q has,
        )
      where
        before : (g : Root) (gs : List Root) → AreRising g.version g.commands (gs ++ goes.first ∷ goes.waiting) l a → g.version < goes.first.version → (q : Root) → Contains (g ∷ gs) q → q.version < goes.first.version
        before g gs up lt q (zero, in', at) = subst (λ (u : Root). u.version < goes.first.version) at lt
        before g gs up lt q (suc k, in', at) = earlier g.version g.commands gs goes.first goes.waiting l a up q (k, omega (arith, in'), at)

    abbrev so : (f ≤ goes.first.commands) × AreRising goes.first.version goes.first.commands goes.waiting l a × ((q : Root) → Contains goes.gone q → q.version < goes.first.version)
    so = parts goes.gone (sym are.are ∙ goes.split)

    -- the frontier doesn't fall
    pub left_rises : f ≤ goes.first.commands
    left_rises = so.0

    pub noted_left : AreNoted persistent l rest goes.first.commands a
    noted_left = record {
      first = goes.first;
      waiting = goes.waiting;
      are = goes.left;
      settled = goes.settled;
      waits = goes.waits;
      frontier_is = refl;
      rising = so.1;
    }

    -- what is left was noted
    pub left_old : (q : Root) → Contains rest q → Contains roots q
    left_old q has = subst (λ (rs : List Root). Contains rs q) (sym goes.split) (Contains-append_right goes.gone (goes.first ∷ goes.waiting) q (subst (λ (rs : List Root). Contains rs q) goes.left has))

    -- and of what was noted all is left that is no older than what is persistent
    pub left_new : (q : Root) → Contains roots q → persistent ≤ q.version → Contains rest q
    left_new q has young = ⊎_elim
        (λ (gone : Contains goes.gone q). let old = so.2 q gone in let low = goes.settled in absurd (omega (arith, old, low, young)))
        (λ (left : Contains (goes.first ∷ goes.waiting) q). subst (λ (rs : List Root). Contains rs q) (sym goes.left) left)
        (Contains-append_cases goes.gone (goes.first ∷ goes.waiting) q (subst (λ (rs : List Root). Contains rs q) goes.split has))
