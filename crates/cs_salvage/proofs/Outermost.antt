-- Of parts in the order in which they lie, one that counts is outside of the others.
use Rattle.std.proofs.Common.{◌≡◌, ◌∙◌, ◌⊎◌, ℕ, ◌+◌, ◌<◌, ◌≤◌, List, None, Some, get_or, length, sym, ap, subst, inl, inr, ⊎_elim, arith}
use Rattle.std.specs.List.{AllPairs, Contains}
use Rattle.std.specs.Prelude.{max}
use Rattle.std.proofs.lemmas.Bool.{cases_lt}
use Rattle.std.proofs.lemmas.List.Elements.{Contains-get_or}
use Rattle.std.proofs.lemmas.Option.{same_Some}
use Rattle.cs_salvage.specs.declared.parts.Part.{Part}
use Rattle.cs_salvage.specs.declared.scans.Counted.{Counted}
use Rattle.cs_salvage.specs.Greatest.{BeginsWithin, CountsOn, IsOfOneOutside, IsOutside, IsWithinLast, IsWithinOneOf}
use Rattle.cs_salvage.specs.Parts.{IsBefore}
use Rattle.cs_salvage.proofs.Sames.{at_any}
use Rattle.cs_salvage.proofs.Scanning.{which_max}

-- ---- the order in which parts lie

-- a part lies before what begins within it
before_within : (a b : Part) → BeginsWithin a b → IsBefore b a → ⊥
before_within a b within (inl extents) = let same = within.0 in absurd (omega (arith, same, extents))
before_within a b within (inr pages) = let less = within.1 in let other = pages.1 in absurd (omega (arith, less, other))

not_within_itself : (a b : Part) → a ≡ b → BeginsWithin a b → ⊥
not_within_itself a b same within = let less = within.1 in let page = ap (λ (p : Part). p.page) same in absurd (omega (arith, less, page))

-- what lies between a part and one that begins within it begins within it too
between : (a b c : Part) → IsBefore a b → IsBefore b c → BeginsWithin a c → BeginsWithin a b
between a b c (inl first) (inl second) within = let same = within.0 in absurd (omega (arith, same, first, second))
between a b c (inl first) (inr second) within = let same = within.0 in let extent = second.0 in absurd (omega (arith, same, first, extent))
between a b c (inr first) (inl second) within = let same = within.0 in let extent = first.0 in absurd (omega (arith, same, second, extent))
between a b c (inr first) (inr second) within = (first.0, first.1, let low = second.1 in let high = within.2 in omega (arith, low, high))

-- ---- parts, one after another

-- a part is the last one that counted, or lies before that, which doesn't begin within it
abbrev IsDone : Counted → Part → Type 0
IsDone counted part = (newest : Part) × (counted.last ≡ Some newest) × ((part ≡ newest) ⊎ (IsBefore part newest × (BeginsWithin part newest → ⊥)))

-- So many of the parts were counted. The last one that counted is one of these, and each of these is done, or begins
-- within another one.
pub record AreOutsideTo (parts : List Part) (k : ℕ) (counted : Counted) : Type 0 where
  pub newest_there : (newest : Part) → counted.last ≡ Some newest → (i : ℕ) × (i < k) × (get_or parts i newest ≡ newest)
  pub each : (j : ℕ) (d : Part) → j < k → IsWithinOneOf parts (get_or parts j d) ⊎ IsDone counted (get_or parts j d)
  pub sound : IsOfOneOutside parts counted.greatest

pub none_outside : (parts : List Part) (counted : Counted) → counted.greatest ≡ 0 → counted.last ≡ None → AreOutsideTo parts 0 counted
none_outside parts counted zero none = record {
  newest_there = λ newest is. absurd (cc (none, is));
  each = λ j d lt. absurd (omega (arith, lt));
  sound = inl zero;
}

-- and one more
module _ (parts : List Part) (k : ℕ) (inside : k < length parts) (ordered : AllPairs IsBefore parts) (part : Part) (at : part ≡ get_or parts k part) (old new : Counted) (was : AreOutsideTo parts k old) where
  there : Contains parts part
  there = subst (Contains parts) (sym at) (Contains-get_or parts k part inside)

  here : (d : Part) → get_or parts k d ≡ part
  here d = at_any parts k inside d part ∙ sym at

  lies_before : (j : ℕ) (d : Part) → j < k → IsBefore (get_or parts j d) part
  lies_before j d lt = subst (IsBefore (get_or parts j d)) (here d) (ordered j k d lt inside)

  newest_before : (newest : Part) → old.last ≡ Some newest → IsBefore newest part
  newest_before newest is = let it = was.newest_there newest is in subst (λ (p : Part). IsBefore p part) it.2 (lies_before it.0 newest it.1)

  -- what begins within one that is done begins within the last one that counted
  within_done : (outer : Part) → IsDone old outer → BeginsWithin outer part → IsWithinLast old part
  within_done outer (newest, is, inl same) within = (newest, is, subst (λ (p : Part). BeginsWithin p part) same within)
  within_done outer (newest, is, inr free) within = absurd (free.1 (between outer newest part free.0 (newest_before newest is) within))

  module _ (counts : IsWithinLast old part → ⊥) where
    outside : IsOutside parts part
    outside outer (j, lt, same) within = ⊎_elim
        (λ (less : j < k).
        subst (IsWithinOneOf parts) same (⊎_elim
        (λ (inner : IsWithinOneOf parts (get_or parts j outer)). inner)
        (λ (done : IsDone old (get_or parts j outer)). absurd (counts (within_done (get_or parts j outer) done (subst (λ (p : Part). BeginsWithin p part) (sym same) within))))
        (was.each j outer less)))
        (λ (le : k ≤ j). ⊎_elim
        (λ (further : k < j). absurd (before_within outer part within (subst (IsBefore part) same (subst (λ (p : Part). IsBefore p (get_or parts j outer)) (here outer) (ordered k j outer further lt)))))
        (λ (also : j ≤ k).
        let i : k ≡ j = omega (arith, le, also) in
        absurd (not_within_itself outer part (sym same ∙ ap (λ (n : ℕ). get_or parts n outer) (sym i) ∙ here outer) within))
        (cases_lt k j))
        (cases_lt j k)

    done_still : new.last ≡ Some part → (j : ℕ) (d : Part) → j < k → IsWithinOneOf parts (get_or parts j d) ⊎ IsDone old (get_or parts j d) → IsWithinOneOf parts (get_or parts j d) ⊎ IsDone new (get_or parts j d)
    done_still counted j d lt (inl inner) = inl inner
    done_still counted j d lt (inr done) = inr (part, counted, inr (lies_before j d lt, λ within. counts (within_done (get_or parts j d) done within)))

    pub one_outside : new.greatest ≡ max old.greatest part.head.command → new.last ≡ Some part → AreOutsideTo parts (k + 1) new
    one_outside greatest counted = record {
      newest_there = λ other is. let same : part ≡ other = same_Some part other (sym counted ∙ is) in (k, omega arith, here other ∙ same);
      each = λ j d lt. ⊎_elim
          (λ (less : j < k). done_still counted j d less (was.each j d less))
          (λ (le : k ≤ j).
          let i : k ≡ j = omega (arith, le, lt) in
          inr (part, counted, inl (ap (λ (n : ℕ). get_or parts n d) (sym i) ∙ here d)))
          (cases_lt j k);
      sound = ⊎_elim
          (λ (same : new.greatest ≡ old.greatest). subst (IsOfOneOutside parts) (sym same) was.sound)
          (λ (fresh : new.greatest ≡ part.head.command). inr (part, there, outside, sym fresh))
          (which_max old.greatest part.head.command new.greatest greatest);
    }

  pub one_inner : IsWithinLast old part → AreOutsideTo parts (k + 1) old
  one_inner inner = record {
    newest_there = λ other is. let it = was.newest_there other is in (it.0, omega (arith, it.1), it.2);
    each = λ j d lt. ⊎_elim
        (λ (less : j < k). was.each j d less)
        (λ (le : k ≤ j).
        let i : k ≡ j = omega (arith, le, lt) in
        let it = was.newest_there inner.0 inner.1 in
        let outer_there : Contains parts inner.0 = subst (Contains parts) it.2 (Contains-get_or parts it.0 inner.0 (omega (arith, it.1, inside))) in
        inl (inner.0, outer_there, subst (BeginsWithin inner.0) (sym (ap (λ (n : ℕ). get_or parts n d) (sym i) ∙ here d)) inner.2))
        (cases_lt j k);
    sound = was.sound;
  }

  pub one_tested : CountsOn old part new → AreOutsideTo parts (k + 1) new
  one_tested (inl it) = subst (AreOutsideTo parts (k + 1)) (sym it.1) (one_inner it.0)
  one_tested (inr it) = one_outside it.0 it.1 it.2
