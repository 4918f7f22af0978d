-- Seeking the extent with fewest live pages.
use Rattle.std.proofs.Common.{◌≡◌, ◌≢◌, ◌∙◌, ◌⊎◌, inl, inr, ◌≤◌, ◌<◌, ◌+◌, ℕ, List, Option, None, Some, MatchOption, Bool, true, false, refl, sym, ap, subst, arith, get_or, length}
use Rattle.std.specs.Prelude.{◌↔◌, IsTrue, slice_get}
use Rattle.std.proofs.lemmas.Bool.{cases_eq, cases_lt}
use Rattle.std.proofs.lemmas.Option.{get_or_from_slice_get, same_Some, slice_get_within}
use Rattle.cs_inspect.specs.declared.surveys.ExtentUse.{ExtentUse}
use Rattle.cs_inspect.specs.Fewest.{HasFewer, HasNoFewer, IsFewest, IsFewestLive, IsFewestOf, IsOther, IsSought, NoOther, NoTwoFit, NoneSought}

-- of the first i extents e is the first with fewest live pages
pub record IsFewestBefore (uses : List ExtentUse) (but : Option ℕ) (dead i e : ℕ) : Type 0 where
  pub its : ExtentUse
  pub there : IsSought uses but dead e its
  pub before : e < i
  pub fewest : (k : ℕ) (used : ExtentUse) → k < i → IsSought uses but dead k used → (its.live < used.live) ⊎ ((its.live ≡ used.live) × (e ≤ k))

-- the first of the first i extents, if one was found
abbrev pub IsFewestTo : List ExtentUse → (but : Option ℕ) → (dead i : ℕ) → Option ℕ → Type 0
IsFewestTo uses but dead i found = MatchOption found ((k : ℕ) (used : ExtentUse) → k < i → ¬ IsSought uses but dead k used) (IsFewestBefore uses but dead i)

pub fewest_none : (uses : List ExtentUse) (but : Option ℕ) (dead : ℕ) → IsFewestTo uses but dead 0 None
fewest_none uses but dead k used lt = absurd (omega (arith, lt))

-- what was found is there
pub found_within : (uses : List ExtentUse) (but : Option ℕ) (dead i : ℕ) (found : Option ℕ) → i ≤ length uses → IsFewestTo uses but dead i found → (e : ℕ) → found ≡ Some e → e < length uses
found_within uses but dead i None le was e is = absurd (cc is)
found_within uses but dead i (Some d) le was e is = let same : d ≡ e = same_Some d e is in let lt : d < i = was.before in omega (arith, same, lt, le)

-- two uses of one extent are one
one_use : (uses : List ExtentUse) (k i : ℕ) (u v : ExtentUse) → k ≡ i → slice_get uses k ≡ Some u → slice_get uses i ≡ Some v → u ≡ v
one_use uses k i u v same at there = same_Some u v (sym at ∙ ap (slice_get uses) same ∙ there)

module _ (uses : List ExtentUse) (but : Option ℕ) (dead i : ℕ) where
  pub fewest_taken : (found : Option ℕ) → IsFewestTo uses but dead i found → HasFewer uses but dead found i → IsFewestTo uses but dead (i + 1) (Some i)
  fewest_taken found was fewer = record {
    its = fewer.0;
    there = fewer.1;
    before = omega arith;
    fewest = λ k used lt is. elim (cases_eq k i) [
      | inl here ↦ inr (ap (λ (u : ExtentUse). u.live) (one_use uses i k fewer.0 used (sym here) fewer.1.0 is.0), omega (arith, here))
      | inr other ↦ inl (below found was fewer.2 k used (omega (arith, lt, other)) is)
    ];
  }
    where
      below : (found : Option ℕ) → IsFewestTo uses but dead i found → ((k : ℕ) (best : ExtentUse) → found ≡ Some k → slice_get uses k ≡ Some best → fewer.0.live < best.live)
          → (k : ℕ) (used : ExtentUse) → k < i → IsSought uses but dead k used → fewer.0.live < used.live
      below None was less k used lt is = absurd (was k used lt is)
      below (Some e) was less k used lt is =
          let first : fewer.0.live < was.its.live = less e was.its refl was.there.0 in
          elim (was.fewest k used lt is) [
            | inl more ↦ omega (arith, first, more)
            | inr same ↦ (let equal : was.its.live ≡ used.live = same.0 in omega (arith, first, equal))
          ]

  pub fewest_kept : (found : Option ℕ) → IsFewestTo uses but dead i found → HasNoFewer uses but dead found i → IsFewestTo uses but dead (i + 1) found
  fewest_kept None was none = λ k used lt is. elim (cases_eq k i) [
    | inl here ↦ (let found = none used (subst (λ (n : ℕ). IsSought uses but dead n used) here is) in absurd (cc found.2))
    | inr other ↦ was k used (omega (arith, lt, other)) is
  ]
  fewest_kept (Some e) was none = record {
    its = was.its;
    there = was.there;
    before = (let lt : e < i = was.before in omega (arith, lt));
    fewest = λ k used lt is. elim (cases_eq k i) [
      | inl here ↦ last k used here (none used (subst (λ (n : ℕ). IsSought uses but dead n used) here is))
      | inr other ↦ was.fewest k used (omega (arith, lt, other)) is
    ];
  }
    where
      last : (k : ℕ) (used : ExtentUse) → k ≡ i → (d : ℕ) × (best : ExtentUse) × (Some e ≡ Some d) × (slice_get uses d ≡ Some best) × (best.live ≤ used.live)
          → (was.its.live < used.live) ⊎ ((was.its.live ≡ used.live) × (e ≤ k))
      last k used here more =
          let same : was.its ≡ more.1 = one_use uses e more.0 was.its more.1 (same_Some e more.0 more.2) was.there.0 more.3 in
          let le : was.its.live ≤ used.live = subst (λ (u : ExtentUse). u.live ≤ used.live) (sym same) more.4 in
          let lt : e < i = was.before in
          elim (cases_lt was.its.live used.live) [
            | inl less ↦ inl less
            | inr no_less ↦ inr (omega (arith, le, no_less), omega (arith, lt, here))
          ]

pub fewest_of_all : (uses : List ExtentUse) (but : Option ℕ) (dead i : ℕ) (found : Option ℕ) → length uses ≤ i → IsFewestTo uses but dead i found → MatchOption found (NoneSought uses but dead) (IsFewestOf (IsSought uses but dead))
fewest_of_all uses but dead i None enough was = λ e used is. was e used (omega (arith, enough, slice_get_within uses e used is.0)) is
fewest_of_all uses but dead i (Some e) enough was = record {
  its = was.its;
  there = was.there;
  fewest = λ k used is. was.fewest k used (omega (arith, enough, slice_get_within uses k used is.0)) is;
}

-- where no dead page is asked for, all others are sought
pub fewest_other : (uses : List ExtentUse) (but : Option ℕ) (e : ℕ) → IsFewestOf (IsSought uses but 0) e → IsFewest uses but e
fewest_other uses but e best = record {
  its = best.its;
  there = (best.there.0, best.there.1, best.there.2);
  fewest = λ k used is. best.fewest k used (is.0, is.1, is.2, omega arith);
}

pub none_other : (uses : List ExtentUse) (but : Option ℕ) → NoneSought uses but 0 → NoOther uses but
none_other uses but none e used is = none e used (is.0, is.1, is.2, omega arith)

-- ---- whether two fit on one

is_last : (last : Option ℕ) (e : ℕ) → (last ≡ Some e) ⊎ (last ≢ Some e)
is_last None e = inr (λ is. absurd (cc is))
is_last (Some d) e = elim (cases_eq d e) [
  | inl is ↦ inl (ap Some is)
  | inr not ↦ inr (λ is. not (same_Some d e is))
]

at_most : (uses : List ExtentUse) (but : Option ℕ) (e : ℕ) (best : IsFewest uses but e) (k : ℕ) (used : ExtentUse) → IsOther uses but k used → best.its.live ≤ used.live
at_most uses but e best k used is = elim (best.fewest k used is) [
  | inl less ↦ omega (arith, less)
  | inr same ↦ (let equal : best.its.live ≡ used.live = same.0 in omega (arith, equal))
]

-- what is read of an extent's use is so
read_live : (uses : List ExtentUse) (e : ℕ) (d used : ExtentUse) → slice_get uses e ≡ Some used → (get_or uses e d).live ≡ used.live
read_live uses e d used at = ap (λ (u : ExtentUse). u.live) (get_or_from_slice_get uses e used d at)

module _ (uses : List ExtentUse) (last : Option ℕ) (pages : ℕ) where
  -- where there is one, then also one that isn't the last
  pub none_at_all : NoOther uses last → NoTwoFit uses pages
  none_at_all none e one k other here there = elim (is_last last e) [
    | inl is ↦ absurd (none k other (there.0, λ so. there.1 (sym is ∙ so), there.2))
    | inr not ↦ absurd (none e one (here.0, not, here.1))
  ]

  module _ (extent : ℕ) (best : IsFewest uses last extent) where
    pub no_other : NoOther uses (Some extent) → NoTwoFit uses pages
    no_other none e one k other here there = elim (cases_eq extent e) [
      | inl is ↦ absurd (none k other (there.0, λ so. there.1 (ap Some (sym is) ∙ so), there.2))
      | inr not ↦ absurd (none e one (here.0, λ so. not (same_Some extent e so), here.1))
    ]

    module _ (second : ℕ) (next : IsFewest uses (Some extent) second) where
      -- no one has fewer than the best, but the last
      too_many : ¬ (best.its.live + next.its.live ≤ pages) → NoTwoFit uses pages
      too_many not e one k other here there fit = elim (cases_eq extent e) [
        | inl is ↦
            (let same : best.its ≡ one = one_use uses extent e best.its one is best.there.0 here.0 in
            let least : best.its.live ≡ one.live = ap (λ (u : ExtentUse). u.live) same in
            let less : next.its.live ≤ other.live = at_most uses (Some extent) second next k other (there.0, λ so. there.1 (ap Some (sym is) ∙ so), there.2) in
            not (omega (arith, least, less, fit)))
        | inr far ↦
            (let more : next.its.live ≤ one.live = at_most uses (Some extent) second next e one (here.0, λ so. far (same_Some extent e so), here.1) in
            elim (cases_eq extent k) [
              | inl is ↦
                  (let same : best.its ≡ other = one_use uses extent k best.its other is best.there.0 there.0 in
                  let least : best.its.live ≡ other.live = ap (λ (u : ExtentUse). u.live) same in
                  not (omega (arith, least, more, fit)))
              | inr apart ↦
                  (let less : next.its.live ≤ other.live = at_most uses (Some extent) second next k other (there.0, λ so. apart (same_Some extent k so), there.2) in
                  elim (is_last last e) [
                    | inl so ↦ (let least : best.its.live ≤ other.live = at_most uses last extent best k other (there.0, λ too. there.1 (sym so ∙ too), there.2) in not (omega (arith, least, more, fit)))
                    | inr before ↦ (let least : best.its.live ≤ one.live = at_most uses last extent best e one (here.0, before, here.1) in not (omega (arith, least, less, fit)))
                  ])
            ])
      ]

      -- as the uses are read
      module _ (c d : ExtentUse) where
        its_live : (get_or uses extent c).live ≡ best.its.live
        its_live = read_live uses extent c best.its best.there.0

        next_live : (get_or uses second d).live ≡ next.its.live
        next_live = read_live uses second d next.its next.there.0

        pub two_fit : (get_or uses extent c).live + (get_or uses second d).live ≤ pages → IsFewestLive uses last pages extent
        two_fit fit = record { best = best; partner = (second, next.its, next.there, omega (arith, its_live, next_live, fit)) }

        pub two_too_many : (b : Bool) → b ≡ false → (IsTrue b ↔ ((get_or uses extent c).live + (get_or uses second d).live ≤ pages)) → NoTwoFit uses pages
        two_too_many b is_not when = too_many (λ fit. absurd (let yes : b ≡ true = when.1 (omega (arith, its_live, next_live, fit)) in cc (yes, is_not)))
