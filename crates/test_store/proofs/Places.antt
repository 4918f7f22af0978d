-- Whether all places of an index have a property, identifier by identifier.
use Rattle.std.proofs.Common.{◌≡◌, ◌≢◌, ◌∙◌, inl, inr, ⊎_elim, ℕ, ◌+◌, ◌<◌, ◌≤◌, List, Option, Some, None, get_or, length, map, sym, ap, subst, arith}
use Rattle.std.proofs.lemmas.Bool.{cases_eq, cases_lt}
use Rattle.std.proofs.lemmas.Option.{same_Some}
use Rattle.cs_frame.specs.declared.locators.Locator.{Locator}
use Rattle.cs_frame.specs.Formats.{place_of}
use Rattle.cs_index.specs.State.{IsAfter, IsNext}
use Rattle.law_machine.specs.Element.{Entry, Locator as Place}
use Rattle.law_machine.specs.Index.{live, live_at, lookup}
use Rattle.law_machine.specs.Lists.{◌∈◌, nth}
use Rattle.cs_index.proofs.Living.{in_nth, no_places, nth_inside, nth_map}
use Rattle.cs_index.proofs.Merging.{after_or_not}

-- an extent and a page that are there
abbrev pub IsThere : (extents pages : ℕ) → Place → Type 0
IsThere extents pages l = (l.extent < extents) × (l.page < pages)

module _ (P : Place → Type 0) where
  -- each of these places has it
  abbrev pub AllHave : List Place → Type 0
  AllHave ls = (k : ℕ) (l : Place) → nth ls k ≡ Some l → P l

  -- so do the first k
  abbrev pub HaveBefore : List Locator → ℕ → Type 0
  HaveBefore ps k = (j : ℕ) (x : Place) → j < k → nth (map place_of ps) j ≡ Some x → P x

  -- and those of the identifiers up to this one
  abbrev pub HaveUpTo : List Entry → Option ℕ → Type 0
  HaveUpTo index after = (d : ℕ) → (IsAfter after d → ⊥) → AllHave (live_at index d)

  pub have_more : (ps : List Locator) (k : ℕ) (d : Locator) → k < length ps → P (place_of (get_or ps k d)) → HaveBefore ps k → HaveBefore ps (k + 1)
  have_more ps k d lt here before j x less at = elim (cases_lt j k) [
    | inl under ↦ before j x under at
    | inr over ↦ (let is : j ≡ k = omega arith in
        subst P (same_Some _ _ (sym (nth_map place_of ps k d lt) ∙ ap (nth (map place_of ps)) (sym is) ∙ at)) here)
  ]

  pub have_all : (ps : List Locator) (k : ℕ) → length (map place_of ps) ≤ k → HaveBefore ps k → AllHave (map place_of ps)
  have_all ps k le before j x at = let lt : j < length (map place_of ps) = nth_inside (map place_of ps) j x at in before j x (omega (arith, lt, le)) at

  pub have_first : (index : List Entry) → HaveUpTo index None
  have_first index d not = absurd (not tt)

  module _ (index : List Entry) (after : Option ℕ) (have : HaveUpTo index after) where
    pub all_have : IsNext index after None → (id : ℕ) (l : Place) → l ∈ live_at index id → P l
    all_have next id l has =
        let at = in_nth (live_at index id) l has in
        ⊎_elim
        (λ (later : IsAfter after id). absurd (no_places (lookup id index) at.0 l (next id later) at.1))
        (λ (not : IsAfter after id → ⊥). have id not at.0 l at.1)
        (after_or_not after id)

    module _ (id : ℕ) (ls : List Place) (next : IsNext index after (Some (record { id = id; locators = ls }))) where
      last : lookup id index ≡ Some ls
      last = next.1

      have_less : (d : ℕ) → d < id → AllHave (live_at index d)
      have_less d lt k x at = ⊎_elim
          (λ (later : IsAfter after d). absurd (no_places (lookup d index) k x (next.2 d later lt) at))
          (λ (not : IsAfter after d → ⊥). have d not k x at)
          (after_or_not after d)

      pub have_up : AllHave ls → HaveUpTo index (Some id)
      have_up here d not k x at = elim (cases_eq d id) [
        | inl same ↦ here k x (ap (λ o. nth (live o) k) (sym last ∙ ap (λ n. lookup n index) (sym same)) ∙ at)
        | inr other ↦ have_less d (less d not other) k x at
      ]
        where
          less : (n : ℕ) → (id < n → ⊥) → n ≢ id → n < id
          less n above other = elim (cases_lt n id) [ inl lt ↦ lt | inr ge ↦ absurd (above (omega (arith, ge, other))) ]
