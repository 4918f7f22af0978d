-- What lives on an extent behind a chunk.
use Rattle.std.proofs.Common.{◌≡◌, ◌≢◌, ◌∙◌, inl, inr, ⊎_elim, ℕ, suc, ◌+◌, ◌<◌, ◌≤◌, Bool, ◌==◌, ◌||◌, List, Option, Some, None, get_or, length, map, take, refl, sym, ap, subst, arith}
use Rattle.std.specs.Prelude.{MatchOption}
use Rattle.std.proofs.lemmas.Bool.{cases_eq, cases_lt}
use Rattle.std.proofs.lemmas.List.{length-map}
use Rattle.std.proofs.lemmas.Option.{same_Some}
use Rattle.cs_frame.specs.declared.locators.Locator.{Locator}
use Rattle.cs_frame.specs.Formats.{place_of}
use Rattle.cs_index.specs.declared.stored_runs.StoredRun.{StoredRun}
use Rattle.cs_index.specs.Copies.{FirstBehind, NoneBehind}
use Rattle.cs_index.specs.Live.{FirstAfter, IsFirstOn, IsFirstOnBehind, NoneAfter, NoneOn, NoneOnBehind}
use Rattle.cs_index.specs.State.{IsAfter, IsNext, newest_first}
use Rattle.cs_index.proofs.Living.{no_places, nth_inside, nth_map}
use Rattle.cs_index.proofs.Merging.{after_or_not, later_still}
use Rattle.cs_index.proofs.Newest.{newest_more}
use Rattle.law_machine.specs.Apart.{any_run_on}
use Rattle.law_machine.specs.Element.{Entry, Locator as Place, Run}
use Rattle.law_machine.specs.Index.{live, live_at, lookup}
use Rattle.law_machine.specs.Lists.{nth}

-- ---- the first of some places behind a number

-- none of the first n places is behind number k and on the extent
abbrev pub NoneBetween : List Locator → (n k e : ℕ) → Type 0
NoneBetween ps n k e = (j : ℕ) (x : Place) → j < n → k < j → nth (map place_of ps) j ≡ Some x → x.extent ≢ e

module _ (ps : List Locator) (n k e : ℕ) (d : Locator) where
  pub none_between : n < length ps → ((k < n) × ((place_of (get_or ps n d)).extent ≡ e) → ⊥) → NoneBetween ps n k e → NoneBetween ps (n + 1) k e
  none_between lt not before j x less behind at = elim (cases_lt j n) [
    | inl under ↦ before j x under behind at
    | inr over ↦ (let is : j ≡ n = omega arith in
        let same : place_of (get_or ps n d) ≡ x = same_Some _ _ (sym (nth_map place_of ps n d lt) ∙ ap (nth (map place_of ps)) (sym is) ∙ at) in
        λ on. not (subst (λ (m : ℕ). k < m) is behind, ap (λ (y : Place). y.extent) same ∙ on))
  ]

  pub found_between : n < length ps → (k < n) × ((place_of (get_or ps n d)).extent ≡ e) → NoneBetween ps n k e → IsFirstOnBehind (map place_of ps) k e n (place_of (get_or ps n d))
  found_between lt on before = record {
    there = nth_map place_of ps n d lt;
    on_it = on.1;
    behind = on.0;
    first = λ i x behind at is. elim (cases_lt i n) [ inl less ↦ absurd (before i x less behind at is) | inr over ↦ over ];
  }

pub none_behind_all : (ps : List Locator) (n k e : ℕ) → length ps ≤ n → NoneBetween ps n k e → NoneOnBehind (map place_of ps) k e
none_behind_all ps n k e le before j x behind at =
    let lt : j < length (map place_of ps) = nth_inside (map place_of ps) j x at in
    before j x (omega (arith, lt, le, length-map ps place_of)) behind at

-- ---- identifier by identifier

-- nothing of the identifiers after a and up to b is on the extent
abbrev pub NoneWithin : (index : List Entry) → (a b : Option ℕ) → (e : ℕ) → Type 0
NoneWithin index a b e = (d : ℕ) → IsAfter a d → (IsAfter b d → ⊥) → NoneOn (live_at index d) e

pub none_within_first : (index : List Entry) (a : Option ℕ) (e : ℕ) → NoneWithin index a a e
none_within_first index a e d after not = absurd (not after)

module _ (index : List Entry) (a b : Option ℕ) (e : ℕ) (none : NoneWithin index a b e) where
  pub nothing_after : IsNext index b None → NoneAfter index a e
  nothing_after next d after k l at = ⊎_elim
      (λ (later : IsAfter b d). absurd (no_places (lookup d index) k l (next d later) at))
      (λ (not : IsAfter b d → ⊥). none d after not k l at)
      (after_or_not b d)

  module _ (id : ℕ) (ls : List Place) (next : IsNext index b (Some (record { id = id; locators = ls }))) where
    last : lookup id index ≡ Some ls
    last = next.1

    -- nothing of a lesser identifier is there
    none_less : (d : ℕ) → IsAfter a d → d < id → NoneOn (live_at index d) e
    none_less d after lt k x at = ⊎_elim
        (λ (later : IsAfter b d). absurd (no_places (lookup d index) k x (next.2 d later lt) at))
        (λ (not : IsAfter b d → ⊥). none d after not k x at)
        (after_or_not b d)

    pub none_within_up : NoneOn ls e → NoneWithin index a (Some id) e
    none_within_up here d after not k x at = elim (cases_eq d id) [
      | inl same ↦ here k x (ap (λ o. nth (live o) k) (sym last ∙ ap (λ n. lookup n index) (sym same)) ∙ at)
      | inr other ↦ none_less d after (less d not other) k x at
    ]
      where
        less : (n : ℕ) → (id < n → ⊥) → n ≢ id → n < id
        less n above other = elim (cases_lt n id) [
          | inl lt ↦ lt
          | inr ge ↦ absurd (above (omega (arith, ge, other)))
        ]

    pub first_after : ((d : ℕ) → IsAfter b d → IsAfter a d) → (k : ℕ) (l : Place) → IsFirstOn ls e k → nth ls k ≡ Some l → FirstAfter index a e id k l
    first_after later k l on at =
        let is : on.place ≡ l = same_Some _ _ (sym on.there ∙ at) in
        record {
          there = ap (λ o. nth (live o) k) last ∙ at;
          on_it = subst (λ (p : Place). p.extent ≡ e) is on.on_it;
          later = later id next.0;
          first = λ d j x there onto after. elim (cases_lt id d) [
            | inl lt ↦ inl lt
            | inr le ↦ (elim (cases_eq d id) [
              | inl same ↦ inr (sym same, on.first j x (ap (λ o. nth (live o) j) (sym last ∙ ap (λ n. lookup n index) (sym same)) ∙ there) onto)
              | inr other ↦ absurd (none_less d after (omega (arith, le, other)) j x there onto)
            ])
          ];
        }

    -- what comes after it comes after the ones before
    pub after_still : ((d : ℕ) → IsAfter b d → IsAfter a d) → (d : ℕ) → id < d → IsAfter a d
    after_still later d lt = later_still a id d (later id next.0) (omega (arith, lt))

-- the place that is first on the extent is the first live one's
pub first_after_there : (index : List Entry) (a b : Option ℕ) (e : ℕ) → NoneWithin index a b e → ((d : ℕ) → IsAfter b d → IsAfter a d) → (id : ℕ) (ps : List Locator)
    → IsNext index b (Some (record { id = id; locators = map place_of ps })) → (k : ℕ) (d : Locator) → k < length ps → IsFirstOn (map place_of ps) e k → FirstAfter index a e id k (place_of (get_or ps k d))
first_after_there index a b e none later id ps next k d lt on =
    first_after index a b e none id (map place_of ps) next later k (place_of (get_or ps k d)) on (nth_map place_of ps k d lt)

-- ---- behind a chunk: first of the same identifier, then of those after it

module _ (index : List Entry) (e i c : ℕ) where
  pub behind_here : (k : ℕ) (l : Place) → IsFirstOnBehind (live_at index i) c e k l → FirstBehind index (Some (i, c)) e i k l
  behind_here k l on = record {
    there = on.there;
    on_it = on.on_it;
    behind = inr (refl, on.behind);
    first = λ d j x at is behind. ⊎_elim
        (λ (lt : i < d). inl lt)
        (λ (same : (i ≡ d) × (c < j)). inr (same.0, on.first j x same.1 (ap (λ (n : ℕ). nth (live_at index n) j) same.0 ∙ at) is))
        behind;
  }

  module _ (none : NoneOnBehind (live_at index i) c e) where
    pub behind_there : (id k : ℕ) (l : Place) → FirstAfter index (Some i) e id k l → FirstBehind index (Some (i, c)) e id k l
    behind_there id k l on = record {
      there = on.there;
      on_it = on.on_it;
      behind = inl on.later;
      first = λ d j x at is behind. ⊎_elim
          (λ (lt : i < d). on.first d j x at is lt)
          (λ (same : (i ≡ d) × (c < j)). absurd (none j x same.1 (ap (λ (n : ℕ). nth (live_at index n) j) same.0 ∙ at) is))
          behind;
    }

    pub behind_none : NoneAfter index (Some i) e → NoneBehind index (Some (i, c)) e
    behind_none after d j x at is behind = ⊎_elim
        (λ (lt : i < d). after d lt j x at is)
        (λ (same : (i ≡ d) × (c < j)). none j x same.1 (ap (λ (n : ℕ). nth (live_at index n) j) same.0 ∙ at) is)
        behind

pub first_of_all : (index : List Entry) (e id k : ℕ) (l : Place) → FirstAfter index None e id k l → FirstBehind index None e id k l
first_of_all index e id k l on = record {
  there = on.there;
  on_it = on.on_it;
  behind = tt;
  first = λ d j x at is behind. on.first d j x at is tt;
}

pub none_of_all : (index : List Entry) (e : ℕ) → NoneAfter index None e → NoneBehind index None e
none_of_all index e none d j x at is behind = none d tt j x at is

-- ---- runs

pub on_more : (runs : List StoredRun) (k e : ℕ) (d : StoredRun) (found : Bool) → k < length runs → found ≡ any_run_on (newest_first (take k runs)) e
    → (((get_or runs k d).place.extent == e) || found) ≡ any_run_on (newest_first (take (k + 1) runs)) e
on_more runs k e d found lt was =
    let up : k + 1 ≡ suc k = omega arith in
    ap (λ (b : Bool). ((get_or runs k d).place.extent == e) || b) was
    ∙ sym (ap (λ (n : ℕ). any_run_on (newest_first (take n runs)) e) up ∙ ap (λ (rs : List Run). any_run_on rs e) (newest_more runs k d lt))

-- the same answer, where what it says of nothing and of something follows
pub option_as : {X : Type 0} (o : Option X) {N M : Type 0} {S T : X → Type 0} → (N → M) → ((x : X) → S x → T x) → MatchOption o N S → MatchOption o M T
option_as None none some h = none h
option_as (Some x) none some h = some x h
