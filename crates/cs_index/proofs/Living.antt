-- What lives on an extent, place by place and identifier by identifier.
use Rattle.std.proofs.Common.{◌≡◌, ◌≢◌, ◌⊎◌, ◌∙◌, ◌==◌, inl, inr, ⊎_elim, ℕ, zero, suc, ◌+◌, ◌<◌, ◌≤◌, List, [], ◌∷◌, Option, Some, None, get_or, length, map, refl, sym, ap, subst, arith, eq-eqb, ne_eqb, if◌then◌else◌}
use Rattle.std.proofs.lemmas.Bool.{cases_eq, cases_lt}
use Rattle.std.proofs.lemmas.List.{length-map}
use Rattle.std.proofs.lemmas.Option.{same_Some}
use Rattle.std.specs.Prelude.{IfSome, option_map}
use Rattle.cs_frame.specs.Bytes.{IsBytes}
use Rattle.cs_frame.specs.declared.identifiers.ShardId.{ShardId}
use Rattle.cs_frame.specs.declared.locators.Locator.{Locator}
use Rattle.cs_frame.specs.Formats.{place_of}
use Rattle.cs_index.specs.declared.live.Cleared.{Cleared}
use Rattle.cs_index.specs.Live.{IsClear, IsFirstOn, NoneOn, NoneUpTo}
use Rattle.cs_index.specs.State.{IsAfter, IsId, IsNext, id_number}
use Rattle.cs_index.proofs.Merged.{IsSmall}
use Rattle.cs_index.proofs.Merging.{after_or_not}
use Rattle.cs_index.proofs.Numbers.{small_number}
use Rattle.law_machine.specs.Element.{Entry, Locator as Place}
use Rattle.law_machine.specs.Index.{FirstLive, NothingLive, live, live_at, lookup}
use Rattle.law_machine.specs.Lists.{◌∈◌, nth}

-- ---- members

pub nth_in : {A : Type 0} (ls : List A) (k : ℕ) (l : A) → nth ls k ≡ Some l → l ∈ ls
nth_in [] k l at = absurd (cc at)
nth_in (x ∷ ls) zero l at = inl (sym (same_Some x l at))
nth_in (x ∷ ls) (suc k) l at = inr (nth_in ls k l at)

pub in_nth : {A : Type 0} (ls : List A) (l : A) → l ∈ ls → (k : ℕ) × (nth ls k ≡ Some l)
in_nth [] l has = absurd has
in_nth (x ∷ ls) l has = ⊎_elim
    (λ (is : l ≡ x). (0, ap Some (sym is)))
    (λ (more : l ∈ ls). (suc (in_nth ls l more).0, (in_nth ls l more).1))
    has

pub nth_inside : {A : Type 0} (ls : List A) (k : ℕ) (l : A) → nth ls k ≡ Some l → k < length ls
nth_inside [] k l at = absurd (cc at)
nth_inside (x ∷ ls) zero l at = omega arith
nth_inside (x ∷ ls) (suc k) l at = let lt : k < length ls = nth_inside ls k l at in omega arith

pub nth_map : {A B : Type 0} (f : A → B) (xs : List A) (k : ℕ) (d : A) → k < length xs → nth (map f xs) k ≡ Some (f (get_or xs k d))
nth_map f [] k d lt = absurd (omega (arith, lt))
nth_map f (x ∷ xs) zero d lt = refl
nth_map f (x ∷ xs) (suc k) d lt = nth_map f xs k d (omega (arith, lt))

-- ---- the first of some places

-- none of the first k places is on the extent
abbrev pub NoneBefore : List Locator → (k e : ℕ) → Type 0
NoneBefore ps k e = (j : ℕ) (x : Place) → j < k → nth (map place_of ps) j ≡ Some x → x.extent ≢ e

module _ (ps : List Locator) (k e : ℕ) (d : Locator) where
  pub none_more : k < length ps → (get_or ps k d).extent ≢ e → NoneBefore ps k e → NoneBefore ps (k + 1) e
  none_more lt not before j x less at = elim (cases_lt j k) [
    | inl under ↦ before j x under at
    | inr over ↦ (let is : j ≡ k = omega arith in
        let same : place_of (get_or ps k d) ≡ x = same_Some _ _ (sym (nth_map place_of ps k d lt) ∙ ap (nth (map place_of ps)) (sym is) ∙ at) in
        λ on. not (ap (λ (y : Place). y.extent) same ∙ on))
  ]

  pub first_found : k < length ps → (get_or ps k d).extent ≡ e → NoneBefore ps k e → IsFirstOn (map place_of ps) e k
  first_found lt on before = record {
    place = place_of (get_or ps k d);
    there = nth_map place_of ps k d lt;
    on_it = on;
    first = λ j x at is. elim (cases_lt j k) [ inl less ↦ absurd (before j x less at is) | inr over ↦ over ];
  }

pub none_on : (ps : List Locator) (k e : ℕ) → length ps ≤ k → NoneBefore ps k e → NoneOn (map place_of ps) e
none_on ps k e le before j x at =
    let lt : j < length (map place_of ps) = nth_inside (map place_of ps) j x at in
    before j x (omega (arith, lt, le, length-map ps place_of)) at

pub first_inside : (ps : List Locator) (e k : ℕ) → IsFirstOn (map place_of ps) e k → k < length ps
first_inside ps e k on =
    let lt : k < length (map place_of ps) = nth_inside (map place_of ps) k on.place on.there in
    omega (arith, lt, length-map ps place_of)

-- ---- identifier by identifier

pub no_places : (o : Option (List Place)) (k : ℕ) (x : Place) → o ≡ None → nth (live o) k ≡ Some x → ⊥
no_places o k x is at = let wrong : None ≡ Some x = ap (λ p. nth (live p) k) (sym is) ∙ at in cc

pub none_at_first : (index : List Entry) (e : ℕ) → NoneUpTo index None e
none_at_first index e d not = absurd (not tt)

module _ (index : List Entry) (after : Option ℕ) (e : ℕ) (none : NoneUpTo index after e) where
  pub nothing_more : IsNext index after None → NothingLive index e
  nothing_more next id l has =
      let at = in_nth (live_at index id) l has in
      ⊎_elim
      (λ (later : IsAfter after id). absurd (no_places (lookup id index) at.0 l (next id later) at.1))
      (λ (not : IsAfter after id → ⊥). none id not at.0 l at.1)
      (after_or_not after id)

  module _ (id : ℕ) (ls : List Place) (next : IsNext index after (Some (record { id = id; locators = ls }))) where
    last : lookup id index ≡ Some ls
    last = next.1

    -- nothing of a lesser identifier is there
    none_less : (d : ℕ) → d < id → NoneOn (live_at index d) e
    none_less d lt k x at = ⊎_elim
        (λ (later : IsAfter after d). absurd (no_places (lookup d index) k x (next.2 d later lt) at))
        (λ (not : IsAfter after d → ⊥). none d not k x at)
        (after_or_not after d)

    pub none_up : NoneOn ls e → NoneUpTo index (Some id) e
    none_up here d not k x at = elim (cases_eq d id) [
      | inl same ↦ here k x (ap (λ o. nth (live o) k) (sym last ∙ ap (λ n. lookup n index) (sym same)) ∙ at)
      | inr other ↦ none_less d (less d not other) k x at
    ]
      where
        less : (n : ℕ) → (id < n → ⊥) → n ≢ id → n < id
        less n above other = elim (cases_lt n id) [
          | inl lt ↦ lt
          | inr ge ↦ absurd (above (omega (arith, ge, other)))
        ]

    pub first_up : (k : ℕ) (l : Place) → IsFirstOn ls e k → nth ls k ≡ Some l → FirstLive index e id k l
    first_up k l on at =
        let is : on.place ≡ l = same_Some _ _ (sym on.there ∙ at) in
        record {
          there = ap (λ o. nth (live o) k) last ∙ at;
          on_it = subst (λ (p : Place). p.extent ≡ e) is on.on_it;
          first = λ d j x there onto. elim (cases_lt id d) [
            | inl lt ↦ inl lt
            | inr le ↦ (elim (cases_eq d id) [
              | inl same ↦ inr (sym same, on.first j x (ap (λ o. nth (live o) j) (sym last ∙ ap (λ n. lookup n index) (sym same)) ∙ there) onto)
              | inr other ↦ absurd (none_less d (omega (arith, le, other)) j x there onto)
            ])
          ];
        }

-- the place that is first on the extent is the first live one's
pub first_there : (index : List Entry) (after : Option ℕ) (e : ℕ) → NoneUpTo index after e → (id : ℕ) (ps : List Locator) → IsNext index after (Some (record { id = id; locators = map place_of ps }))
    → (k : ℕ) (d : Locator) → IsFirstOn (map place_of ps) e k → FirstLive index e id k (place_of (get_or ps k d))
first_there index after e none id ps next k d on =
    first_up index after e none id (map place_of ps) next k (place_of (get_or ps k d)) on (nth_map place_of ps k d (first_inside ps e k on))

pub is_id : (id : ShardId) (bs : List ℕ) → bs ≡ id.0 → length bs ≡ 16 → IsBytes bs → IsId id
is_id id bs is size bytes = record { bytes = subst IsBytes is bytes; size = ap length (sym is) ∙ size }

pub small_passed : (passed : Option ShardId) → IfSome passed IsId → IsSmall (option_map id_number passed)
small_passed None is = tt
small_passed (Some id) is = small_number id is

-- ---- what is known of an extent that was searched

pub unknown_clear : (index : List Entry) (c : Cleared) → c.up_to ≡ None → IsClear index c
unknown_clear index c is = subst (λ (o : Option ShardId). NoneUpTo index (option_map id_number o) c.extent) (sym is) (none_at_first index c.extent)

-- what is known of this extent
pub known_none : (index : List Entry) (c : Cleared) (e : ℕ) (passed : Option ShardId) → ((passed ≡ c.up_to) × (c.extent ≡ e)) ⊎ (passed ≡ None) → IsClear index c
    → NoneUpTo index (option_map id_number passed) e
known_none index c e passed known clear = ⊎_elim
    (λ (same : (passed ≡ c.up_to) × (c.extent ≡ e)). subst (λ (n : ℕ). NoneUpTo index (option_map id_number passed) n) same.1
    (subst (λ (o : Option ShardId). NoneUpTo index (option_map id_number o) c.extent) (sym same.0) clear))
    (λ (none : passed ≡ None). subst (λ (o : Option ShardId). NoneUpTo index (option_map id_number o) e) (sym none) (none_at_first index e))
    known

module _ (old new : List Entry) (id : ℕ) (ls : List Place) (entered : (d : ℕ) → lookup d new ≡ (if id == d then Some ls else lookup d old)) where
  entered_clear : (c : Cleared) → IsAfter (option_map id_number c.up_to) id ⊎ NoneOn ls c.extent → IsClear old c → IsClear new c
  entered_clear c apart clear d not k l at = elim (cases_eq id d) [
    | inl is ↦ (let here : lookup d new ≡ Some ls = entered d ∙ ap (λ b. if b then Some ls else lookup d old) (eq-eqb id d is) in ⊎_elim
        (λ (later : IsAfter (option_map id_number c.up_to) id). absurd (not (subst (λ (n : ℕ). IsAfter (option_map id_number c.up_to) n) is later)))
        (λ (none : NoneOn ls c.extent). none k l (ap (λ o. nth (live o) k) (sym here) ∙ at))
        apart)
    | inr other ↦ (let there : lookup d new ≡ lookup d old = entered d ∙ ap (λ b. if b then Some ls else lookup d old) (ne_eqb id d other) in
        clear d not k l (ap (λ o. nth (live o) k) (sym there) ∙ at))
  ]

  -- what is known once an identifier was entered
  pub still_clear : (c now : Cleared) → ((now ≡ c) × (IsAfter (option_map id_number c.up_to) id ⊎ NoneOn ls c.extent)) ⊎ (now.up_to ≡ None) → IsClear old c → IsClear new now
  still_clear c now known clear = ⊎_elim
      (λ (same : (now ≡ c) × (IsAfter (option_map id_number c.up_to) id ⊎ NoneOn ls c.extent)). subst (λ (x : Cleared). IsClear new x) (sym same.0) (entered_clear c same.1 clear))
      (λ (none : now.up_to ≡ None). unknown_clear new now none)
      known
