-- Which chunks of an extent are copied, and which comes next.
use Rattle.std.proofs.Common.{◌≡◌, ◌≢◌, ◌∙◌, ◌⊎◌, ◌==◌, inl, inr, ⊎_elim, ℕ, ◌<◌, ◌≤◌, Bool, List, [], ◌∷◌, Option, Some, None, false, true, if◌then◌else◌, refl, sym, ap, subst, arith, eq-eqb, ne_eqb}
use Rattle.std.proofs.lemmas.Bool.{cases_eq, cases_lt}
use Rattle.std.proofs.lemmas.Option.{same_Some}
use Rattle.cs_index.specs.Copies.{FirstBehind, IsBehind, NoneBehind}
use Rattle.law_machine.specs.Apart.{AllCopied, FirstUncopied, IsCopyOf}
use Rattle.law_machine.specs.Element.{Copy, Entry, Locator as Place}
use Rattle.law_machine.specs.Index.{live, live_at, lookup}
use Rattle.law_machine.specs.Lists.{nth, ◌∈◌}
use Rattle.cs_reclaim.specs.Copied.{AllUpTo, AreInOrder, IsBefore, last_of}

-- a chunk comes behind the last one, or it doesn't
pub behind_or_not : (last : Option (ℕ × ℕ)) (id chunk : ℕ) → IsBehind last id chunk ⊎ (IsBehind last id chunk → ⊥)
behind_or_not None id chunk = inl tt
behind_or_not (Some p) id chunk = elim (cases_lt p.0 id) [
  | inl less ↦ inl (inl less)
  | inr more ↦ elim (cases_eq p.0 id) [
    | inl same ↦ elim (cases_lt p.1 chunk) [
      | inl before ↦ inl (inr (same, before))
      | inr behind ↦ inr (λ is. ⊎_elim (λ (lt : p.0 < id). omega (arith, lt, more)) (λ (q : (p.0 ≡ id) × (p.1 < chunk)). omega (arith, q.1, behind)) is)
    ]
    | inr other ↦ inr (λ is. ⊎_elim (λ (lt : p.0 < id). omega (arith, lt, more)) (λ (q : (p.0 ≡ id) × (p.1 < chunk)). other q.0) is)
  ]
]

-- what comes behind the last copy isn't copied
pub behind_is_left : (copies : List Copy) (id chunk : ℕ) (l : Place) → AreInOrder copies → IsBehind (last_of copies) id chunk → IsCopyOf copies id chunk l → ⊥
behind_is_left [] id chunk l order behind copy = copy.1
behind_is_left (c ∷ cs) id chunk l order behind copy = ⊎_elim
    (λ (is : copy.0 ≡ c). not_self (ap (λ (d : Copy). d.id) (sym is) ∙ copy.2) (ap (λ (d : Copy). d.chunk) (sym is) ∙ copy.3))
    (λ (old : copy.0 ∈ cs). not_before (order.0 copy.0 old))
    copy.1
  where
    not_self : c.id ≡ id → c.chunk ≡ chunk → ⊥
    not_self same also = ⊎_elim (λ (lt : c.id < id). omega (arith, lt, same)) (λ (q : (c.id ≡ id) × (c.chunk < chunk)). omega (arith, q.1, also)) behind

    not_before : IsBefore copy.0 c → ⊥
    not_before before = ⊎_elim
        (λ (lt : c.id < id). ⊎_elim (λ (less : copy.0.id < c.id). omega (arith, lt, less, copy.2)) (λ (q : (copy.0.id ≡ c.id) × (copy.0.chunk < c.chunk)). omega (arith, lt, q.0, copy.2)) before)
        (λ (p : (c.id ≡ id) × (c.chunk < chunk)). ⊎_elim (λ (less : copy.0.id < c.id). omega (arith, p.0, less, copy.2)) (λ (q : (copy.0.id ≡ c.id) × (copy.0.chunk < c.chunk)). omega (arith, p.1, q.1, copy.3)) before)
        behind

module _ (index : List Entry) (copies : List Copy) (e : ℕ) (order : AreInOrder copies) (up_to : AllUpTo index copies e) where
  -- the first chunk behind the last copy is the first that isn't copied
  pub first_is_left : (id chunk : ℕ) (l : Place) → FirstBehind index (last_of copies) e id chunk l → FirstUncopied index copies e id chunk l
  first_is_left id chunk l found = record {
    there = found.there;
    on_it = found.on_it;
    left = behind_is_left copies id chunk l order found.behind;
    first = λ d k x there on. ⊎_elim
        (λ (behind : IsBehind (last_of copies) d k). inr (found.first d k x there on behind))
        (λ (passed : IsBehind (last_of copies) d k → ⊥). inl (up_to d k x there on passed))
        (behind_or_not (last_of copies) d k);
  }

  -- where none comes behind the last copy all are copied
  pub none_is_left : NoneBehind index (last_of copies) e → AllCopied index copies e
  none_is_left none id chunk l there on = ⊎_elim
      (λ (behind : IsBehind (last_of copies) id chunk). absurd (none id chunk l there on behind))
      (λ (passed : IsBehind (last_of copies) id chunk → ⊥). up_to id chunk l there on passed)
      (behind_or_not (last_of copies) id chunk)

  -- with the next copy they are in order, and all are copied up to it
  pub next_in_order : (c : Copy) → IsBehind (last_of copies) c.id c.chunk → AreInOrder (c ∷ copies)
  next_in_order c behind = (before copies order behind, order)
    where
      before : (cs : List Copy) → AreInOrder cs → IsBehind (last_of cs) c.id c.chunk → (d : Copy) → d ∈ cs → IsBefore d c
      before [] order behind d there = absurd there
      before (b ∷ bs) order behind d there = ⊎_elim
          (λ (is : d ≡ b). subst (λ (a : Copy). IsBefore a c) (sym is) behind)
          (λ (old : d ∈ bs). less d (order.0 d old))
          there
        where
          less : (d : Copy) → IsBefore d b → IsBefore d c
          less d first = ⊎_elim
              (λ (lt : d.id < b.id). inl (⊎_elim (λ (more : b.id < c.id). omega (arith, lt, more)) (λ (q : (b.id ≡ c.id) × (b.chunk < c.chunk)). omega (arith, lt, q.0)) behind))
              (λ (p : (d.id ≡ b.id) × (d.chunk < b.chunk)). ⊎_elim
              (λ (more : b.id < c.id). inl (omega (arith, p.0, more)))
              (λ (q : (b.id ≡ c.id) × (b.chunk < c.chunk)). inr (omega (arith, p.0, q.0), omega (arith, p.1, q.1)))
              behind)
              first

  pub next_up_to : (c : Copy) → FirstBehind index (last_of copies) e c.id c.chunk c.from → AllUpTo index (c ∷ copies) e
  next_up_to c found id chunk l there on passed = ⊎_elim
      (λ (behind : IsBehind (last_of copies) id chunk). here (found.first id chunk l there on behind))
      (λ (old : IsBehind (last_of copies) id chunk → ⊥). (let copy = up_to id chunk l there on old in (copy.0, inr copy.1, copy.2, copy.3, copy.4)))
      (behind_or_not (last_of copies) id chunk)
    where
      here : (c.id < id) ⊎ ((c.id ≡ id) × (c.chunk ≤ chunk)) → IsCopyOf (c ∷ copies) id chunk l
      here least = ⊎_elim
          (λ (lt : c.id < id). absurd (passed (inl lt)))
          (λ (q : (c.id ≡ id) × (c.chunk ≤ chunk)). elim (cases_lt c.chunk chunk) [
            | inl lt ↦ absurd (passed (inr (q.0, lt)))
            | inr ge ↦ (let also : c.chunk ≡ chunk = omega (arith, q.1, ge) in
                (c, inl refl, q.0, also, same_Some c.from l (sym found.there ∙ ap (λ n. nth (live_at index n) c.chunk) q.0 ∙ ap (nth (live_at index id)) also ∙ there)))
          ])
          least

-- so it is where the last copy is given otherwise
module _ (index : List Entry) (copies : List Copy) (e : ℕ) (order : AreInOrder copies) (up_to : AllUpTo index copies e) (last : Option (ℕ × ℕ)) (is : last ≡ last_of copies) where
  pub found_left : (id chunk : ℕ) (l : Place) → FirstBehind index last e id chunk l → FirstUncopied index copies e id chunk l
  found_left id chunk l found = first_is_left index copies e order up_to id chunk l (subst (λ (p : Option (ℕ × ℕ)). FirstBehind index p e id chunk l) is found)

  pub none_left : NoneBehind index last e → AllCopied index copies e
  none_left none = none_is_left index copies e order up_to (subst (λ (p : Option (ℕ × ℕ)). NoneBehind index p e) is none)

  pub order_after : (id chunk : ℕ) (from to : Place) (after : List Copy) → FirstBehind index last e id chunk from → after ≡ record { id = id; chunk = chunk; from = from; to = to } ∷ copies → AreInOrder after
  order_after id chunk from to after found noted =
      subst AreInOrder (sym noted) (next_in_order index copies e order up_to (record { id = id; chunk = chunk; from = from; to = to }) (subst (λ (p : Option (ℕ × ℕ)). IsBehind p id chunk) is found.behind))

  pub up_to_after : (id chunk : ℕ) (from to : Place) (after : List Copy) → FirstBehind index last e id chunk from → after ≡ record { id = id; chunk = chunk; from = from; to = to } ∷ copies → AllUpTo index after e
  up_to_after id chunk from to after found noted =
      subst (λ (cs : List Copy). AllUpTo index cs e) (sym noted)
      (next_up_to index copies e order up_to (record { id = id; chunk = chunk; from = from; to = to }) (subst (λ (p : Option (ℕ × ℕ)). FirstBehind index p e id chunk from) is found))

-- something is left where the first of it is
pub left_there : (index : List Entry) (copies : List Copy) (e id chunk : ℕ) (l : Place) → FirstUncopied index copies e id chunk l → AllCopied index copies e → ⊥
left_there index copies e id chunk l first all = first.left (all id chunk l first.there first.on_it)

-- the first chunk that is left is one
module _ (index : List Entry) (copies : List Copy) (e id k : ℕ) (l : Place) (a : FirstUncopied index copies e id k l) (jd j : ℕ) (m : Place) (b : FirstUncopied index copies e jd j m) where
  abbrev Order : (id k jd j : ℕ) → Type 0
  Order id k jd j = (id < jd) ⊎ ((id ≡ jd) × (k ≤ j))

  one : Order id k jd j → Order jd j id k → (id ≡ jd) × (k ≡ j)
  one p q = ⊎_elim
      (λ (lt : id < jd). ⊎_elim (λ (gt : jd < id). absurd (omega (arith, lt, gt))) (λ (s : (jd ≡ id) × (j ≤ k)). absurd (omega (arith, lt, s.0))) q)
      (λ (r : (id ≡ jd) × (k ≤ j)). ⊎_elim (λ (gt : jd < id). absurd (omega (arith, r.0, gt))) (λ (s : (jd ≡ id) × (j ≤ k)). (r.0, omega (arith, r.1, s.1))) q)
      p

  in_order : Order id k jd j
  in_order = ⊎_elim (λ (copied : IsCopyOf copies jd j m). absurd (b.left copied)) (λ (order : Order id k jd j). order) (a.first jd j m b.there b.on_it)

  back : Order jd j id k
  back = ⊎_elim (λ (copied : IsCopyOf copies id k l). absurd (a.left copied)) (λ (order : Order jd j id k). order) (b.first id k l a.there a.on_it)

  pub one_left : l ≡ m
  one_left =
      let same = one in_order back in
      same_Some l m (sym a.there ∙ ap (λ n. nth (live_at index n) k) same.0 ∙ ap (nth (live_at index jd)) same.1 ∙ b.there)

-- ---- what leaves all copied up to the last copy

-- each chunk that lives on the extent lived there before
pub up_to_stays : (old new : List Entry) (copies : List Copy) (e : ℕ)
    → ((id chunk : ℕ) (l : Place) → nth (live_at new id) chunk ≡ Some l → l.extent ≡ e → nth (live_at old id) chunk ≡ Some l)
    → AllUpTo old copies e → AllUpTo new copies e
up_to_stays old new copies e lived up_to id chunk l there on passed = up_to id chunk l (lived id chunk l there on) on passed

pick : {T : Type 0} (b : Bool) (v w : T) → b ≡ true → (if b then v else w) ≡ v
pick true v w is = refl
pick false v w is = absurd (cc is)

pass : {T : Type 0} (b : Bool) (v w : T) → b ≡ false → (if b then v else w) ≡ w
pass true v w is = absurd (cc is)
pass false v w is = refl

-- an identifier has other locators, none on the extent
pub up_to_put : (old new : List Entry) (copies : List Copy) (e id : ℕ) (ls : List Place) → ((d : ℕ) → lookup d new ≡ (if id == d then Some ls else lookup d old))
    → ((k : ℕ) (l : Place) → nth ls k ≡ Some l → l.extent ≢ e) → AllUpTo old copies e → AllUpTo new copies e
up_to_put old new copies e id ls is off up_to = up_to_stays old new copies e lived up_to
  where
    lived : (d chunk : ℕ) (l : Place) → nth (live_at new d) chunk ≡ Some l → l.extent ≡ e → nth (live_at old d) chunk ≡ Some l
    lived d chunk l there on = elim (cases_eq id d) [
      | inl same ↦ absurd (off chunk l (ap (λ o. nth (live o) chunk) (sym (is d ∙ pick (id == d) _ _ (eq-eqb id d same))) ∙ there) on)
      | inr other ↦ ap (λ o. nth (live o) chunk) (sym (is d ∙ pass (id == d) _ _ (ne_eqb id d other))) ∙ there
    ]

-- what lives stays
pub up_to_same : (old new : List Entry) (copies : List Copy) (e : ℕ) → ((id : ℕ) → live_at new id ≡ live_at old id) → AllUpTo old copies e → AllUpTo new copies e
up_to_same old new copies e same up_to = up_to_stays old new copies e (λ id chunk l there on. ap (λ ls. nth ls chunk) (sym (same id)) ∙ there) up_to

-- before the first copy none need be copied
pub up_to_none : (index : List Entry) (e : ℕ) → AllUpTo index [] e
up_to_none index e id chunk l there on passed = absurd (passed tt)
