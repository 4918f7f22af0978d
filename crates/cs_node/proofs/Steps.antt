-- The three steps keep the rule of the board.
use Rattle.std.proofs.Common.{◌≡◌, ◌≢◌, ◌≤◌, ◌<◌, ◌⊎◌, ℕ, zero, suc, List, [], ◌∷◌, Option, Some, None, length, set, refl, sym, ap, ◌∙◌, subst, ⊎_elim, arith}
use Rattle.std.specs.Prelude.{slice_set, slice_index}
use mathlib.Core.Option.{some, some-injective, some-ne-none}
use mathlib.Core.Logic.{dite}
use native.Mathlib.Decide.{ℕ_discrete}
use lib.ListN.{get_elem?}
use Rattle.atomic_table.specs.Table.{Me, Act, Allows, Splits, Valid, homes_after, carried_after, keeps}
use Rattle.atomic_table.proofs.Lists.{at_set, at_snoc, at_longer, set_here, set_else, set_again}
use Rattle.cs_disk.specs.declared.disk.PageDisk.{Ghosts as PageDisk}
use Rattle.cs_node.specs.Behind.{IsFrontierOfSome}
use Rattle.cs_node.specs.Mirror.{IsBeside, IsMirror, Knowledge, Mirrors, Sights, knows, nothing}
use Rattle.cs_node.specs.Starts.{Start}

filled : (views : List Knowledge) (i : ℕ) (v : Knowledge) → get_elem? views i ≡ some v → i < length views
filled [] i v e = absurd (some-ne-none v (sym e))
filled (x ∷ xs) zero v e = omega arith
filled (x ∷ xs) (suc i) v e = let h = filled xs i v e in omega arith

not_both : {A : Type 0} (o : Option A) (a : A) → o ≡ Some a → o ≡ None → ⊥
not_both o a is none = cc

-- one whose start is this one knows a number of it
knows_of : (k : Knowledge) (start : Start) → k.start ≡ Some start → k ≡ knows start k.number
knows_of k start is i = record { number = k.number; start = is i }

-- a board that no node has yet
pub opens : {D : Type 0} (disks : PageDisk D) → Mirrors disks nothing (nothing ∷ [])
opens disks = record { first = refl; each = each; alone = alone }
  where
    each : (seat : ℕ) (view : Knowledge) → get_elem? (nothing ∷ []) seat ≡ some view → IsBeside disks nothing view
    each zero view e = subst (IsBeside disks nothing) (some-injective nothing view e) (record { within = omega arith; same = refl; frontier = λ start is. absurd (not_both (Some start) start refl (sym is)) })
    each (suc seat) view e = absurd (some-ne-none view (sym e))

    alone : nothing.start ≡ None → (seat : ℕ) (view : Knowledge) → get_elem? (nothing ∷ []) seat ≡ some view → seat ≡ 0
    alone none zero view e = refl
    alone none (suc seat) view e = absurd (some-ne-none view (sym e))

module _ {D : Type 0} (disks : PageDisk D) (start : Start) where
  -- whoever looks, the rule stays
  looks : (keeper : Knowledge) (views : List Knowledge) (id : ℕ) → keeper.start ≡ Some start → Mirrors disks keeper views → Mirrors disks keeper (set views id keeper)
  looks keeper views id named m = record {
    first = dite (ℕ_discrete 0 id) here else_where;
    each = λ seat view e. ⊎_elim
        (λ (x : (seat ≡ id) × (keeper ≡ view)). subst (IsBeside disks keeper) x.1 (m.each 0 keeper m.first))
        (λ (x : (seat ≢ id) × (get_elem? views seat ≡ some view)). m.each seat view x.1)
        (at_set views id seat keeper view e);
    alone = λ none. absurd (not_both keeper.start start named none);
  }
    where
      here : 0 ≡ id → get_elem? (set views id keeper) 0 ≡ some keeper
      here e = subst (λ (k : ℕ). get_elem? (set views k keeper) 0 ≡ some keeper) e (set_here views 0 keeper (filled views 0 keeper m.first))

      else_where : (0 ≢ id) → get_elem? (set views id keeper) 0 ≡ some keeper
      else_where n = set_else views id 0 keeper n ∙ m.first

  pub load_keeps : {S : Type 0} → (slots id : ℕ) (me : Me S Knowledge) → me.0 ≡ knows start me.0.number → Allows (IsMirror disks) slots id me 0 (λ n. n) (Sights disks start me)
  load_keeps {S} slots id me named s h len at fits =
      let keeper = h.0 in
      let mine = h.2.each id me.0 at in
      let same : keeper.start ≡ Some start = sym mine.same ∙ ap (λ (k : Knowledge). k.start) named in
      let P : List ℕ → Type 0 = λ ws. (w : Knowledge) × (a : Act S) × Valid s.homes me.1 a
      × IsMirror disks (record { words = slice_set ws 0 (slice_index ws 0); homes = homes_after s.homes me.1 a; views = slice_set s.views id w })
      × Sights disks start me (slice_index ws 0) (w, carried_after me.1 a) in
      subst P (sym h.1) (
        keeper,
        keeps,
        tt,
        (keeper, refl, looks keeper s.views id same h.2),
        record { view = ap (λ (k : Knowledge). (k, me.1)) (knows_of keeper start same); later = mine.within; frontier = (h.2.each 0 keeper h.2.first).frontier start same },
      )

  -- the keeper's view is beside itself
  itself : (f : ℕ) → IsFrontierOfSome disks start f → IsBeside disks (knows start f) (knows start f)
  itself f was = record {
    within = omega arith;
    same = refl;
    frontier = λ other e. let is : start ≡ other = cc in subst (λ (s : Start). IsFrontierOfSome disks s f) is was;
  }

  -- another view stays beside the keeper's as that rises; before the board is a node's there is none
  beside : (keeper view : Knowledge) (f : ℕ) → keeper.number ≤ f → keeper.start ≡ Some start → IsBeside disks keeper view → IsBeside disks (knows start f) view
  beside keeper view f le named b = record { within = let w = b.within in omega arith; same = b.same ∙ named; frontier = b.frontier }

  raises : (keeper : Knowledge) (views : List Knowledge) (f : ℕ) → keeper.number ≤ f → IsFrontierOfSome disks start f → (keeper.start ≡ Some start) ⊎ (keeper.start ≡ None) → Mirrors disks keeper views
      → Mirrors disks (knows start f) (set views 0 (knows start f))
  raises keeper views f le was from m = record {
    first = set_here views 0 (knows start f) (filled views 0 keeper m.first);
    each = λ seat view e. ⊎_elim
        (λ (x : (seat ≡ 0) × (knows start f ≡ view)). subst (IsBeside disks (knows start f)) x.1 (itself f was))
        (λ (x : (seat ≢ 0) × (get_elem? views seat ≡ some view)). ⊎_elim
        (λ (named : keeper.start ≡ Some start). beside keeper view f le named (m.each seat view x.1))
        (λ (none : keeper.start ≡ None). absurd (x.0 (m.alone none seat view x.1)))
        from)
        (at_set views 0 seat (knows start f) view e);
    alone = λ none. absurd (not_both (Some start) start refl none);
  }

  raise_first : {S : Type 0} → (slots f : ℕ) (me : Me S Knowledge) → me.0.number ≤ f → IsFrontierOfSome disks start f → (me.0.start ≡ Some start) ⊎ (me.0.start ≡ None)
      → Allows (IsMirror disks) slots 0 me 0 (λ _. f) (λ _. Sights disks start me f)
  raise_first {S} slots f me le was from s h len at fits =
      let keeper = h.0 in
      let same : me.0 ≡ keeper = some-injective me.0 keeper (sym at ∙ h.2.first) in
      let P : List ℕ → Type 0 = λ ws. (w : Knowledge) × (a : Act S) × Valid s.homes me.1 a
      × IsMirror disks (record { words = slice_set ws 0 f; homes = homes_after s.homes me.1 a; views = slice_set s.views 0 w })
      × Sights disks start me f (w, carried_after me.1 a) in
      let risen = raises keeper s.views f (subst (λ (k : Knowledge). k.number ≤ f) same le) was (subst (λ (k : Knowledge). (k.start ≡ Some start) ⊎ (k.start ≡ None)) same from) h.2 in
      subst P (sym h.1) (knows start f, keeps, tt, (knows start f, refl, risen), record { view = refl; later = le; frontier = was })

  -- the keeper raises the word to what was a frontier, and may say so the first time whose commands it counts
  pub raise_keeps : {S : Type 0} → (slots id f : ℕ) (me : Me S Knowledge) → id ≡ 0 → me.0.number ≤ f → IsFrontierOfSome disks start f → (me.0.start ≡ Some start) ⊎ (me.0.start ≡ None)
      → Allows (IsMirror disks) slots id me 0 (λ _. f) (λ _. Sights disks start me f)
  raise_keeps slots id f me first le was from = subst (λ (i : ℕ). Allows (IsMirror disks) slots i me 0 (λ _. f) (λ _. Sights disks start me f)) (sym first) (raise_first slots f me le was from)

  pub split_keeps : {S : Type 0} → (id : ℕ) (v : Knowledge) → v ≡ knows start v.number → Splits (IsMirror {S = S} disks) id v v v
  split_keeps {S} id v named s h at =
      let keeper = h.0 in
      let m = h.2 in
      let mine = m.each id v at in
      let again : set s.views id v ≡ s.views = set_again s.views id v at in (
        keeper,
        h.1,
        record {
          first = at_longer (set s.views id v) (v ∷ []) 0 keeper (ap (λ (l : List Knowledge). get_elem? l 0) again ∙ m.first);
          each = λ seat view e. ⊎_elim
              (λ (was : get_elem? (set s.views id v) seat ≡ some view). m.each seat view (subst (λ (l : List Knowledge). get_elem? l seat ≡ some view) again was))
              (λ (is : v ≡ view). subst (IsBeside disks keeper) is mine)
              (at_snoc (set s.views id v) v view seat e);
          alone = λ none. absurd (not_both v.start start (ap (λ (k : Knowledge). k.start) named) (mine.same ∙ none));
        },
      )
