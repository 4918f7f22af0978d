-- How many page writes are kept.
use Rattle.std.proofs.Common.{◌≡◌, ◌∙◌, ◌≢◌, ℕ, zero, suc, ◌+◌, List, [], ◌∷◌, length, get_or, cond, Option, Some, None, refl, sym, ap, subst, ⊎_elim, arith}
use Rattle.std.specs.Prelude.{Contains, AllPairs, count_by, is_some, ◌-◌}
use Rattle.std.proofs.lemmas.Option.{same_Some}
use Rattle.std.proofs.lemmas.List.Elements.{Contains-get_or}
use Rattle.std.proofs.lemmas.List.Kept.{AllPairs-cons}
use Rattle.std.proofs.lemmas.List.Sums.{sum_by-cons}
use Rattle.slab.proofs.SlabLemmas.{Contains-cons, Contains-cons_cases}
use Rattle.slab.specs.Slab.{Slab, slab_len}
use Rattle.cs_deps.specs.declared.elements.Element.{Element}
use Rattle.cs_deps.specs.declared.elements.Element.TheVariants.{Plain, Version}
use Rattle.cs_deps.specs.declared.levels.Levels.{Levels}
use Rattle.cs_deps.specs.declared.records.Record.{Record}
use Rattle.cs_deps.specs.Chain.{IsHeight}
use Rattle.cs_deps.specs.Entries.{IsSound}
use Rattle.cs_deps.specs.Levels.{kept_by, level_by, row_at, IsInRow, IsQueued, IsIndexed}
use Rattle.cs_deps.specs.Records.{AreFiled}
use Rattle.cs_deps.specs.State.{State, AreCounted}
use Rattle.cs_deps.proofs.Filed.{one_key, queued_kept, queued_waits, plain_queued}
use Rattle.cs_deps.proofs.HeightSteps.{height_positive}
use Rattle.cs_deps.proofs.InRow.{row_level, same_in_row}
use Rattle.cs_deps.proofs.KeptIn.{level_one}
use Rattle.cs_deps.proofs.Queues.{height_is, level_is}

-- WHAT IS PICKED OF SLOTS
module _ {A : Type 0} (pick : Element → Option A) where
  added : Option A → List A → List A
  added None xs = xs
  added (Some a) xs = a ∷ xs

  picked : List (Option Record) → List A
  picked [] = []
  picked (None ∷ slots) = picked slots
  picked (Some r ∷ slots) = added (pick r.element) (picked slots)

  picked_from : (slots : List (Option Record)) (a : A) → Contains (picked slots) a → (key : ℕ) × (r : Record) × (get_or slots key None ≡ Some r) × (pick r.element ≡ Some a)
  unfolding picked added
  picked_from [] a c = absurd (omega (arith, c.1))
  picked_from (None ∷ slots) a c = let t = picked_from slots a c in (suc t.0, t.1, t.2, t.3)
  picked_from (Some r ∷ slots) a c = from (pick r.element) refl c (picked_from slots a)
    where
      from : (o : Option A) → pick r.element ≡ o → Contains (added o (picked slots)) a → (Contains (picked slots) a → (key : ℕ) × (u : Record) × (get_or slots key None ≡ Some u) × (pick u.element ≡ Some a)) → (key : ℕ) × (u : Record) × (get_or (Some r ∷ slots) key None ≡ Some u) × (pick u.element ≡ Some a)
      from None is c rest = let t = rest c in (suc t.0, t.1, t.2, t.3)
      from (Some b) is c rest = ⊎_elim
          (λ (e : b ≡ a). (0, r, refl, is ∙ ap (λ u. Some u) e))
          (λ (d : Contains (picked slots) a). let t = rest d in (suc t.0, t.1, t.2, t.3))
          (Contains-cons_cases b a (picked slots) c)

  here_added : (o : Option A) (a : A) (xs : List A) → o ≡ Some a → Contains (added o xs) a
  unfolding added
  here_added None a xs is = absurd (cc is)
  here_added (Some b) a xs is = (0, omega arith, same_Some b a is)

  more_added : (o : Option A) (a : A) (xs : List A) → Contains xs a → Contains (added o xs) a
  unfolding added
  more_added None a xs c = c
  more_added (Some b) a xs c = Contains-cons b a xs c

  picked_there : (slots : List (Option Record)) (key : ℕ) (r : Record) (a : A) → get_or slots key None ≡ Some r → pick r.element ≡ Some a → Contains (picked slots) a
  unfolding picked added
  picked_there [] key r a at is = absurd (cc at)
  picked_there (None ∷ slots) zero r a at is = absurd (cc at)
  picked_there (None ∷ slots) (suc key) r a at is = picked_there slots key r a at is
  picked_there (Some t ∷ slots) zero r a at is = here_added (pick t.element) a (picked slots) (ap (λ (u : Record). pick u.element) (same_Some t r at) ∙ is)
  picked_there (Some t ∷ slots) (suc key) r a at is = more_added (pick t.element) a (picked slots) (picked_there slots key r a at is)

  picked_once : (slots : List (Option Record)) → ((i j : ℕ) (r t : Record) (a : A) → get_or slots i None ≡ Some r → get_or slots j None ≡ Some t → pick r.element ≡ Some a → pick t.element ≡ Some a → i ≡ j) → AllPairs (λ a b. a ≢ b) (picked slots)
  unfolding picked added
  picked_once [] once = λ i j d lt within. absurd (omega (arith, within))
  picked_once (None ∷ slots) once = picked_once slots (λ i j r t a at there p q. let e : suc i ≡ suc j = once (suc i) (suc j) r t a at there p q in omega (arith, e))
  picked_once (Some u ∷ slots) once = from (pick u.element) refl (picked_once slots (λ i j r t a at there p q. let e : suc i ≡ suc j = once (suc i) (suc j) r t a at there p q in omega (arith, e)))
    where
      from : (o : Option A) → pick u.element ≡ o → AllPairs (λ a b. a ≢ b) (picked slots) → AllPairs (λ a b. a ≢ b) (added o (picked slots))
      from None is rest = rest
      from (Some a) is rest = AllPairs-cons (λ a b. a ≢ b) a (picked slots) (λ k d lt e.
          let t = picked_from slots (get_or (picked slots) k d) (Contains-get_or (picked slots) k d lt) in
          let z : 0 ≡ suc t.0 = once 0 (suc t.0) u t.1 a refl t.2 is (t.3 ∙ ap (λ u. Some u) (sym e)) in
          omega (arith, z)) rest

abbrev plain_of : Element → Option ℕ
plain_of (Plain n) = Some n
plain_of (Version f v) = None

abbrev pair_of : (Element → ℕ) → Element → Option (ℕ × ℕ)
pair_of height (Plain n) = None
pair_of height (Version f v) = Some (f, height (Version f v))

-- each record is picked once
counted : (height : Element → ℕ) (slots : List (Option Record)) → count_by is_some slots ≡ length (picked plain_of slots) + length (picked (pair_of height) slots)
unfolding picked added
counted height [] = refl
counted height (None ∷ slots) = omega (arith, counted height slots, sum_by-cons (λ (o : Option Record). cond (is_some o) 1 0) None slots)
counted height (Some r ∷ slots) = from r.element (omega (arith, counted height slots, sum_by-cons (λ (o : Option Record). cond (is_some o) 1 0) (Some r) slots))
  where
    from : (x : Element) → count_by is_some (Some r ∷ slots) ≡ 1 + length (picked plain_of slots) + length (picked (pair_of height) slots) → count_by is_some (Some r ∷ slots) ≡ length (added plain_of (plain_of x) (picked plain_of slots)) + length (added (pair_of height) (pair_of height x) (picked (pair_of height) slots))
    from (Plain n) is = omega (arith, is)
    from (Version f v) is = omega (arith, is)

-- THE LAW
module _ (s : State) (whole : IsSound s) (none : s.round ≡ None) (l : Levels) (ix : IsIndexed s l) (records : Slab Record) (filed : AreFiled l records) where
  height : Element → ℕ
  height x = level_by l x - l.ended

  plain_is : (x : Element) (n : ℕ) → plain_of x ≡ Some n → x ≡ Plain n
  plain_is (Plain m) n is = ap (λ k. Plain k) (same_Some m n is)
  plain_is (Version f v) n is = absurd (cc is)

  pair_is : (x : Element) (f h : ℕ) → pair_of height x ≡ Some (f, h) → (v : ℕ) × (x ≡ Version f v) × (height (Version f v) ≡ h)
  pair_is (Plain n) f h is = absurd (cc is)
  pair_is (Version g v) f h is =
      let e = same_Some (g, height (Version g v)) (f, h) is in
      let fam : g ≡ f = ap (λ (p : ℕ × ℕ). p.0) e in
      (v, ap (λ k. Version k v) fam, ap (λ k. height (Version k v)) (sym fam) ∙ ap (λ (p : ℕ × ℕ). p.1) e)

  queued_height : (x : Element) → IsQueued l x → IsHeight s.staging.pending x (height x)
  unfolding height
  queued_height x q =
      let lv = row_level l l.ended l.rows.items ix.rows q.0 x q.1 in
      height_is s whole none l ix x (level_by l x - l.ended) (omega (arith, lv)) (omega (arith, lv))

  -- of one family and height there is one version queued
  one_version : (f v w : ℕ) → IsQueued l (Version f v) → IsQueued l (Version f w) → height (Version f v) ≡ height (Version f w) → v ≡ w
  unfolding height
  one_version f v w q r same =
      let a = row_level l l.ended l.rows.items ix.rows q.0 (Version f v) q.1 in
      let b = row_level l l.ended l.rows.items ix.rows r.0 (Version f w) r.1 in
      let e : q.0 ≡ r.0 = omega (arith, a, b, same) in
      same_in_row l l.ended l.rows.items r.0 f v w (subst (λ i. IsInRow (kept_by l) l.ended l.rows.items i (Version f v)) e q.1) r.1

  -- the greatest version of a height is queued
  height_queued : (f v h : ℕ) → IsHeight s.staging.pending (Version f v) h → (w : ℕ) × IsQueued l (Version f w) × (height (Version f w) ≡ h)
  unfolding height
  height_queued f v h is =
      let lv = level_is s whole none l ix (Version f v) h is in
      let one = height_positive s.staging.pending (Version f v) h is in
      let place : l.ended + h ≡ l.ended + (h - 1) + 1 = omega (arith, one) in
      let low = ix.rows.version (h - 1) f v (lv ∙ place) in
      let up = level_one l f v (omega (arith, lv, one)) in
      let top = ix.rows.greatest (h - 1) f (omega (arith, low, up)) in
      (get_or (row_at l.rows.items (h - 1)).versions f 0, ((h - 1), (omega (arith, low, up), refl)), omega (arith, top, one))

  pub kept_counted : (n : ℕ) → n ≡ slab_len records → AreCounted s n
  kept_counted n is = record {
    plains = picked plain_of records.slots;
    plains_once = picked_once plain_of records.slots (λ i j r t a at there p q. one_key l records filed j i t r there at (plain_is r.element a p ∙ sym (plain_is t.element a q)));
    plains_are = λ m. (
      (λ c.
          let t = picked_from plain_of records.slots m c in
          let f = filed.there t.0 t.1 t.2 in
          queued_waits s whole l ix (Plain m) (subst (IsQueued l) (plain_is t.1.element m t.3) f.3)),
      (λ w.
          let q = plain_queued s whole l ix m w in
          let k = queued_kept s whole l ix (Plain m) q in
          let r = filed.here (Plain m) k.0 q k.1 in
          picked_there plain_of records.slots k.0.key r.0 m r.1 (ap plain_of r.2)),
    );
    pairs = picked (pair_of height) records.slots;
    pairs_once = picked_once (pair_of height) records.slots (λ i j r t a at there p q.
        let x = pair_is r.element a.0 a.1 p in
        let y = pair_is t.element a.0 a.1 q in
        let e = one_version a.0 x.0 y.0 (subst (IsQueued l) x.1 (filed.there i r at).3) (subst (IsQueued l) y.1 (filed.there j t there).3) (x.2 ∙ sym y.2) in
        one_key l records filed j i t r there at (x.1 ∙ ap (λ u. Version a.0 u) e ∙ sym y.1));
    pairs_are = λ f h. (
      (λ c.
          let t = picked_from (pair_of height) records.slots (f, h) c in
          let x = pair_is t.1.element f h t.3 in
          let q = subst (IsQueued l) x.1 (filed.there t.0 t.1 t.2).3 in
          (x.0, subst (IsHeight s.staging.pending (Version f x.0)) x.2 (queued_height (Version f x.0) q))),
      (λ v.
          let w = height_queued f v.0 h v.1 in
          let k = queued_kept s whole l ix (Version f w.0) w.1 in
          let r = filed.here (Version f w.0) k.0 w.1 k.1 in
          picked_there (pair_of height) records.slots k.0.key r.0 (f, h) r.1 (ap (pair_of height) r.2 ∙ ap (λ u. Some (f, u)) w.2)),
    );
    count = is ∙ counted height records.slots;
  }
