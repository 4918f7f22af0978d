-- Entries of persistent versions are folded into one, and what waits stays as it was.
use Rattle.std.proofs.Common.{◌≡◌, ◌∙◌, ◌≢◌, ℕ, zero, suc, ◌<◌, ◌≤◌, Bool, true, false, cond, List, [], ◌∷◌, ◌++◌, length, get_or, max, inr, set, get_or-set_same, Some, slice_get, refl, sym, ap, subst, ⊎_elim, arith}
use Rattle.std.specs.Prelude.{filter, remove, map, not, nat_lt, nat_le, ◌==◌, ◌&&◌, if◌then◌else◌}
use Rattle.std.proofs.lemmas.Bool.Decides.{nat_tests}
use Rattle.std.proofs.lemmas.List.{append-nil, append_assoc}
use Rattle.std.proofs.lemmas.List.Elements.{filter-append}
use Rattle.std.proofs.lemmas.Option.{some_pair_parts, same_Some, slice_get_within}
use Rattle.cs_deps.specs.declared.elements.Element.{Element}
use Rattle.cs_deps.specs.declared.elements.Element.TheVariants.{Plain, Version}
use Rattle.cs_deps.specs.declared.spans.Span.{Span}
use Rattle.cs_deps.specs.Named.{Named}
use Rattle.cs_deps.specs.Staging.{stands_for}
use Rattle.cs_deps.specs.Entries.{nothing, greater_at_each, union, joined_with, full_needs, entry_waits, waiting_of, AreCurrent}
use Rattle.cs_deps.specs.declared.levels.Levels.{Levels}
use Rattle.cs_deps.specs.Levels.{entry_live, AreLive}
use Rattle.std.proofs.lemmas.Bool.{lt-ltb}
use Rattle.cs_deps.specs.Spent.{is_foldable, is_spent, carried_with, IsFolded}
use Rattle.cs_deps.proofs.Entries.{joined_push, map_same}
use Rattle.cs_deps.proofs.Filtered.{came_from}
use Rattle.cs_deps.proofs.Kept.{at_push}
use Rattle.cs_deps.proofs.Settled.{same_family}

-- UNIONS
greater_swap : (bs cs ds : List ℕ) → greater_at_each (greater_at_each bs cs) ds ≡ greater_at_each (greater_at_each bs ds) cs
greater_swap [] [] [] = refl
greater_swap [] [] (d ∷ ds) = refl
greater_swap [] (c ∷ cs) [] = refl
greater_swap [] (c ∷ cs) (d ∷ ds) = ap (λ n. n ∷ greater_at_each cs ds) (let e : max c d ≡ max d c = omega arith in e) ∙ ap (λ ns. max d c ∷ ns) (greater_swap [] cs ds)
greater_swap (a ∷ bs) [] [] = refl
greater_swap (a ∷ bs) [] (d ∷ ds) = refl
greater_swap (a ∷ bs) (c ∷ cs) [] = refl
greater_swap (a ∷ bs) (c ∷ cs) (d ∷ ds) = ap (λ n. n ∷ greater_at_each (greater_at_each bs cs) ds) (let e : max (max a c) d ≡ max (max a d) c = omega arith in e) ∙ ap (λ ns. max (max a d) c ∷ ns) (greater_swap bs cs ds)

greater_assoc : (bs cs ds : List ℕ) → greater_at_each (greater_at_each bs cs) ds ≡ greater_at_each bs (greater_at_each cs ds)
greater_assoc [] cs ds = refl
greater_assoc (a ∷ bs) [] ds = refl
greater_assoc (a ∷ bs) (c ∷ cs) [] = refl
greater_assoc (a ∷ bs) (c ∷ cs) (d ∷ ds) = ap (λ n. n ∷ greater_at_each (greater_at_each bs cs) ds) (let e : max (max a c) d ≡ max a (max c d) = omega arith in e) ∙ ap (λ ns. max a (max c d) ∷ ns) (greater_assoc bs cs ds)

named_same : (a b : Named) → a.through ≡ b.through → a.spans ≡ b.spans → a.least ≡ b.least → a ≡ b
named_same a b t p l = ap (λ x. record { through = x; spans = a.spans; least = a.least }) t ∙ ap (λ x. record { through = b.through; spans = x; least = a.least }) p ∙ ap (λ x. record { through = b.through; spans = b.spans; least = x }) l

union_swap : (a c d : Named) → c.spans ≡ [] → union (union a c) d ≡ union (union a d) c
union_swap a c d none = named_same (union (union a c) d) (union (union a d) c)
    (let e : max (max a.through c.through) d.through ≡ max (max a.through d.through) c.through = omega arith in e)
    (ap (λ ps. (a.spans ++ ps) ++ d.spans) none ∙ ap (λ ps. ps ++ d.spans) (append-nil a.spans) ∙ sym (ap (λ ps. (a.spans ++ d.spans) ++ ps) none ∙ append-nil (a.spans ++ d.spans)))
    (greater_swap a.least c.least d.least)

union_assoc : (a c d : Named) → union (union a c) d ≡ union a (union c d)
union_assoc a c d = named_same (union (union a c) d) (union a (union c d))
    (let e : max (max a.through c.through) d.through ≡ max a.through (max c.through d.through) = omega arith in e)
    (append_assoc a.spans c.spans d.spans)
    (greater_assoc a.least c.least d.least)

-- what is foldable lists no span
foldable_none : (d : Named) → is_foldable d ≡ true → d.spans ≡ []
foldable_none d is = from d.spans (nat_le (length d.least) 16) is
  where
    from : (ps : List Span) (b : Bool) → ((length ps == 0) && b) ≡ true → ps ≡ []
    from [] b is = refl
    from (p ∷ ps) b is = absurd (cc (let e : (length (p ∷ ps) == 0) ≡ false = grind (arith, nat_tests) in e, is))

both : (a b : Bool) → (a && b) ≡ true → (a ≡ true) × (b ≡ true)
both true true is = (refl, refl)
both true false is = absurd (cc is)
both false b is = absurd (cc is)

-- OF ONE FAMILY
module _ (f v : ℕ) where
  abbrev left : List (Element × Named) → List (Element × Named)
  left es = filter (λ (u : Element × Named). not (is_spent f v u)) es

  -- a version that stands for this one stands for what is spent
  stands_too : (x : Element) (w : ℕ) → v ≤ w → stands_for (Version f v) x ≡ true → stands_for (Version f w) x ≡ true
  stands_too (Plain n) w le is = absurd (cc is)
  stands_too (Version g u) w le is = let b = both (f == g) (nat_le u v) is in let s : nat_le u w ≡ true = grind (arith, nat_tests) in ap (λ c. c && nat_le u w) b.0 ∙ s

  -- a version of another family stands for nothing that is spent
  stands_not : (x : Element) (g w : ℕ) → g ≢ f → stands_for (Version f v) x ≡ true → stands_for (Version g w) x ≡ false
  stands_not (Plain n) g w ne is = refl
  stands_not (Version h u) g w ne is = let b = both (f == h) (nat_le u v) is in let s : (g == h) ≡ false = grind (arith, nat_tests) in ap (λ c. c && nat_le u w) s

  one_left : (y : Element) (a : Named) (w : Element × Named) (l : List (Element × Named)) (p : Bool) → joined_with y a (cond (not p) (w ∷ l) l) ≡ cond p (joined_with y a l) (joined_with y (if stands_for y w.0 then union a w.1 else a) l)
  one_left y a w l true = refl
  one_left y a w l false = refl

  joined_left : (y : Element) → ((x : Element) → stands_for (Version f v) x ≡ true → stands_for y x ≡ true) → (a c : Named) → c.spans ≡ [] → (es : List (Element × Named)) → joined_with y (union a c) es ≡ union (joined_with y a (left es)) (carried_with f v c es)
  joined_left y too a c none [] = refl
  joined_left y too a c none (w ∷ ws) = go (λ b e q. joined_left y too b e q ws) (is_spent f v w) (stands_for y w.0) refl refl ∙ ap (λ d. union d (carried_with f v (if is_spent f v w then union c w.1 else c) ws)) (sym (one_left y a w (left ws) (is_spent f v w)))
    where
      go : ((b e : Named) → e.spans ≡ [] → joined_with y (union b e) ws ≡ union (joined_with y b (left ws)) (carried_with f v e ws)) → (p t : Bool) → is_spent f v w ≡ p → stands_for y w.0 ≡ t → joined_with y (if t then union (union a c) w.1 else union a c) ws ≡ union (cond p (joined_with y a (left ws)) (joined_with y (if t then union a w.1 else a) (left ws))) (carried_with f v (if p then union c w.1 else c) ws)
      go rest true true is stands =
          let b = both (stands_for (Version f v) w.0) (is_foldable w.1) is in
          ap (λ d. joined_with y d ws) (union_assoc a c w.1) ∙ rest a (union c w.1) (ap (λ ps. ps ++ w.1.spans) none ∙ foldable_none w.1 b.1)
      go rest true false is stands = let b = both (stands_for (Version f v) w.0) (is_foldable w.1) is in absurd (cc (sym (too w.0 b.0) ∙ stands))
      go rest false true is stands = ap (λ d. joined_with y d ws) (union_swap a c w.1 none) ∙ rest (union a w.1) c none
      go rest false false is stands = rest a c none

  joined_apart : (y : Element) → ((x : Element) → stands_for (Version f v) x ≡ true → stands_for y x ≡ false) → (a : Named) (es : List (Element × Named)) → joined_with y a es ≡ joined_with y a (left es)
  joined_apart y apart a [] = refl
  joined_apart y apart a (w ∷ ws) = go (λ b. joined_apart y apart b ws) (is_spent f v w) (stands_for y w.0) refl refl ∙ sym (one_left y a w (left ws) (is_spent f v w))
    where
      go : ((b : Named) → joined_with y b ws ≡ joined_with y b (left ws)) → (p t : Bool) → is_spent f v w ≡ p → stands_for y w.0 ≡ t → joined_with y (if t then union a w.1 else a) ws ≡ cond p (joined_with y a (left ws)) (joined_with y (if t then union a w.1 else a) (left ws))
      go rest true true is stands = let b = both (stands_for (Version f v) w.0) (is_foldable w.1) is in absurd (cc (sym (apart w.0 b.0) ∙ stands))
      go rest true false is stands = rest a
      go rest false true is stands = rest (union a w.1)
      go rest false false is stands = rest a

  module _ (ps : List ℕ) (last : v ≡ get_or ps f 0) (es : List (Element × Named)) where
    abbrev folded : List (Element × Named)
    folded = left es ++ (Version f v, carried_with f v nothing es) ∷ []

    joined_folded : (g w : ℕ) → nat_lt (get_or ps g 0) w ≡ true → joined_with (Version g w) nothing es ≡ joined_with (Version g w) nothing folded
    joined_folded g w waits = ⊎_elim
        (λ (e : g ≡ f).
        let le : v ≤ w = let lt : get_or ps g 0 < w = grind (arith, nat_tests) in omega (arith, lt, last, ap (λ h. get_or ps h 0) e) in
        let here : stands_for (Version g w) (Version f v) ≡ true = let s : (g == f) ≡ true = grind (arith, nat_tests) in let t : nat_le v w ≡ true = grind (arith, nat_tests) in ap (λ c. c && nat_le v w) s ∙ t in
        joined_left (Version g w) (λ x is. subst (λ h. stands_for (Version h w) x ≡ true) (sym e) (stands_too x w le is)) nothing nothing refl es
        ∙ sym (joined_push (Version g w) nothing (left es) (Version f v, carried_with f v nothing es) ∙ ap (λ b. if b then union (joined_with (Version g w) nothing (left es)) (carried_with f v nothing es) else joined_with (Version g w) nothing (left es)) here))
        (λ (ne : g ≢ f).
        let there : stands_for (Version g w) (Version f v) ≡ false = let s : (g == f) ≡ false = grind (arith, nat_tests) in ap (λ c. c && nat_le v w) s in
        joined_apart (Version g w) (λ x is. stands_not x g w ne is) nothing es
        ∙ sym (joined_push (Version g w) nothing (left es) (Version f v, carried_with f v nothing es) ∙ ap (λ b. if b then union (joined_with (Version g w) nothing (left es)) (carried_with f v nothing es) else joined_with (Version g w) nothing (left es)) there))
        (same_family f g)

    abbrev test : Element × Named → Bool
    test u = entry_waits ps u.0

    -- what is spent waits no more
    spent_waits : (x : Element) → stands_for (Version f v) x ≡ true → entry_waits ps x ≡ false
    spent_waits (Plain n) is = absurd (cc is)
    spent_waits (Version g u) is =
        let b = both (f == g) (nat_le u v) is in
        let e : f ≡ g = grind (arith, nat_tests) in
        let le : u ≤ v = grind (arith, nat_tests) in
        let low : u ≤ get_or ps g 0 = omega (arith, le, last, ap (λ h. get_or ps h 0) e) in
        let t : nat_lt (get_or ps g 0) u ≡ false = grind (arith, nat_tests) in t

    waits_left : (us : List (Element × Named)) → filter (λ (w : Element × Named). entry_waits ps w.0) (left us) ≡ filter (λ w. entry_waits ps w.0) us
    waits_left [] = refl
    waits_left (w ∷ ws) = go (waits_left ws) (is_spent f v w) refl
      where
        go : filter (λ (w : Element × Named). entry_waits ps w.0) (left ws) ≡ filter (λ w. entry_waits ps w.0) ws → (p : Bool) → is_spent f v w ≡ p → filter test (cond (not p) (w ∷ left ws) (left ws)) ≡ cond (test w) (w ∷ filter test ws) (filter test ws)
        go rest true is = let b = both (stands_for (Version f v) w.0) (is_foldable w.1) is in rest ∙ sym (ap (λ t. cond t (w ∷ filter test ws) (filter test ws)) (spent_waits w.0 b.0))
        go rest false is = ap (λ us. cond (test w) (w ∷ us) us) rest

    pub waiting_folded : waiting_of ps folded ≡ waiting_of ps es
    waiting_folded =
        let last_out : nat_lt (get_or ps f 0) v ≡ false = grind (arith, nat_tests) in
        let lists : filter test folded ≡ filter test es = filter-append test (left es) ((Version f v, carried_with f v nothing es) ∷ []) ∙ ap (λ b. filter test (left es) ++ cond b ((Version f v, carried_with f v nothing es) ∷ []) []) last_out ∙ append-nil (filter test (left es)) ∙ waits_left es in
        ◌∙◌ {b = map (λ (w : Element × Named). (w.0, full_needs folded w.0 w.1)) (filter test es)} (ap (map (λ (w : Element × Named). (w.0, full_needs folded w.0 w.1))) lists)
        (map_same (λ (w : Element × Named). (w.0, full_needs folded w.0 w.1)) (λ (w : Element × Named). (w.0, full_needs es w.0 w.1)) (filter test es) (λ k w at. let c = came_from test es k w at in ap (λ d. (w.0, d)) (same w.0 w.1 c.2)))
      where
        same : (x : Element) (d : Named) → entry_waits ps x ≡ true → full_needs folded x d ≡ full_needs es x d
        same (Plain n) d waits = refl
        same (Version g w) d waits = sym (joined_folded g w waits)

    pub current_folded : (k : ℕ) (w : Element × Named) → slice_get es k ≡ Some w → is_spent f v w ≡ true → (latest : List ℕ) → AreCurrent ps latest es → AreCurrent ps latest folded
    current_folded k w at is latest current j g u d there = ⊎_elim
        (λ (o : slice_get (left es) j ≡ Some (Version g u, d)). let c = came_from (λ (u : Element × Named). not (is_spent f v u)) es j (Version g u, d) o in current c.0 g u d c.1)
        (λ (o : (j ≡ length (left es)) × ((Version f v, carried_with f v nothing es) ≡ (Version g u, d))).
        let parts = some_pair_parts (Version f v) (Version g u) (carried_with f v nothing es) d (ap (λ p. Some p) o.1) in
        let fam : f ≡ g = cc parts.0 in
        let ver : v ≡ u = cc parts.0 in
        let low = witness w.0 w.1 at (both (stands_for (Version f v) w.0) (is_foldable w.1) is).0 in
        subst (λ h. (u ≤ get_or latest h 0) × (get_or ps h 0 < get_or latest h 0)) fam (omega (arith, sym ver, last, low), low))
        (at_push (left es) (Version f v, carried_with f v nothing es) (Version g u, d) j there)
      where
        witness : (x : Element) (e : Named) → slice_get es k ≡ Some (x, e) → stands_for (Version f v) x ≡ true → get_or ps f 0 < get_or latest f 0
        witness (Plain n) e at is = absurd (cc is)
        witness (Version h t) e at is =
            let b = both (f == h) (nat_le t v) is in
            let same : h ≡ f = grind (arith, nat_tests) in
            subst (λ i. get_or ps i 0 < get_or latest i 0) same (current k h t e at).1

-- what doesn't pass can be replaced and taken away
filter_without : {X : Type 0} (p : X → Bool) (xs : List X) (k : ℕ) (x y : X) → slice_get xs k ≡ Some x → p x ≡ false → filter p (remove (set xs k y) k) ≡ filter p xs
filter_without p [] k x y at out = absurd (cc at)
filter_without p (z ∷ zs) zero x y at out = sym (ap (λ b. cond b (z ∷ filter p zs) (filter p zs)) (ap p (same_Some z x at) ∙ out))
filter_without p (z ∷ zs) (suc k) x y at out = ap (λ l. cond (p z) (z ∷ l) l) (filter_without p zs k x y at out)

-- what is spent is given what all of it needs, taken out, and put behind the others
pub folded_by : (f v k : ℕ) (es less kept new : List (Element × Named)) (w y r : Element × Named) → slice_get es k ≡ Some w → is_spent f v w ≡ true → y.1 ≡ carried_with f v nothing es → r ≡ get_or (set es k y) k r → less ≡ remove (set es k y) k → kept ≡ filter (λ u. not (is_spent f v u)) less → new ≡ kept ++ (Version f v, r.1) ∷ [] → IsFolded f v es new
folded_by f v k es less kept new w y r at spent needs taken rest passed put =
    let left = passed ∙ ap (filter (λ (u : Element × Named). not (is_spent f v u))) rest ∙ filter_without (λ (u : Element × Named). not (is_spent f v u)) es k w y at (ap not spent) in
    let all = ap (λ (u : Element × Named). u.1) (taken ∙ get_or-set_same es k y r (slice_get_within es k w at)) ∙ needs in
    inr (k, w, at, spent, put ∙ ap (λ (us : List (Element × Named)). us ++ (Version f v, r.1) ∷ []) left ∙ ap (λ (d : Named). filter (λ (u : Element × Named). not (is_spent f v u)) es ++ (Version f v, d) ∷ []) all)

-- A FOLD KEEPS WHAT WAITS
pub waiting_kept : (f v : ℕ) (ps : List ℕ) → v ≡ get_or ps f 0 → (old new : List (Element × Named)) → IsFolded f v old new → waiting_of ps new ≡ waiting_of ps old
waiting_kept f v ps last old new is = ⊎_elim
    (λ (e : new ≡ old). ap (waiting_of ps) e)
    (λ (t : (k : ℕ) × (w : Element × Named) × (slice_get old k ≡ Some w) × (is_spent f v w ≡ true) × (new ≡ filter (λ u. not (is_spent f v u)) old ++ (Version f v, carried_with f v nothing old) ∷ [])). ap (waiting_of ps) t.4 ∙ waiting_folded f v ps last old)
    is

pub current_kept : (f v : ℕ) (ps : List ℕ) → v ≡ get_or ps f 0 → (old new : List (Element × Named)) → IsFolded f v old new → (latest : List ℕ) → AreCurrent ps latest old → AreCurrent ps latest new
current_kept f v ps last old new is latest current = ⊎_elim
    (λ (e : new ≡ old). subst (AreCurrent ps latest) (sym e) current)
    (λ (t : (k : ℕ) × (w : Element × Named) × (slice_get old k ≡ Some w) × (is_spent f v w ≡ true) × (new ≡ filter (λ u. not (is_spent f v u)) old ++ (Version f v, carried_with f v nothing old) ∷ [])). subst (AreCurrent ps latest) (sym t.4) (current_folded f v ps last old t.0 t.1 t.2 t.3 latest current))
    is

pub live_kept : (f v : ℕ) (old new : List (Element × Named)) → IsFolded f v old new → (l : Levels) (floors : List ℕ) → AreLive l floors old → AreLive l floors new
live_kept f v old new is l floors live = ⊎_elim
    (λ (e : new ≡ old). subst (AreLive l floors) (sym e) live)
    (λ (t : (k : ℕ) × (w : Element × Named) × (slice_get old k ≡ Some w) × (is_spent f v w ≡ true) × (new ≡ filter (λ u. not (is_spent f v u)) old ++ (Version f v, carried_with f v nothing old) ∷ [])). subst (AreLive l floors) (sym t.4) (each t.0 t.1 t.2 t.3))
    is
  where
    past : (x : Element) → stands_for (Version f v) x ≡ true → entry_live l floors x ≡ true → nat_lt (get_or floors f 0) v ≡ true
    past (Plain n) stands live = absurd (cc stands)
    past (Version g u) stands live =
        let b = both (f == g) (nat_le u v) stands in
        let e : f ≡ g = grind (arith, nat_tests) in
        let le : u ≤ v = grind (arith, nat_tests) in
        let lt : get_or floors g 0 < u = grind (arith, nat_tests) in
        lt-ltb (get_or floors f 0) v (omega (arith, lt, le, ap (λ h. get_or floors h 0) e))

    each : (k : ℕ) (w : Element × Named) → slice_get old k ≡ Some w → is_spent f v w ≡ true → AreLive l floors (filter (λ u. not (is_spent f v u)) old ++ (Version f v, carried_with f v nothing old) ∷ [])
    each k w at spent j x d there = ⊎_elim
        (λ (o : slice_get (left f v old) j ≡ Some (x, d)). let c = came_from (λ (u : Element × Named). not (is_spent f v u)) old j (x, d) o in live c.0 x d c.1)
        (λ (o : (j ≡ length (left f v old)) × ((Version f v, carried_with f v nothing old) ≡ (x, d))).
        let e : Version f v ≡ x = ap (λ (u : Element × Named). u.0) o.1 in
        subst (λ y. entry_live l floors y ≡ true) e (past w.0 (both (stands_for (Version f v) w.0) (is_foldable w.1) spent).0 (live k w.0 w.1 at)))
        (at_push (left f v old) (Version f v, carried_with f v nothing old) (x, d) j there)
