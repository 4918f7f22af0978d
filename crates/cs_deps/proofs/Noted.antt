-- The newest plain write of each page, as records come and go.
use Rattle.std.proofs.Common.{◌≡◌, ◌∙◌, ◌≢◌, ℕ, ◌+◌, ◌<◌, ◌≤◌, true, false, [], length, get_or, Option, Some, None, refl, sym, ap, subst, ⊎_elim, arith}
use Rattle.std.specs.Prelude.{◌==◌, if◌then◌else◌}
use Rattle.std.proofs.lemmas.Bool.Decides.{nat_tests}
use Rattle.std.proofs.lemmas.Option.{same_Some}
use Rattle.slab.specs.Slab.{Slab, get, Updates}
use Rattle.cs_deps.specs.declared.elements.Element.TheVariants.{Plain}
use Rattle.cs_deps.specs.declared.levels.Kept.{Kept}
use Rattle.cs_deps.specs.declared.levels.Levels.{Levels}
use Rattle.cs_deps.specs.declared.records.Record.{Record}
use Rattle.cs_deps.specs.Levels.{kept_by}
use Rattle.cs_deps.specs.Records.{AreFiled}
use Rattle.cs_deps.specs.Newest.{IsPut, AreKeyed, AreNewest, IsLastUpTo, IsGivenUp, number_or_none}
use Rattle.cs_deps.proofs.KeptIn.{in_within}
use Rattle.cs_deps.proofs.Settled.{same_family}

-- one element has one record
one_place : (l : Levels) (records : Slab Record) → AreKeyed l records → (a b : ℕ) (r u : Record) → get records a ≡ Some r → get records b ≡ Some u → u.element ≡ r.element → b ≡ a
one_place l records keyed a b r u at there same =
    let x = keyed a r at in
    let y = keyed b u there in
    let e : y.0 ≡ x.0 = same_Some y.0 x.0 (sym y.1 ∙ ap (kept_by l) same ∙ x.1) in
    sym y.2 ∙ ap (λ (k : Kept). k.key) e ∙ x.2

-- a plain write with a record has a number that is kept
pub put_above : (l : Levels) (records : Slab Record) → AreKeyed l records → (p n : ℕ) → IsPut records p n → l.dropped < n
put_above l records keyed p n put =
    let k = keyed put.0 put.1 put.2 in
    (in_within l.plains.items l.dropped n k.0 (ap (kept_by l) (sym put.3) ∙ k.1)).0

pub plain_number : (a b : ℕ) → Plain a ≡ Plain b → a ≡ b
plain_number a b e = cc e

test_same : (p q : ℕ) → p ≡ q → (p == q) ≡ true
test_same p q e = grind (arith, nat_tests)

test_other : (p q : ℕ) → p ≢ q → (p == q) ≡ false
test_other p q ne = grind (arith, nat_tests)

-- ONE RECORD LESS
module _ (l : Levels) (old new : Slab Record) (key : ℕ) (r : Record) (up : IsGivenUp old new key r) (keyed : AreKeyed l old) (f : ℕ → Option ℕ) (are : AreNewest old f) where
  -- what is there now was there, under another key
  was_there : (other : ℕ) (u : Record) → get new other ≡ Some u → (get old other ≡ Some u) × (other ≢ key)
  was_there other u at = ⊎_elim
      (λ (e : other ≡ key). absurd (cc (sym at ∙ ap (get new) e ∙ up.gone)))
      (λ (ne : other ≢ key). (sym (up.others other ne) ∙ at, ne))
      (same_family key other)

  was_put : (p n : ℕ) → IsPut new p n → IsPut old p n
  was_put p n t = (t.0, t.1, (was_there t.0 t.1 t.2).0, t.3, t.4)

  older_left : (other : ℕ) (u : Record) (n m : ℕ) → get new other ≡ Some u → u.element ≡ Plain n → IsPut new u.page m → m < n → m ≤ u.older
  older_left other u n m at is put lt = are.older other u n m (was_there other u at).0 is (was_put u.page m put) lt

  still_put : (p m : ℕ) → (t : IsPut old p m) → t.0 ≢ key → IsPut new p m
  still_put p m t ne = (t.0, t.1, up.others t.0 ne ∙ t.2, t.3, t.4)

  -- it was not the newest
  pub newest_stays : (g : ℕ → Option ℕ) → ((q : ℕ) → g q ≡ f q) → ((n : ℕ) → r.element ≡ Plain n → f r.page ≡ Some n → ⊥) → AreNewest new g
  newest_stays g same not_it = record {
    last = λ p n put. (let t = are.last p n (was_put p n put) in (t.0, same p ∙ t.1, t.2));
    there = λ p m is. (let t = are.there p m (sym (same p) ∙ is) in ⊎_elim
        (λ (e : t.0 ≡ key). let s : t.1 ≡ r = same_Some t.1 r (sym t.2 ∙ ap (get old) e ∙ up.was) in absurd (not_it m (ap (λ (w : Record). w.element) (sym s) ∙ t.3) (ap f (ap (λ (w : Record). w.page) (sym s) ∙ t.4) ∙ sym (same p) ∙ is)))
        (λ (ne : t.0 ≢ key). still_put p m t ne)
        (same_family key t.0));
    older = older_left;
  }

  -- it was the newest, and the one before it takes its place
  pub newest_lowered : (n : ℕ) → r.element ≡ Plain n → f r.page ≡ Some n → (found : Option ℕ) → IsLastUpTo new r.page r.older found → (g : ℕ → Option ℕ) → ((q : ℕ) → g q ≡ (if r.page == q then found else f q)) → AreNewest new g
  newest_lowered n is noted found lasts g now = record {
    last = λ p m put. ⊎_elim
        (λ (e : r.page ≡ p). here p m e put)
        (λ (ne : r.page ≢ p). (let t = are.last p m (was_put p m put) in (t.0, there_is p ne ∙ t.1, t.2)))
        (same_family p r.page);
    there = λ p m has. ⊎_elim
        (λ (e : r.page ≡ p). from found lasts p m e (sym (here_is p e) ∙ has))
        (λ (ne : r.page ≢ p). (let t = are.there p m (sym (there_is p ne) ∙ has) in still_put p m t (λ e. ne (let s : t.1 ≡ r = same_Some t.1 r (sym t.2 ∙ ap (get old) e ∙ up.was) in ap (λ (w : Record). w.page) (sym s) ∙ t.4))))
        (same_family p r.page);
    older = older_left;
  }
    where
      here_is : (p : ℕ) → r.page ≡ p → g p ≡ found
      here_is p e = now p ∙ ap (λ b. if b then found else f p) (test_same r.page p e)

      there_is : (p : ℕ) → r.page ≢ p → g p ≡ f p
      there_is p ne = now p ∙ ap (λ b. if b then found else f p) (test_other r.page p ne)

      from : (o : Option ℕ) → IsLastUpTo new r.page r.older o → (p m : ℕ) → r.page ≡ p → o ≡ Some m → IsPut new p m
      from None lasts p m e is = absurd (cc is)
      from (Some k) lasts p m e is = subst (λ q. IsPut new q m) e (subst (λ i. IsPut new r.page i) (same_Some k m is) lasts.0)

      below : (o : Option ℕ) → IsLastUpTo new r.page r.older o → (m : ℕ) → IsPut new r.page m → m ≤ r.older → (k : ℕ) × (o ≡ Some k) × (m ≤ k)
      below None lasts m put le = absurd (omega (arith, lasts m put, le))
      below (Some k) lasts m put le = (k, refl, lasts.1 m put le)

      here : (p m : ℕ) → r.page ≡ p → IsPut new p m → (k : ℕ) × (g p ≡ Some k) × (m ≤ k)
      here p m e put =
          let put_here : IsPut new r.page m = subst (λ q. IsPut new q m) (sym e) put in
          let t = are.last r.page m (was_put r.page m put_here) in
          let top : t.0 ≡ n = same_Some t.0 n (sym t.1 ∙ noted) in
          let other : m ≢ n = (λ s. (was_there put_here.0 put_here.1 put_here.2).1 (one_place l old keyed key put_here.0 r put_here.1 up.was (was_there put_here.0 put_here.1 put_here.2).0 (put_here.3 ∙ ap (λ i. Plain i) s ∙ sym is))) in
          let lt : m < n = omega (arith, t.2, top, other) in
          let b = below found lasts m put_here (are.older key r n m up.was is (was_put r.page m put_here) lt) in
          (b.0, here_is p e ∙ b.1, b.2)

-- ONE RECORD MORE
-- a plain write behind all that have records
pub newest_more : (mid new : Slab Record) (key : ℕ) (r : Record) (n : ℕ) (f g : ℕ → Option ℕ) → AreNewest mid f → get mid key ≡ None → Updates mid new key (Some r) → r.element ≡ Plain n → ((p m : ℕ) → IsPut mid p m → m < n) → r.older ≡ number_or_none (f r.page) → ((q : ℕ) → g q ≡ (if r.page == q then Some n else f q)) → AreNewest new g
newest_more mid new key r n f g are free up is low older now = record {
  last = λ p m put. ⊎_elim
      (λ (e : put.0 ≡ key). let s : put.1 ≡ r = mine put.0 put.1 e put.2 in (n, here_is p (ap (λ (w : Record). w.page) (sym s) ∙ put.4), (let q : m ≡ n = number m n (sym put.3 ∙ ap (λ (w : Record). w.element) s ∙ is) in omega (arith, q))))
      (λ (ne : put.0 ≢ key). let o : IsPut mid p m = (put.0, put.1, sym (up.others put.0 ne) ∙ put.2, put.3, put.4) in ⊎_elim
      (λ (e : r.page ≡ p). (n, here_is p e, (let lt = low p m o in omega (arith, lt))))
      (λ (ne : r.page ≢ p). (let t = are.last p m o in (t.0, there_is p ne ∙ t.1, t.2)))
      (same_family p r.page))
      (same_family key put.0);
  there = λ p m has. ⊎_elim
      (λ (e : r.page ≡ p). let q : n ≡ m = same_Some n m (sym (here_is p e) ∙ has) in (key, r, up.changed, is ∙ ap (λ i. Plain i) q, e))
      (λ (ne : r.page ≢ p). let t = are.there p m (sym (there_is p ne) ∙ has) in (t.0, t.1, up.others t.0 (λ e. absurd (cc (sym t.2 ∙ ap (get mid) e ∙ free))) ∙ t.2, t.3, t.4))
      (same_family p r.page);
  older = λ other u i m at of put lt. ⊎_elim
      (λ (e : put.0 ≡ key).
      -- the new one is before no other
      let s : put.1 ≡ r = mine put.0 put.1 e put.2 in
      let q : m ≡ n = number m n (sym put.3 ∙ ap (λ (w : Record). w.element) s ∙ is) in
      ⊎_elim
      (λ (a : other ≡ key). let t : u ≡ r = mine other u a at in let v : i ≡ n = number i n (sym of ∙ ap (λ (w : Record). w.element) t ∙ is) in absurd (omega (arith, lt, q, v)))
      (λ (b : other ≢ key). let v = low u.page i (other, u, sym (up.others other b) ∙ at, of, refl) in absurd (omega (arith, lt, q, v)))
      (same_family key other))
      (λ (ne : put.0 ≢ key).
      let o : IsPut mid u.page m = (put.0, put.1, sym (up.others put.0 ne) ∙ put.2, put.3, put.4) in
      ⊎_elim
      (λ (a : other ≡ key).
      let t : u ≡ r = mine other u a at in
      let w = are.last r.page m (subst (λ (v : Record). IsPut mid v.page m) t o) in
      let x : number_or_none (f r.page) ≡ w.0 = ap number_or_none w.1 in
      let y : u.older ≡ w.0 = ap (λ (v : Record). v.older) t ∙ older ∙ x in
      omega (arith, y, w.2))
      (λ (b : other ≢ key). are.older other u i m (sym (up.others other b) ∙ at) of o lt)
      (same_family key other))
      (same_family key put.0);
}
  where
    mine : (other : ℕ) (u : Record) → other ≡ key → get new other ≡ Some u → u ≡ r
    mine other u e at = same_Some u r (sym at ∙ ap (get new) e ∙ up.changed)

    number : (a b : ℕ) → Plain a ≡ Plain b → a ≡ b
    number a b e = cc e

    here_is : (p : ℕ) → r.page ≡ p → g p ≡ Some n
    here_is p e = now p ∙ ap (λ b. if b then Some n else f p) (test_same r.page p e)

    there_is : (p : ℕ) → r.page ≢ p → g p ≡ f p
    there_is p ne = now p ∙ ap (λ b. if b then Some n else f p) (test_other r.page p ne)

-- where the plain writes that have records stay, so does the newest of each page
pub newest_same : (old new : Slab Record) (f g : ℕ → Option ℕ) → AreNewest old f → ((q : ℕ) → g q ≡ f q) → ((key : ℕ) (r : Record) (n : ℕ) → r.element ≡ Plain n → get new key ≡ Some r → get old key ≡ Some r) → ((key : ℕ) (r : Record) (n : ℕ) → r.element ≡ Plain n → get old key ≡ Some r → get new key ≡ Some r) → AreNewest new g
newest_same old new f g are same back forth = record {
  last = λ p n put. (let t = are.last p n (from p n put) in (t.0, same p ∙ t.1, t.2));
  there = λ p m is. (let t = are.there p m (sym (same p) ∙ is) in (t.0, t.1, forth t.0 t.1 m t.3 t.2, t.3, t.4));
  older = λ key r n m at is put lt. are.older key r n m (back key r n is at) is (from r.page m put) lt;
}
  where
    from : (p n : ℕ) → IsPut new p n → IsPut old p n
    from p n put = (put.0, put.1, back put.0 put.1 n put.3 put.2, put.3, put.4)

-- nothing is noted
pub newest_new : (records : Slab Record) → records.slots ≡ [] → (f : ℕ → Option ℕ) → ((p : ℕ) → f p ≡ None) → AreNewest records f
newest_new records none f empty = record {
  last = λ p n put. absurd (cc (ap (λ slots. get_or slots put.0 None) none, put.2));
  there = λ p m is. absurd (cc (sym (empty p) ∙ is));
  older = λ key r n m at is put lt. absurd (cc (ap (λ slots. get_or slots key None) none, at));
}

-- a plain write that has a record is one of those that were staged
pub put_low : (l : Levels) (records : Slab Record) → AreFiled l records → (staged : ℕ) → l.dropped + length l.plains.items ≡ staged → (p n : ℕ) → IsPut records p n → n < staged + 1
put_low l records filed staged count p n put =
    let h = filed.there put.0 put.1 put.2 in
    omega (arith, count, (in_within l.plains.items l.dropped n h.0 (ap (kept_by l) (sym put.3) ∙ h.1)).1)
