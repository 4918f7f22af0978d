-- Where a frame goes where chunks and runs lie apart, and how many extents hold runs or chunks.
use Rattle.std.proofs.Common.{◌≡◌, ◌∙◌, ◌+◌, ◌<◌, ◌≤◌, ℕ, Bool, true, false, Option, Some, None, refl, sym, ap, subst, inl, inr, ⊎_elim, arith, add-one}
use Rattle.std.specs.Prelude.{◌↔◌, ◌&&◌, if◌then◌else◌, nat_lt, not, MatchOption}
use Rattle.std.proofs.lemmas.Bool.{cases_lt, lt-ltb, ltb-true}
use Rattle.cs_extent.specs.Planned.{holds}
use Rattle.law_machine.specs.Device.{Shape}
use Rattle.law_machine.specs.Extents.{Extents, GoesApart, IsFirstEmpty, MayOpen, Purpose as Reason, Takes, how_many}

module _ (S : Shape) (x : Extents) (r : Reason) (k : ℕ) where
  -- where nothing takes it, it goes to the first empty extent, if that may be taken
  by_empty : (e : ℕ) → ((d : ℕ) → Takes S x r k d → ⊥) → GoesApart S x r k e → IsFirstEmpty S x e × MayOpen S x r
  by_empty e nowhere (inl a) = absurd (nowhere e a.1)
  by_empty e nowhere (inr (inl b)) = absurd (nowhere e b.1.0)
  by_empty e nowhere (inr (inr c)) = (c.1, c.3)

  pub not_opened : ((d : ℕ) → Takes S x r k d → ⊥) → (MayOpen S x r → ⊥) → (e : ℕ) → GoesApart S x r k e → ⊥
  not_opened nowhere may_not e goes = may_not (by_empty e nowhere goes).1

  pub opened : (o : Option ℕ) → MatchOption o ((d : ℕ) → d < S.extents → 0 < x.pointer d) (IsFirstEmpty S x)
      → ((d : ℕ) → Takes S x r k d → ⊥) → k ≤ S.pages → MayOpen S x r
      → MatchOption o ((e : ℕ) → GoesApart S x r k e → ⊥) (GoesApart S x r k)
  opened None full nowhere fits may = λ e goes.
      let there = (by_empty e nowhere goes).0 in
      let some : 0 < x.pointer e = full e there.0 in
      omega (arith, some, there.1)
  opened (Some e) first nowhere fits may = inr (inr (nowhere, first, fits, may))

-- one extent more is counted
pub count_next : (test : ℕ → Bool) (e n m : ℕ) (b : Bool) → b ≡ test e → m ≡ (if b then 1 else 0) → n ≡ how_many test e
    → n + m ≡ how_many test (e + 1)
count_next test e n m b is one so =
    let here : (if test e then 1 else 0) ≡ m = ap (λ (c : Bool). if c then 1 else 0) (sym is) ∙ sym one in
    let all : n + m ≡ (if test e then 1 else 0) + how_many test e = omega (arith, here, so) in
    all ∙ ap (how_many test) (sym (add-one e))

pub one_at_most : (b : Bool) → (if b then 1 else 0) ≤ 1
one_at_most true = omega arith
one_at_most false = omega arith

-- what the test of what an extent holds says
held_then : (p : Bool) (runs b : Bool) → p ≡ true → b ≡ runs → (p && (if runs then b else not b)) ≡ true
held_then true true true t is = refl
held_then true true false t is = absurd (cc is)
held_then true false true t is = absurd (cc is)
held_then true false false t is = refl
held_then false runs b t is = absurd (cc t)

held_only : (p : Bool) (runs b : Bool) → (p && (if runs then b else not b)) ≡ true → (p ≡ true) × (b ≡ runs)
held_only true true true is = (refl, refl)
held_only true true false is = absurd (cc is)
held_only true false true is = absurd (cc is)
held_only true false false is = (refl, refl)
held_only false runs b is = absurd (cc is)

pub held_same : (x : Extents) (runs : Bool) (e : ℕ) (b : Bool) → (b ≡ true) ↔ ((0 < x.pointer e) × (x.of_runs e ≡ runs)) → b ≡ holds x runs e
held_same x runs e true is =
    let h = is.0 refl in sym (held_then (nat_lt 0 (x.pointer e)) runs (x.of_runs e) (lt-ltb 0 (x.pointer e) h.0) h.1)
held_same x runs e false is = none (holds x runs e) refl
  where
    none : (c : Bool) → holds x runs e ≡ c → false ≡ holds x runs e
    none false at = sym at
    none true at =
        let both = held_only (nat_lt 0 (x.pointer e)) runs (x.of_runs e) at in
        let some : 0 < x.pointer e = ltb-true 0 (x.pointer e) both.0 in
        let wrong : false ≡ true = is.1 (some, both.1) in
        absurd (cc wrong)

-- what holds below e and of e holds below the next
pub below_next : (P : ℕ → Type 0) (e : ℕ) → ((d : ℕ) → d < e → P d) → P e → (d : ℕ) → d < e + 1 → P d
below_next P e below here d lt = ⊎_elim
    (λ (l : d < e). below d l)
    (λ (l : e ≤ d). let same : d ≡ e = omega (arith, l, lt) in subst P (sym same) here)
    (cases_lt d e)
