-- The plain writes of spans, collected in order.
use Rattle.std.proofs.Common.{◌≡◌, ◌∙◌, ℕ, ◌+◌, ◌-◌, ◌<◌, ◌≤◌, ◌⊎◌, List, [], ◌∷◌, ◌++◌, length, get_or, Some, slice_get, sym, ap, subst, inl, inr, ⊎_elim, arith}
use Rattle.std.specs.Prelude.{AllPairs, Contains}
use Rattle.std.proofs.lemmas.Option.{slice_get_within, slice_get-get_or, get_or_from_slice_get, same_Some}
use Rattle.std.proofs.lemmas.List.Elements.{Contains-push, Contains-push_cases, Contains-append_left, Contains-get_or}
use Rattle.std.proofs.lemmas.List.Quantifiers.{all_pairs_push}
use Rattle.cs_deps.specs.declared.elements.Element.{Element}
use Rattle.cs_deps.specs.declared.elements.Element.TheVariants.{Plain, Version}
use Rattle.cs_deps.specs.declared.spans.Span.{Span}
use Rattle.cs_deps.specs.Named.{Named, Names, IsInSpan, IsInSpans}
use Rattle.cs_deps.specs.Pending.{Pending, Waits}
use Rattle.cs_deps.specs.Rounds.{IsListedBefore}
use Rattle.cs_deps.proofs.Within.{below_next}
use Rattle.cs_check.specs.Progress.{IsListedTill, ListsTill, Spells}

-- the first plain writes of a span are added
pub record SpellsTo (g : Pending) (first step : ℕ) (old new : List Element) : Type 0 where
  pub kept : (x : Element) → Contains old x → Contains new x
  pub added : (m : ℕ) → m < step → Contains new (Plain (first + m))
  pub each : (x : Element) → Contains new x → Contains old x ⊎ ((m : ℕ) × (m < step) × (x ≡ Plain (first + m)) × Waits g (Plain (first + m)))
  pub order : AllPairs IsListedBefore old → ((x : Element) → Contains old x → IsListedBefore x (Plain first)) → AllPairs IsListedBefore new

before_later : (x : Element) (m n : ℕ) → m ≤ n → IsListedBefore x (Plain m) → IsListedBefore x (Plain n)
before_later (Plain k) m n le b = omega (arith, le, b)
before_later (Version f v) m n le b = absurd b

pub spells_next : (g : Pending) (first step : ℕ) (old now new : List Element) → Waits g (Plain (first + step)) → new ≡ now ++ Plain (first + step) ∷ [] → SpellsTo g first step old now → SpellsTo g first (step + 1) old new
spells_next g first step old now new waits is before = subst (λ xs. SpellsTo g first (step + 1) old xs) (sym is) record {
  kept = λ x c. Contains-append_left now (Plain (first + step) ∷ []) x (before.kept x c);
  added = λ m lt. ⊎_elim
      (λ (l : m < step). Contains-append_left now (Plain (first + step) ∷ []) (Plain (first + m)) (before.added m l))
      (λ (s : m ≡ step). subst (λ n. Contains (now ++ Plain (first + step) ∷ []) (Plain (first + n))) (sym s) (Contains-push now (Plain (first + step))))
      (below_next m step lt);
  each = λ x c. ⊎_elim
      (λ (o : Contains now x). each_old x (before.each x o))
      (λ (s : Plain (first + step) ≡ x). inr (step, omega arith, sym s, waits))
      (Contains-push_cases now (Plain (first + step)) x c);
  order = λ pairs first_last. all_pairs_push IsListedBefore now (Plain (first + step)) (before.order pairs first_last) (λ k z lt. ahead first_last (get_or now k z) (before.each (get_or now k z) (Contains-get_or now k z lt)));
}
  where
    each_old : (x : Element) → Contains old x ⊎ ((m : ℕ) × (m < step) × (x ≡ Plain (first + m)) × Waits g (Plain (first + m))) → Contains old x ⊎ ((m : ℕ) × (m < step + 1) × (x ≡ Plain (first + m)) × Waits g (Plain (first + m)))
    each_old x (inl o) = inl o
    each_old x (inr m) = inr (m.0, omega (arith, m.1), m.2, m.3)

    ahead : ((x : Element) → Contains old x → IsListedBefore x (Plain first)) → (x : Element) → Contains old x ⊎ ((m : ℕ) × (m < step) × (x ≡ Plain (first + m)) × Waits g (Plain (first + m))) → IsListedBefore x (Plain (first + step))
    ahead last x (inl o) = before_later x first (first + step) (omega arith) (last x o)
    ahead last x (inr m) =
        let less : first + m.0 < first + step = omega (arith, m.1) in
        subst (λ z. IsListedBefore z (Plain (first + step))) (sym m.2) less

pub spells_whole : (g : Pending) (span : Span) (step : ℕ) (old new : List Element) → span.first ≤ span.last → step ≡ span.last - span.first + 1 → SpellsTo g span.first step old new → Spells g span old new
spells_whole g span step old new le end spells = record {
  kept = spells.kept;
  added = λ n i. subst (λ m. Contains new (Plain m)) (there n i) (spells.added (n - span.first) (omega (arith, i.0, i.1, end)));
  each = λ x c. whole x (spells.each x c);
  order = spells.order;
}
  where
    there : (n : ℕ) → IsInSpan n span → span.first + (n - span.first) ≡ n
    there n i = omega (arith, i.0)

    whole : (x : Element) → Contains old x ⊎ ((m : ℕ) × (m < step) × (x ≡ Plain (span.first + m)) × Waits g (Plain (span.first + m))) → Contains old x ⊎ ((n : ℕ) × (x ≡ Plain n) × IsInSpan n span × Waits g (Plain n))
    whole x (inl o) = inl o
    whole x (inr m) =
        let last : span.first + m.0 ≤ span.last = omega (arith, m.1, end, le) in
        let first : span.first ≤ span.first + m.0 = omega arith in
        inr (span.first + m.0, m.2, (first, last), m.3)

-- the plain writes up to a number and of the first i spans are collected
pub record SpelledTo (g : Pending) (d : Named) (i after : ℕ) (xs : List Element) : Type 0 where
  pub through : (n : ℕ) → (1 ≤ n) × (n ≤ d.through) → Contains xs (Plain n)
  pub spans : (j : ℕ) (s : Span) → j < i → slice_get d.spans j ≡ Some s → (n : ℕ) → IsInSpan n s → Contains xs (Plain n)
  pub each : (x : Element) → Contains xs x → (n : ℕ) × (x ≡ Plain n) × (n ≤ after) × Waits g (Plain n) × Names d (Plain n)
  pub order : AllPairs IsListedBefore xs

pub spelled_first : (g : Pending) (d : Named) (span : Span) (old new : List Element) → old ≡ [] → span.first ≡ 1 → span.last ≡ d.through → Spells g span old new → SpelledTo g d 0 span.last new
spelled_first g d span old new none first last spells = record {
  through = λ n t. spells.added n (omega (arith, t.0, first), omega (arith, t.1, last));
  spans = λ j s lt. absurd (omega (arith, lt));
  each = λ x c. ⊎_elim
      (λ (o : Contains old x). absurd (nothing x o))
      (λ (m : (n : ℕ) × (x ≡ Plain n) × IsInSpan n span × Waits g (Plain n)). (m.0, m.1, m.2.1, m.3, inl (omega (arith, m.2.0, first), omega (arith, m.2.1, last))))
      (spells.each x c);
  order = spells.order (λ i j e lt within. absurd (omega (arith, within, ap length none))) (λ x o. absurd (nothing x o));
}
  where
    nothing : (x : Element) → Contains old x → ⊥
    nothing x o = omega (arith, o.1, ap length none)

pub spelled_next : (g : Pending) (d : Named) (i after later : ℕ) (span : Span) (xs new : List Element) → slice_get d.spans i ≡ Some span → after < span.first → after ≤ later → span.last ≤ later → Spells g span xs new → SpelledTo g d i after xs → SpelledTo g d (i + 1) later new
spelled_next g d i after later span xs new at less le last spells before = record {
  through = λ n t. spells.kept (Plain n) (before.through n t);
  spans = λ j s lt there n inside. ⊎_elim
      (λ (l : j < i). spells.kept (Plain n) (before.spans j s l there n inside))
      (λ (e : j ≡ i). let same : s ≡ span = same_Some s span (sym there ∙ ap (λ k. slice_get d.spans k) e ∙ at) in spells.added n (subst (λ z. IsInSpan n z) same inside))
      (below_next j i lt);
  each = λ x c. ⊎_elim
      (λ (o : Contains xs x). let b = before.each x o in (b.0, b.1, omega (arith, b.2, le), b.3, b.4))
      (λ (m : (n : ℕ) × (x ≡ Plain n) × IsInSpan n span × Waits g (Plain n)). (m.0, m.1, omega (arith, m.2.1, last), m.3, inr (named m.0 m.2)))
      (spells.each x c);
  order = spells.order before.order (λ x o. let b = before.each x o in let lt : b.0 < span.first = omega (arith, b.2, less) in subst (λ z. IsListedBefore z (Plain span.first)) (sym b.1) lt);
}
  where
    named : (n : ℕ) → IsInSpan n span → IsInSpans d.spans n
    named n inside = (i, span, slice_get_within d.spans i span at, get_or_from_slice_get d.spans i span span at, inside)

pub spelled_whole : (g : Pending) (d : Named) (i after : ℕ) (xs : List Element) → length d.spans ≤ i → SpelledTo g d i after xs → ListsTill g d (length g.waiting) 0 xs
spelled_whole g d i after xs le spelled = record {
  members = λ x. ((λ c. till x (spelled.each x c)), (λ l. among x l));
  order = spelled.order;
}
  where
    till : (x : Element) → (n : ℕ) × (x ≡ Plain n) × (n ≤ after) × Waits g (Plain n) × Names d (Plain n) → IsListedTill g d (length g.waiting) 0 x
    till x m =
        let w = m.3 in
        let one : IsListedTill g d (length g.waiting) 0 (Plain m.0) = ((w.0, w.1, slice_get_within g.waiting w.0 (Plain m.0, w.1) w.2, w.2), m.4) in
        subst (λ z. IsListedTill g d (length g.waiting) 0 z) (sym m.1) one

    among : (x : Element) → IsListedTill g d (length g.waiting) 0 x → Contains xs x
    among (Plain n) l = ⊎_elim
        (λ (t : (1 ≤ n) × (n ≤ d.through)). spelled.through n t)
        (λ (s : IsInSpans d.spans n). spelled.spans s.0 s.1 (omega (arith, s.2, le)) (slice_get-get_or d.spans s.0 s.1 s.2 ∙ ap Some s.3) n s.4)
        l.1
    among (Version c v) l = absurd (omega (arith, l.0))
