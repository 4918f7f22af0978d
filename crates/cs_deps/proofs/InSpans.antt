-- Plain writes of spans.
use Rattle.std.proofs.Common.{◌≡◌, ℕ, ◌+◌, ◌<◌, ◌≤◌, ◌⊎◌, List, [], ◌∷◌, ◌++◌, length, take, take_all, get_or, sym, ap, subst, inl, inr, ⊎_elim, arith}
use Rattle.std.specs.Prelude.{Contains, ◌↔◌}
use Rattle.std.proofs.lemmas.List.{take_more}
use Rattle.std.proofs.lemmas.List.Elements.{Contains-get_or, Contains-push, Contains-append_left, Contains-append_right, Contains-append_cases}
use Rattle.cs_deps.specs.declared.elements.Element.{Element}
use Rattle.cs_deps.specs.declared.elements.Element.TheVariants.{Plain, Version}
use Rattle.cs_deps.specs.declared.spans.Span.{Span}
use Rattle.cs_deps.specs.Named.{Named, Names, IsInSpan, IsInSpans, NamesPlain}
use Rattle.cs_deps.proofs.Sets.{no_element, only_element}

-- a span that n is one of, among them
pub span_of : (spans : List Span) (n : ℕ) → IsInSpans spans n → (s : Span) × Contains spans s × IsInSpan n s
span_of spans n h = (h.1, (h.0, h.2, h.3), h.4)

pub in_spans : (spans : List Span) (n : ℕ) (s : Span) → Contains spans s → IsInSpan n s → IsInSpans spans n
in_spans spans n s c h = (c.0, s, c.1, c.2, h)

pub in_none : (n : ℕ) → IsInSpans [] n → ⊥
in_none n h = let r = span_of [] n h in no_element r.0 r.1

pub in_one : (s : Span) (n : ℕ) → IsInSpans (s ∷ []) n ↔ IsInSpan n s
in_one s n = (
  (λ h. let r = span_of (s ∷ []) n h in subst (IsInSpan n) (sym (only_element s r.0 r.1)) r.2),
  (λ h. in_spans (s ∷ []) n s (Contains-push [] s) h),
)

pub in_left : (a b : List Span) (n : ℕ) → IsInSpans a n → IsInSpans (a ++ b) n
in_left a b n h = let r = span_of a n h in in_spans (a ++ b) n r.0 (Contains-append_left a b r.0 r.1) r.2

pub in_right : (a b : List Span) (n : ℕ) → IsInSpans b n → IsInSpans (a ++ b) n
in_right a b n h = let r = span_of b n h in in_spans (a ++ b) n r.0 (Contains-append_right a b r.0 r.1) r.2

pub in_either : (a b : List Span) (n : ℕ) → IsInSpans (a ++ b) n → IsInSpans a n ⊎ IsInSpans b n
in_either a b n h =
    let r = span_of (a ++ b) n h in
    ⊎_elim (λ (l : Contains a r.0). inl (in_spans a n r.0 l r.2)) (λ (t : Contains b r.0). inr (in_spans b n r.0 t r.2)) (Contains-append_cases a b r.0 r.1)

-- what a read past the end gives
abbrev pub no_span : Span
no_span = record { first = 0; last = 0 }

-- one more span of a front
front_more : (spans : List Span) (i n : ℕ) → i < length spans → IsInSpans (take (i + 1) spans) n ↔ (IsInSpans (take i spans) n ⊎ IsInSpan n (get_or spans i no_span))
front_more spans i n lt =
    let s : Span = get_or spans i no_span in
    let e : take (i + 1) spans ≡ take i spans ++ s ∷ [] = take_more spans i no_span lt in (
      (λ h. ⊎_elim
          (λ (l : IsInSpans (take i spans) n). inl l)
          (λ (o : IsInSpans (s ∷ []) n). inr ((in_one s n).0 o))
          (in_either (take i spans) (s ∷ []) n (subst (λ l. IsInSpans l n) e h))),
      (λ h. subst (λ l. IsInSpans l n) (sym e) (⊎_elim (λ (l : IsInSpans (take i spans) n). in_left (take i spans) (s ∷ []) n l) (λ (o : IsInSpan n s). in_right (take i spans) (s ∷ []) n ((in_one s n).1 o)) h)),
    )

-- a loop over spans, of which each number is to be so
pub each_none : (spans : List Span) (P : ℕ → Type 0) (n : ℕ) → IsInSpans (take 0 spans) n → P n
each_none spans P n c = absurd (in_none n c)

pub each_more : (spans : List Span) (i : ℕ) → i < length spans → (P : ℕ → Type 0) → ((n : ℕ) → IsInSpans (take i spans) n → P n) → ((n : ℕ) → IsInSpan n (get_or spans i no_span) → P n) → (n : ℕ) → IsInSpans (take (i + 1) spans) n → P n
each_more spans i lt P was here n c = ⊎_elim (λ (l : IsInSpans (take i spans) n). was n l) (λ (o : IsInSpan n (get_or spans i no_span)). here n o) ((front_more spans i n lt).0 c)

pub each_all : (spans : List Span) (i : ℕ) → length spans ≤ i → (P : ℕ → Type 0) → ((n : ℕ) → IsInSpans (take i spans) n → P n) → (n : ℕ) → IsInSpans spans n → P n
each_all spans i le P = subst (λ l. (n : ℕ) → IsInSpans l n → P n) (take_all i spans le)

pub in_each : (spans : List Span) (i n : ℕ) → i < length spans → IsInSpan n (get_or spans i no_span) → IsInSpans spans n
in_each spans i n lt h = in_spans spans n (get_or spans i no_span) (Contains-get_or spans i no_span lt) h

-- a loop over spans, of which each is added
pub added_none : (spans : List Span) (P : Type 0) (n : ℕ) → P ↔ (P ⊎ IsInSpans (take 0 spans) n)
added_none spans P n = ((λ h. inl h), (λ h. ⊎_elim (λ (p : P). p) (λ (c : IsInSpans [] n). absurd (in_none n c)) h))

pub added_more : (spans : List Span) (i n : ℕ) → i < length spans → (first old new : Type 0) → old ↔ (first ⊎ IsInSpans (take i spans) n) → new ↔ (old ⊎ IsInSpan n (get_or spans i no_span)) → new ↔ (first ⊎ IsInSpans (take (i + 1) spans) n)
added_more spans i n lt first old new was is =
    let more = front_more spans i n lt in (
      (λ h. ⊎_elim
          (λ (o : old). ⊎_elim (λ (f : first). inl f) (λ (t : IsInSpans (take i spans) n). inr (more.1 (inl t))) (was.0 o))
          (λ (e : IsInSpan n (get_or spans i no_span)). inr (more.1 (inr e)))
          (is.0 h)),
      (λ h. ⊎_elim
          (λ (f : first). is.1 (inl (was.1 (inl f))))
          (λ (t : IsInSpans (take (i + 1) spans) n). ⊎_elim (λ (b : IsInSpans (take i spans) n). is.1 (inl (was.1 (inr b)))) (λ (e : IsInSpan n (get_or spans i no_span)). is.1 (inr e)) (more.0 t))
          h),
    )

-- what stands in the whole
pub added_all : (spans : List Span) (i n : ℕ) → length spans ≤ i → (first old : Type 0) → old ↔ (first ⊎ IsInSpans (take i spans) n) → old ↔ (first ⊎ IsInSpans spans n)
added_all spans i n le first old was = subst (λ l. old ↔ (first ⊎ IsInSpans l n)) (take_all i spans le) was

-- what the span of a dependency names that names nothing else
pub names_one : (s : Span) (n : ℕ) → NamesPlain 0 (s ∷ []) n ↔ IsInSpan n s
names_one s n = (
  (λ h. ⊎_elim (λ (p : (1 ≤ n) × (n ≤ 0)). absurd (omega (arith, p.0, p.1))) (λ (c : IsInSpans (s ∷ []) n). (in_one s n).0 c) h),
  (λ h. inr ((in_one s n).1 h)),
)

-- the span of one write names it alone
pub names_only : (d : Named) (m : ℕ) → ((n : ℕ) → Names d (Plain n) ↔ ((m ≤ n) × (n ≤ m))) → ((f v : ℕ) → Names d (Version f v) → ⊥) → (x : Element) → Names d x ↔ (x ≡ Plain m)
names_only d m plain version (Plain n) = (
  (λ h. let r = (plain n).0 h in let e : n ≡ m = omega (arith, r.0, r.1) in ap (λ k. Plain k) e),
  (λ e. let same : n ≡ m = cc in (plain n).1 (omega (arith, same), omega (arith, same))),
)
names_only d m plain version (Version f v) = ((λ h. absurd (version f v h)), (λ e. absurd (cc e)))

-- a span that is named already
pub names_already : (through n : ℕ) (spans : List Span) (s : Span) → ((m : ℕ) → IsInSpan m s → NamesPlain through spans m) → NamesPlain through spans n ↔ (NamesPlain through spans n ⊎ IsInSpan n s)
names_already through n spans s named = ((λ h. inl h), (λ h. ⊎_elim (λ (o : NamesPlain through spans n). o) (λ (o : IsInSpan n s). named n o) h))
