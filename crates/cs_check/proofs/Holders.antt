-- Dependencies of which one lists what the other lists.
use Rattle.std.proofs.Common.{◌≡◌, ◌∙◌, ℕ, ◌+◌, ◌<◌, ◌≤◌, List, Some, length, slice_get, slice_index, ap, inl, inr, ⊎_elim, arith}
use Rattle.std.proofs.lemmas.Option.{slice_get-get_or}
use Rattle.cs_deps.specs.declared.elements.Element.TheVariants.{Plain, Version}
use Rattle.cs_deps.specs.declared.spans.Span.{Span}
use Rattle.cs_deps.specs.Named.{Named, Names, IsInSpan, IsInSpans}
use Rattle.cs_deps.specs.Pending.{Pending}
use Rattle.cs_deps.proofs.Within.{below_next}
use Rattle.cs_check.specs.Listing.{IsListing}
use Rattle.cs_check.specs.Progress.{NamesAsMuch}

pub lists_as_much_from : (g : Pending) → IsListing g → (d e : Named) → d.through ≤ e.through → ((n : ℕ) → IsInSpans d.spans n → IsInSpans e.spans n) → ((f v : ℕ) → f < length g.persistent → Names d (Version f v) → Names e (Version f v)) → NamesAsMuch g d e
lists_as_much_from g listing d e through spans versions k (Plain n) h at named = ⊎_elim (λ (t : (1 ≤ n) × (n ≤ d.through)). inl (t.0, omega (arith, t.1, through))) (λ (s : IsInSpans d.spans n). inr (spans n s)) named
lists_as_much_from g listing d e through spans versions k (Version f v) h at named = versions f v (listing k (Version f v) h at).number.0 named

-- what holds of the numbers of each span
pub spans_from : (xs : List Span) (P : ℕ → Type 0) → ((j : ℕ) (s : Span) → slice_get xs j ≡ Some s → (n : ℕ) → IsInSpan n s → P n) → (n : ℕ) → IsInSpans xs n → P n
spans_from xs P each n is = each is.0 is.1 (slice_get-get_or xs is.0 is.1 is.2 ∙ ap Some is.3) n is.4

pub versions_next : (d e : Named) (k : ℕ) → slice_index d.least k ≤ slice_index e.least k → ((f v : ℕ) → f < k → Names d (Version f v) → Names e (Version f v)) → (f v : ℕ) → f < k + 1 → Names d (Version f v) → Names e (Version f v)
versions_next d e k le before f v lt named =
    ⊎_elim
    (λ (l : f < k). before f v l named)
    (λ (s : f ≡ k). (named.0, omega (arith, named.1, le, ap (λ i. slice_index d.least i) s, ap (λ i. slice_index e.least i) s)))
    (below_next f k lt)
