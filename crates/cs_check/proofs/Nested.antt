-- Versions that need what those before them need.
use Rattle.std.proofs.Common.{◌≡◌, ℕ, ◌+◌, ◌<◌, length, sym, subst}
use Rattle.std.specs.Prelude.{◌↔◌}
use Rattle.std.proofs.lemmas.Option.{slice_get_within}
use Rattle.cs_deps.specs.declared.elements.Element.TheVariants.{Plain, Version}
use Rattle.cs_deps.specs.Named.{Named, Names}
use Rattle.cs_deps.specs.Pending.{Pending, WaitsAt, Waits, Needs}
use Rattle.cs_deps.proofs.Within.{same_at}
use Rattle.cs_check.specs.Listing.{IsListing}
use Rattle.cs_check.specs.Tests.{IsNested}
use Rattle.cs_check.specs.Progress.{NamesAsMuch, IsNestedAt}
use Rattle.cs_check.proofs.ListingSteps.{listed_once}

pub nested_plain : (g : Pending) (k n : ℕ) (d : Named) → WaitsAt g k (Plain n) d → IsNestedAt g k
nested_plain g k n d at f v e x here named wx wn =
    let same = same_at g.waiting k (Version f v) (Plain n) e d here at in cc same.0

pub nested_last : (g : Pending) (k f v : ℕ) (d : Named) → WaitsAt g k (Version f v) d → (Waits g (Version f (v + 1)) → ⊥) → IsNestedAt g k
nested_last g k f v d at none c w e x here named wx wn =
    let same : Version c w ≡ Version f v = (same_at g.waiting k (Version c w) (Version f v) e d here at).0 in
    let family : c ≡ f = cc same in
    let version : w ≡ v = cc same in
    absurd (none (subst (λ i. Waits g (Version i (v + 1))) family (subst (λ i. Waits g (Version c (i + 1))) version wn)))

pub nested_next : (g : Pending) → IsListing g → (k j f v : ℕ) (d e : Named) → WaitsAt g k (Version f v) d → WaitsAt g j (Version f (v + 1)) e → NamesAsMuch g d e ↔ IsNestedAt g k
nested_next g listing k j f v d e at next = (
  (λ much c w h x here named wx wn.
      let same = same_at g.waiting k (Version c w) (Version f v) h d here at in
      let family : c ≡ f = cc (same.0) in
      let version : w ≡ v = cc (same.0) in
      let names : Names d x = subst (λ i. Names i x) same.1 named in
      let needs : Needs g (Version f (v + 1)) x = (j, e, next, much wx.0 x wx.1 wx.2 names) in
      subst (λ i. Needs g (Version i (w + 1)) x) (sym family) (subst (λ i. Needs g (Version f (i + 1)) x) (sym version) needs)),
  (λ nested i x h here named.
      let needs = nested f v d x at named (i, h, here) (j, e, next) in
      let place : needs.0 ≡ j = listed_once g listing needs.0 j (Version f (v + 1)) needs.1 e needs.2 next in
      let same = same_at g.waiting j (Version f (v + 1)) (Version f (v + 1)) needs.1 e (subst (λ n. WaitsAt g n (Version f (v + 1)) needs.1) place needs.2) next in
      subst (λ i. Names i x) same.1 needs.3),
)

pub nested_from : (g : Pending) → ((k : ℕ) → k < length g.waiting → IsNestedAt g k) → IsNested g
nested_from g each f v x needs wx wn = each needs.0 (slice_get_within g.waiting needs.0 (Version f v, needs.1) needs.2) f v needs.1 x needs.2 needs.3 wx wn

pub nested_to : (g : Pending) → IsNested g → (k : ℕ) → IsNestedAt g k
nested_to g nested k f v d x at named wx wn = nested f v x (k, d, at, named) wx wn
