-- A chain, link by link.
use Rattle.std.proofs.Common.{◌≡◌, ◌∙◌, ℕ, zero, suc, ◌<◌, List, [], ◌∷◌, length, Some, slice_get, refl, sym, subst, arith}
use Rattle.std.specs.Prelude.{All, ◌↔◌}
use Rattle.std.proofs.lemmas.Option.{same_Some, slice_get_within}
use Rattle.std.proofs.lemmas.List.Elements.{All-head, All-tail}
use Rattle.cs_deps.specs.declared.elements.Element.{Element}
use Rattle.cs_deps.specs.Named.{Named, Names}
use Rattle.cs_deps.specs.Pending.{Pending, WaitsAt, Waits, Needs}
use Rattle.cs_deps.specs.Chain.{IsChainOf}
use Rattle.cs_deps.proofs.Within.{same_at}
use Rattle.cs_check.specs.Listing.{IsListing}
use Rattle.cs_check.specs.Progress.{IsLink}
use Rattle.cs_check.proofs.ListingSteps.{listed_once}

-- a need of an element that is listed at place k
pub needs_at : (g : Pending) → IsListing g → (k : ℕ) (x y : Element) (d : Named) → WaitsAt g k x d → Names d y ↔ Needs g x y
needs_at g listing k x y d at = (
  (λ named. (k, d, at, named)),
  (λ needs.
      let place : needs.0 ≡ k = listed_once g listing needs.0 k x needs.1 d needs.2 at in
      let same = same_at g.waiting k x x needs.1 d (subst (λ n. WaitsAt g n x needs.1) place needs.2) at in
      subst (λ h. Names h y) same.1 needs.3),
)

-- a member that is followed by another
pub link_before : (g : Pending) (target : Named) (chain : List Element) (i : ℕ) (x y : Element) → slice_get chain i ≡ Some x → slice_get chain (suc i) ≡ Some y → suc i < length chain → Needs g y x ↔ IsLink g target chain i
link_before g target chain i x y at next lt = (
  (λ needs. (
    (λ z w here there. subst (λ u. Needs g w u) (same_Some x z (sym at ∙ here)) (subst (λ u. Needs g u x) (same_Some y w (sym next ∙ there)) needs)),
    (λ z here last. absurd (omega (arith, last))),
  )),
  (λ link. link.0 x y at next),
)

-- the last member
pub link_last : (g : Pending) (target : Named) (chain : List Element) (i : ℕ) (x : Element) → slice_get chain i ≡ Some x → suc i ≡ length chain → Names target x ↔ IsLink g target chain i
link_last g target chain i x at last = (
  (λ named. (
    (λ z w here there. absurd (omega (arith, slice_get_within chain (suc i) w there))),
    (λ z here _. subst (Names target) (same_Some x z (sym at ∙ here)) named),
  )),
  (λ link. link.1 x at last),
)

link_rest : (g : Pending) (target : Named) (x : Element) (chain : List Element) (i : ℕ) → IsLink g target (x ∷ chain) (suc i) → IsLink g target chain i
link_rest g target x chain i link = (link.0, λ z at last. link.1 z at (omega (arith, last)))

pub chain_from : (g : Pending) (target : Named) (chain : List Element) → All (Waits g) chain → ((i : ℕ) → i < length chain → IsLink g target chain i) → IsChainOf g target chain
chain_from g target [] waits links = (tt, tt)
chain_from g target (x ∷ []) waits links = (All-head (Waits g) x [] waits, (links 0 (omega arith)).1 x refl (omega arith))
chain_from g target (x ∷ y ∷ ys) waits links =
    let rest = chain_from g target (y ∷ ys) (All-tail (Waits g) x (y ∷ ys) waits) (λ i lt. link_rest g target x (y ∷ ys) i (links (suc i) (omega arith))) in
    ((All-head (Waits g) x (y ∷ ys) waits, (links 0 (omega arith)).0 x y refl refl, rest.0), rest.1)

pub chain_to : (g : Pending) (target : Named) (chain : List Element) → IsChainOf g target chain → (i : ℕ) → i < length chain → IsLink g target chain i
chain_to g target [] is i lt = absurd (omega arith)
chain_to g target (x ∷ []) is zero lt = (
  (λ z w here there. cc there),
  (λ z here last. subst (Names target) (same_Some x z here) is.1),
)
chain_to g target (x ∷ []) is (suc i) lt = absurd (omega arith)
chain_to g target (x ∷ y ∷ ys) is zero lt = (
  (λ z w here there. subst (λ u. Needs g w u) (same_Some x z here) (subst (λ u. Needs g u x) (same_Some y w there) is.0.1)),
  (λ z here last. absurd (omega (arith, last))),
)
chain_to g target (x ∷ y ∷ ys) is (suc i) lt =
    let rest = chain_to g target (y ∷ ys) (is.0.2, is.1) i (omega arith) in
    (rest.0, λ z at last. rest.1 z at (omega (arith, last)))
