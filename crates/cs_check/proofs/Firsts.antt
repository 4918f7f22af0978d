-- What an element needs, where it is listed.
use Rattle.std.proofs.Common.{◌≡◌, ℕ, List, sym, subst}
use Rattle.std.specs.Prelude.{◌↔◌}
use Rattle.cs_deps.specs.declared.elements.Element.{Element}
use Rattle.cs_deps.specs.Named.{Named}
use Rattle.cs_deps.specs.Pending.{Pending, WaitsAt}
use Rattle.cs_deps.proofs.Within.{same_at}
use Rattle.cs_check.specs.Listing.{IsListing}
use Rattle.cs_check.specs.Progress.{AllBefore, NeedsBefore}
use Rattle.cs_check.proofs.ListingSteps.{listed_once}

-- what an element needs, where it is listed
pub needs_before_at : (g : Pending) → IsListing g → (firsts : List ℕ) (x : Element) (i k : ℕ) (d : Named) → WaitsAt g k x d → AllBefore g firsts d i ↔ NeedsBefore g firsts x i
needs_before_at g listing firsts x i k d at = (
  (λ all j e there.
      let place : j ≡ k = listed_once g listing j k x e d there at in
      let same = same_at g.waiting k x x e d (subst (λ n. WaitsAt g n x e) place there) at in
      subst (λ h. AllBefore g firsts h i) (sym same.1) all),
  (λ each. each k d at),
)
