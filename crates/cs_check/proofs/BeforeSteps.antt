-- What is named and satisfied in time.
use Rattle.std.proofs.Common.{◌≡◌, ℕ, ◌+◌, ◌-◌, ◌<◌, ◌≤◌, List, length, slice_index, ap, subst, sym, ⊎_elim, arith}
use Rattle.cs_deps.specs.declared.elements.Element.{Element}
use Rattle.cs_deps.specs.declared.elements.Element.TheVariants.{Plain, Version}
use Rattle.cs_deps.specs.Named.{Named, IsInSpans}
use Rattle.cs_deps.specs.Pending.{Pending, WaitsAt}
use Rattle.cs_deps.proofs.Within.{below_next}
use Rattle.cs_check.specs.Listing.{IsListing}
use Rattle.cs_check.specs.Progress.{AllBefore, AreFirsts, ArePlainsBefore, AreVersionsBefore}
use Rattle.cs_check.proofs.Held.{stands_for_earlier}
use Rattle.cs_check.proofs.ListingSteps.{listed_once}

pub plain_before : (g : Pending) → IsListing g → (firsts : List ℕ) (n i k : ℕ) (d : Named) → WaitsAt g k (Plain n) d → slice_index firsts k < i → ArePlainsBefore g firsts n i
plain_before g listing firsts n i k d at lt j e there =
    let same : j ≡ k = listed_once g listing j k (Plain n) e d there at in
    omega (arith, ap (λ m. slice_index firsts m) same, lt)

-- one number more of a span
pub step_before : (g : Pending) (firsts : List ℕ) (first step i : ℕ) → ArePlainsBefore g firsts (first + step) i → ((m : ℕ) → m < step → ArePlainsBefore g firsts (first + m) i) → (m : ℕ) → m < step + 1 → ArePlainsBefore g firsts (first + m) i
step_before g firsts first step i here before m lt =
    ⊎_elim
    (λ (l : m < step). before m l)
    (λ (s : m ≡ step). subst (λ n. ArePlainsBefore g firsts (first + n) i) (sym s) here)
    (below_next m step lt)

pub span_before : (g : Pending) (firsts : List ℕ) (first step i : ℕ) → ((m : ℕ) → m < step → ArePlainsBefore g firsts (first + m) i) → (n : ℕ) → first ≤ n → n < first + step → ArePlainsBefore g firsts n i
span_before g firsts first step i before n le lt =
    let same : first + (n - first) ≡ n = omega (arith, le) in
    subst (λ m. ArePlainsBefore g firsts m i) same (before (n - first) (omega (arith, le, lt)))

-- what satisfies a version in time satisfies the earlier ones
pub versions_before : (g : Pending) (rounds : List (List Element)) (firsts : List ℕ) → AreFirsts g rounds firsts → (f v i k : ℕ) (d : Named) → i ≤ length rounds → WaitsAt g k (Version f v) d → slice_index firsts k < i → AreVersionsBefore g firsts f v i
versions_before g rounds firsts are f v i k d le at lt j w e there earlier =
    let s = (are.1 k (Version f v) d at i le).1 lt in
    (are.1 j (Version f w) e there i le).0 (s.0, s.1, stands_for_earlier s.0 f w v earlier s.2)

-- none of them waits
pub none_before : (g : Pending) → IsListing g → (firsts : List ℕ) (f v i : ℕ) → v ≤ slice_index g.persistent f → AreVersionsBefore g firsts f v i
none_before g listing firsts f v i le k w d at earlier = absurd (omega (arith, le, earlier, (listing k (Version f w) d at).number.2))

pub all_before_from : (g : Pending) → IsListing g → (firsts : List ℕ) (d : Named) (i : ℕ) → ((n : ℕ) → (1 ≤ n) × (n ≤ d.through) → ArePlainsBefore g firsts n i) → ((n : ℕ) → IsInSpans d.spans n → ArePlainsBefore g firsts n i)
    → ((f : ℕ) → f < length g.persistent → AreVersionsBefore g firsts f (slice_index d.least f) i) → AllBefore g firsts d i
all_before_from g listing firsts d i through spans versions k (Plain n) e at named = ⊎_elim (λ (t : (1 ≤ n) × (n ≤ d.through)). through n t k e at) (λ (s : IsInSpans d.spans n). spans n s k e at) named
all_before_from g listing firsts d i through spans versions k (Version f v) e at named = versions f (listing k (Version f v) e at).number.0 k v e at named.1
