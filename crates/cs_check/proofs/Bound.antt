-- What the tests show of a plan: it respects the dependencies, and no schedule has fewer sets.
use Rattle.std.proofs.Common.{◌≡◌, ℕ, zero, suc, ◌+◌, ◌-◌, ◌<◌, List, [], ◌∷◌, ◌++◌, length, slice_index, take, sym, ◌∙◌, subst, inl, inr, ⊎_elim, arith, Vec}
use Rattle.std.specs.Prelude.{Contains, slice_index_or}
use Rattle.std.specs.Global.{Global}
use Rattle.std.proofs.lemmas.Option.{slice_get-get_or}
use Rattle.std.proofs.lemmas.List.Elements.{Contains-append_cases, Contains-append_left, All-contains}
use Rattle.cs_deps.specs.declared.elements.Element.{Element}
use Rattle.cs_deps.specs.declared.elements.Element.TheVariants.{Plain, Version}
use Rattle.cs_deps.specs.Named.{Named, StandsFor}
use Rattle.cs_deps.specs.Pending.{Pending, WaitsAt, Waits, Needs, IsPersistent, SatisfiedBy, Satisfied}
use Rattle.cs_deps.specs.Schedule.{all_of, Respects, IsFewest}
use Rattle.cs_deps.proofs.LowerBound.{Orders, no_fewer_sets_than_a_chain}
use Rattle.cs_deps.proofs.Sets.{no_element, place_of, within}
use Rattle.cs_check.specs.Listing.{IsListing, WaitsBefore}
use Rattle.cs_check.specs.Tests.{IsNested, InTime, Passes}
use Rattle.cs_check.specs.Progress.{elements_of}
use Rattle.cs_check.proofs.Counts.{one_counted, family_of}
use Rattle.cs_check.proofs.ListingSteps.{listed_once, listed_not_persistent}

-- ---- rounds in time respect the dependencies

-- what is satisfied by the first j sets is satisfied with more
with_more : (g : Pending) (sets : List (List Element)) (j : ℕ) (xs : List Element) (y : Element) → ((z : Element) → Contains (all_of (take j sets)) z → Contains xs z) → Satisfied g (all_of (take j sets)) y → Satisfied g xs y
with_more g sets j xs y more s =
    ⊎_elim
    (λ (p : IsPersistent g y). inl p)
    (λ (b : SatisfiedBy (all_of (take j sets)) y). inr (b.0, more b.0 b.1, b.2))
    s

in_set : (sets : List (List Element)) (i : ℕ) (x : Element) → Contains (slice_index_or sets i []) x → i < length sets
in_set [] zero x c = absurd (no_element x c)
in_set [] (suc i) x c = absurd (no_element x c)
in_set (set ∷ sets) zero x c = omega arith
in_set (set ∷ sets) (suc i) x c = omega (arith, in_set sets i x c)

pub respects_from : (g : Pending) (rounds : List (List Element)) → InTime g rounds → Respects g rounds
respects_from g rounds in_time xs crash x y member needs =
    let i : ℕ = crash.0 in
    let part : List Element = crash.1 in
    let in_xs : Contains (all_of (take i rounds) ++ part) x = subst (λ zs. Contains zs x) crash.3 member in
    let out : (z : Element) → Contains (all_of (take i rounds) ++ part) z → Contains xs z = λ z c. subst (λ zs. Contains zs z) (sym crash.3) c in
    ⊎_elim
    (λ (before : Contains (all_of (take i rounds)) x).
    let p = place_of rounds i x before in
    let s = in_time p.0 (slice_index_or rounds p.0 []) x y (slice_get-get_or rounds p.0 [] p.2) p.3 needs in
    with_more g rounds p.0 xs y (λ z c. let q = place_of rounds p.0 z c in out z (Contains-append_left (all_of (take i rounds)) part z (within rounds q.0 i z (omega (arith, q.1, p.1)) q.3))) s)
    (λ (here : Contains part x).
    let c = All-contains (Contains (slice_index_or rounds i [])) part x crash.2 here in
    let s = in_time i (slice_index_or rounds i []) x y (slice_get-get_or rounds i [] (in_set rounds i x c)) c needs in
    with_more g rounds i xs y (λ z c. out z (Contains-append_left (all_of (take i rounds)) part z c)) s)
    (Contains-append_cases (all_of (take i rounds)) part x in_xs)

-- ---- what a view that is listed well and nested gives

-- the version before a waiting one is persistent or waits
version_before : (g : Pending) → IsListing g → (f v : ℕ) → slice_index g.persistent f < v → Waits g (Version f (v + 1)) → Waits g (Version f v)
version_before g listing f v past w =
    let number = (listing w.0 (Version f (v + 1)) w.1 w.2).number.2 in
    let one = one_counted f g.waiting w.0 (v - (slice_index g.persistent f + 1)) (omega (arith, number, past)) in
    let family = family_of f one.1 one.5 in
    let at : WaitsAt g one.0 (Version f family.0) one.2 = subst (λ x. WaitsAt g one.0 x one.2) family.1 one.4 in
    let same : family.0 ≡ v = omega (arith, (listing one.0 (Version f family.0) one.2 at).number.2, one.6, past) in
    (one.0, one.2, subst (λ u. WaitsAt g one.0 (Version f u) one.2) same at)

-- a later version needs each waiting element that an earlier one needs
needs_later : (g : Pending) → IsListing g → IsNested g → (f v n : ℕ) (x : Element) → Needs g (Version f v) x → Waits g x → Waits g (Version f (v + n)) → Needs g (Version f (v + n)) x
needs_later g listing nested f v zero x needs wx w = subst (λ u. Needs g (Version f u) x) (omega arith) needs
needs_later g listing nested f v (suc n) x needs wx w =
    let e : v + suc n ≡ v + n + 1 = omega arith in
    let first = (listing needs.0 (Version f v) needs.1 needs.2).number.2 in
    let last : Waits g (Version f (v + n + 1)) = subst (λ u. Waits g (Version f u)) e w in
    let before = version_before g listing f (v + n) (omega (arith, first)) last in
    subst (λ u. Needs g (Version f u) x) (sym e) (nested f (v + n) x (needs_later g listing nested f v n x needs wx before) wx last)

-- ---- a chain takes as many sets as it has elements: what that needs of a view

-- nothing needs itself while it waits
needs_not_itself : (g : Pending) → IsListing g → (x : Element) → Needs g x x → ⊥
needs_not_itself g listing x n =
    ⊎_elim
    (λ (p : IsPersistent g x). listed_not_persistent g listing n.0 x n.1 n.2 p)
    (λ (b : WaitsBefore g n.0 x). absurd (omega (arith, listed_once g listing b.0 n.0 x b.1 n.1 b.3 n.2, b.2)))
    ((listing n.0 x n.1 n.2).needs x n.3)

-- what stands for x needs each waiting need of x
needs_of_later : (g : Pending) → IsListing g → IsNested g → (x y z : Element) → StandsFor z x → Waits g z → Waits g y → Needs g x y → Needs g z y
needs_of_later g listing nested (Plain n) y (Plain m) s w wy h = subst (λ k. Needs g (Plain k) y) (sym s) h
needs_of_later g listing nested (Version f v) y (Version e u) s w wy h =
    let same : v + (u - v) ≡ u = omega (arith, s.1) in
    let from : Needs g (Version e v) y = subst (λ k. Needs g (Version k v) y) (sym s.0) h in
    subst (λ i. Needs g (Version e i) y) same (needs_later g listing nested e v (u - v) y from wy (subst (λ i. Waits g (Version e i)) (sym same) w))
needs_of_later g listing nested (Plain n) y (Version e u) s w wy h = absurd s
needs_of_later g listing nested (Version f v) y (Plain m) s w wy h = absurd s

-- nothing stands for an element and for one of its waiting needs
stands_not_for_need : (g : Pending) → IsListing g → (x y z : Element) → Waits g y → Needs g x y → StandsFor z x → StandsFor z y → ⊥
stands_not_for_need g listing (Plain n) (Plain m) (Plain k) wy h s t = needs_not_itself g listing (Plain n) (subst (λ i. Needs g (Plain n) (Plain i)) (sym t ∙ s) h)
stands_not_for_need g listing (Version f v) (Version e u) (Version c w) wy h s t =
    let own_need : Needs g (Version f v) (Version f u) = subst (λ i. Needs g (Version f v) (Version i u)) (sym t.0 ∙ s.0) h in
    let waits : Waits g (Version f u) = subst (λ i. Waits g (Version i u)) (sym t.0 ∙ s.0) wy in
    listed_not_persistent g listing waits.0 (Version f u) waits.1 waits.2 ((listing own_need.0 (Version f v) own_need.1 own_need.2).others u own_need.3)
stands_not_for_need g listing (Plain n) (Version e u) (Plain k) wy h s t = t
stands_not_for_need g listing (Plain n) y (Version c w) wy h s t = s
stands_not_for_need g listing (Version f v) (Plain m) (Version c w) wy h s t = t
stands_not_for_need g listing (Version f v) y (Plain k) wy h s t = s

waits_not_persistent : (g : Pending) → IsListing g → (x : Element) → Waits g x → IsPersistent g x → ⊥
waits_not_persistent g listing x w p = listed_not_persistent g listing w.0 x w.1 w.2 p

-- what is listed well and nested has the order in which a chain bounds every schedule
listed_orders : (g : Pending) → IsListing g → IsNested g → Orders g
listed_orders g listing nested = record {
  not_yet = waits_not_persistent g listing;
  later = needs_of_later g listing nested;
  apart = stands_not_for_need g listing;
}

-- a plan that passes has the fewest sets
pub fewest_from : (g : Pending) (target : Named) (rounds : List (List Element)) (chain : List Element) → Passes g target rounds chain → IsFewest g target rounds
fewest_from g target rounds chain passes sets schedule respects covers =
    omega (arith, passes.long_enough, no_fewer_sets_than_a_chain g (listed_orders g passes.well_formed.elements passes.nested) target chain passes.linked sets schedule respects covers)

pub passes_of : (g : Pending) (target : Named) (rounds others : List (Vec Element Global)) (chain more : List Element) → rounds ≡ others → chain ≡ more → Passes g target (elements_of rounds) chain → Passes g target (elements_of others) more
passes_of g target rounds others chain more same_rounds same_chain passes =
    subst (λ rs. Passes g target (elements_of rs) more) same_rounds (subst (λ xs. Passes g target (elements_of rounds) xs) same_chain passes)
