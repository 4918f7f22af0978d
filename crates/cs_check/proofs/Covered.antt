-- What the rounds satisfy.
use Rattle.std.proofs.Common.{◌≡◌, ℕ, ◌≤◌, List, [], length, take, take_all, get_or, slice_index, Some, slice_get, refl, sym, ap, subst, inl, inr, ⊎_elim, arith}
use Rattle.std.specs.Prelude.{All, Contains, slice_index_or}
use Rattle.std.proofs.lemmas.Option.{slice_get_within}
use Rattle.std.proofs.lemmas.List.Elements.{All-contains, Contains-get_or}
use Rattle.cs_deps.specs.declared.elements.Element.{Element}
use Rattle.cs_deps.specs.declared.elements.Element.TheVariants.{Plain, Version}
use Rattle.cs_deps.specs.Named.{Named, StandsFor}
use Rattle.cs_deps.specs.Pending.{Pending, Waits, IsPersistent, SatisfiedBy}
use Rattle.cs_deps.specs.Schedule.{IsSchedule, Covers, all_of}
use Rattle.cs_deps.proofs.Sets.{place_of}
use Rattle.cs_check.specs.Listing.{IsListing, WaitsBefore}
use Rattle.cs_check.specs.Tests.{InTime}
use Rattle.cs_check.specs.Written.{NamesListed}
use Rattle.cs_check.specs.Progress.{IsKnown, AreFirsts, AllBefore, NeedsBefore, AreLatest}
use Rattle.cs_check.proofs.Counts.{counted_past}
use Rattle.cs_check.proofs.ListingSteps.{listed_not_persistent, needs_from, own}

pub in_time_from : (g : Pending) → IsListing g → (rounds : List (List Element)) (firsts : List ℕ) → AreFirsts g rounds firsts → ((i : ℕ) (xs : List Element) → slice_get rounds i ≡ Some xs → All (λ x. NeedsBefore g firsts x i) xs) → InTime g rounds
in_time_from g listing rounds firsts are each i round x y at member needs =
    let before = All-contains (λ z. NeedsBefore g firsts z i) round x (each i round at) member needs.0 needs.1 needs.2 in
    ⊎_elim
    (λ (p : IsPersistent g y). inl p)
    (λ (b : WaitsBefore g needs.0 y).
    let le : i ≤ length rounds = omega (arith, slice_get_within rounds i round at) in
    inr ((are.1 b.0 y b.1 b.3 i le).1 (before b.0 y b.1 b.3 needs.3)))
    ((listing needs.0 x needs.1 needs.2).needs y needs.3)

pub in_time_to : (g : Pending) → IsListing g → (rounds : List (List Element)) (firsts : List ℕ) → AreFirsts g rounds firsts → InTime g rounds → (i : ℕ) (xs : List Element) → slice_get rounds i ≡ Some xs → All (λ x. NeedsBefore g firsts x i) xs
in_time_to g listing rounds firsts are in_time i xs at n z lt k d here j y e there named =
    let le : i ≤ length rounds = omega (arith, slice_get_within rounds i xs at) in
    ⊎_elim
    (λ (p : IsPersistent g y). absurd (listed_not_persistent g listing j y e there p))
    (λ (s : SatisfiedBy (all_of (take i rounds)) y). (are.1 j y e there i le).0 s)
    (in_time i xs (get_or xs n z) y at (Contains-get_or xs n z lt) (k, d, here, named))

all_rounds : (rounds : List (List Element)) → all_of (take (length rounds) rounds) ≡ all_of rounds
all_rounds rounds = ap (λ sets. all_of sets) (take_all (length rounds) rounds (omega arith))

pub covers_from : (g : Pending) → IsListing g → (latest : List ℕ) → AreLatest g latest → (rounds : List (List Element)) (firsts : List ℕ) → AreFirsts g rounds firsts → (target : Named) → IsKnown target latest → AllBefore g firsts target (length rounds) → Covers g rounds target
covers_from g listing latest are_latest rounds firsts are target known before x named =
    ⊎_elim
    (λ (p : IsPersistent g x). inl p)
    (λ (b : WaitsBefore g (length g.waiting) x).
    let le : length rounds ≤ length rounds = omega arith in
    inr (subst (λ xs. SatisfiedBy xs x) (all_rounds rounds) ((are.1 b.0 x b.1 b.3 (length rounds) le).1 (before b.0 x b.1 b.3 named))))
    (needs_from g (length g.waiting) latest target are_latest (λ j y d lt at. listing j y d at) known
    (λ n. absurd (omega (arith, n.3, slice_get_within g.waiting n.0 (n.1, n.2) n.4))) x named)

-- a member of a round waits
member_waits : (g : Pending) (rounds : List (List Element)) → IsSchedule g rounds → (x : Element) → Contains (all_of rounds) x → Waits g x
member_waits g rounds schedule x c =
    let p = place_of rounds (length rounds) x (subst (λ xs. Contains xs x) (sym (all_rounds rounds)) c) in
    All-contains (Waits g) (slice_index_or rounds p.0 []) x (schedule p.0 [] p.2) p.3

pub latest_past : (g : Pending) → IsListing g → (latest : List ℕ) → AreLatest g latest → (f v : ℕ) (y : Element) → Waits g y → StandsFor y (Version f v) → v ≤ slice_index latest f
latest_past g listing latest are f v (Plain n) w s = absurd s
latest_past g listing latest are f v (Version c u) w s =
    let past = counted_past c g.waiting w.0 (length g.waiting) (Version c u) w.1 (slice_get_within g.waiting w.0 (Version c u, w.1) w.2) w.2 (own c u) in
    subst (λ i. v ≤ slice_index latest i) s.0 (omega (arith, s.1, (listing w.0 (Version c u) w.1 w.2).number.2, are c, past))

pub covers_to : (g : Pending) → IsListing g → (latest : List ℕ) → AreLatest g latest → (rounds : List (List Element)) → IsSchedule g rounds → (firsts : List ℕ) → AreFirsts g rounds firsts → (target : Named) → Covers g rounds target → IsKnown target latest × AllBefore g firsts target (length rounds)
covers_to g listing latest are_latest rounds schedule firsts are target covers = (
  (λ f v named. ⊎_elim
      (λ (p : IsPersistent g (Version f v)). omega (arith, p, are_latest f))
      (λ (s : SatisfiedBy (all_of rounds) (Version f v)). latest_past g listing latest are_latest f v s.0 (member_waits g rounds schedule s.0 s.1) s.2)
      (covers (Version f v) named)),
  (λ k x d at named.
      let le : length rounds ≤ length rounds = omega arith in
      ⊎_elim
      (λ (p : IsPersistent g x). absurd (listed_not_persistent g listing k x d at p))
      (λ (s : SatisfiedBy (all_of rounds) x). (are.1 k x d at (length rounds) le).0 (subst (λ xs. SatisfiedBy xs x) (sym (all_rounds rounds)) s))
      (covers x named)),
)

pub known_listed : (g : Pending) → IsListing g → (latest : List ℕ) → AreLatest g latest → (d : Named) → IsKnown d latest → NamesListed g d
known_listed g listing latest are d known f v named =
    ⊎_elim
    (λ (p : IsPersistent g (Version f v)). inl p)
    (λ (b : WaitsBefore g (length g.waiting) (Version f v)). inr (b.0, b.1, b.3))
    (needs_from g (length g.waiting) latest d are (λ j y e lt at. listing j y e at) known
    (λ n. absurd (omega (arith, n.3, slice_get_within g.waiting n.0 (n.1, n.2) n.4))) (Version f v) named)

pub listed_known : (g : Pending) → IsListing g → (latest : List ℕ) → AreLatest g latest → (d : Named) → NamesListed g d → IsKnown d latest
listed_known g listing latest are d listed f v named = ⊎_elim
    (λ (p : IsPersistent g (Version f v)). omega (arith, p, are f))
    (λ (w : Waits g (Version f v)). let same : v ≤ v = omega arith in latest_past g listing latest are f v (Version f v) w (refl, same))
    (listed f v named)
