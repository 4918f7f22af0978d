-- What holds at each place of a list.
use Rattle.std.proofs.Common.{◌≡◌, ◌∙◌, ℕ, ◌+◌, ◌<◌, List, get_or, Some, None, Option, option_map, is_some, slice_get, sym, ap, subst, ⊎_elim, arith, Bool, Vec, MatchOption, IsTrue}
use Rattle.std.specs.Prelude.{All, ◌↔◌}
use Rattle.std.specs.Global.{Global}
use Rattle.std.proofs.lemmas.Option.{slice_get-map, slice_get_within, slice_get-get_or, get_or_from_slice_get, same_Some}
use Rattle.cs_deps.specs.declared.elements.Element.{Element}
use Rattle.cs_deps.specs.Named.{Named}
use Rattle.cs_deps.specs.Pending.{Pending, WaitsAt, Waits}
use Rattle.cs_deps.specs.Schedule.{IsSchedule}
use Rattle.cs_deps.proofs.Within.{below_next}
use Rattle.cs_check.specs.Listing.{IsOnce}
use Rattle.cs_check.specs.Progress.{StandsBelow, elements_of}

-- what holds at each place before k, and at k
pub each_next : {X : Type 0} (P : ℕ → X → Type 0) (xs : List X) (k : ℕ) (x : X) → slice_get xs k ≡ Some x → P k x → ((j : ℕ) (y : X) → j < k → slice_get xs j ≡ Some y → P j y) → (j : ℕ) (y : X) → j < k + 1 → slice_get xs j ≡ Some y → P j y
each_next {X} P xs k x at here before j y lt there =
    ⊎_elim
    (λ (l : j < k). before j y l there)
    (λ (s : j ≡ k).
    let same : y ≡ x = same_Some y x (subst (λ i. Some y ≡ slice_get xs i) s (sym there) ∙ at) in
    subst (λ i. P i y) (sym s) (subst (P k) (sym same) here))
    (below_next j k lt)

pub all_from : {X : Type 0} (P : X → Type 0) (xs : List X) → ((k : ℕ) (x : X) → slice_get xs k ≡ Some x → P x) → All P xs
all_from P xs each k d lt = each k (get_or xs k d) (slice_get-get_or xs k d lt)

pub at_from : {X : Type 0} (P : X → Type 0) (xs : List X) (k : ℕ) (x : X) → All P xs → slice_get xs k ≡ Some x → P x
at_from P xs k x all at = subst P (get_or_from_slice_get xs k x x at) (all k x (slice_get_within xs k x at))

pub once_from : (xs : List Element) → ((k : ℕ) (x : Element) → slice_get xs k ≡ Some x → StandsBelow xs k x → ⊥) → IsOnce xs
once_from xs none i j d lt within same =
    let at = slice_get-get_or xs j d within in
    none j (get_or xs j d) at (i, lt, slice_get-get_or xs i d (omega arith) ∙ ap Some same)

pub once_to : (xs : List Element) → IsOnce xs → (k : ℕ) (x : Element) → slice_get xs k ≡ Some x → StandsBelow xs k x → ⊥
once_to xs once k x at b = once b.0 k x b.1 (slice_get_within xs k x at) (get_or_from_slice_get xs b.0 x x b.2 ∙ sym (get_or_from_slice_get xs k x x at))

-- a round by its place
pub elements_at : (rounds : List (Vec Element Global)) (i : ℕ) (v : Vec Element Global) → slice_get rounds i ≡ Some v → slice_get (elements_of rounds) i ≡ Some v.items
elements_at rounds i v at = slice_get-map (λ (v : Vec Element Global). v.items) rounds i ∙ ap (option_map (λ (v : Vec Element Global). v.items)) at

pub rounds_from : (g : Pending) (rounds : List (List Element)) → ((k : ℕ) (xs : List Element) → slice_get rounds k ≡ Some xs → All (Waits g) xs × IsOnce xs) → IsSchedule g rounds × All IsOnce rounds
rounds_from g rounds each = (all_from (λ xs. All (Waits g) xs) rounds (λ k xs at. (each k xs at).0), all_from IsOnce rounds (λ k xs at. (each k xs at).1))

-- an element was found, or it does not wait
pub found_or_not : (g : Pending) (x : Element) (o : Option ℕ) (b : Bool) → b ≡ is_some o → MatchOption o (Waits g x → ⊥) (λ k. (d : Named) × WaitsAt g k x d) → IsTrue b ↔ Waits g x
found_or_not g x None b e found = ((λ t. absurd (cc (t, e))), (λ w. absurd (found w)))
found_or_not g x (Some k) b e found = ((λ t. (k, found.0, found.1)), (λ w. e))
