-- A plan of a target by the queues of what waits.
use Rattle.std.proofs.Common.{◌≡◌, ◌∙◌, ℕ, zero, suc, ◌+◌, ◌-◌, ◌<◌, ◌≤◌, ◌⊎◌, List, [], ◌∷◌, ◌++◌, length, map, get_or, min, Some, slice_get, refl, sym, subst, inl, inr, ⊎_elim, arith}
use Rattle.std.specs.declared.alloc.AllocError.{AllocError}
use Rattle.std.specs.Prelude.{Contains, IfOk, Result, Ok, Err, All, AllPairs, Vec, slice_index_or, ◌↔◌}
use Rattle.std.specs.Global.{Global}
use Rattle.std.proofs.lemmas.Bool.{cases_lt}
use Rattle.std.proofs.lemmas.List.{length-map, get_or_past}
use Rattle.std.proofs.lemmas.List.Elements.{Contains-append_left, Contains-push, Contains-push_cases, Contains-get_or}
use Rattle.std.proofs.lemmas.List.Quantifiers.{all_pairs_push}
use Rattle.std.proofs.lemmas.Option.{same_Some, slice_get_within, slice_get-get_or, get_or_from_slice_get}
use Rattle.cs_deps.specs.declared.elements.Element.{Element}
use Rattle.cs_deps.specs.declared.elements.Element.TheVariants.{Plain, Version}
use Rattle.cs_deps.specs.Named.{Named, Names}
use Rattle.cs_deps.specs.Pending.{Pending, Waits, IsPersistent, IsStaged, SatisfiedBy}
use Rattle.cs_deps.specs.Chain.{IsChain, IsChainOf, IsHeight, LastIs}
use Rattle.cs_deps.specs.Rounds.{IsListedBefore, IsDue, IsTaken, IsRound, AreRounds}
use Rattle.cs_deps.specs.Staging.{Staging, IsKept}
use Rattle.cs_deps.specs.State.{IsQueue, IsInQueue}
use Rattle.cs_deps.specs.Wanted.{AreWanted}
use Rattle.cs_deps.proofs.AllHeights.{all_have_heights}
use Rattle.cs_deps.proofs.ByHeight.{Serve, rounds_schedule, rounds_cover, rounds_respect}
use Rattle.cs_deps.proofs.Chains.{need_is_lower, need_is_needed, first_waits}
use Rattle.cs_deps.proofs.HeightSteps.{chain_ends_waiting, need_of_chain, queue_serves, of_level_height}
use Rattle.cs_deps.proofs.KeptLevels.{heights_rise}
use Rattle.cs_deps.proofs.Kept.{at_push}
use Rattle.cs_deps.proofs.LowerBound.{no_fewer_sets}
use Rattle.cs_deps.proofs.Sets.{no_element}
use Rattle.cs_plan.specs.Best.{IsBestPlan}
use Rattle.cs_plan.specs.Targets.{lowered, IsNamedAt, AreLowered, IsLoweredQueue, AreLoweredQueues, IsInLast}

-- ONE ROUND
pub lowered_none : (g : Pending) (d : Named) (n : ℕ) (queue : List Element) → AreLowered g d n queue 0 []
lowered_none g d n queue = record {
  came = λ x c. absurd (no_element x c);
  there = λ j y lt. absurd (omega (arith, lt));
  order = λ o i j e lt inside. absurd (omega (arith, inside));
}

before_lowered : (d : Named) (x y : Element) → IsListedBefore x y → IsListedBefore (lowered d x) (lowered d y)
before_lowered d (Plain m) (Plain n) b = b
before_lowered d (Plain m) (Version g w) b = tt
before_lowered d (Version f v) (Plain n) b = b
before_lowered d (Version f v) (Version g w) b = b

below_next : (j k : ℕ) → j < k + 1 → (j < k) ⊎ (j ≡ k)
below_next j k lt = ⊎_elim (λ (l : j < k). inl l) (λ (l : k ≤ j). inr (omega (arith, l, lt))) (cases_lt j k)

pub lowered_more : (g : Pending) (d : Named) (n : ℕ) (queue : List Element) (k : ℕ) (y : Element) (old new : List Element) → slice_get queue k ≡ Some y → (((IsNamedAt g d n (lowered d y) → ⊥) × (new ≡ old)) ⊎ (IsNamedAt g d n (lowered d y) × (new ≡ old ++ lowered d y ∷ []))) → AreLowered g d n queue k old → AreLowered g d n queue (k + 1) new
lowered_more g d n queue k y old new at step was = ⊎_elim
    (λ (none : (IsNamedAt g d n (lowered d y) → ⊥) × (new ≡ old)). subst (AreLowered g d n queue (k + 1)) (sym none.1) (skipped none.0))
    (λ (some : IsNamedAt g d n (lowered d y) × (new ≡ old ++ lowered d y ∷ [])). subst (AreLowered g d n queue (k + 1)) (sym some.1) (taken some.0))
    step
  where
    same_at : (j : ℕ) (z : Element) → j ≡ k → slice_get queue j ≡ Some z → z ≡ y
    same_at j z e there = same_Some z y (sym (subst (λ i. slice_get queue i ≡ Some z) e there) ∙ at)

    skipped : (IsNamedAt g d n (lowered d y) → ⊥) → AreLowered g d n queue (k + 1) old
    skipped not = record {
      came = λ x c. (let r = was.came x c in (r.0, (r.1.0, r.1.1, omega (arith, r.1.2), r.1.3, r.1.4)));
      there = λ j z lt there named. ⊎_elim
          (λ (l : j < k). was.there j z l there named)
          (λ (e : j ≡ k). absurd (not (subst (λ (u : Element). IsNamedAt g d n (lowered d u)) (same_at j z e there) named)))
          (below_next j k lt);
      order = was.order;
    }

    taken : IsNamedAt g d n (lowered d y) → AreLowered g d n queue (k + 1) (old ++ lowered d y ∷ [])
    taken named = record {
      came = λ x c. ⊎_elim
          (λ (o : Contains old x). let r = was.came x o in (r.0, (r.1.0, r.1.1, omega (arith, r.1.2), r.1.3, r.1.4)))
          (λ (e : lowered d y ≡ x). (subst (IsNamedAt g d n) e named, (k, y, omega arith, at, sym e)))
          (Contains-push_cases old (lowered d y) x c);
      there = λ j z lt there is. ⊎_elim
          (λ (l : j < k). Contains-append_left old (lowered d y ∷ []) (lowered d z) (was.there j z l there is))
          (λ (e : j ≡ k). subst (λ (u : Element). Contains (old ++ lowered d y ∷ []) (lowered d u)) (sym (same_at j z e there)) (Contains-push old (lowered d y)))
          (below_next j k lt);
      order = λ o. all_pairs_push IsListedBefore old (lowered d y) (was.order o) (λ i e lt. before o (get_or old i e) (Contains-get_or old i e lt));
    }
      where
        before : AllPairs IsListedBefore queue → (x : Element) → Contains old x → IsListedBefore x (lowered d y)
        before o x c =
            let r = was.came x c in
            let b = o r.1.0 k y r.1.2 (slice_get_within queue k y at) in
            let one : get_or queue r.1.0 y ≡ r.1.1 = get_or_from_slice_get queue r.1.0 r.1.1 y r.1.3 in
            let two : get_or queue k y ≡ y = get_or_from_slice_get queue k y y at in
            subst (λ (u : Element). IsListedBefore u (lowered d y)) (sym r.1.4) (before_lowered d r.1.1 y (subst (λ (u : Element). IsListedBefore r.1.1 u) two (subst (λ (u : Element). IsListedBefore u (get_or queue k y)) one b)))

place_in : (xs : List Element) (x : Element) → Contains xs x → (j : ℕ) × (j < length xs) × (slice_get xs j ≡ Some x)
place_in xs x c = (c.0, c.1, subst (λ (u : Element). slice_get xs c.0 ≡ Some u) c.2 (slice_get-get_or xs c.0 x c.1))

-- WHAT A ROUND HAS
module _ (s : Staging) (kept : IsKept s) (target d : Named) (wanted : AreWanted s.pending target d) where
  abbrev g : Pending
  g = s.pending

  due_of : (n : ℕ) (x : Element) → IsNamedAt g d n x → IsDue g target n x
  due_of n x h = ((wanted x (chain_ends_waiting g x n h.1.reached)).0 h.0, h.1)

  named_of : (n : ℕ) (x : Element) → IsDue g target n x → IsNamedAt g d n x
  named_of n x h = ((wanted x (chain_ends_waiting g x n h.1.reached)).1 h.0, h.1)

  module _ (n : ℕ) (xs queue : List Element) (is : IsQueue g n queue) (low : AreLowered g d n queue (length queue) xs) where
    -- the version that stands in the round for one that is due
    stands_here : (f v : ℕ) → IsDue g target n (Version f v) → (z : ℕ) × Contains xs (Version f z) × (v ≤ z)
    stands_here f v due = from (queue_serves g (all_have_heights g kept.staged) n queue is (Version f v) due.1)
      where
        at_top : (top : ℕ) → Contains queue (Version f top) → v ≤ top → (z : ℕ) × Contains xs (Version f z) × (v ≤ z)
        at_top top c le =
            let named = named_of n (Version f v) due in
            let z : ℕ = min top (get_or d.least f 0) in
            let up : v ≤ min top (get_or d.least f 0) = omega (arith, le, named.0.1) in
            let under : min top (get_or d.least f 0) ≤ top = omega arith in
            let ht = of_level_height g n (Version f top) ((is.members (Version f top)).0 c) in
            let wv = chain_ends_waiting g (Version f v) n due.1.reached in
            let wt = chain_ends_waiting g (Version f top) n ht.reached in
            let wz : Waits g (Version f (min top (get_or d.least f 0))) = kept.versions_wait f (min top (get_or d.least f 0)) (omega (arith, kept.staged.not_yet f v wv, up)) (let b : top ≤ get_or s.latest f 0 = kept.numbered (Version f top) wt in omega (arith, b, under)) in
            let hz = all_have_heights g kept.staged (Version f (min top (get_or d.least f 0))) wz in
            let a = heights_rise g kept.staged f v (min top (get_or d.least f 0)) n hz.0 up wz due.1 hz.1 in
            let b = heights_rise g kept.staged f (min top (get_or d.least f 0)) top hz.0 n under wt hz.1 ht in
            let same : hz.0 ≡ n = omega (arith, a, b) in
            let p = place_in queue (Version f top) c in
            let inside : min top (get_or d.least f 0) ≤ get_or d.least f 0 = omega arith in
            (min top (get_or d.least f 0), low.there p.0 (Version f top) p.1 p.2 ((omega (arith, named.0.0, up), inside), subst (IsHeight g (Version f (min top (get_or d.least f 0)))) same hz.1), up)

        from : SatisfiedBy queue (Version f v) → (z : ℕ) × Contains xs (Version f z) × (v ≤ z)
        from (Plain m, c, stands) = absurd stands
        from (Version h top, c, stands) = at_top top (subst (λ i. Contains queue (Version i top)) stands.0 c) stands.1

    pub served_here : (x : Element) → IsDue g target n x → SatisfiedBy xs x
    served_here (Plain m) due =
        let p = place_in queue (Plain m) ((is.members (Plain m)).1 due.1) in
        (Plain m, low.there p.0 (Plain m) p.1 p.2 (named_of n (Plain m) due), refl)
    served_here (Version f v) due = let r = stands_here f v due in (Version f r.0, r.1, (refl, r.2))

    -- a version in the round is the greatest that is due
    greatest_here : (f v w : ℕ) → Contains xs (Version f v) → IsDue g target n (Version f w) → w ≤ v
    greatest_here f v w c due =
        let r = low.came (Version f v) c in
        from r.1.1 r.1.4 ((is.members r.1.1).0 (subst (λ (u : Element). Contains queue u) (get_or_from_slice_get queue r.1.0 r.1.1 r.1.1 r.1.3) (Contains-get_or queue r.1.0 r.1.1 r.1.2)))
      where
        from : (y : Element) → Version f v ≡ lowered d y → IsInQueue g n y → w ≤ v
        from (Plain m) e level = absurd (cc e)
        from (Version h top) e level =
            let one : f ≡ h = cc e in
            let two : v ≡ min top (get_or d.least h 0) = cc e in
            let hw : w ≤ top = level.1 w (subst (λ i. IsHeight g (Version i w) n) one due.1) in
            let hd : w ≤ get_or d.least h 0 = subst (λ i. w ≤ get_or d.least i 0) one (named_of n (Version f w) due).0.1 in
            omega (arith, two, hw, hd)

    members_here : (x : Element) → Contains xs x ↔ IsTaken g target n x
    members_here (Plain m) = (
      (λ c. due_of n (Plain m) (low.came (Plain m) c).0),
      (λ t. let p = place_in queue (Plain m) ((is.members (Plain m)).1 t.1) in low.there p.0 (Plain m) p.1 p.2 (named_of n (Plain m) t)),
    )
    members_here (Version f v) = (
      (λ c. (due_of n (Version f v) (low.came (Version f v) c).0, λ w due. greatest_here f v w c due)),
      (λ t. let r = stands_here f v t.0 in
          let hz = due_of n (Version f r.0) (low.came (Version f r.0) r.1).0 in
          let same : r.0 ≡ v = omega (arith, r.2, t.1 r.0 hz) in
          subst (λ i. Contains xs (Version f i)) same r.1),
    )

    pub round_here : IsRound g target n xs
    round_here = record { members = members_here; order = low.order is.order }

-- ALL ROUNDS
abbrev lists_of : List (Vec Element Global) → List (List Element)
lists_of rounds = map (λ (r : Vec Element Global). r.items) rounds

item_of : (rounds : List (Vec Element Global)) (i : ℕ) (round : List Element) → slice_get (lists_of rounds) i ≡ Some round → (r : Vec Element Global) × (slice_get rounds i ≡ Some r) × (r.items ≡ round)
item_of [] i round e = absurd (cc e)
item_of (r ∷ rs) zero round e = (r, refl, same_Some r.items round e)
item_of (r ∷ rs) (suc i) round e = item_of rs i round e

-- one round more
pub rounds_more : (g : Pending) (d : Named) (rounds : List (Vec Element Global)) (i : ℕ) (round : Vec Element Global) → length rounds ≡ i → IsLoweredQueue g d (i + 1) round.items → 0 < length round.items → AreLoweredQueues g d rounds → AreLoweredQueues g d (rounds ++ round ∷ [])
rounds_more g d rounds i round count is some was j r at = ⊎_elim
    (λ (o : slice_get rounds j ≡ Some r). was j r o)
    (λ (o : (j ≡ length rounds) × (round ≡ r)).
    let e : i ≡ j = sym count ∙ sym o.0 in
    subst (λ (u : Vec Element Global). IsLoweredQueue g d (j + 1) u.items × (0 < length u.items)) o.1 (subst (λ n. IsLoweredQueue g d (n + 1) round.items) e is, some))
    (at_push rounds round r j at)

-- a chain that ends in a member of the last round
last_in : (rounds : List (Vec Element Global)) (end : Element) (xs : List Element) → IsInLast rounds end → LastIs (λ y. y ≡ end) xs → LastIs (IsInLast rounds) xs
last_in rounds end [] is l = tt
last_in rounds end (x ∷ []) is l = subst (IsInLast rounds) (sym l) is
last_in rounds end (x ∷ y ∷ ys) is l = last_in rounds end (y ∷ ys) is l

pub last_of : (rounds : List (Vec Element Global)) (end : Element) → IsInLast rounds end → (result : Result (Vec Element Global) AllocError) → IfOk result (λ chain. LastIs (λ y. y ≡ end) chain.items) → IfOk result (λ chain. LastIs (IsInLast rounds) chain.items)
last_of rounds end is (Ok chain) l = last_in rounds end chain.items is l
last_of rounds end is (Err e) l = l

-- what is due at a height has something due at each height below it
due_below : (g : Pending) → IsStaged g → (target : Named) (m n : ℕ) (x : Element) → 1 ≤ m → m ≤ n → IsDue g target n x → (y : Element) × IsDue g target m y
due_below g ok target m zero x one le due = absurd (omega (arith, one, le))
due_below g ok target m (suc zero) x one le due = (let same : suc zero ≡ m = omega (arith, one, le) in (x, subst (λ i. IsDue g target i x) same due))
due_below g ok target m (suc (suc n)) x one le due = ⊎_elim
    (λ (l : m < suc (suc n)).
    let r = need_of_chain g x n due.1.reached in
    let w = chain_ends_waiting g r.0 (suc n) r.2 in
    let h = all_have_heights g ok r.0 w in
    let up = h.1.greatest (suc n) r.2 in
    let down = need_is_lower g x r.0 (suc (suc n)) h.0 due.1 h.1 r.1 in
    let same : h.0 ≡ suc n = omega (arith, up, down) in
    due_below g ok target m (suc n) r.0 one (omega (arith, l)) (need_is_needed g target x r.0 due.0 r.1 w, subst (IsHeight g r.0) same h.1))
    (λ (l : suc (suc n) ≤ m). let same : suc (suc n) ≡ m = omega (arith, l, le) in (x, subst (λ i. IsDue g target i x) same due))
    (cases_lt m (suc (suc n)))

module _ (s : Staging) (kept : IsKept s) (target d : Named) (wanted : AreWanted s.pending target d) (rounds : List (Vec Element Global)) (each : AreLoweredQueues s.pending d rounds) (depth : ℕ) (deepest : (x : Element) (n : ℕ) → IsHeight s.pending x n → n ≤ depth) (all : (length rounds ≡ depth) ⊎ IsLoweredQueue s.pending d (length rounds + 1) []) where
  round_at : (i : ℕ) (round : List Element) → slice_get (lists_of rounds) i ≡ Some round → IsLoweredQueue s.pending d (i + 1) round
  round_at i round at = let r = item_of rounds i round at in subst (IsLoweredQueue s.pending d (i + 1)) r.2 (each i r.0 r.1).0

  within : (n : ℕ) (x : Element) → IsDue s.pending target n x → n ≤ length rounds
  within n x due = ⊎_elim
      (λ (e : length rounds ≡ depth). omega (arith, deepest x n due.1, e))
      (λ (q : IsLoweredQueue s.pending d (length rounds + 1) []). ⊎_elim
      (λ (l : length rounds < n).
      let y = due_below s.pending kept.staged target (length rounds + 1) n x (omega arith) (omega (arith, l)) due in
      let b = served_here s kept target d wanted (length rounds + 1) [] q.0 q.1 q.2 y.0 y.1 in
      absurd (no_element b.0 b.1))
      (λ (l : n ≤ length rounds). l)
      (cases_lt (length rounds) n))
      all

  are_rounds : AreRounds s.pending target (lists_of rounds)
  are_rounds = record {
    each = λ i round at. (let q = round_at i round at in round_here s kept target d wanted (i + 1) round q.0 q.1 q.2);
    all = λ n x due. omega (arith, within n x due, length-map rounds (λ (r : Vec Element Global). r.items));
  }

  serve : Serve s.pending target (lists_of rounds)
  serve = record {
    due = λ i x c. ⊎_elim
        (λ (l : i < length (lists_of rounds)).
        let q = round_at i (slice_index_or (lists_of rounds) i []) (slice_get-get_or (lists_of rounds) i [] l) in
        due_of s kept target d wanted (i + 1) x (q.2.came x c).0)
        (λ (l : length (lists_of rounds) ≤ i). absurd (no_element x (subst (λ r. Contains r x) (get_or_past (lists_of rounds) i [] l) c)))
        (cases_lt i (length (lists_of rounds)));
    served = λ n x due.
        let i : ℕ = n - 1 in
        let one : 1 ≤ n = due.1.reached.4 in
        let next : n ≡ i + 1 = omega arith in
        let inside : i < length (lists_of rounds) = omega (arith, within n x due, length-map rounds (λ (r : Vec Element Global). r.items), one) in
        let q = round_at i (slice_index_or (lists_of rounds) i []) (slice_get-get_or (lists_of rounds) i [] inside) in
        (i, next, inside, served_here s kept target d wanted (i + 1) (slice_index_or (lists_of rounds) i []) q.0 q.1 q.2 x (subst (λ m. IsDue s.pending target m x) next due));
  }

  -- what stands in the last round is due there, and named by the target
  last_due : (x : Element) → IsInLast rounds x → IsDue s.pending target (length rounds) x
  last_due x (round, at, has) =
      let same : length rounds - 1 + 1 ≡ length rounds = omega (arith, slice_get_within rounds (length rounds - 1) round at) in
      let named = ((each (length rounds - 1) round at).0.2.came x has).0 in
      due_of s kept target d wanted (length rounds) x (subst (λ n. IsNamedAt s.pending d n x) same named)

  pub last_height : (x : Element) → IsInLast rounds x → IsHeight s.pending x (length rounds)
  last_height x last = (last_due x last).1

  last_named : (x : Element) → IsInLast rounds x → Names target x
  last_named x last = (let due = last_due x last in from due.0.0 due.0.1.0 due.0.1.1 due.1)
    where
      from : (xs : List Element) → IsChain s.pending (x ∷ xs) → LastIs (Names target) (x ∷ xs) → IsHeight s.pending x (length rounds) → Names target x
      from [] c l h = l
      from (y ∷ ys) c l h =
          let hy = all_have_heights s.pending kept.staged y (first_waits s.pending y ys c.2) in
          absurd (omega (arith, need_is_lower s.pending y x hy.0 (length rounds) hy.1 h c.1, within hy.0 y ((ys, (c.2, l)), hy.1)))

  chain_named : (xs : List Element) → LastIs (IsInLast rounds) xs → LastIs (Names target) xs
  chain_named [] l = tt
  chain_named (x ∷ []) l = last_named x l
  chain_named (x ∷ y ∷ ys) l = chain_named (y ∷ ys) l

  module _ (chain : List Element) (links : IsChain s.pending chain) (last : LastIs (IsInLast rounds) chain) (count : length chain ≡ length rounds) where
    same_count : length chain ≡ length (lists_of rounds)
    same_count = count ∙ sym (length-map rounds (λ (r : Vec Element Global). r.items))

    none_empty : All (λ (round : List Element). 0 < length round) (lists_of rounds)
    none_empty i e lt = (let r = item_of rounds i (get_or (lists_of rounds) i e) (slice_get-get_or (lists_of rounds) i e lt) in subst (λ (l : List Element). 0 < length l) r.2 (each i r.0 r.1).1)

    pub best_of_lowered : ((x : Element) → Names target x → IsPersistent s.pending x ⊎ Waits s.pending x) → IsBestPlan s.pending target (lists_of rounds) chain
    best_of_lowered known =
        let ok = kept.staged in
        let heights = all_have_heights s.pending ok in
        let shown : IsChainOf s.pending target chain = (links, chain_named chain last) in record {
          schedule = rounds_schedule s.pending ok heights target (lists_of rounds) serve;
          covers = rounds_cover s.pending ok heights target (lists_of rounds) serve known;
          respects = rounds_respect s.pending ok heights target (lists_of rounds) serve;
          fewest = λ sets schedule respects covers. omega (arith, no_fewer_sets s.pending ok target chain shown sets schedule respects covers, same_count);
          links = shown;
          chain_count = same_count;
          no_empty = none_empty;
          heights = are_rounds;
        }
