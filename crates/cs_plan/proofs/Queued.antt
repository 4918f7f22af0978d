-- A plan by queues.
use Rattle.std.proofs.Common.{◌≡◌, ◌∙◌, ℕ, zero, suc, ◌+◌, ◌<◌, ◌≤◌, List, [], ◌∷◌, ◌++◌, length, map, drop, get_or, Some, slice_get, refl, sym, ap, subst, ⊎_elim, arith}
use Rattle.std.specs.Prelude.{◌-◌, Contains, Vec, option_map}
use Rattle.std.specs.Global.{Global}
use Rattle.std.proofs.lemmas.List.{length-map}
use Rattle.std.proofs.lemmas.List.Elements.{Contains-get_or}
use Rattle.std.proofs.lemmas.Option.{same_Some, slice_get_within, slice_get-get_or, slice_get-map}
use Rattle.cs_deps.specs.declared.elements.Element.{Element}
use Rattle.cs_deps.specs.declared.elements.Element.TheVariants.{Plain}
use Rattle.cs_deps.specs.Named.{Named, Names}
use Rattle.cs_deps.specs.Pending.{Pending, WaitsAt, Needs, IsPersistent, SatisfiedBy}
use Rattle.cs_deps.specs.Chain.{IsChain, IsHeight, LastIs}
use Rattle.cs_deps.specs.Staging.{Staging, IsKept}
use Rattle.cs_deps.specs.State.{IsQueue, everything}
use Rattle.cs_deps.proofs.AllHeights.{all_have_heights}
use Rattle.cs_deps.proofs.HeightSteps.{chain_ends_waiting, queue_serves, of_level_height}
use Rattle.cs_deps.proofs.InTurn.{AreQueues, everything_is_all, queues_are_a_plan}
use Rattle.cs_deps.proofs.Kept.{at_push}
use Rattle.cs_deps.proofs.LowerBound.{waiting_not_persistent}
use Rattle.cs_deps.proofs.Ready.{satisfied_is_first}
use Rattle.cs_deps.proofs.Sets.{no_element}
use Rattle.cs_plan.specs.Best.{IsBestPlan}
use Rattle.cs_plan.specs.Queues.{AreListed, IsFollowed, backwards}
use Rattle.cs_plan.specs.Targets.{IsInLast}
use Rattle.cs_plan.proofs.AlongChain.{due_somewhere}

-- THE CHAIN
pub followed_none : (g : Pending) (end : Element) (height : ℕ) → IsHeight g end height → IsFollowed g end height 0 end []
followed_none g end height is = record {
  count = refl;
  chain = tt;
  last = tt;
  next_height = λ lt. (let same : height ≡ height - 0 = omega arith in subst (IsHeight g end) same is);
  next_chain = λ lt. chain_ends_waiting g end height is.reached;
  next_last = λ lt. refl;
}

pub followed_more : (g : Pending) (end : Element) (height i : ℕ) (element next : Element) (made : List Element) → i < height → ((n : ℕ) → IsHeight g element (n + 2) → Needs g element next × IsHeight g next (n + 1)) → IsFollowed g end height i element made → IsFollowed g end height (i + 1) next (element ∷ made)
followed_more g end height i element next made lt step so = record {
  count = (let e = so.count in let one : length (element ∷ made) ≡ length made + 1 = omega arith in omega (arith, e, one));
  chain = so.next_chain lt;
  last = so.next_last lt;
  next_height = λ more. (let same : height - i - 2 + 1 ≡ height - (i + 1) = omega (arith, more) in subst (IsHeight g next) same (needs more).1);
  next_chain = λ more. (chain_ends_waiting g next (height - i - 2 + 1) (needs more).1.reached, (needs more).0, so.next_chain lt);
  next_last = λ more. so.next_last lt;
}
  where
    needs : i + 1 < height → Needs g element next × IsHeight g next (height - i - 2 + 1)
    needs more = let same : height - i ≡ height - i - 2 + 2 = omega (arith, more) in step (height - i - 2) (subst (IsHeight g element) same (so.next_height lt))

-- one element more, from the end
pub backwards_push : (xs : List Element) (x : Element) → backwards (xs ++ x ∷ []) ≡ x ∷ backwards xs
backwards_push [] x = refl
backwards_push (y ∷ ys) x = ap (λ l. l ++ y ∷ []) (backwards_push ys x)

pub backwards_more : (xs : List Element) (k : ℕ) (d : Element) → k < length xs → backwards (drop (suc k) xs) ++ get_or xs k d ∷ [] ≡ backwards (drop k xs)
backwards_more [] k d lt = absurd (omega (arith, lt))
backwards_more (x ∷ xs) zero d lt = refl
backwards_more (x ∷ xs) (suc k) d lt = backwards_more xs k d (omega (arith, lt))

pub backwards_none : (xs : List Element) (k : ℕ) → length xs ≤ k → backwards (drop k xs) ≡ []
backwards_none [] zero le = refl
backwards_none [] (suc k) le = refl
backwards_none (x ∷ xs) zero le = absurd (omega (arith, le))
backwards_none (x ∷ xs) (suc k) le = backwards_none xs k (omega (arith, le))

-- a chain that ends in a named element
pub last_named : (target : Named) (end : Element) (xs : List Element) → Names target end → LastIs (λ y. y ≡ end) xs → LastIs (Names target) xs
last_named target end [] named is = tt
last_named target end (x ∷ []) named is = subst (Names target) (sym is) named
last_named target end (x ∷ y ∷ ys) named is = last_named target end (y ∷ ys) named is

-- where no round is empty, the last has a member
pub none_left : (rounds : List (Vec Element Global)) → ((i : ℕ) (round : Vec Element Global) → slice_get rounds i ≡ Some round → 0 < length round.items) → ((x : Element) → IsInLast rounds x → ⊥) → length rounds ≡ 0
none_left [] full none = refl
none_left (r ∷ rs) full none =
    let last = get_or (r ∷ rs) (length (r ∷ rs) - 1) r in
    let at = slice_get-get_or (r ∷ rs) (length (r ∷ rs) - 1) r (omega arith) in
    absurd (none (get_or last.items 0 (Plain 0)) (last, at, Contains-get_or last.items 0 (Plain 0) (full (length (r ∷ rs) - 1) last at)))

-- a member of the last queue has the greatest height
pub last_height : (g : Pending) (rounds : List (Vec Element Global)) → AreListed g rounds → (x : Element) → IsInLast rounds x → IsHeight g x (length rounds)
last_height g rounds listed x (round, at, has) =
    let same : length rounds - 1 + 1 ≡ length rounds = omega (arith, slice_get_within rounds (length rounds - 1) round at) in
    subst (IsHeight g x) same (of_level_height g (length rounds - 1 + 1) x (((listed (length rounds - 1) round at).members x).0 has))

-- THE PLAN
abbrev lists_of : List (Vec Element Global) → List (List Element)
lists_of rounds = map (λ (r : Vec Element Global). r.items) rounds

item_of : (rounds : List (Vec Element Global)) (i : ℕ) (round : List Element) → slice_get (lists_of rounds) i ≡ Some round → (r : Vec Element Global) × (slice_get rounds i ≡ Some r) × (r.items ≡ round)
item_of [] i round e = absurd (cc e)
item_of (r ∷ rs) zero round e = (r, refl, same_Some r.items round e)
item_of (r ∷ rs) (suc i) round e = item_of rs i round e

module _ (s : Staging) (kept : IsKept s) (rounds : List (Vec Element Global)) (listed : AreListed s.pending rounds) (depth : ℕ) (count : length rounds ≡ depth) (all : (x : Element) (n : ℕ) → IsHeight s.pending x n → n ≤ depth) where
  abbrev g : Pending
  g = s.pending

  abbrev target : Named
  target = everything s

  is_queue : (i : ℕ) (round : List Element) → slice_get (lists_of rounds) i ≡ Some round → IsQueue g (i + 1) round
  is_queue i round at = let r = item_of rounds i round at in subst (IsQueue g (i + 1)) r.2 (listed i r.0 r.1)

  -- where the last height is reached, no queue is empty
  has_height : (0 < depth → (x : Element) × IsHeight g x depth) → (i : ℕ) → i < depth → (y : Element) × IsHeight g y (i + 1)
  has_height reached i lt =
      let r = reached (omega (arith, lt)) in
      let c = r.1.reached in
      let named = (everything_is_all s kept).all r.0 (chain_ends_waiting g r.0 depth c) in
      let d = due_somewhere g (all_have_heights g kept.staged) target depth (λ n x due. all x n due.1) c.0 (c.1, last_named target r.0 c.0 named c.2) c.3 i lt in
      (d.0, d.1.1)

  full : (0 < depth → (x : Element) × IsHeight g x depth) → (i : ℕ) (round : List Element) → slice_get (lists_of rounds) i ≡ Some round → 0 < length round
  full reached i round at =
      let lt : i < depth = omega (arith, slice_get_within (lists_of rounds) i round at, length-map rounds (λ (r : Vec Element Global). r.items), count) in
      let h = has_height reached i lt in
      some round h.0 (queue_serves g (all_have_heights g kept.staged) (i + 1) round (is_queue i round at) h.0 h.1)
    where
      some : (xs : List Element) (y : Element) → SatisfiedBy xs y → 0 < length xs
      some [] y b = absurd (no_element b.0 b.1)
      some (x ∷ xs) y b = omega arith

  pub all_full : (0 < depth → (x : Element) × IsHeight g x depth) → (i : ℕ) (r : Vec Element Global) → slice_get rounds i ≡ Some r → 0 < length r.items
  all_full reached i r at = full reached i r.items (slice_get-map (λ (r : Vec Element Global). r.items) rounds i ∙ ap (option_map (λ (r : Vec Element Global). r.items)) at)

  are_queues : (0 < depth → (x : Element) × IsHeight g x depth) → AreQueues g (lists_of rounds)
  are_queues reached = record {
    each = λ i round at. (is_queue i round at, full reached i round at);
    all = λ n x h. (let e = length-map rounds (λ (r : Vec Element Global). r.items) in omega (arith, all x n h, e, count));
  }

  chain_named : (xs : List Element) → LastIs (IsInLast rounds) xs → LastIs (Names target) xs
  chain_named [] last = tt
  chain_named (x ∷ []) last = (everything_is_all s kept).all x (chain_ends_waiting g x (length rounds) (last_height g rounds listed x last).reached)
  chain_named (x ∷ y ∷ ys) last = chain_named (y ∷ ys) last

  pub best_of_queues : (0 < depth → (x : Element) × IsHeight g x depth) → (chain : List Element) → IsChain g chain → LastIs (IsInLast rounds) chain → length chain ≡ length rounds → IsBestPlan g target (lists_of rounds) chain
  best_of_queues reached chain links last same =
      let p = queues_are_a_plan g kept.staged target (everything_is_all s kept) (lists_of rounds) (are_queues reached) in record {
        schedule = p.schedule;
        covers = p.covers;
        respects = p.respects;
        fewest = p.fewest;
        links = (links, chain_named chain last);
        chain_count = same ∙ sym (length-map rounds (λ (r : Vec Element Global). r.items));
        no_empty = λ i d lt. full reached i (get_or (lists_of rounds) i d) (slice_get-get_or (lists_of rounds) i d lt);
        heights = p.heights;
      }

-- an empty first queue means that nothing waits
pub nothing_waits : (s : Staging) → IsKept s → (xs : List Element) → IsQueue s.pending 1 xs → xs ≡ [] → s.pending.waiting ≡ []
nothing_waits s kept xs queue none = cases s.pending.waiting refl
  where
    cases : (ws : List (Element × Named)) → s.pending.waiting ≡ ws → s.pending.waiting ≡ []
    cases [] e = e
    cases (w ∷ ws) e =
        let at : WaitsAt s.pending 0 w.0 w.1 = ap (λ l. slice_get l 0) e in
        let first = satisfied_is_first s.pending kept.staged 0 w.0 w.1 at (λ y named waits. ⊎_elim
        (λ (p : IsPersistent s.pending y). absurd (waiting_not_persistent s.pending kept.staged y waits p))
        (λ (b : (j : ℕ) × (d : Named) × (j < 0) × WaitsAt s.pending j y d). absurd (omega (arith, b.2)))
        (kept.staged.earlier 0 w.0 y w.1 at named)) in
        let b = queue_serves s.pending (all_have_heights s.pending kept.staged) 1 xs queue w.0 first in
        absurd (no_element b.0 (subst (λ ys. Contains ys b.0) none b.1))

-- one queue more
pub listed_more : (g : Pending) (rounds : List (Vec Element Global)) (i : ℕ) (queue : Vec Element Global) → length rounds ≡ i → IsQueue g (i + 1) queue.items → AreListed g rounds → AreListed g (rounds ++ queue ∷ [])
listed_more g rounds i queue count is listed j round at = ⊎_elim
    (λ (o : slice_get rounds j ≡ Some round). listed j round o)
    (λ (o : (j ≡ length rounds) × (queue ≡ round)). let e : i ≡ j = sym count ∙ sym o.0 in subst (λ (r : Vec Element Global). IsQueue g (j + 1) r.items) o.1 (subst (λ n. IsQueue g (n + 1) queue.items) e is))
    (at_push rounds queue round j at)
