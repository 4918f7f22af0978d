-- The members of a round, in the order in which the code has them.
use Rattle.std.proofs.Common.{◌≡◌, inl, inr, ⊎_elim, ℕ, zero, suc, ◌<◌, List, [], ◌∷◌, ◌++◌, Some, None, length, map, take, drop, refl, sym, ap, ◌∙◌, subst, arith}
use Rattle.std.specs.Prelude.{◌↔◌, Contains, Err, IsSome, Ok, Option, option_map, slice_get}
use Rattle.std.proofs.lemmas.Bool.Decides.{nat_tests}
use Rattle.cs_deps.specs.declared.elements.Element.{Element as Name}
use Rattle.cs_deps.specs.declared.elements.Element.TheVariants.{Plain, Version}
use Rattle.cs_refusal.specs.declared.refusals.Refusal.TheVariants.{InFlight}
use Rattle.cs_deps.specs.Staging.{settled}
use Rattle.cs_deps.specs.State.{IsWhole as IsWholeGraph, KeepsBytes, State as GraphState, after, after_round}
use Rattle.cs_core.specs.Stored.{members_of}
use Rattle.law_machine.specs.Device.{Shape}
use Rattle.law_machine.specs.Element.{A_root, A_superblock, A_write, Element}
use Rattle.law_machine.specs.Lists.{◌∈◌}
use Rattle.law_machine.specs.Machine.{World}
use Rattle.law_machine.specs.Round.{IsMember}
use Rattle.law_machine.proofs.Waiting.{Listed, root_in, superblock_in, write_in}
use Rattle.law_refinement.specs.Bridge.{AreNames, IsWaiting, name}

-- a member is staged and waits
pub member_listed : (S : Shape) (w : World) (m : Element) → IsMember S w m → Listed w.elements m
member_listed S w (A_write x) is = is.0
member_listed S w (A_superblock u) is = is.0
member_listed S w (A_root r) is = is.0

pub member_waits : (S : Shape) (w : World) (m : Element) → IsMember S w m → IsWaiting w m
member_waits S w (A_write x) is = (write_in w.elements x is.0, is.2)
member_waits S w (A_superblock u) is = (superblock_in w.elements u is.0, (let lt : w.persistent.superblocks u.section < u.version = is.2 in grind (arith, nat_tests)))
member_waits S w (A_root r) is = (root_in w.elements r is.0, (let lt : w.persistent.root < r.version = is.2 in grind (arith, nat_tests)))

-- a name of the list is that of an element
pub named_by : (ms : List Element) (xs : List Name) → map name ms ≡ xs → (z : Name) → Contains xs z → (m : Element) × (m ∈ ms) × (name m ≡ z)
named_by ms xs same z has = from ms z (subst (λ (ys : List Name). Contains ys z) (sym same) has)
  where
    from : (ns : List Element) (y : Name) → Contains (map name ns) y → (m : Element) × (m ∈ ns) × (name m ≡ y)
    from [] y (k, lt, at) = absurd (let l : k < length (map name []) = lt in omega arith)
    from (n ∷ ns) y (zero, lt, at) = (n, inl refl, at)
    from (n ∷ ns) y (suc k, lt, at) = let rest = from ns y (k, omega (arith, lt), at) in (rest.0, inr rest.1, rest.2)

pub names_it : (ms : List Element) (m : Element) → m ∈ ms → Contains (map name ms) (name m)
names_it [] m none = absurd none
names_it (n ∷ ns) m (inl is) = (0, omega arith, ap name (sym is))
names_it (n ∷ ns) m (inr has) = let rest = names_it ns m has in (suc rest.0, omega (arith, rest.1), rest.2)

pub are_names : (ms : List Element) (xs : List Name) → map name ms ≡ xs → AreNames ms xs
are_names ms xs same z = (named_by ms xs same z, (λ from. subst (λ (ys : List Name). Contains ys z) same (subst (λ (y : Name). Contains (map name ms) y) from.2 (names_it ms from.0 from.1))))

-- elements of these names, in their order
pub relisted : (ms : List Element) (xs : List Name) → ((z : Name) → Contains xs z → (m : Element) × (m ∈ ms) × (name m ≡ z))
    → (ns : List Element) × (map name ns ≡ xs) × ((m : Element) → m ∈ ns → m ∈ ms)
relisted ms [] each = ([], refl, (λ m none. absurd none))
relisted ms (x ∷ xs) each =
    let here = each x (0, omega arith, refl) in
    let rest = relisted ms xs (λ z has. each z (suc has.0, omega (arith, has.1), has.2)) in (
      here.0 ∷ rest.0,
      ap (λ (y : Name). y ∷ map name rest.0) here.2 ∙ ap (λ (ys : List Name). x ∷ ys) rest.1,
      (λ m has. ⊎_elim (λ (e : m ≡ here.0). subst (λ (n : Element). n ∈ ms) (sym e) here.1) (λ (h : m ∈ rest.0). rest.2 m h) has),
    )

-- what is next of a list
pub drop_none : {A : Type 0} (xs : List A) (k : ℕ) → slice_get xs k ≡ None → drop k xs ≡ []
drop_none [] zero at = refl
drop_none [] (suc k) at = refl
drop_none (y ∷ xs) zero at = absurd (cc at)
drop_none (y ∷ xs) (suc k) at = drop_none xs k at

pub take_more : {A : Type 0} (xs : List A) (k : ℕ) (x : A) → slice_get xs k ≡ Some x → take (suc k) xs ≡ take k xs ++ x ∷ []
take_more [] k x at = absurd (cc at)
take_more (y ∷ xs) zero x at = let e : y ≡ x = cc at in ap (λ (z : _). z ∷ []) e
take_more (y ∷ xs) (suc k) x at = ap (λ (ys : List _). y ∷ ys) (take_more xs k x at)

pub take_all_of : {A : Type 0} (xs : List A) (k : ℕ) → k ≡ length xs → take k xs ≡ xs
take_all_of [] zero is = refl
take_all_of [] (suc k) is = refl
take_all_of (x ∷ xs) zero is = absurd (omega (arith, is))
take_all_of (x ∷ xs) (suc k) is = ap (λ (ys : List _). x ∷ ys) (take_all_of xs k (omega (arith, is)))

pub drop_left : {A : Type 0} (xs : List A) (k : ℕ) → k < length xs → drop k xs ≡ [] → ⊥
drop_left [] k lt none = omega (arith, lt)
drop_left (x ∷ xs) zero lt none = cc none
drop_left (x ∷ xs) (suc k) lt none = drop_left xs k (omega (arith, lt)) none

pub map_none : (ms : List Element) → map name ms ≡ [] → ms ≡ []
map_none [] none = refl
map_none (m ∷ ms) none = absurd (let e : name m ∷ map name ms ≡ [] = none in cc)

pub map_next : (ms : List Element) (x : Name) (xs : List Name) → map name ms ≡ x ∷ xs → (m : Element) × (ns : List Element) × (ms ≡ m ∷ ns) × (name m ≡ x) × (map name ns ≡ xs)
map_next [] x xs same = absurd (let e : [] ≡ x ∷ xs = same in cc)
map_next (m ∷ ms) x xs same = (m, ms, refl, (let e : name m ∷ map name ms ≡ x ∷ xs = same in cc), (let e : name m ∷ map name ms ≡ x ∷ xs = same in cc))

pub map_push : (ms : List Element) (m : Element) (xs : List Name) → map name ms ≡ xs → map name (ms ++ m ∷ []) ≡ xs ++ name m ∷ []
map_push ms m xs same = pushed ms ∙ ap (λ (ys : List Name). ys ++ name m ∷ []) same
  where
    pushed : (ns : List Element) → map name (ns ++ m ∷ []) ≡ map name ns ++ name m ∷ []
    pushed [] = refl
    pushed (n ∷ ns) = ap (λ (ys : List Name). name n ∷ ys) (pushed ns)

pub none_of : {A : Type 0} (xs : List A) → length xs ≡ 0 → xs ≡ []
none_of [] none = refl
none_of (x ∷ xs) none = absurd (omega (arith, none))

pub some_of : {A : Type 0} (xs : List A) → (length xs ≡ 0 → ⊥) → xs ≡ [] → ⊥
some_of xs some none = some (ap length none)

-- no round is out where that wasn't the refusal
pub not_out : {T : Type 0} (x : T) (out : Option (List Name)) → (Ok x ≡ Err InFlight) ↔ IsSome out → out ≡ None
not_out x None flies = refl
not_out x (Some round) flies = let clash : Ok x ≡ Err InFlight = flies.1 refl in absurd (cc clash)

-- the page and the bytes of a write that is kept
pub write_parts : (kept : Option (ℕ × List ℕ)) (p : ℕ) (bytes : List ℕ) → option_map (λ w. w.0) kept ≡ Some p → option_map (λ w. w.1) kept ≡ Some bytes → kept ≡ Some (p, bytes)
write_parts None p bytes page content = absurd (cc page)
write_parts (Some (q, b)) p bytes page content = let e : q ≡ p = cc page in let f : b ≡ bytes = cc content in cc (e, f)

contains_at : (xs : List Name) (k : ℕ) (x : Name) → slice_get xs k ≡ Some x → Contains xs x
contains_at [] k x at = absurd (cc at)
contains_at (y ∷ xs) zero x at = (0, omega arith, cc at)
contains_at (y ∷ xs) (suc k) x at = let rest = contains_at xs k x at in (suc rest.0, omega (arith, rest.1), rest.2)

-- the next member of the round keeps its bytes
pub next_kept : (g : GraphState) (out : Option (List Name)) (k : ℕ) (x : Name) → IsWholeGraph g → out ≡ g.round → slice_get (members_of out) k ≡ Some x → KeepsBytes g x
next_kept g None k x whole round at = absurd (let e : None ≡ Some x = at in cc)
next_kept g (Some xs) k (Plain n) whole round at = whole.out (Plain n) (xs, sym round, contains_at xs k (Plain n) at)
next_kept g (Some xs) k (Version f v) whole round at = inl (xs, sym round, contains_at xs k (Version f v) at)

-- the round that is out is settled
pub out_settled : (g h : GraphState) (out : Option (List Name)) → out ≡ g.round → (out ≡ None → ⊥) → h.staging ≡ record { pending = after g; staged = g.staging.staged; latest = g.staging.latest }
    → h.staging ≡ record { pending = settled g.staging.pending (members_of out); staged = g.staging.staged; latest = g.staging.latest }
out_settled g h None round some staging = absurd (some refl)
out_settled g h (Some xs) round some staging =
    staging ∙ ap (λ (o : Option (List Name)). record { pending = after_round g.staging.pending o; staged = g.staging.staged; latest = g.staging.latest }) (sym round)
