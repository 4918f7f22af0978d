-- Members of a round and their names, in order.
use Rattle.std.proofs.Common.{◌≡◌, inl, inr, ⊎_elim, zero, suc, ◌<◌, List, [], ◌∷◌, ◌++◌, append_assoc, Some, None, length, map, refl, sym, ap, ◌∙◌, subst, arith}
use Rattle.std.specs.Prelude.{AllPairs, Contains, slice_get}
use Rattle.std.proofs.lemmas.Bool.Decides.{nat_tests}
use Rattle.cs_deps.specs.declared.elements.Element.{Element as Name}
use Rattle.cs_deps.specs.declared.elements.Element.TheVariants.{Plain, Version}
use Rattle.cs_deps.specs.Rounds.{IsListedBefore}
use Rattle.law_machine.specs.Device.{Shape}
use Rattle.law_machine.specs.Distinct.{AreDistinct}
use Rattle.law_machine.specs.Element.{A_root, A_superblock, A_write, Element}
use Rattle.law_machine.specs.Lists.{◌∈◌}
use Rattle.law_machine.specs.Machine.{World}
use Rattle.law_machine.specs.Round.{IsMember}
use Rattle.law_machine.proofs.Waiting.{Listed, root_in, superblock_in, write_in}
use Rattle.law_refinement.specs.Bridge.{AreNames, IsWaiting, name}

-- a member is staged and waits
pub member_listed : (S : Shape) (w : World) (m : Element) → IsMember S w m → Listed w.elements m
member_listed S w (A_write x) is = is.0
member_listed S w (A_superblock u) is = is.0
member_listed S w (A_root r) is = is.0

pub member_waits : (S : Shape) (w : World) (m : Element) → IsMember S w m → IsWaiting w m
member_waits S w (A_write x) is = (write_in w.elements x is.0, is.2)
member_waits S w (A_superblock u) is =
    (superblock_in w.elements u is.0, (let lt : w.persistent.superblocks u.section < u.version = is.2 in grind (arith, nat_tests)))
member_waits S w (A_root r) is = (root_in w.elements r is.0, (let lt : w.persistent.root < r.version = is.2 in grind (arith, nat_tests)))

pub names_it : (ms : List Element) (m : Element) → m ∈ ms → Contains (map name ms) (name m)
names_it [] m none = absurd none
names_it (n ∷ ns) m (inl is) = (0, omega arith, ap name (sym is))
names_it (n ∷ ns) m (inr has) = let rest = names_it ns m has in (suc rest.0, omega (arith, rest.1), rest.2)

-- a name of the list is that of an element
pub named_by : (ms : List Element) (z : Name) → Contains (map name ms) z → (m : Element) × (m ∈ ms) × (name m ≡ z)
named_by [] z (k, lt, at) = absurd (let l : k < length (map name []) = lt in omega arith)
named_by (n ∷ ns) z (zero, lt, at) = (n, inl refl, at)
named_by (n ∷ ns) z (suc k, lt, at) = let rest = named_by ns z (k, omega (arith, lt), at) in (rest.0, inr rest.1, rest.2)

pub are_names : (ms : List Element) (xs : List Name) → map name ms ≡ xs → AreNames ms xs
are_names ms xs same z = (
  (λ has. named_by ms z (subst (λ (ys : List Name). Contains ys z) (sym same) has)),
  (λ from. subst (λ (ys : List Name). Contains ys z) same (subst (λ (y : Name). Contains (map name ms) y) from.2 (names_it ms from.0 from.1))),
)

-- elements of these names, in their order
pub relisted : (ms : List Element) (xs : List Name) → ((z : Name) → Contains xs z → (m : Element) × (m ∈ ms) × (name m ≡ z))
    → (ns : List Element) × (map name ns ≡ xs) × ((m : Element) → m ∈ ns → m ∈ ms)
relisted ms [] each = ([], refl, (λ m none. absurd none))
relisted ms (x ∷ xs) each =
    let here = each x (0, omega arith, refl) in
    let rest = relisted ms xs (λ z has. each z (suc has.0, omega (arith, has.1), has.2)) in (
      here.0 ∷ rest.0,
      ap (λ (y : Name). y ∷ map name rest.0) here.2 ∙ ap (λ (ys : List Name). x ∷ ys) rest.1,
      (λ m has. ⊎_elim (λ (e : m ≡ here.0). subst (λ (n : Element). n ∈ ms) (sym e) here.1) (λ (h : m ∈ rest.0). rest.2 m h) has),
    )

-- names in an order that none has with itself are those of different elements
not_before_itself : (x : Name) → IsListedBefore x x → ⊥
not_before_itself (Plain n) before = let lt : n < n = before in omega arith
not_before_itself (Version f v) before = let lt : f < f = before in omega arith

pub distinct_by_name : (ms : List Element) → AllPairs IsListedBefore (map name ms) → AreDistinct ms
distinct_by_name [] order = tt
distinct_by_name (m ∷ ms) order = (
  (λ again. let at = names_it ms m again in
      not_before_itself (name m) (subst (λ (y : Name). IsListedBefore (name m) y) at.2 (order 0 (suc at.0) (name m) (omega arith) (omega (arith, at.1))))),
  distinct_by_name ms (λ i j d lt below. order (suc i) (suc j) d (omega (arith, lt)) (omega (arith, below))),
)

-- the first that is left is the next of all
pub next_left : (gone left : List Element) (x : Name) → slice_get (map name (gone ++ left)) (length gone) ≡ Some x
    → (m : Element) × (behind : List Element) × (left ≡ m ∷ behind) × (name m ≡ x)
next_left [] [] x at = absurd (let e : None ≡ Some x = at in cc)
next_left [] (m ∷ behind) x at = (m, behind, refl, (let e : Some (name m) ≡ Some x = at in cc))
next_left (g ∷ gone) left x at = next_left gone left x at

-- where there is no next one none is left
pub none_next : (gone left : List Element) → slice_get (map name (gone ++ left)) (length gone) ≡ None → left ≡ []
none_next [] [] at = refl
none_next [] (m ∷ behind) at = absurd (let e : Some (name m) ≡ None = at in cc)
none_next (g ∷ gone) left at = none_next gone left at

pub next_none : (gone left : List Element) → left ≡ [] → slice_get (map name (gone ++ left)) (length gone) ≡ None
next_none [] [] none = refl
next_none [] (m ∷ behind) none = absurd (cc none)
next_none (g ∷ gone) left none = next_none gone left none

-- where all are gone none is left
pub all_gone : (gone left : List Element) → length (map name (gone ++ left)) ≡ length gone → left ≡ []
all_gone [] [] same = refl
all_gone [] (m ∷ behind) same = absurd (let e : suc (length (map name behind)) ≡ 0 = same in omega arith)
all_gone (g ∷ gone) left same = all_gone gone left (let e : suc (length (map name (gone ++ left))) ≡ suc (length gone) = same in omega arith)

-- where fewer are gone some are left
pub some_left : (gone left : List Element) → length gone < length (map name (gone ++ left)) → left ≡ [] → ⊥
some_left [] [] fewer none = let lt : 0 < 0 = fewer in omega arith
some_left [] (m ∷ behind) fewer none = cc none
some_left (g ∷ gone) left fewer none = some_left gone left (let lt : suc (length gone) < suc (length (map name (gone ++ left))) = fewer in omega arith) none

pub fewer_gone : (gone left : List Element) → (left ≡ [] → ⊥) → length gone < length (map name (gone ++ left))
fewer_gone [] [] some = absurd (some refl)
fewer_gone [] (m ∷ behind) some = omega arith
fewer_gone (g ∷ gone) left some = let lt : length gone < length (map name (gone ++ left)) = fewer_gone gone left some in omega arith

-- the first that is left becomes the last that is gone
pub passed_on : (gone : List Element) (m : Element) (behind : List Element) → map name ((gone ++ m ∷ []) ++ behind) ≡ map name (gone ++ m ∷ behind)
passed_on gone m behind = ap (map name) (append_assoc gone (m ∷ []) behind)

pub one_more : (gone : List Element) (m : Element) → length (gone ++ m ∷ []) ≡ suc (length gone)
one_more [] m = refl
one_more (g ∷ gone) m = ap suc (one_more gone m)

pub none_named : (ms : List Element) → map name ms ≡ [] → ms ≡ []
none_named [] none = refl
none_named (m ∷ ms) none = absurd (let e : name m ∷ map name ms ≡ [] = none in cc)
