-- Lists in which each element stands once.
use Rattle.std.proofs.Common.{◌≡◌, ◌⊎◌, inl, inr, ⊎_elim, ◌<◌, List, [], ◌∷◌, ◌++◌, append_assoc, refl, sym, subst, arith}
use Rattle.law_machine.specs.Element.{A_root, A_superblock, A_write, Element, RootBefore, SuperblockBefore, WriteBefore, roots_of, superblocks_of, writes_of}
use Rattle.law_machine.specs.Distinct.{AreDistinct}
use Rattle.law_machine.specs.Lists.{Descends, ◌∈◌}
use Rattle.law_machine.proofs.Waiting.{listed}

pub in_first : {A : Type 0} (xs ys : List A) (m : A) → m ∈ xs → m ∈ (xs ++ ys)
in_first [] ys m none = absurd none
in_first (x ∷ xs) ys m (inl is) = inl is
in_first (x ∷ xs) ys m (inr has) = inr (in_first xs ys m has)

pub in_second : {A : Type 0} (xs ys : List A) (m : A) → m ∈ ys → m ∈ (xs ++ ys)
in_second [] ys m has = has
in_second (x ∷ xs) ys m has = inr (in_second xs ys m has)

pub in_either : {A : Type 0} (xs ys : List A) (m : A) → m ∈ (xs ++ ys) → (m ∈ xs) ⊎ (m ∈ ys)
in_either [] ys m has = inr has
in_either (x ∷ xs) ys m (inl is) = inl (inl is)
in_either (x ∷ xs) ys m (inr has) = ⊎_elim (λ l. inl (inr l)) (λ r. inr r) (in_either xs ys m has)

pub not_empty : {A : Type 0} (xs ys : List A) (m : A) → xs ++ m ∷ ys ≡ [] → ⊥
not_empty [] ys m none = cc none
not_empty (x ∷ xs) ys m none = cc none

-- one element more, last
pushed : {A : Type 0} (xs : List A) (m : A) → (m ∈ xs → ⊥) → AreDistinct xs → AreDistinct (xs ++ m ∷ [])
pushed [] m new once = ((λ none. none), tt)
pushed (x ∷ xs) m new once = (
  (λ has. ⊎_elim (λ old. once.0 old)
      (λ last. ⊎_elim (λ is. new (inl (sym is))) (λ none. none) last) (in_either xs (m ∷ []) x has)),
  pushed xs m (λ has. new (inr has)) once.1,
)

-- an element of the first list that becomes the last of the second
came_from : {A : Type 0} (xs ys zs : List A) (m x : A) → x ∈ ((xs ++ ys) ++ (zs ++ m ∷ []))
    → x ∈ ((xs ++ m ∷ ys) ++ zs)
came_from [] ys zs m x has = ⊎_elim (λ first. inr (in_first ys zs x first))
    (λ second. ⊎_elim (λ old. inr (in_second ys zs x old))
    (λ last. ⊎_elim (λ is. inl is) (λ none. absurd none) last) (in_either zs (m ∷ []) x second))
    (in_either ys (zs ++ m ∷ []) x has)
came_from (y ∷ xs) ys zs m x (inl is) = inl is
came_from (y ∷ xs) ys zs m x (inr has) = inr (came_from xs ys zs m x has)

pub moved : {A : Type 0} (xs ys zs : List A) (m : A) → AreDistinct ((xs ++ m ∷ ys) ++ zs)
    → AreDistinct ((xs ++ ys) ++ (zs ++ m ∷ []))
moved {A} [] ys zs m once = subst (λ (l : List A). AreDistinct l) (append_assoc ys zs (m ∷ []))
    (pushed (ys ++ zs) m once.0 once.1)
moved (x ∷ xs) ys zs m once = ((λ has. once.0 (came_from xs ys zs m x has)), moved xs ys zs m once.1)

-- an element of a list is no other one of it, nor of the next list
pub apart : {A : Type 0} (xs ys zs : List A) (m : A) → AreDistinct ((xs ++ m ∷ ys) ++ zs) → m ∈ ((xs ++ ys) ++ zs) → ⊥
apart [] ys zs m once has = once.0 has
apart {A} (x ∷ xs) ys zs m once (inl is) = once.0 (subst (λ (y : A). y ∈ ((xs ++ m ∷ ys) ++ zs)) is (in_first (xs ++ m ∷ ys) zs m (in_second xs (m ∷ ys) m (inl refl))))
apart (x ∷ xs) ys zs m once (inr has) = apart xs ys zs m once.1 has

-- what is staged stands once
pub in_order : (els : List Element) → Descends WriteBefore (writes_of els)
    → Descends SuperblockBefore (superblocks_of els) → Descends RootBefore (roots_of els) → AreDistinct els
in_order [] writes superblocks roots = tt
in_order (A_write x ∷ els) writes superblocks roots = (
  (λ again. let lt : x.number < x.number = writes.0 x (listed els (A_write x) again) in omega arith),
  in_order els writes.1 superblocks roots,
)
in_order (A_superblock u ∷ els) writes superblocks roots = (
  (λ again. let lt : u.version < u.version = superblocks.0 u (listed els (A_superblock u) again) refl in omega arith),
  in_order els writes superblocks.1 roots,
)
in_order (A_root r ∷ els) writes superblocks roots = (
  (λ again. let lt : r.version < r.version = roots.0 r (listed els (A_root r) again) in omega arith),
  in_order els writes superblocks roots.1,
)
