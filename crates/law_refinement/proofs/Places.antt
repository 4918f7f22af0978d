-- Where an element of the world stands in its graph.
use Rattle.std.proofs.Common.{◌≡◌, ◌⊎◌, inl, inr, ⊎_elim, ℕ, zero, suc, ◌<◌, ◌≤◌, Bool, true, false, List, [], ◌∷◌, ◌++◌, length, get_or, Some, None, if◌then◌else◌, true≢false, refl, sym, ap, ◌∙◌, subst, arith}
use Rattle.std.specs.Prelude.{slice_get}
use Rattle.cs_deps.specs.declared.elements.Element.{Element as Name}
use Rattle.cs_deps.specs.declared.elements.Element.TheVariants.{Plain, Version}
use Rattle.cs_deps.specs.Named.{Named, Names}
use Rattle.cs_deps.specs.Pending.{Pending, Waits, Needs}
use Rattle.law_machine.specs.Lists.{◌∈◌, Descends}
use Rattle.law_machine.specs.Device.{Shape, Page}
use Rattle.law_machine.specs.Element.{Opening, Element, A_write, A_superblock, A_root, Write, Superblock, Root, writes_of, superblocks_of, roots_of, WriteBefore, SuperblockBefore, RootBefore}
use Rattle.law_machine.specs.Cut.{Cut, satisfied}
use Rattle.law_machine.specs.Machine.{World}
use Rattle.law_machine.specs.Safe.{Safe}
use Rattle.law_machine.specs.Formats.{Formats}
use Rattle.law_machine.specs.Recovery.{RootGives}
use Rattle.law_machine.proofs.Waiting.{Listed, listed}
use Rattle.cs_extent.specs.Frames.{family_of}
use Rattle.law_refinement.specs.Bridge.{AreNeedsOf, name, MayLeaveOut, NeedsName, waiting_in, Matches, IsPendingOf, IsWaiting}

in_push : (xs : List Element) (y m : Element) → m ∈ (xs ++ y ∷ []) → (m ∈ xs) ⊎ (m ≡ y)
in_push [] y m (inl is) = inr is
in_push [] y m (inr none) = absurd none
in_push (x ∷ xs) y m (inl is) = inl (inl is)
in_push (x ∷ xs) y m (inr has) = ⊎_elim (λ old. inl (inr old)) (λ is. inr is) (in_push xs y m has)

push_old : (xs : List Element) (y m : Element) → m ∈ xs → m ∈ (xs ++ y ∷ [])
push_old [] y m none = absurd none
push_old (x ∷ xs) y m (inl is) = inl is
push_old (x ∷ xs) y m (inr has) = inr (push_old xs y m has)

push_new : (xs : List Element) (y : Element) → y ∈ (xs ++ y ∷ [])
push_new [] y = inl refl
push_new (x ∷ xs) y = inr (push_new xs y)

waits_step : (P : Cut) (x m : Element) (older : List Element) (b : Bool) → satisfied P x ≡ b → (m ∈ waiting_in P older → (m ∈ older) × (satisfied P m ≡ false))
    → m ∈ (if b then waiting_in P older else waiting_in P older ++ x ∷ []) → (m ∈ (x ∷ older)) × (satisfied P m ≡ false)
waits_step P x m older true test old has = (inr (old has).0, (old has).1)
waits_step P x m older false test old has = ⊎_elim (λ (there : m ∈ waiting_in P older). (inr (old there).0, (old there).1)) (λ (is : m ≡ x). (inl is, ap (satisfied P) is ∙ test)) (in_push (waiting_in P older) x m has)

pub from_waiting : (P : Cut) (els : List Element) (m : Element) → m ∈ waiting_in P els → (m ∈ els) × (satisfied P m ≡ false)
from_waiting P [] m none = absurd none
from_waiting P (x ∷ older) m has = waits_step P x m older (satisfied P x) refl (from_waiting P older m) has

stays_step : (P : Cut) (x m : Element) (older : List Element) (b : Bool) → satisfied P x ≡ b → satisfied P m ≡ false → (m ≡ x) ⊎ (m ∈ waiting_in P older)
    → m ∈ (if b then waiting_in P older else waiting_in P older ++ x ∷ [])
stays_step P x m older true test waits (inl is) = absurd (true≢false (sym test ∙ ap (satisfied P) (sym is) ∙ waits))
stays_step P x m older true test waits (inr has) = has
stays_step P x m older false test waits (inl is) = subst (λ (y : Element). y ∈ (waiting_in P older ++ x ∷ [])) (sym is) (push_new (waiting_in P older) x)
stays_step P x m older false test waits (inr has) = push_old (waiting_in P older) x m has

pub to_waiting : (P : Cut) (els : List Element) (m : Element) → m ∈ els → satisfied P m ≡ false → m ∈ waiting_in P els
to_waiting P [] m none waits = absurd none
to_waiting P (x ∷ older) m (inl is) waits = stays_step P x m older (satisfied P x) refl waits (inl is)
to_waiting P (x ∷ older) m (inr has) waits = stays_step P x m older (satisfied P x) refl waits (inr (to_waiting P older m has waits))

-- an element and what the graph has of it
abbrev pub At : Shape → Cut → List Element → Element → Name → Named → Type 0
At S P staged m y d = (y ≡ name m) × AreNeedsOf S P staged m d

pub match_at : (S : Shape) (P : Cut) (staged xs : List Element) (ys : List (Name × Named)) (k : ℕ) (y : Name) (d : Named) → Matches S P staged xs ys → slice_get ys k ≡ Some (y, d) → (m : Element) × (m ∈ xs) × At S P staged m y d
match_at S P staged [] [] k y d all at = absurd (let e : None ≡ Some (y, d) = at in cc)
match_at S P staged [] (z ∷ ys) k y d all at = absurd all
match_at S P staged (x ∷ xs) [] k y d all at = absurd all
match_at S P staged (x ∷ xs) (z ∷ ys) zero y d all at =
    let is : z ≡ (y, d) = (let e : Some z ≡ Some (y, d) = at in cc) in
    (x, inl refl, (sym (ap (λ (v : Name × Named). v.0) is) ∙ all.0.0, subst (λ (v : Name × Named). AreNeedsOf S P staged x v.1) is all.0.1))
match_at S P staged (x ∷ xs) (z ∷ ys) (suc k) y d all at = let rest = match_at S P staged xs ys k y d all.1 at in (rest.0, inr rest.1, rest.2)

pub match_in : (S : Shape) (P : Cut) (staged xs : List Element) (ys : List (Name × Named)) (m : Element) → Matches S P staged xs ys → m ∈ xs → (k : ℕ) × (d : Named) × (slice_get ys k ≡ Some (name m, d)) × At S P staged m (name m) d
match_in S P staged [] ys m all none = absurd none
match_in S P staged (x ∷ xs) [] m all has = absurd all
match_in S P staged (x ∷ xs) (z ∷ ys) m all (inl is) =
    (0, z.1, ap (λ (n : Name). Some (n, z.1)) (all.0.0 ∙ ap name (sym is)), (refl, subst (λ (v : Element). AreNeedsOf S P staged v z.1) (sym is) all.0.1))
match_in S P staged (x ∷ xs) (z ∷ ys) m all (inr has) = let rest = match_in S P staged xs ys m all.1 has in (suc rest.0, rest.1, rest.2, rest.3)

-- one of two that stand in an order
one_of : {A : Type 0} (Before : A → A → Type 0) (xs : List A) (x y : A) → Descends Before xs → x ∈ xs → y ∈ xs → (Before x y → ⊥) → (Before y x → ⊥) → x ≡ y
one_of Before [] x y order none is_y a b = absurd none
one_of Before (w ∷ ws) x y order (inl is) (inl also) a b = is ∙ sym also
one_of {A} Before (w ∷ ws) x y order (inl is) (inr has) a b = absurd (b (subst (λ (v : A). Before y v) (sym is) (order.0 y has)))
one_of {A} Before (w ∷ ws) x y order (inr has) (inl is) a b = absurd (a (subst (λ (v : A). Before x v) (sym is) (order.0 x has)))
one_of Before (w ∷ ws) x y order (inr has) (inr also) a b = one_of Before ws x y order.1 has also a b

pub not_one : (j : ℕ) → family_of j ≡ 1 → ⊥
not_one zero is = omega arith
not_one (suc j) is = omega arith

pub one_family : (i j : ℕ) → family_of i ≡ family_of j → i ≡ j
one_family zero zero is = refl
one_family zero (suc j) is = absurd (omega arith)
one_family (suc i) zero is = absurd (omega arith)
one_family (suc i) (suc j) is = omega arith

-- the families of the sections that are there
pub family_below : (j n : ℕ) → j < n → family_of j < suc n
family_below zero n lt = omega arith
family_below (suc j) n lt = omega arith

-- a number that stands in a list stands at a place of it
pub some_at : (xs : List ℕ) (f v : ℕ) → 1 ≤ v → v ≤ get_or xs f 0 → f < length xs
some_at [] f v one le = absurd (let none : v ≤ 0 = le in omega arith)
some_at (x ∷ xs) zero v one le = omega arith
some_at (x ∷ xs) (suc f) v one le = let rest : f < length xs = some_at xs f v one le in omega arith

-- whatever family isn't the root's is a section's
pub section_of_family : (f n : ℕ) → 0 < n → f < suc n → (f ≡ 1 → ⊥) → (j : ℕ) × (j < n) × (f ≡ family_of j)
section_of_family zero n some lt other = (0, some, refl)
section_of_family (suc zero) n some lt other = absurd (other refl)
section_of_family (suc (suc j)) n some lt other = (suc j, (let low : suc (suc j) < suc n = lt in omega arith), refl)

module _ (S : Shape) (F : Formats) {opening : Opening} (opened : ℕ → Page) (w : World) (g : Pending) (safe : Safe S (RootGives S F opening) opening.frozen opened w) (is : IsPendingOf S w g) where
  pub one_write : (x y : Write) → x ∈ writes_of w.elements → y ∈ writes_of w.elements → x.number ≡ y.number → x ≡ y
  one_write x y a b same = one_of WriteBefore (writes_of w.elements) x y safe.writes_order a b (λ lt. let l : x.number < y.number = lt in omega arith) (λ lt. let l : y.number < x.number = lt in omega arith)

  pub one_superblock : (x y : Superblock) → x ∈ superblocks_of w.elements → y ∈ superblocks_of w.elements → x.section ≡ y.section → x.version ≡ y.version → x ≡ y
  one_superblock x y a b sec same = one_of SuperblockBefore (superblocks_of w.elements) x y safe.superblocks_order a b (λ lt. let l : x.version < y.version = lt sec in omega arith) (λ lt. let l : y.version < x.version = lt (sym sec) in omega arith)

  pub one_root : (x y : Root) → x ∈ roots_of w.elements → y ∈ roots_of w.elements → x.version ≡ y.version → x ≡ y
  one_root x y a b same = one_of RootBefore (roots_of w.elements) x y safe.roots_order a b (λ lt. let l : x.version < y.version = lt in omega arith) (λ lt. let l : y.version < x.version = lt in omega arith)

  -- two elements of one name are one
  pub one_name : (m n : Element) → Listed w.elements m → Listed w.elements n → name m ≡ name n → m ≡ n
  one_name (A_write x) (A_write y) a b same = ap A_write (one_write x y a b (let e : Plain x.number ≡ Plain y.number = same in cc))
  one_name (A_write x) (A_superblock y) a b same = absurd (let e : Plain x.number ≡ Version (family_of y.section) y.version = same in cc)
  one_name (A_write x) (A_root y) a b same = absurd (let e : Plain x.number ≡ Version 1 y.version = same in cc)
  one_name (A_superblock x) (A_write y) a b same = absurd (let e : Version (family_of x.section) x.version ≡ Plain y.number = same in cc)
  one_name (A_superblock x) (A_superblock y) a b same =
      let f : family_of x.section ≡ family_of y.section = (let e : Version (family_of x.section) x.version ≡ Version (family_of y.section) y.version = same in cc) in
      let v : x.version ≡ y.version = (let e : Version (family_of x.section) x.version ≡ Version (family_of y.section) y.version = same in cc) in
      ap A_superblock (one_superblock x y a b (one_family x.section y.section f) v)
  one_name (A_superblock x) (A_root y) a b same = absurd (not_one x.section (let e : Version (family_of x.section) x.version ≡ Version 1 y.version = same in cc))
  one_name (A_root x) (A_write y) a b same = absurd (let e : Version 1 x.version ≡ Plain y.number = same in cc)
  one_name (A_root x) (A_superblock y) a b same = absurd (not_one y.section (sym (let e : Version 1 x.version ≡ Version (family_of y.section) y.version = same in cc)))
  one_name (A_root x) (A_root y) a b same = ap A_root (one_root x y a b (let e : Version 1 x.version ≡ Version 1 y.version = same in cc))

  pub waits_name : (m : Element) → IsWaiting w m → Waits g (name m)
  waits_name m waits = let at = match_in S w.persistent w.elements (waiting_in w.persistent w.elements) g.waiting m is.waiting (to_waiting w.persistent w.elements m waits.0 waits.1) in (at.0, at.1, at.2)

  pub waits_from : (z : Name) → Waits g z → (m : Element) × IsWaiting w m × (z ≡ name m)
  waits_from z waits = let at = match_at S w.persistent w.elements (waiting_in w.persistent w.elements) g.waiting waits.0 z waits.1 is.waiting waits.2 in (at.0, from_waiting w.persistent w.elements at.0 at.1, at.2.0)

  pub needs_name : (m : Element) (z : Name) → IsWaiting w m → Needs g (name m) z → NeedsName S w.elements m z
  needs_name m z waits needs =
      let at = match_at S w.persistent w.elements (waiting_in w.persistent w.elements) g.waiting needs.0 (name m) needs.1 is.waiting needs.2 in
      let there : at.0 ∈ w.elements = (from_waiting w.persistent w.elements at.0 at.1).0 in
      let same : m ≡ at.0 = one_name m at.0 (listed w.elements m waits.0) (listed w.elements at.0 there) at.2.0 in
      subst (λ (n : Element). NeedsName S w.elements n z) (sym same) (at.2.1.only z needs.3)

  pub name_needs : (m : Element) (z : Name) → IsWaiting w m → NeedsName S w.elements m z → Needs g (name m) z ⊎ MayLeaveOut S w.persistent m z
  name_needs m z waits needs =
      let at = match_in S w.persistent w.elements (waiting_in w.persistent w.elements) g.waiting m is.waiting (to_waiting w.persistent w.elements m waits.0 waits.1) in
      ⊎_elim (λ (names : Names at.1 z). inl (at.0, at.1, at.2, names)) (λ (out : MayLeaveOut S w.persistent m z). inr out) (at.3.1.all z needs)

  -- a version is never left out
  pub version_needs : (m : Element) (f v : ℕ) → IsWaiting w m → NeedsName S w.elements m (Version f v) → Needs g (name m) (Version f v)
  version_needs m f v waits needs = ⊎_elim (λ (named : Needs g (name m) (Version f v)). named) (λ (out : MayLeaveOut S w.persistent m (Version f v)). absurd (never m out)) (name_needs m (Version f v) waits needs)
    where
      never : (n : Element) → MayLeaveOut S w.persistent n (Version f v) → ⊥
      never (A_write x) out = out
      never (A_superblock u) out = out
      never (A_root r) out = out
