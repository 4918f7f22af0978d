-- Copies that are listed oldest first, newest first.
use Rattle.std.proofs.Common.{◌≡◌, ◌≢◌, ◌∙◌, ◌↔◌, IsTrue, ℕ, zero, suc, ◌+◌, ◌-◌, ◌<◌, ◌||◌, ◌==◌, Bool, List, [], ◌∷◌, ◌++◌, Some, None, true, false, not, get_or, length, slice_get, refl, sym, ap, subst, arith}
use Rattle.std.specs.Prelude.{take}
use Rattle.std.proofs.lemmas.Bool.Decides.{nat_tests}
use Rattle.std.proofs.lemmas.Option.{same_Some}
use Rattle.cs_index.specs.Copies.{copy_of, newest_copies, numbered}
use Rattle.cs_index.specs.declared.counted_copies.ChunkCopy.{ChunkCopy}
use Rattle.law_machine.specs.Apart.{any_copy_on, some_copy}
use Rattle.cs_frame.specs.Formats.{place_of}
use Rattle.law_machine.specs.Element.{Copy, Locator as Place}
use Rattle.cs_reclaim.specs.Copied.{last_of, last_place_of}

-- one more is the newest
pub noted_more : (cs : List ChunkCopy) (c : ChunkCopy) → newest_copies (cs ++ c ∷ []) ≡ copy_of c ∷ newest_copies cs
noted_more [] c = refl
noted_more (b ∷ cs) c = ap (λ (bs : List Copy). bs ++ copy_of b ∷ []) (noted_more cs c)

not_none : (xs : List Copy) (x : Copy) → (xs ++ x ∷ []) ≡ [] → ⊥
not_none [] x is = absurd (cc is)
not_none (y ∷ xs) x is = absurd (cc is)

-- none are noted where there is none
pub none_noted : (cs : List ChunkCopy) → newest_copies cs ≡ [] → cs ≡ []
none_noted [] is = refl
none_noted (c ∷ cs) is = absurd (not_none (newest_copies cs) (copy_of c) is)

-- whether it is none
pub empty_noted : (cs : List ChunkCopy) (b : Bool) → b ≡ (length cs == 0) → IsTrue b ↔ (newest_copies cs ≡ [])
empty_noted [] b is = ((λ t. refl), (λ none. is))
empty_noted (c ∷ cs) b is = (
  (λ t.
      let test : (length (c ∷ cs) == 0) ≡ true = sym is ∙ t in
      let zero : length (c ∷ cs) ≡ 0 = grind (arith, nat_tests) in
      absurd (omega (arith, zero))),
  (λ none. absurd (not_none (newest_copies cs) (copy_of c) none)),
)

-- what isn't some is none
pub none_of : (copies : List Copy) → (copies ≢ [] → ⊥) → copies ≡ []
none_of [] not = refl
none_of (c ∷ cs) not = absurd (not (λ is. absurd (cc is)))

some_behind : (xs : List Copy) (x : Copy) → some_copy (xs ++ x ∷ []) ≡ true
some_behind [] x = refl
some_behind (y ∷ xs) x = refl

pub some_noted : (cs : List ChunkCopy) (empty : Bool) → (empty ≡ true → cs ≡ []) → (cs ≡ [] → empty ≡ true) → some_copy (newest_copies cs) ≡ not empty
some_noted [] true to back = refl
some_noted [] false to back = absurd (let wrong : false ≡ true = back refl in cc wrong)
some_noted (c ∷ cs) true to back = absurd (cc (to refl))
some_noted (c ∷ cs) false to back = some_behind (newest_copies cs) (copy_of c)

length_behind : (xs : List Copy) (x : Copy) → length (xs ++ x ∷ []) ≡ suc (length xs)
length_behind [] x = refl
length_behind (y ∷ xs) x = ap suc (length_behind xs x)

-- as many are noted as there are
pub count_noted : (cs : List ChunkCopy) → length (newest_copies cs) ≡ length cs
count_noted [] = refl
count_noted (c ∷ cs) = length_behind (newest_copies cs) (copy_of c) ∙ ap suc (count_noted cs)

-- whether one was written to an extent
any_behind : (xs : List Copy) (x : Copy) (e : ℕ) → any_copy_on (xs ++ x ∷ []) e ≡ ((x.to.extent == e) || any_copy_on xs e)
any_behind [] x e = refl
any_behind (y ∷ xs) x e = ap (λ b. (y.to.extent == e) || b) (any_behind xs x e) ∙ swap (y.to.extent == e) (x.to.extent == e) (any_copy_on xs e)
  where
    swap : (a b c : Bool) → (a || (b || c)) ≡ (b || (a || c))
    swap true true c = refl
    swap true false c = refl
    swap false true c = refl
    swap false false c = refl

newest_more : (cs : List ChunkCopy) (k : ℕ) (d : ChunkCopy) → k < length cs → newest_copies (take (suc k) cs) ≡ copy_of (get_or cs k d) ∷ newest_copies (take k cs)
newest_more [] k d lt = absurd (omega (arith, lt))
newest_more (c ∷ cs) zero d lt = refl
newest_more (c ∷ cs) (suc k) d lt = ap (λ (bs : List Copy). bs ++ copy_of c ∷ []) (newest_more cs k d (omega (arith, lt)))

-- one more was looked at
pub copied_more : (cs : List ChunkCopy) (k e : ℕ) (d : ChunkCopy) (found : Bool) → k < length cs → found ≡ any_copy_on (newest_copies (take k cs)) e
    → (((get_or cs k d).to.extent == e) || found) ≡ any_copy_on (newest_copies (take (k + 1) cs)) e
copied_more cs k e d found lt was =
    let up : k + 1 ≡ suc k = omega arith in
    ap (λ (b : Bool). ((get_or cs k d).to.extent == e) || b) was
    ∙ sym (ap (λ (n : ℕ). any_copy_on (newest_copies (take n cs)) e) up ∙ ap (λ (bs : List Copy). any_copy_on bs e) (newest_more cs k d lt))

-- ---- the last copy

last_append : (xs : List Copy) (x : Copy) (p : ℕ × ℕ) → last_of xs ≡ Some p → last_of (xs ++ x ∷ []) ≡ Some p
last_append [] x p is = absurd (cc is)
last_append (y ∷ xs) x p is = is

pub last_noted : (cs : List ChunkCopy) (c : ChunkCopy) → slice_get cs (length cs - 1) ≡ Some c → last_of (newest_copies cs) ≡ Some (numbered (c.id, c.chunk))
last_noted [] c is = absurd (cc is)
last_noted (b ∷ []) c is = ap (λ (d : ChunkCopy). Some (numbered (d.id, d.chunk))) (same_Some b c is)
last_noted (b ∷ d ∷ cs) c is =
    let up : length (b ∷ d ∷ cs) - 1 ≡ suc (length (d ∷ cs) - 1) = omega arith in
    last_append (newest_copies (d ∷ cs)) (copy_of b) (numbered (c.id, c.chunk)) (last_noted (d ∷ cs) c (subst (λ n. slice_get (b ∷ d ∷ cs) n ≡ Some c) up is))

place_append : (xs : List Copy) (x : Copy) (p : Place) → last_place_of xs ≡ Some p → last_place_of (xs ++ x ∷ []) ≡ Some p
place_append [] x p is = absurd (cc is)
place_append (y ∷ xs) x p is = is

pub place_noted : (cs : List ChunkCopy) (c : ChunkCopy) → slice_get cs (length cs - 1) ≡ Some c → last_place_of (newest_copies cs) ≡ Some (place_of c.to)
place_noted [] c is = absurd (cc is)
place_noted (b ∷ []) c is = ap (λ (d : ChunkCopy). Some (place_of d.to)) (same_Some b c is)
place_noted (b ∷ d ∷ cs) c is =
    let up : length (b ∷ d ∷ cs) - 1 ≡ suc (length (d ∷ cs) - 1) = omega arith in
    place_append (newest_copies (d ∷ cs)) (copy_of b) (place_of c.to) (place_noted (d ∷ cs) c (subst (λ n. slice_get (b ∷ d ∷ cs) n ≡ Some c) up is))

pub last_none : (cs : List ChunkCopy) → slice_get cs (length cs - 1) ≡ None → last_of (newest_copies cs) ≡ None
last_none [] is = refl
last_none (c ∷ []) is = absurd (let wrong : Some c ≡ None = is in cc wrong)
last_none (b ∷ d ∷ cs) is =
    let up : length (b ∷ d ∷ cs) - 1 ≡ suc (length (d ∷ cs) - 1) = omega arith in
    absurd (some_last d cs (subst (λ n. slice_get (b ∷ d ∷ cs) n ≡ None) up is))
  where
    some_last : (d : ChunkCopy) (cs : List ChunkCopy) → slice_get (d ∷ cs) (length (d ∷ cs) - 1) ≡ None → ⊥
    some_last d [] is = absurd (let wrong : Some d ≡ None = is in cc wrong)
    some_last d (e ∷ cs) is =
        let up : length (d ∷ e ∷ cs) - 1 ≡ suc (length (e ∷ cs) - 1) = omega arith in
        some_last e cs (subst (λ n. slice_get (d ∷ e ∷ cs) n ≡ None) up is)
