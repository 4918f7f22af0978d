-- What the tallies lead to: the first one, each next one, and the last.
use Rattle.std.proofs.Common.{◌≡◌, ℕ, ◌+◌, ◌-◌, ◌<◌, ◌≤◌, suc, Bool, true, List, ◌∷◌, drop, get_or, length, refl, sym, ap, subst, ◌∙◌, arith, add-one, drop-cons}
use Rattle.std.specs.Prelude.{◌↔◌, IsTrue}
use Rattle.std.specs.List.Sorted.{IsNonDecreasingBy, IsPermutation}
use Rattle.std.proofs.lemmas.List.{drop_all}
use Rattle.std.proofs.lemmas.List.Sorted.{sum_by-IsPermutation}
use Rattle.cs_node.specs.Numbers.{AreNumbers, lacking, times}
use Rattle.cs_node.specs.Tallies.{AreFrom, StartAt, lacking_from}
use Rattle.cs_node.specs.declared.stretches.Stretch.{Stretch}
use Rattle.cs_node.proofs.Tallied.{AreFrom-none, lacking_from-all, lacking_from-none, lacking_from-same, starts_behind}
use Rattle.cs_node.proofs.Times.{share}

pub times-permutation : (xs ys : List Stretch) → IsPermutation xs ys → (x : ℕ) → times x ys ≡ times x xs
times-permutation xs ys moved x = sum_by-IsPermutation (λ s. share s x) xs ys moved

-- of what was put in order nothing was seen yet
pub whole_at_first : (n : ℕ) (xs ys : List Stretch) → IsPermutation xs ys → (IsTrue true × AreFrom 0 n ys) ↔ AreNumbers n xs
whole_at_first n xs ys moved = (
  λ (is, from) x. sym (times-permutation xs ys moved x) ∙ from.1 x,
  λ all. (refl, (omega arith, λ x. times-permutation xs ys moved x ∙ all x)),
)

pub missing_at_first : (n : ℕ) (xs ys : List Stretch) → IsPermutation xs ys → lacking_from 0 n ys ≡ lacking n xs
missing_at_first n xs ys moved = lacking_from-same 0 n ys xs (times-permutation xs ys moved) ∙ lacking_from-all n xs

-- one more is seen
module _ (n : ℕ) (xs : List Stretch) (i : ℕ) (s d : Stretch) (up : IsNonDecreasingBy (λ s. s.first) xs) (within : i < length xs) (is : s ≡ get_or xs i d) where
  left : drop i xs ≡ s ∷ drop (i + 1) xs
  left = drop-cons xs i d within ∙ ap (λ t. t ∷ drop (suc i) xs) (sym is) ∙ ap (λ k. s ∷ drop k xs) (sym (add-one i))

  pub whole_at_next : (P : Type 0) (seen then_seen : ℕ) (before now : Bool) → ((rest : List Stretch) → StartAt s.first rest → (IsTrue now × AreFrom then_seen n rest) ↔ (IsTrue before × AreFrom seen n (s ∷ rest))) → (IsTrue before × AreFrom seen n (drop i xs)) ↔ P → (IsTrue now × AreFrom then_seen n (drop (i + 1) xs)) ↔ P
  whole_at_next P seen then_seen before now step all =
      let one = step (drop (i + 1) xs) (starts_behind xs i s d up within is) in
      let rest = subst (λ (ys : List Stretch). (IsTrue before × AreFrom seen n ys) ↔ P) left all in
      (λ from. rest.0 (one.0 from), λ p. one.1 (rest.1 p))

  pub missing_at_next : (all seen then_seen before now : ℕ) → ((rest : List Stretch) → StartAt s.first rest → now + lacking_from then_seen n rest ≡ before + lacking_from seen n (s ∷ rest)) → before + lacking_from seen n (drop i xs) ≡ all → now + lacking_from then_seen n (drop (i + 1) xs) ≡ all
  missing_at_next all seen then_seen before now step sums =
      step (drop (i + 1) xs) (starts_behind xs i s d up within is) ∙ ap (λ ys. before + lacking_from seen n ys) (sym left) ∙ sums

-- nothing is left to be seen
pub whole_at_last : (n : ℕ) (xs : List Stretch) (i : ℕ) (P : Type 0) (seen : ℕ) (before now : Bool) → length xs ≤ i → (IsTrue now ↔ (IsTrue before × (seen ≡ n))) → (IsTrue before × AreFrom seen n (drop i xs)) ↔ P → IsTrue now ↔ P
whole_at_last n xs i P seen before now past test all =
    let rest = subst (λ (ys : List Stretch). (IsTrue before × AreFrom seen n ys) ↔ P) (drop_all i xs past) all in
    let none = AreFrom-none seen n in (
      λ is. rest.0 ((test.0 is).0, none.1 (test.0 is).1),
      λ p. test.1 ((rest.1 p).0, none.0 (rest.1 p).1),
    )

pub missing_at_last : (n : ℕ) (xs : List Stretch) (i all seen before : ℕ) → length xs ≤ i → before + lacking_from seen n (drop i xs) ≡ all → before + (n - seen) ≡ all
missing_at_last n xs i all seen before past sums =
    ap (λ rest. before + rest) (sym (ap (λ ys. lacking_from seen n ys) (drop_all i xs past) ∙ lacking_from-none seen n)) ∙ sums
