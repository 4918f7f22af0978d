-- What appends do to the numbers, and when one of them is past its greatest.
use Rattle.std.proofs.Common.{◌≡◌, ◌⊎◌, inl, inr, ℕ, suc, ◌+◌, ◌^◌, ◌<◌, ◌≤◌, ◌==◌, cond, Bool, false, List, [], ◌∷◌, length, sym, ap, ◌∙◌, subst, arith}
use Rattle.std.specs.Prelude.{sum}
use Rattle.std.proofs.lemmas.Bool.{cases_eq}
use Rattle.std.proofs.lemmas.List.Sums.{sum_by-cons}
use Rattle.law_machine.proofs.Needs.{after_extents_by, appended_numbers}
use Rattle.law_machine.proofs.Parts.{with_other, with_same}
use Rattle.law_machine.specs.Append.{Append, AppendAll, AppendAllBy, AppendBy, page_counts}
use Rattle.law_machine.specs.Device.{IsShape, Page, Shape}
use Rattle.law_machine.specs.Element.{Locator}
use Rattle.law_machine.specs.Extents.{Extents, Purpose}
use Rattle.law_machine.specs.Formats.{Formats}
use Rattle.law_machine.specs.Grounds.{PastLimit}
use Rattle.law_machine.specs.Lists.{with}
use Rattle.law_machine.specs.Machine.{World}
use Rattle.law_machine.specs.State.{State}
use Rattle.cs_extent.proofs.Worn.{in_section_here, in_section_other}
use Rattle.cs_extent.specs.State.{State as ExtentsState, shape}
use Rattle.cs_extent.specs.Worn.{ArePlacedBy, in_section}

module _ (S : Shape) where
  -- of the places of frames, those in a section are counted one by one
  in_section_more : (j e : ℕ) (es : List ℕ) → in_section S j (e ∷ es) ≡ in_section S j (e ∷ []) + in_section S j es
  in_section_more j e es =
      let all : in_section S j (e ∷ es) ≡ cond (S.section e == j) 1 0 + in_section S j es = sum_by-cons (λ d. cond (S.section d == j) 1 0) e es in
      let one : in_section S j (e ∷ []) ≡ cond (S.section e == j) 1 0 + 0 = sum_by-cons (λ d. cond (S.section d == j) 1 0) e [] in
      joined (cond (S.section e == j) 1 0) (in_section S j es) (in_section S j (e ∷ es)) (in_section S j (e ∷ [])) all one
    where
      joined : (a b m n : ℕ) → m ≡ a + b → n ≡ a + 0 → m ≡ n + b
      joined a b m n all one = omega arith

  -- one version more, of the section of the extent that the frame goes to
  one_version : (f : ℕ → ℕ) (e j : ℕ) → with f (S.section e) (suc (f (S.section e))) j ≡ f j + in_section S j (e ∷ [])
  one_version f e j = elim (cases_eq j (S.section e)) [
    | inl here ↦
        let one : in_section S j (e ∷ []) ≡ 1 = in_section_here S j e [] (sym here) in
        with_same f (S.section e) (suc (f (S.section e))) j here ∙ ap (λ (i : ℕ). suc (f i)) (sym here) ∙ next (f j) (in_section S j (e ∷ [])) one
    | inr other ↦
        let none : in_section S j (e ∷ []) ≡ 0 = in_section_other S j e [] (λ is. other (sym is)) in
        with_other f (S.section e) (suc (f (S.section e))) j other ∙ same (f j) (in_section S j (e ∷ [])) none
  ]
    where
      next : (a n : ℕ) → n ≡ 1 → suc a ≡ a + n
      next a n one = omega arith

      same : (a n : ℕ) → n ≡ 0 → a ≡ a + n
      same a n none = omega arith

  module _ (store : IsShape S) where
    pub append_numbers_by : (apart : Bool) (w v : World) (purpose : Purpose) (bs : List Page) (l : Locator) → (a : AppendBy S apart w purpose bs l v)
        → (v.written ≡ w.written + length bs) × ((j : ℕ) → v.superblocks j ≡ w.superblocks j + in_section S j (a.extent ∷ [])) × (v.root ≡ w.root)
    append_numbers_by apart w v purpose bs l a =
        let n = appended_numbers S store w a.extent a.need bs in (
          ap (λ (u : World). u.written) a.after ∙ n.0,
          (λ j. ap (λ (u : World). u.superblocks j) a.after ∙ ap (λ (f : ℕ → ℕ). f j) n.1 ∙ one_version w.superblocks a.extent j),
          ap (λ (u : World). u.root) a.after ∙ n.2,
        )

    -- frames that are appended one after another go to these extents
    pub all_numbers_by : (apart : Bool) (w v : World) (purpose : Purpose) (frames : List (List Page)) (ls : List Locator) → AppendAllBy S apart w purpose frames ls v
        → (places : List ℕ) × ArePlacedBy S apart w.extents purpose (page_counts frames) places × (v.written ≡ w.written + sum (page_counts frames))
        × ((j : ℕ) → v.superblocks j ≡ w.superblocks j + in_section S j places) × (v.root ≡ w.root)
    all_numbers_by apart w v purpose [] [] is = (
      [],
      tt,
      ap (λ (u : World). u.written) is ∙ (let n : w.written ≡ w.written + 0 = omega arith in n),
      (λ j. ap (λ (u : World). u.superblocks j) is ∙ (let n : w.superblocks j ≡ w.superblocks j + 0 = omega arith in n)),
      ap (λ (u : World). u.root) is,
    )
    all_numbers_by apart w v purpose [] (l ∷ ls) is = absurd is
    all_numbers_by apart w v purpose (bs ∷ frames) [] is = absurd is
    all_numbers_by apart w v purpose (bs ∷ frames) (l ∷ ls) (mid, a, rest) =
        let first = append_numbers_by apart w mid purpose bs l a in
        let others = all_numbers_by apart mid v purpose frames ls rest in
        let pages : mid.written ≡ w.written + length bs = first.0 in (
          a.extent ∷ others.0,
          (
            a.placed,
            subst (λ (z : Extents). ArePlacedBy S apart z purpose (page_counts frames) others.0) (after_extents_by S store apart w mid purpose bs l a) others.1,
          ),
          others.2 ∙ (let more : sum (length bs ∷ page_counts frames) ≡ length bs + sum (page_counts frames) = sum_by-cons (λ k. k) (length bs) (page_counts frames) in omega arith),
          (λ j. others.3 j ∙ summed (w.superblocks j) (mid.superblocks j) (in_section S j (a.extent ∷ [])) (in_section S j others.0) (in_section S j (a.extent ∷ others.0))
              (first.1 j) (in_section_more j a.extent others.0)),
          others.4 ∙ first.2,
        )
      where
        summed : (a b m n k : ℕ) → b ≡ a + m → k ≡ m + n → b + n ≡ a + k
        summed a b m n k one all = omega arith

    -- without the rule that keeps chunks and runs apart
    pub append_numbers : (w v : World) (purpose : Purpose) (bs : List Page) (l : Locator) → (a : Append S w purpose bs l v)
        → (v.written ≡ w.written + length bs) × ((j : ℕ) → v.superblocks j ≡ w.superblocks j + in_section S j (a.extent ∷ [])) × (v.root ≡ w.root)
    append_numbers w v purpose bs l a = append_numbers_by false w v purpose bs l a

    pub all_numbers : (w v : World) (purpose : Purpose) (frames : List (List Page)) (ls : List Locator) → AppendAll S w purpose frames ls v
        → (places : List ℕ) × ArePlacedBy S false w.extents purpose (page_counts frames) places × (v.written ≡ w.written + sum (page_counts frames))
        × ((j : ℕ) → v.superblocks j ≡ w.superblocks j + in_section S j places) × (v.root ≡ w.root)
    all_numbers w v purpose frames ls all = all_numbers_by false w v purpose frames ls all

-- after so many more writes, versions of each section, versions of the root and commands a number is past its greatest
abbrev pub IsPast : Shape → State → (writes : ℕ) → (versions : ℕ → ℕ) → (roots commands : ℕ) → Type 0
IsPast S s n k r c = (2 ^ 63 ≤ s.world.written + n) ⊎ ((j : ℕ) × (j < S.sections) × (2 ^ 63 ≤ s.world.superblocks j + k j)) ⊎ (2 ^ 63 ≤ s.world.root + r)
    ⊎ (2 ^ 63 ≤ s.count + length s.commands + c)

module _ (x : ExtentsState) (F : Formats) (s t : State) (n : ℕ) (k : ℕ → ℕ) (r c : ℕ) (written : t.world.written ≡ s.world.written + n)
    (superblocks : (j : ℕ) → t.world.superblocks j ≡ s.world.superblocks j + k j) (root : t.world.root ≡ s.world.root + r)
    (commands : t.count + length t.commands ≡ s.count + length s.commands + c) where
  pub past : ((e : ℕ) → t.world.extents.generation e ≤ (shape x).greatest_generation) → PastLimit (shape x) F t → IsPast (shape x) s n k r c
  past young (inl (inl over)) = inl (omega arith)
  past young (inl (inr (inl (j, there, over)))) = inr (inl (
    j,
    there,
    (let high : 9223372036854775807 < t.world.superblocks j = over in let same : t.world.superblocks j ≡ s.world.superblocks j + k j = superblocks j in omega arith),
  ))
  past young (inl (inr (inr (inl over)))) = inr (inr (inl (omega arith)))
  past young (inl (inr (inr (inr (e, over))))) = absurd (let le : t.world.extents.generation e ≤ 4294967295 = young e in omega arith)
  past young (inr over) = inr (inr (inr (omega arith)))

  pub past_too : IsPast (shape x) s n k r c → PastLimit (shape x) F t
  past_too (inl over) = inl (inl (omega arith))
  past_too (inr (inl (j, there, over))) = inl (inr (inl (
    j,
    there,
    (let high : 2 ^ 63 ≤ s.world.superblocks j + k j = over in let same : t.world.superblocks j ≡ s.world.superblocks j + k j = superblocks j in omega arith),
  )))
  past_too (inr (inr (inl over))) = inl (inr (inr (inl (omega arith))))
  past_too (inr (inr (inr over))) = inr (omega arith)
