-- What a Stage leaves of deletions.
use Rattle.std.proofs.Common.{◌≡◌, ◌≢◌, inl, inr, ⊎_elim, ℕ, ◌*◌, ◌<◌, ◌≤◌, Bool, true, false, List, [], ◌∷◌, length, if◌then◌else◌, nat_le, le-leb, le_refl, true≢false, refl, sym, ap, ◌∙◌, subst, arith}
use Rattle.std.proofs.lemmas.Bool.{cases_Bool}
use Rattle.std.proofs.lemmas.Bool.Decides.{nat_tests}
use Rattle.law_machine.proofs.Merging.{goes_all, merged_lookup}
use Rattle.law_machine.proofs.Rules.{apart_rule, before_rule}
use Rattle.law_machine.proofs.Weights.{dead_alike, none_dead, weighs}
use Rattle.law_machine.specs.Apart.{MergesFor, StagesApart, is_none, takes}
use Rattle.law_machine.specs.Device.{IsShape, Shape}
use Rattle.law_machine.specs.Element.{Entry, Run}
use Rattle.law_machine.specs.Events.{Does}
use Rattle.law_machine.specs.Extents.{ForMerge, ForRun, Purpose}
use Rattle.law_machine.specs.Formats.{Formats}
use Rattle.law_machine.specs.Index.{entries_of, if_live, lookup, names}
use Rattle.law_machine.specs.Merges.{MergesPart, deletions_go, reached, reaching, sizes, stage_takes}
use Rattle.law_machine.specs.State.{Stage, Staged, State, index_now}
use Rattle.law_machine.specs.Tally.{dead_weight}

module _ (S : Shape) (F : Formats) (shape : IsShape S) (by_size : S.by_size ≡ true) where
  some_most : 0 < S.most_weight
  some_most = let one : 1 ≤ S.weigh S.most_chunks = weighs S.weigh shape.weighs S.most_chunks in
      let fits : S.weigh S.most_chunks ≤ S.most_weight = shape.one_fits in omega arith

  -- deletions go where all runs are merged
  goes : (s : State) (k : ℕ) → k ≡ length s.runs → deletions_go S s k ≡ true
  goes s k is = subst (λ (n : ℕ). deletions_go S s n ≡ true) (sym is)
      (let all : nat_le (length s.runs) (length s.runs) ≡ true = le-leb _ _ (le_refl _) in rw (all, by_size) refl)

  module _ (apart : Bool) (s t : State) (purpose : Purpose) (k : ℕ) (runs : List Run)
      (m : MergesPart S F apart (deletions_go S s k) s purpose k t runs) where
    -- what each identifier has once the part is merged
    staged_lookup : (id : ℕ) → lookup id (entries_of runs)
        ≡ (if deletions_go S s k then if_live (lookup id (index_now s)) else lookup id (index_now s))
    staged_lookup id = ⊎_elim
        (λ one. ap (λ (rs : List Run). lookup id (entries_of rs)) one.5 ∙ merged_lookup s k (deletions_go S s k) one.0 (goes_all S s k) one.3 id)
        (λ none. ap (λ (rs : List Run). lookup id (entries_of rs)) none.2
        ∙ merged_lookup s k (deletions_go S s k) [] (goes_all S s k) none.0 id)
        m

    -- where deletions go none is left
    all_gone : deletions_go S s k ≡ true → 4 * dead_weight S.weigh (entries_of runs) < S.most_weight
    all_gone go = let none : dead_weight S.weigh (entries_of runs) ≡ 0 = none_dead S.weigh (entries_of runs) (index_now s)
        (λ id. staged_lookup id
        ∙ ap (λ (b : Bool). if b then if_live (lookup id (index_now s)) else lookup id (index_now s)) go) in
        let some : 0 < S.most_weight = some_most in omega arith

    -- else there are as few as there were
    as_few : deletions_go S s k ≡ false → 4 * dead_weight S.weigh (index_now s) < S.most_weight
        → 4 * dead_weight S.weigh (entries_of runs) < S.most_weight
    as_few stay few = subst (λ (n : ℕ). 4 * n < S.most_weight)
        (sym (dead_alike S.weigh (entries_of runs) (index_now s) (λ id. staged_lookup id
        ∙ ap (λ (b : Bool). if b then if_live (lookup id (index_now s)) else lookup id (index_now s)) stay))) few

    part_of_few : k ≡ reached S s → 4 * dead_weight S.weigh (entries_of runs) < S.most_weight
    part_of_few is = elim (cases_Bool (deletions_go S s k)) [
      | inl go ↦ all_gone go
      | inr stay ↦ as_few stay (few (nat_le S.most_weight (4 * dead_weight S.weigh (index_now s))) refl stay)
    ]
      where
        few : (b : Bool) → nat_le S.most_weight (4 * dead_weight S.weigh (index_now s)) ≡ b → deletions_go S s k ≡ false
            → 4 * dead_weight S.weigh (index_now s) < S.most_weight
        few false test stay = grind (arith, nat_tests)
        few true test stay =
            let all : k ≡ length s.runs = is ∙ ap (λ (b : Bool). if b then length s.runs
            else reaching S (sizes s.runs) (names s.table)) test in
            absurd (true≢false (sym (goes s k all) ∙ stay))

  -- by size so many runs are merged as are reached
  by_reached : (s : State) → stage_takes S s ≡ reached S s
  by_reached s = rw by_size refl

  takes_reached : (s : State) → s.table ≢ [] → takes S s ≡ reached S s
  takes_reached s some = by s.table refl
    where
      by : (table : List Entry) → s.table ≡ table → (if is_none table then 0 else stage_takes S s) ≡ reached S s
      by [] none = absurd (some none)
      by (x ∷ xs) is = by_reached s

  apart_few : (s t : State) → s.table ≢ [] → StagesApart S F s t → 4 * dead_weight S.weigh (index_now t) < S.most_weight
  apart_few s t some o = subst (λ (u : State). 4 * dead_weight S.weigh (index_now u) < S.most_weight) (sym o.3)
      (⊎_elim
      (λ (part : MergesFor S F s false o.0 o.1). part_of_few true s o.0 ForRun (takes S s) o.1 part (takes_reached s some))
      (λ (all : ((u : State) (others : List Run) → MergesFor S F s false u others → ⊥) × MergesFor S F s true o.0 o.1).
      all_gone true s o.0 ForMerge (length s.runs) o.1 all.1 (goes s (length s.runs) refl))
      o.2)

  pub few_dead : (s t : State) (v : ℕ) → s.table ≢ [] → Does S F s Stage (Staged v) t
      → 4 * dead_weight S.weigh (index_now t) < S.most_weight
  few_dead s t v some does = elim (cases_Bool S.apart) [
    | inl on ↦ apart_few s t some (apart_rule _ _ S.apart on does).2
    | inr before ↦ (let o = before_rule _ _ S.apart before does in
        subst (λ (u : State). 4 * dead_weight S.weigh (index_now u) < S.most_weight) (sym o.5)
        (part_of_few false s o.2 ForRun (stage_takes S s) o.3 o.4 (by_reached s)))
  ]
