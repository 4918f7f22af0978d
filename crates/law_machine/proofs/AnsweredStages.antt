-- Stage has an answer: a refusal, or what it does.
use Rattle.std.proofs.Common.{◌≡◌, ◌≢◌, ◌⊎◌, inl, inr, ⊎_elim, ℕ, suc, true, List, [], ◌∷◌, refl, sym, ap, ap₂, ◌∙◌, le_of_eq, le_trans, false, length, true≢false, ◌≤◌, subst}
use Rattle.std.proofs.lemmas.Bool.{cases_Bool}
use Rattle.law_machine.specs.Apart.{MayStage, MergesApart, MergesFor, StagesApart, by_rule, left_over, named, rested, rooted_apart, takes}
use Rattle.law_machine.proofs.ApartResets.{freed_fits}
use Rattle.law_machine.proofs.Quiet.{unchanged}
use Rattle.law_machine.proofs.Rules.{apart_rule, before_rule, rule_apart, rule_before}
use Rattle.law_machine.proofs.Limits.{past_decided, worn_or_not, not_past}
use Rattle.law_machine.proofs.Outcomes.{Answers, not_true, part_one, part_or_full, part_generations, clears, ends}
use Rattle.law_machine.specs.Device.{IsShape, Shape}
use Rattle.law_machine.specs.Element.{Entry, Run}
use Rattle.law_machine.specs.Events.{Does, rooted}
use Rattle.law_machine.specs.Extents.{ForRun, ForMerge}
use Rattle.law_machine.specs.Formats.{Formats}
use Rattle.law_machine.specs.Frames.{IsFormat}
use Rattle.law_machine.specs.Grounds.{NoRoomToStage, PastLimit, Refuses, WouldPass, NoRoomApart}
use Rattle.law_machine.specs.Merges.{deletions_go, stage_takes}
use Rattle.law_machine.specs.Refusal.{Full, Halted, Refusal, WornOut}
use Rattle.law_machine.specs.Sound.{Bounded, Sound}
use Rattle.law_machine.specs.State.{Refused, Reply, Stage, Staged, State, Unchanged}
use Rattle.law_machine.specs.Step.{Step}

module _ (S : Shape) (F : Formats) (shape : IsShape S) (format : IsFormat S F) where
  -- where chunks and runs lie apart there is one state after what is merged, or the run goes nowhere
  pub stages_one : (s t u : State) → StagesApart S F s t → StagesApart S F s u → u ≡ t
  stages_one s t u (mid, runs, inl m, is) (other, rest, inl n, also) =
      let one = part_one S F shape format true s mid other ForRun (takes S s) (deletions_go S s (takes S s)) runs rest
      m n in also ∙ sym (ap₂ (λ (x : State) (rs : List Run). rooted_apart S F x rs) one.0 one.1) ∙ sym is
  stages_one s t u (mid, runs, inl m, is) (other, rest, inr n, also) = absurd (n.0 mid runs m)
  stages_one s t u (mid, runs, inr m, is) (other, rest, inl n, also) = absurd (m.0 other rest n)
  stages_one s t u (mid, runs, inr m, is) (other, rest, inr n, also) =
      let one = part_one S F shape format true s mid other ForMerge (length s.runs) (deletions_go S s (length s.runs)) runs rest
      m.1 n.1 in also ∙ sym (ap₂ (λ (x : State) (rs : List Run). rooted_apart S F x rs) one.0 one.1) ∙ sym is

  pub stages_or_full : (s : State) → ((t : State) × StagesApart S F s t) ⊎ NoRoomApart S F s
  stages_or_full s = ⊎_elim
      (λ one. inl (rooted_apart S F one.0 one.1, (one.0, one.1, inl one.2, refl)))
      (λ (full : (t : State) (runs : List Run) → MergesFor S F s false t runs → ⊥). ⊎_elim
      (λ one. inl (rooted_apart S F one.0 one.1, (one.0, one.1, inr (full, one.2), refl)))
      (λ (none : (t : State) (runs : List Run) → MergesFor S F s true t runs → ⊥). inr (nowhere full none))
      (part_or_full S F shape format true s ForMerge (length s.runs) (deletions_go S s (length s.runs))))
      (part_or_full S F shape format true s ForRun (takes S s) (deletions_go S s (takes S s)))
    where
      nowhere : ((t : State) (runs : List Run) → MergesFor S F s false t runs → ⊥)
          → ((t : State) (runs : List Run) → MergesFor S F s true t runs → ⊥) → NoRoomApart S F s
      nowhere full none t (mid, runs, inl m, is) = full mid runs m
      nowhere full none t (mid, runs, inr m, is) = none mid runs m.1

  -- it takes no generation past the greatest
  pub stages_young : (s t : State) → ((e : ℕ) → s.world.extents.generation e ≤ S.greatest_generation) → StagesApart S F s t
      → (e : ℕ) → t.world.extents.generation e ≤ S.greatest_generation
  stages_young s t fits (mid, runs, merges, is) e = subst (λ (x : State). x.world.extents.generation e ≤ S.greatest_generation)
      (sym is) (freed_fits S (rested S (rooted S F mid runs (named mid.world.extents.pointer runs)))
      (λ d. le_trans (le_of_eq (ap (λ (f : ℕ → ℕ). f d) (merged_alike merges))) (fits d)) e)
    where
      merged_alike : MergesApart S F s mid runs → mid.world.extents.generation ≡ s.world.extents.generation
      merged_alike (inl m) =
          part_generations S F shape format true s mid ForRun (takes S s) (deletions_go S s (takes S s)) runs m
      merged_alike (inr m) =
          part_generations S F shape format true s mid ForMerge (length s.runs) (deletions_go S s (length s.runs)) runs m.1

  -- stage
  not_may : (s : State) → s.table ≡ [] → left_over S s ≡ false → MayStage S s → ⊥
  not_may s none not (inl some) = some none
  not_may s none not (inr left) = true≢false (sym left ∙ not)

  one_or_none : (s t u : State) (v : ℕ) → Does S F s Stage Unchanged t → Does S F s Stage (Staged v) u → ⊥
  one_or_none s t u v a b = elim (cases_Bool S.apart) [
    | inl on ↦ (let x = apart_rule _ _ S.apart on a in not_may s x.0 x.1 (apart_rule _ _ S.apart on b).0)
    | inr before ↦ (before_rule _ _ S.apart before b).0 (before_rule _ _ S.apart before a).0
  ]

  pub stage_one : (s : State) (r q : Reply) (t u : State) → Does S F s Stage r t → Does S F s Stage q u → u ≡ t
  stage_one s Unchanged Unchanged t u a b = unchanged S F s u b ∙ sym (unchanged S F s t a)
  stage_one s Unchanged (Staged v) t u a b = absurd (one_or_none s t u v a b)
  stage_one s Unchanged q t u a b = absurd b
  stage_one s (Staged v) Unchanged t u a b = absurd (one_or_none s u t v b a)
  stage_one s (Staged v) (Staged w) t u a b = elim (cases_Bool S.apart) [
    | inl on ↦ stages_one s t u (apart_rule _ _ S.apart on a).2 (apart_rule _ _ S.apart on b).2
    | inr before ↦ (let x = before_rule _ _ S.apart before a in let y = before_rule _ _ S.apart before b in
        let one = part_one S F shape format false s x.2 y.2 ForRun (stage_takes S s) (deletions_go S s (stage_takes S s))
        x.3 y.3 x.4 y.4 in
        y.5 ∙ sym (ap₂ (λ (m : State) (rs : List Run). rooted S F m rs m.world.extents.pointer) one.0 one.1) ∙ sym x.5)
  ]
  stage_one s (Staged v) q t u a b = absurd b
  stage_one s r q t u a b = absurd a

  some_table : (s : State) → (s.table ≡ []) ⊎ (s.table ≢ [])
  some_table s = go s.table refl
    where
      go : (es : List Entry) → s.table ≡ es → (s.table ≡ []) ⊎ (s.table ≢ [])
      go [] is = inl is
      go (x ∷ xs) is = inr (λ none. let e : x ∷ xs ≡ [] = sym is ∙ none in cc)

  -- what a Stage comes to, where it is worn or not
  stages : (s t : State) (reply : Reply) → (s.halted ≡ true → ⊥) → Does S F s Stage reply t
      → (by_rule S.apart ((s.table ≢ []) × NoRoomToStage S F s) (MayStage S s × NoRoomApart S F s) → ⊥)
      → (PastLimit S F t ⊎ (PastLimit S F t → ⊥))
      → (Step S F s Stage (Refused WornOut) s)
      ⊎ (((f : Refusal) → Refuses S F s Stage f → ⊥) × Does S F s Stage reply t)
  stages s t reply on d room past = ⊎_elim
      (λ worn. inl (inl (inr (on, inr (room, inl (worn, refl)))), refl))
      (λ (not_worn : WouldPass S F s Stage → ⊥). inr
      (clears Halted on (clears Full room (clears WornOut not_worn ends)), d))
      (worn_or_not S F s t Stage reply d (λ r u x. stage_one s reply r t u d x) past)

  answers_before : S.apart ≡ false → (s : State) → Sound S F s → Bounded S F s → (s.halted ≡ true → ⊥)
      → Answers S F shape format s Stage
  answers_before before s sound b on = ⊎_elim
      (λ (none : s.table ≡ []). ⊎_elim (λ worn. (Refused WornOut, s, worn)) (λ done. (Unchanged, s, done))
      (stages s s Unchanged on (rule_before _ _ S.apart before (none, refl))
      (λ full. (before_rule _ _ S.apart before full).0 none) (inr (not_past S F s sound b))))
      (λ (some : s.table ≢ []). ⊎_elim
      (λ one.
      let mid : State = one.0 in
      let t : State = rooted S F mid one.1 mid.world.extents.pointer in
      let d : Does S F s Stage (Staged (suc s.world.root)) t =
      rule_before _ _ S.apart before (some, refl, mid, one.1, one.2, refl) in
      ⊎_elim (λ worn. (Refused WornOut, s, worn)) (λ done. (Staged (suc s.world.root), t, done))
      (stages s t (Staged (suc s.world.root)) on d (λ full. (before_rule _ _ S.apart before full).1 mid one.1 one.2)
      (past_decided S F t
      (λ e. le_trans (le_of_eq
      (ap (λ (f : ℕ → ℕ). f e)
      (part_generations S F shape format false s mid ForRun (stage_takes S s) (deletions_go S s (stage_takes S s)) one.1 one.2)))
      (sound.safe.extents_fit e).1))))
      (λ (full : NoRoomToStage S F s).
      (Refused Full, s, (inl (inr (on, inl (rule_before _ _ S.apart before (some, full), refl))), refl)))
      (part_or_full S F shape format false s ForRun (stage_takes S s) (deletions_go S s (stage_takes S s))))
      (some_table s)

  may_decided : (s : State) → MayStage S s ⊎ ((s.table ≡ []) × (left_over S s ≡ false))
  may_decided s = ⊎_elim
      (λ (none : s.table ≡ []). elim (cases_Bool (left_over S s)) [
        | inl left ↦ inl (inr left)
        | inr not ↦ inr (none, not)
      ])
      (λ (some : s.table ≢ []). inl (inl some)) (some_table s)

  answers_apart : S.apart ≡ true → (s : State) → Sound S F s → Bounded S F s → (s.halted ≡ true → ⊥)
      → Answers S F shape format s Stage
  answers_apart apart s sound b on = ⊎_elim
      (λ (may : MayStage S s). ⊎_elim
      (λ one.
      let d : Does S F s Stage (Staged (suc s.world.root)) one.0 = rule_apart _ _ S.apart apart (may, refl, one.1) in
      ⊎_elim (λ worn. (Refused WornOut, s, worn)) (λ done. (Staged (suc s.world.root), one.0, done))
      (stages s one.0 (Staged (suc s.world.root)) on d (λ full. (apart_rule _ _ S.apart apart full).1 one.0 one.1)
      (past_decided S F one.0 (stages_young s one.0 (λ e. (sound.safe.extents_fit e).1) one.1))))
      (λ (full : NoRoomApart S F s).
      (Refused Full, s, (inl (inr (on, inl (rule_apart _ _ S.apart apart (may, full), refl))), refl)))
      (stages_or_full s))
      (λ none. ⊎_elim (λ worn. (Refused WornOut, s, worn)) (λ done. (Unchanged, s, done))
      (stages s s Unchanged on (rule_apart _ _ S.apart apart (none.0, none.1, refl))
      (λ full. not_may s none.0 none.1 (apart_rule _ _ S.apart apart full).0) (inr (not_past S F s sound b))))
      (may_decided s)

  pub answers_stage : (s : State) → Sound S F s → Bounded S F s → Answers S F shape format s Stage
  answers_stage s sound b = elim (cases_Bool s.halted) [
    | inl halted ↦ (Refused Halted, s, (inl (inl (halted, refl)), refl))
    | inr runs ↦ elim (cases_Bool S.apart) [
      | inl apart ↦ answers_apart apart s sound b (not_true s.halted runs)
      | inr before ↦ answers_before before s sound b (not_true s.halted runs)
    ]
  ]
