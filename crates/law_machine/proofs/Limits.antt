-- Whether a number is past its greatest.
use Rattle.std.proofs.Common.{◌≡◌, ◌⊎◌, inl, inr, ⊎_elim, ℕ, zero, suc, ◌+◌, ◌<◌, ◌≤◌, length, sym, subst, le_of_eq, le_trans, le_refl, arith}
use Rattle.std.proofs.lemmas.Bool.{cases_eq, cases_lt}
use Rattle.law_machine.specs.Device.{Shape}
use Rattle.law_machine.specs.Events.{Does}
use Rattle.law_machine.specs.Formats.{Formats}
use Rattle.law_machine.specs.Grounds.{PastLimit, WouldPass}
use Rattle.law_machine.specs.Sound.{Bounded, Sound}
use Rattle.law_machine.specs.State.{Event, Reply, State}

some_past : (f : ℕ → ℕ) (limit n : ℕ) → ((j : ℕ) × (j < n) × (limit < f j)) ⊎ ((j : ℕ) → j < n → f j ≤ limit)
some_past f limit zero = inr (λ j lt. absurd (omega arith))
some_past f limit (suc n) = ⊎_elim
    (λ found. inl (found.0, (let lt : found.0 < n = found.1 in omega arith), found.2))
    (λ (none : (j : ℕ) → j < n → f j ≤ limit). elim (cases_lt limit (f n)) [
      | inl past ↦ inl (n, omega arith, past)
      | inr fits ↦ inr (λ j lt.
          elim (cases_eq j n) [
            | inl is ↦ subst (λ (k : ℕ). f k ≤ limit) (sym is) fits
            | inr not ↦ none j
                (omega arith)
          ])
    ])
    (some_past f limit n)

module _ (S : Shape) (F : Formats) where
  pub past_decided : (t : State) → ((e : ℕ) → t.world.extents.generation e ≤ S.greatest_generation)
      → PastLimit S F t ⊎ (PastLimit S F t → ⊥)
  past_decided t young = elim (cases_lt S.greatest_number t.world.written) [
    | inl a ↦ inl (inl (inl a))
    | inr a ↦ ⊎_elim
        (λ found. inl (inl (inr (inl found))))
        (λ (b : (j : ℕ) → j < S.sections → t.world.superblocks j ≤ S.greatest_number).
        elim (cases_lt S.greatest_number t.world.root) [
          | inl c ↦ inl (inl (inr (inr (inl c))))
          | inr c ↦ elim (cases_lt S.greatest_number (t.count + length t.commands)) [
            | inl d ↦ inl (inr d)
            | inr d ↦ inr (λ past. none_of a b c d past)
          ]
        ])
        (some_past t.world.superblocks S.greatest_number S.sections)
  ]
    where
      none_of : t.world.written ≤ S.greatest_number
          → ((j : ℕ) → j < S.sections → t.world.superblocks j ≤ S.greatest_number)
          → t.world.root ≤ S.greatest_number → t.count + length t.commands ≤ S.greatest_number → PastLimit S F t → ⊥
      none_of a b c d (inl (inl x)) = omega arith
      none_of a b c d (inl (inr (inl x))) = (let lt : S.greatest_number < t.world.superblocks x.0 = x.2 in
          let le : t.world.superblocks x.0 ≤ S.greatest_number = b x.0 x.1 in omega arith)
      none_of a b c d (inl (inr (inr (inl x)))) = omega arith
      none_of a b c d (inr x) = omega arith
      none_of a b c d (inl (inr (inr (inr x)))) =
          (let lt : S.greatest_generation < t.world.extents.generation x.0 = x.1 in
          let le : t.world.extents.generation x.0 ≤ S.greatest_generation = young x.0 in omega arith)

  -- what an event does once, in one way, passes a limit or doesn't
  pub worn_or_not : (s t : State) (event : Event) (reply : Reply) → Does S F s event reply t
      → ((r : Reply) (u : State) → Does S F s event r u → u ≡ t)
      → PastLimit S F t ⊎ (PastLimit S F t → ⊥) → WouldPass S F s event ⊎ (WouldPass S F s event → ⊥)
  worn_or_not s t event reply d one (inl past) = inl (reply, t, d, past)
  worn_or_not s t event reply d one (inr fits) = inr
      (λ w. fits (subst (λ (x : State). PastLimit S F x) (one w.0 w.1 w.2) w.3))

  -- a sound state passes none
  pub not_past : (s : State) → Sound S F s → Bounded S F s → PastLimit S F s → ⊥
  not_past s sound b (inl (inl x)) = (let le : s.world.written ≤ S.greatest_number = b.written_fits in omega arith)
  not_past s sound b (inl (inr (inl x))) = (
      let past : S.greatest_number < s.world.superblocks x.0 = x.2 in
      let at = sound.safe.exact.superblocks x.0 x.1 in
      let old : s.world.persistent.superblocks x.0 ≤ S.greatest_number = le_trans (le_of_eq (sym at.2))
      (sound.safe.superblocks_fit (sound.safe.exact.superblock x.0) at.0).1 in
      let last = sound.safe.superblocks_there x.0 (s.world.superblocks x.0) (omega arith) (le_refl _) in
      let le : s.world.superblocks x.0 ≤ S.greatest_number = le_trans (le_of_eq (sym last.3))
      (sound.safe.superblocks_fit last.0 last.1).1 in omega arith)
  not_past s sound b (inl (inr (inr (inl x)))) = (let le : s.world.root ≤ S.greatest_number = b.bounds.version_fits in
      omega arith)
  not_past s sound b (inr x) =
      (let le : s.count + length s.commands ≤ S.greatest_number = b.bounds.commands_fit in omega arith)
  not_past s sound b (inl (inr (inr (inr x)))) =
      (let lt : S.greatest_generation < s.world.extents.generation x.0 = x.1 in
      let le : s.world.extents.generation x.0 ≤ S.greatest_generation = (sound.safe.extents_fit x.0).1 in omega arith)
