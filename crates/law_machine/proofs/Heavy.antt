-- When a put is refused 32.
use Rattle.std.proofs.Common.{◌≡◌, ◌⊎◌, ◌↔◌, inl, inr, ℕ, ◌+◌, ◌*◌, ◌<◌, ◌≤◌, true, false, List, ◌∷◌, length, Option, Some, None, true≢false, refl, sym, ap, ◌∙◌, subst, arith}
use Rattle.std.specs.Prelude.{is_some}
use Rattle.std.proofs.lemmas.Bool.{cases_Bool, cases_lt}
use Rattle.law_machine.proofs.Chunks.{chunked_one, chunked_there}
use Rattle.law_machine.proofs.Weights.{dead_no_more, named_parts, ones_weigh, weight_one}
use Rattle.law_machine.specs.Before.{NamesFull}
use Rattle.law_machine.specs.Device.{IsShape, Shape}
use Rattle.law_machine.specs.Element.{Entry, Locator}
use Rattle.law_machine.specs.Events.{Chunked}
use Rattle.law_machine.specs.Formats.{Formats}
use Rattle.law_machine.specs.Grounds.{Refuses, TooHeavy, is_named}
use Rattle.law_machine.specs.Index.{lookup, named_weight, names, weight, weight_with}
use Rattle.law_machine.specs.Sound.{Bounded}
use Rattle.law_machine.specs.Refusal.{Full, Halted, IndexFull, TooLarge, WornOut}
use Rattle.law_machine.specs.State.{Put, State, index_now}
use Rattle.law_machine.specs.Tally.{dead_weight, living_weight}

module _ (S : Shape) (F : Formats) (shape : IsShape S) where
  pub heavy_or_not : (s : State) (id : ℕ) (bytes : List ℕ) → TooHeavy S F s id bytes ⊎ (TooHeavy S F s id bytes → ⊥)
  heavy_or_not s id bytes =
      let chunks = chunked_there (S.piece_bytes (length bytes)) bytes (shape.some_piece (length bytes)) in
      elim (cases_lt S.most_weight (weight_with S.weigh (index_now s) id (length chunks.0))) [
        | inl lt ↦ inl (chunks.0, chunks.1, lt)
        | inr le ↦ inr (λ heavy.
            let lt : S.most_weight < weight_with S.weigh (index_now s) id (length chunks.0) =
            subst (λ (cs : List (List ℕ)). S.most_weight < weight_with S.weigh (index_now s) id (length cs))
            (chunked_one (S.piece_bytes (length bytes)) bytes heavy.0 chunks.0 heavy.1 chunks.1) heavy.2 in omega arith)
      ]

  -- where the deletions weigh less than a quarter, and what lives with the new entry three quarters at most
  pub light_enough : (s : State) (id : ℕ) (bytes : List ℕ) (chunks : List (List ℕ)) (ls : List Locator)
      → 4 * dead_weight S.weigh (index_now s) < S.most_weight → Chunked (S.piece_bytes (length bytes)) bytes chunks → length ls ≡ length chunks
      → 4 * living_weight S.weigh (record { id = id; locators = ls } ∷ index_now s) ≤ 3 * S.most_weight → TooHeavy S F s id bytes → ⊥
  light_enough s id bytes chunks ls dead chunked same living heavy =
      let x : Entry = record { id = id; locators = ls } in
      let some : 0 < length chunks = chunked.1 in
      let over : S.most_weight < weight_with S.weigh (index_now s) id (length ls) =
      subst (λ (c : ℕ). S.most_weight < weight_with S.weigh (index_now s) id c)
      (ap length (chunked_one (S.piece_bytes (length bytes)) bytes heavy.0 chunks heavy.1 chunked) ∙ sym same) heavy.2 in
      let parts : named_weight S.weigh (x ∷ index_now s) ≡ living_weight S.weigh (x ∷ index_now s) + dead_weight S.weigh (x ∷ index_now s) =
      named_parts S.weigh (x ∷ index_now s) in
      let fewer : dead_weight S.weigh (x ∷ index_now s) ≤ dead_weight S.weigh (index_now s) =
      dead_no_more S.weigh x (index_now s) (omega arith) in
      absurd (parted (weight_with S.weigh (index_now s) id (length ls)) (living_weight S.weigh (x ∷ index_now s)) (dead_weight S.weigh (x ∷ index_now s))
      (dead_weight S.weigh (index_now s)) S.most_weight parts over fewer dead living)
    where
      parted : (w l d e m : ℕ) → w ≡ l + d → m < w → d ≤ e → 4 * e < m → 4 * l ≤ 3 * m → ⊥
      parted w l d e m is over fewer few small = omega arith

  -- so such a put isn't refused 32
  pub light_put : (s : State) (id : ℕ) (bytes : List ℕ) (chunks : List (List ℕ)) (ls : List Locator)
      → 4 * dead_weight S.weigh (index_now s) < S.most_weight → Chunked (S.piece_bytes (length bytes)) bytes chunks → length ls ≡ length chunks
      → 4 * living_weight S.weigh (record { id = id; locators = ls } ∷ index_now s) ≤ 3 * S.most_weight
      → Refuses S F s (Put id bytes) IndexFull → ⊥
  light_put s id bytes chunks ls dead chunked same living (inl (a, wrong)) = let no : IndexFull ≡ Halted = wrong in cc
  light_put s id bytes chunks ls dead chunked same living (inr (a, inl (b, wrong))) = let no : IndexFull ≡ TooLarge = wrong in cc
  light_put s id bytes chunks ls dead chunked same living (inr (a, inr (b, inl (heavy, is)))) =
      light_enough s id bytes chunks ls dead chunked same living heavy
  light_put s id bytes chunks ls dead chunked same living (inr (a, inr (b, inr (d, inl (full, wrong))))) =
      let no : IndexFull ≡ Full = wrong in cc
  light_put s id bytes chunks ls dead chunked same living (inr (a, inr (b, inr (d, inr (e, inl (worn, wrong)))))) =
      let no : IndexFull ≡ WornOut = wrong in cc
  light_put s id bytes chunks ls dead chunked same living (inr (a, inr (b, inr (d, inr (e, inr none))))) = none.1

  -- where each entry weighs one
  module _ (ones : (c : ℕ) → S.weigh c ≡ 1) (s : State) (id : ℕ) where
    -- what an identifier that is named has weighs one, and one that isn't has nothing
    old_weight : (o : Option (List Locator)) → is_some o ≡ true → weight S.weigh o ≡ 1
    old_weight None is = absurd (true≢false (sym is))
    old_weight (Some ls) is = ones (length ls)

    new_weight : (o : Option (List Locator)) → is_some o ≡ false → weight S.weigh o ≡ 0
    new_weight None is = refl
    new_weight (Some ls) is = absurd (true≢false is)

    names_full : (bytes : List ℕ) → Bounded S F s → TooHeavy S F s id bytes → NamesFull S F s id
    names_full bytes b heavy =
        let all : named_weight S.weigh (index_now s) ≡ names (index_now s) = ones_weigh S.weigh ones (index_now s) in
        let more : S.weigh (length heavy.0) ≡ 1 = ones (length heavy.0) in
        let fits : named_weight S.weigh (index_now s) ≤ S.most_weight = b.bounds.weight_fits in
        let over : S.most_weight < weight_with S.weigh (index_now s) id (length heavy.0) = heavy.2 in
        elim (cases_Bool (is_named S F s id)) [
          | inl old ↦ absurd (
              let here : weight S.weigh (lookup id (index_now s)) ≡ 1 = old_weight (lookup id (index_now s)) old in
              let some : weight S.weigh (lookup id (index_now s)) ≤ named_weight S.weigh (index_now s) = weight_one S.weigh (index_now s) id in omega arith)
          | inr new ↦ (new, omega arith)
        ]

    names_heavy : (bytes : List ℕ) → NamesFull S F s id → TooHeavy S F s id bytes
    names_heavy bytes full =
        let chunks = chunked_there (S.piece_bytes (length bytes)) bytes (shape.some_piece (length bytes)) in (
          chunks.0,
          chunks.1,
          (let all : named_weight S.weigh (index_now s) ≡ names (index_now s) = ones_weigh S.weigh ones (index_now s) in
              let more : S.weigh (length chunks.0) ≡ 1 = ones (length chunks.0) in
              let most : S.most_weight ≤ names (index_now s) = full.1 in
              let none : weight S.weigh (lookup id (index_now s)) ≡ 0 = new_weight (lookup id (index_now s)) full.0 in omega arith),
        )

    pub heavy_is_named : (bytes : List ℕ) → Bounded S F s → TooHeavy S F s id bytes ↔ NamesFull S F s id
    heavy_is_named bytes b = (names_full bytes b, names_heavy bytes)
