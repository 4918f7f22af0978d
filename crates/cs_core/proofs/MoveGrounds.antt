-- Which ground refuses a MoveOne, by either rule.
use Rattle.std.proofs.Common.{◌≡◌, inl, inr, ℕ, true, false, refl}
use Rattle.law_machine.proofs.Rules.{apart_rule, before_rule, rule_apart, rule_before}
use Rattle.law_machine.specs.Apart.{DamagedLeft, NoRoomToCopy, NothingLeft}
use Rattle.law_machine.specs.Device.{Shape}
use Rattle.law_machine.specs.Formats.{Formats}
use Rattle.law_machine.specs.Grounds.{DamagedFirst, NoRoomToMove, Refuses, WouldPass}
use Rattle.law_machine.specs.Index.{NothingLive}
use Rattle.law_machine.specs.Refusal.{Full, Halted, NotSweepable, Refusal, WornOut}
use Rattle.law_machine.specs.State.{MoveOne, State, index_now}
use Rattle.law_machine.specs.Step.{Reading}
use Rattle.cs_core.proofs.Going.{no_more, pass, pass_found}

module _ (S : Shape) (F : Formats) (s : State) (e : ℕ) (runs : s.halted ≡ true → ⊥) (marked : s.world.extents.swept e ≡ false → ⊥) where
  -- where chunks and runs may lie on one extent
  module _ (together : S.apart ≡ false) where
    pub damaged_before : (f : Refusal) → DamagedFirst S F s e f → Refuses S F s (MoveOne e) f
    damaged_before f damage = inr (runs, inr (marked, inl (rule_before _ _ S.apart together damage)))

    pub reads_before : s.halted ≡ false → s.world.extents.swept e ≡ true → (NothingLive (index_now s) e → ⊥) → Reading S F s (MoveOne e)
    reads_before on swept some = (on, swept, rule_before _ _ S.apart together some)

    module _ (undamaged : (f : Refusal) → DamagedFirst S F s e f → ⊥) where
      pub full_before : (NothingLive (index_now s) e → ⊥) → NoRoomToMove S F s e → Refuses S F s (MoveOne e) Full
      full_before some full = inr (runs, inr (marked, inr ((λ f d. undamaged f (before_rule _ _ S.apart together d)), inl (rule_before _ _ S.apart together (some, full), refl))))

      module _ (room : (NothingLive (index_now s) e → ⊥) × NoRoomToMove S F s e → ⊥) where
        pub worn_before : WouldPass S F s (MoveOne e) → Refuses S F s (MoveOne e) WornOut
        worn_before worn =
            inr (runs, inr (marked, inr ((λ f d. undamaged f (before_rule _ _ S.apart together d)), inr ((λ full. room (before_rule _ _ S.apart together full)), inl (worn, refl)))))

        pub none_before : (WouldPass S F s (MoveOne e) → ⊥) → (f : Refusal) → Refuses S F s (MoveOne e) f → ⊥
        none_before fits = pass Halted runs (pass NotSweepable marked (pass_found (λ f d. undamaged f (before_rule _ _ S.apart together d))
            (pass Full (λ full. room (before_rule _ _ S.apart together full)) (pass WornOut fits no_more))))

  -- where they lie apart
  module _ (apart : S.apart ≡ true) where
    pub damaged_apart : (f : Refusal) → DamagedLeft S F s e f → Refuses S F s (MoveOne e) f
    damaged_apart f damage = inr (runs, inr (marked, inl (rule_apart _ _ S.apart apart damage)))

    pub reads_apart : s.halted ≡ false → s.world.extents.swept e ≡ true → (NothingLeft s e → ⊥) → Reading S F s (MoveOne e)
    reads_apart on swept some = (on, swept, rule_apart _ _ S.apart apart some)

    module _ (undamaged : (f : Refusal) → DamagedLeft S F s e f → ⊥) where
      pub full_apart : (NothingLeft s e → ⊥) → NoRoomToCopy S F s e → Refuses S F s (MoveOne e) Full
      full_apart some full = inr (runs, inr (marked, inr ((λ f d. undamaged f (apart_rule _ _ S.apart apart d)), inl (rule_apart _ _ S.apart apart (some, full), refl))))

      module _ (room : (NothingLeft s e → ⊥) × NoRoomToCopy S F s e → ⊥) where
        pub worn_apart : WouldPass S F s (MoveOne e) → Refuses S F s (MoveOne e) WornOut
        worn_apart worn =
            inr (runs, inr (marked, inr ((λ f d. undamaged f (apart_rule _ _ S.apart apart d)), inr ((λ full. room (apart_rule _ _ S.apart apart full)), inl (worn, refl)))))

        pub none_apart : (WouldPass S F s (MoveOne e) → ⊥) → (f : Refusal) → Refuses S F s (MoveOne e) f → ⊥
        none_apart fits = pass Halted runs (pass NotSweepable marked (pass_found (λ f d. undamaged f (apart_rule _ _ S.apart apart d))
            (pass Full (λ full. room (apart_rule _ _ S.apart apart full)) (pass WornOut fits no_more))))
