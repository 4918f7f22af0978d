-- Events that change nothing, by either rule.
use Rattle.std.proofs.Common.{◌≡◌, inl, inr, ℕ}
use Rattle.std.proofs.lemmas.Bool.{cases_Bool}
use Rattle.law_machine.proofs.Rules.{apart_rule, before_rule}
use Rattle.law_machine.specs.Device.{Shape}
use Rattle.law_machine.specs.Events.{Does}
use Rattle.law_machine.specs.Formats.{Formats}
use Rattle.law_machine.specs.State.{MoveOne, NoneLive, Stage, State, Unchanged}

module _ (S : Shape) (F : Formats) where
  pub unchanged : (s t : State) → Does S F s Stage Unchanged t → t ≡ s
  unchanged s t d = elim (cases_Bool S.apart) [
    | inl on ↦ (apart_rule _ _ S.apart on d).2
    | inr before ↦ (before_rule _ _ S.apart before d).1
  ]

  pub none_moved : (s t : State) (e : ℕ) → Does S F s (MoveOne e) NoneLive t → t ≡ s
  none_moved s t e d = elim (cases_Bool S.apart) [
    | inl on ↦ (apart_rule _ _ S.apart on d).2
    | inr before ↦ (before_rule _ _ S.apart before d).2
  ]
