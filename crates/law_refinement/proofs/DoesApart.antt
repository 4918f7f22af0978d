-- What the events do by the rule that keeps chunks and runs apart.
use Rattle.std.proofs.Common.{◌≡◌, ℕ, suc, true, false, []}
use Rattle.law_machine.proofs.Rules.{apart_rule, rule_apart}
use Rattle.law_machine.specs.Apart.{BeginsApart, MayStage, MovesApart, NothingLeft, RetiresApart, StagesApart, left_over}
use Rattle.law_machine.specs.Device.{Shape}
use Rattle.law_machine.specs.Events.{Does}
use Rattle.law_machine.specs.Formats.{Formats}
use Rattle.law_machine.specs.State.{BeginSweep, MoveOne, Moved, NoneLive, Retire, Retired, Stage, Staged, State, Sweeping, Unchanged}

module _ (S : Shape) (F : Formats) (on : S.apart ≡ true) (s t : State) where
  pub begins_so : (e : ℕ) → BeginsApart S s e t → Does S F s (BeginSweep e) Sweeping t
  begins_so e so = rule_apart _ _ S.apart on so

  pub none_so : (e : ℕ) → (s.world.extents.swept e ≡ true) × NothingLeft s e × (t ≡ s) → Does S F s (MoveOne e) NoneLive t
  none_so e so = rule_apart _ _ S.apart on so

  pub moves_so : (e id chunk : ℕ) → MovesApart S F s e id chunk t → Does S F s (MoveOne e) (Moved id chunk) t
  moves_so e id chunk so = rule_apart _ _ S.apart on so

  pub unchanged_so : (s.table ≡ []) × (left_over S s ≡ false) × (t ≡ s) → Does S F s Stage Unchanged t
  unchanged_so so = rule_apart _ _ S.apart on so

  pub stages_so : (v : ℕ) → MayStage S s × (v ≡ suc s.world.root) × StagesApart S F s t → Does S F s Stage (Staged v) t
  stages_so v so = rule_apart _ _ S.apart on so

  pub retires_so : (e v : ℕ) → (s.world.extents.swept e ≡ true) × NothingLeft s e × (v ≡ suc s.world.root) × RetiresApart S F s e t
      → Does S F s (Retire e) (Retired v) t
  retires_so e v so = rule_apart _ _ S.apart on so

  -- and back
  pub begun : (e : ℕ) → Does S F s (BeginSweep e) Sweeping t → BeginsApart S s e t
  begun e does = apart_rule _ _ S.apart on does

  pub none_moved : (e : ℕ) → Does S F s (MoveOne e) NoneLive t → (s.world.extents.swept e ≡ true) × NothingLeft s e × (t ≡ s)
  none_moved e does = apart_rule _ _ S.apart on does

  pub moved : (e id chunk : ℕ) → Does S F s (MoveOne e) (Moved id chunk) t → MovesApart S F s e id chunk t
  moved e id chunk does = apart_rule _ _ S.apart on does

  pub staged : (v : ℕ) → Does S F s Stage (Staged v) t → MayStage S s × (v ≡ suc s.world.root) × StagesApart S F s t
  staged v does = apart_rule _ _ S.apart on does

  pub retired : (e v : ℕ) → Does S F s (Retire e) (Retired v) t
      → (s.world.extents.swept e ≡ true) × NothingLeft s e × (v ≡ suc s.world.root) × RetiresApart S F s e t
  retired e v does = apart_rule _ _ S.apart on does
