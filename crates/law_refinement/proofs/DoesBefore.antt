-- What the events do by the rule that lets chunks and runs lie on one extent.
use Rattle.std.proofs.Common.{◌≡◌, ◌≢◌, ℕ, suc, ◌<◌, true, false, List, [], ◌∷◌, Some, None}
use Rattle.law_machine.proofs.Rules.{before_rule, rule_before}
use Rattle.law_machine.specs.Append.{AppendsFrame}
use Rattle.law_machine.specs.Device.{Shape}
use Rattle.law_machine.specs.Element.{Locator as Place, Run}
use Rattle.law_machine.specs.Events.{Does, Merged, ReadsNow, mark, retired as retired_now, rooted}
use Rattle.law_machine.specs.Extents.{ForMove, ForRun}
use Rattle.law_machine.specs.Formats.{ChunkFrame, Formats}
use Rattle.law_machine.specs.Index.{FirstLive, NothingLive, live_at}
use Rattle.law_machine.specs.Lists.{replaced}
use Rattle.law_machine.specs.Merges.{MergesNewest, stage_takes}
use Rattle.law_machine.specs.State.{BeginSweep, MoveOne, Moved, NoneLive, Retire, Retired, Stage, Staged, State, Sweeping, Unchanged, index_now}

module _ (S : Shape) (F : Formats) (s t : State) where
  abbrev pub Begins : ℕ → Type 0
  Begins e = (s.world.extents.swept e ≡ false) × (s.world.extents.open_extent ≢ Some e) × (e < S.extents) × (0 < s.world.extents.pointer e) × (t ≡ mark s e true)

  abbrev pub FindsNone : ℕ → Type 0
  FindsNone e = (s.world.extents.swept e ≡ true) × NothingLive (index_now s) e × (t ≡ s)

  abbrev pub Moves : (e id chunk : ℕ) → Type 0
  Moves e id chunk = (l : Place) × (new : Place) × (payload : List ℕ) × (mid : State)
      × (s.world.extents.swept e ≡ true) × FirstLive (index_now s) e id chunk l
      × (s.opening.damage l ≡ None) × ReadsNow S F s l ChunkFrame payload
      × AppendsFrame S F s ForMove ChunkFrame payload new mid
      × (t ≡ record mid { table = record { id = id; locators = replaced (live_at (index_now s) id) chunk new } ∷ mid.table })

  abbrev pub Stages : ℕ → Type 0
  Stages v = (s.table ≢ []) × (v ≡ suc s.world.root) × (mid : State) × (runs : List Run)
      × MergesNewest S F s ForRun (stage_takes S s) mid runs × (t ≡ rooted S F mid runs mid.world.extents.pointer)

  abbrev pub Retires : (e v : ℕ) → Type 0
  Retires e v = (s.world.extents.swept e ≡ true) × NothingLive (index_now s) e × (v ≡ suc s.world.root)
      × (mid : State) × (runs : List Run) × Merged S F s ForMove mid runs × (t ≡ retired_now S F mid runs e)

module _ (S : Shape) (F : Formats) (together : S.apart ≡ false) (s t : State) where
  pub begins_so : (e : ℕ) → Begins S F s t e → Does S F s (BeginSweep e) Sweeping t
  begins_so e so = rule_before _ _ S.apart together so

  pub none_so : (e : ℕ) → FindsNone S F s t e → Does S F s (MoveOne e) NoneLive t
  none_so e so = rule_before _ _ S.apart together so

  pub moves_so : (e id chunk : ℕ) → Moves S F s t e id chunk → Does S F s (MoveOne e) (Moved id chunk) t
  moves_so e id chunk so = rule_before _ _ S.apart together so

  pub unchanged_so : (s.table ≡ []) × (t ≡ s) → Does S F s Stage Unchanged t
  unchanged_so so = rule_before _ _ S.apart together so

  pub stages_so : (v : ℕ) → Stages S F s t v → Does S F s Stage (Staged v) t
  stages_so v so = rule_before _ _ S.apart together so

  pub retires_so : (e v : ℕ) → Retires S F s t e v → Does S F s (Retire e) (Retired v) t
  retires_so e v so = rule_before _ _ S.apart together so

  -- and back
  pub none_moved : (e : ℕ) → Does S F s (MoveOne e) NoneLive t → FindsNone S F s t e
  none_moved e does = before_rule _ _ S.apart together does

  pub moved : (e id chunk : ℕ) → Does S F s (MoveOne e) (Moved id chunk) t → Moves S F s t e id chunk
  moved e id chunk does = before_rule _ _ S.apart together does

  pub unchanged : Does S F s Stage Unchanged t → (s.table ≡ []) × (t ≡ s)
  unchanged does = before_rule _ _ S.apart together does

  pub staged : (v : ℕ) → Does S F s Stage (Staged v) t → Stages S F s t v
  staged v does = before_rule _ _ S.apart together does

  pub retired : (e v : ℕ) → Does S F s (Retire e) (Retired v) t → Retires S F s t e v
  retired e v does = before_rule _ _ S.apart together does
