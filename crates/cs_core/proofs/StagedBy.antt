-- A root is staged, by the rule of the format.
use Rattle.std.proofs.Common.{◌≡◌, ◌≢◌, ◌⊎◌, inl, inr, ⊎_elim, ℕ, ◌+◌, ◌<◌, Bool, true, false, List, [], ◌∷◌, ◌++◌, length, refl, sym, ◌∙◌, subst}
use Rattle.cs_refusal.specs.declared.refusals.Refusal.{Refusal as Code}
use Rattle.cs_deps.specs.Staging.{IsKept as AreKept}
use Rattle.cs_deps.specs.State.{State as GraphState}
use Rattle.cs_extent.specs.Appended.{IsReady}
use Rattle.cs_extent.specs.Frames.{root_family}
use Rattle.cs_extent.specs.State.{IsWhole, State as ExtentsState, extents_of, shape}
use Rattle.cs_index.specs.Merges.{deletions_go, stage_takes}
use Rattle.cs_index.specs.Staged.{IsWhy}
use Rattle.cs_index.specs.State.{State as IndexState, index_of}
use Rattle.law_machine.specs.Element.{Copy, Entry}
use Rattle.law_machine.specs.Extents.{ForRun}
use Rattle.law_machine.specs.Index.{live_at}
use Rattle.law_machine.specs.State.{Stage, Staged, Unchanged}
use Rattle.law_refinement.specs.cs_reclaim.ByRule.{IsSweepStageFullBy, IsSweepStageWornBy, IsSweepStagedBy, MayStageBy, is_left_over_by}
use Rattle.cs_core.specs.declared.histories.Root.{Root as Noted}
use Rattle.cs_core.specs.Steps.{Declines, Steps}
use Rattle.cs_core.specs.Stored.{AreSwept, IsKept, IsKeptApart, KeepsDevice, Stored, but_for_room}
use Rattle.cs_core.proofs.Kept.{inside_live, kept_on, noted_staged, root_there, swept_newest}
use Rattle.cs_core.proofs.KeptStages.{kept_together, swept_adds, swept_kept, swept_moves, swept_still, swept_table}
use Rattle.cs_core.proofs.Moves.{AddsRoot, moves_newest, root_newest, root_on}
use Rattle.cs_core.proofs.StagesApart.{stage_apart_declines, stage_apart_none, stage_apart_steps}
use Rattle.cs_core.proofs.StageSteps.{stage_declines, stage_none, stage_steps}
use Rattle.cs_reader.specs.ImageReads.{page_total}

-- ---- what a Stage did

module _ (i : IndexState) (x : ExtentsState) (g : GraphState) (copies : List Copy) (n commands : ℕ) (j : IndexState) (y : ExtentsState) (h : GraphState) (after : List Copy) where
  pub staged_moves_by : (b : Bool) → IsSweepStagedBy b i x g copies n commands j y h after → 1 < page_total (shape x) → KeepsDevice x g y h
  staged_moves_by false done some = moves_newest false (deletions_go (shape x) i (stage_takes (shape x) i)) (stage_takes (shape x) i) i x g ForRun n commands j y h some done.0
  staged_moves_by true done some = swept_moves i x g copies n commands j y h after done some

  staged_adds_by : (b : Bool) → IsSweepStagedBy b i x g copies n commands j y h after → root_family < length h.staging.latest → AddsRoot g h n
  staged_adds_by false done lt = root_newest false (deletions_go (shape x) i (stage_takes (shape x) i)) (stage_takes (shape x) i) i x g ForRun n commands j y h lt done.0
  staged_adds_by true done lt = swept_adds i x g copies n commands j y h after done lt

  pub staged_table_by : (b : Bool) → IsSweepStagedBy b i x g copies n commands j y h after → j.table ≡ []
  staged_table_by false done = done.0.table
  staged_table_by true done = swept_table i x g copies n commands j y h after done

  staged_swept_by : (b : Bool) → (shape x).apart ≡ b → IsSweepStagedBy b i x g copies n commands j y h after → AreSwept x → AreSwept y
  staged_swept_by false rule done swept = swept_newest i x g n commands j y h rule done.0 swept
  staged_swept_by true rule done swept = swept_still i x g copies n commands j y h after done rule swept

  staged_kept_by : (b : Bool) → (shape x).apart ≡ b → IsWhole x → shape y ≡ shape x → IsSweepStagedBy b i x g copies n commands j y h after → AreSwept x → ((shape x).apart ≡ true → IsKeptApart x i copies)
      → (shape y).apart ≡ true → IsKeptApart y j after
  staged_kept_by false rule whole same done swept kept apart = kept_together x y j after same rule apart
  staged_kept_by true rule whole same done swept kept apart = swept_kept i x g copies n commands j y h after done whole rule swept (kept rule)

-- ---- what is kept

module _ (v : Stored) (kept : IsKept v) (y : ExtentsState) (h : GraphState) (j : IndexState) (after : List Copy) (roots : List Noted)
    (ready : IsReady y h.staging) (format : j.format ≡ v.index.format) (limit : j.limit ≡ v.index.limit) where
  pub kept_staged_by : (b : Bool) → (shape v.extents).apart ≡ b → (whole : IsWhole v.extents) → AreKept v.graph.staging → (n commands : ℕ) → shape y ≡ shape v.extents
      → ((id : ℕ) → live_at (index_of j) id ≡ live_at (index_of v.index) id)
      → IsSweepStagedBy b v.index v.extents v.graph v.copies n commands j y h after → roots ≡ v.roots ++ record { version = n; commands = v.accepted } ∷ []
      → IsKept (record v { extents = y; graph = h; out = h.round; index = j; copies = after; roots = roots })
  kept_staged_by b rule whole graph n commands same map done noted =
      let m = staged_moves_by v.index v.extents v.graph v.copies n commands j y h after b done (root_on v.extents whole) in
      kept_on v (record v { extents = y; graph = h; out = h.round; index = j; copies = after; roots = roots }) kept m ready format limit
      (inside_live (shape v.extents) v.index j kept.places map) (m.round ∙ sym kept.round) refl kept.numbers
      (staged_swept_by v.index v.extents v.graph v.copies n commands j y h after b rule done kept.swept)
      (staged_kept_by v.index v.extents v.graph v.copies n commands j y h after b rule whole same done kept.swept kept.apart)
      (noted_staged v kept graph h n
      (staged_adds_by v.index v.extents v.graph v.copies n commands j y h after b done (root_there v.extents y h.staging whole same ready)) roots noted)

-- ---- what is answered

-- without what may be staged the table is empty
no_table : (es : List Entry) → (es ≢ [] → ⊥) → es ≡ []
no_table [] not = refl
no_table (e ∷ es) not = absurd (not (λ is. let wrong : e ∷ es ≡ [] = is in cc wrong))

module _ (v : Stored) where
  -- there is something to stage a root for
  abbrev May : Bool → Type 0
  May b = MayStageBy b (shape v.extents) (extents_of v.extents) v.index v.copies

  abbrev NoRoom : Bool → Type 0
  NoRoom b = IsSweepStageFullBy b v.index v.extents v.copies

  abbrev Worn : Bool → Type 0
  Worn b = IsSweepStageWornBy b v.index v.extents v.graph.staging v.copies

  -- what there is to stage can be seen
  pub may_indeed : (b : Bool) → ((May b → ⊥) → ⊥) → May b
  may_indeed b nn = by v.index.table (is_left_over_by b (shape v.extents) (extents_of v.extents) v.copies) nn
    where
      by : (es : List Entry) (left : Bool) → (((es ≢ []) ⊎ (left ≡ true) → ⊥) → ⊥) → (es ≢ []) ⊎ (left ≡ true)
      by (e ∷ es) left nn = inl (λ is. let wrong : e ∷ es ≡ [] = is in cc wrong)
      by [] true nn = inr refl
      by [] false nn = absurd (nn (λ may. ⊎_elim (λ (some : [] ≢ []). some refl) (λ (left : false ≡ true). let wrong : false ≡ true = left in cc wrong) may))

  -- where there is nothing the table is empty
  pub none_staged : (b : Bool) → (May b → ⊥) → v.index.table ≡ []
  none_staged b none = no_table v.index.table (λ some. none (inl some))

  module _ (whole : IsWhole v.extents) (runs : v.halted ≡ false) where
    pub stage_declines_by : (b : Bool) → (shape v.extents).apart ≡ b → (w : Stored) → but_for_room w ≡ but_for_room v → (r : Code) → IsWhy r (NoRoom b) (Worn b) → Declines v Stage r w
    stage_declines_by false rule w same r why = stage_declines v w whole runs rule same r why
    stage_declines_by true rule w same r why = stage_apart_declines v whole runs rule w same r why

    pub stage_none_by : (b : Bool) → (shape v.extents).apart ≡ b → (w : Stored) → but_for_room w ≡ but_for_room v → (May b → ⊥) → Steps v Stage Unchanged w
    stage_none_by false rule w same none = stage_none v w whole runs rule same (none_staged false none)
    stage_none_by true rule w same none = stage_apart_none v whole runs rule w same none

    pub stage_steps_by : (b : Bool) → (shape v.extents).apart ≡ b → (n : ℕ) (y : ExtentsState) (h : GraphState) (j : IndexState) (after : List Copy) (roots : List Noted)
        → (NoRoom b → ⊥) → (Worn b → ⊥) → May b → IsSweepStagedBy b v.index v.extents v.graph v.copies n (v.base + v.accepted) j y h after → shape y ≡ shape v.extents
        → roots ≡ v.roots ++ record { version = n; commands = v.accepted } ∷ [] → Steps v Stage (Staged n) (record v { graph = h; extents = y; index = j; copies = after; roots = roots })
    stage_steps_by false rule n y h j after roots room young may done same noted =
        subst (λ (cs : List Copy). Steps v Stage (Staged n) (record v { graph = h; extents = y; index = j; copies = cs; roots = roots })) (sym done.1)
        (stage_steps v whole runs rule n y h j roots room young
        (⊎_elim (λ (some : v.index.table ≢ []). some) (λ (left : false ≡ true). absurd (let wrong : false ≡ true = left in cc wrong)) may) done.0 same noted)
    stage_steps_by true rule n y h j after roots room young may done same noted =
        stage_apart_steps v whole runs rule n y h j after roots room young may done same noted
