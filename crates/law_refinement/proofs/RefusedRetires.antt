-- Why a Stage and a Retire are refused where chunks and runs lie apart.
use Rattle.std.proofs.Common.{◌≡◌, ◌≢◌, ◌⊎◌, ◌↔◌, inl, inr, ⊎_elim, ℕ, suc, ◌≤◌, true, false, List, [], ◌∷◌, length, refl, sym, ap, ap₂, ◌∙◌, subst, arith}
use Rattle.std.proofs.lemmas.Bool.{false_from_ne_true}
use Rattle.cs_deps.specs.State.{State as GraphState}
use Rattle.cs_extent.specs.State.{IsWhole, State as ExtentsState, extents_of, shape}
use Rattle.cs_frame.specs.Formats.{formats_of}
use Rattle.cs_frame.specs.Geometries.{IsGeometry}
use Rattle.cs_index.specs.Apart.{IsStageFullApart, IsStageWornApart}
use Rattle.cs_index.specs.Copies.{IsSettled}
use Rattle.cs_index.specs.State.{State as IndexState}
use Rattle.law_machine.proofs.Quiet.{unchanged}
use Rattle.law_machine.proofs.Settling.{settle_all_is}
use Rattle.law_machine.specs.Apart.{MayStage, NothingLeft, StagesApart, left_over, settled}
use Rattle.law_machine.specs.Append.{ResetWorn}
use Rattle.law_machine.specs.Device.{Shape}
use Rattle.law_machine.specs.Element.{Copy, Entry}
use Rattle.law_machine.specs.Events.{Does, mark}
use Rattle.law_machine.specs.Extents.{Extents}
use Rattle.law_machine.specs.Formats.{Formats}
use Rattle.law_machine.specs.Grounds.{NoRoomApart, PastLimit, WouldPass}
use Rattle.law_machine.specs.Sound.{Bounded, Sound}
use Rattle.law_machine.specs.State.{Reply, Retire, Retired, Stage, Staged, State, Unchanged}
use Rattle.cs_reclaim.specs.Rooted.{IsUnmarked, MayStageRoot, is_left_over}
use Rattle.law_refinement.specs.Copying.{AreAllPartsOf}
use Rattle.law_refinement.proofs.DoesApart.{retired, retires_so, staged, stages_so, unchanged_so}
use Rattle.law_refinement.proofs.Fitting as fitting
use Rattle.law_refinement.proofs.Indexes.{none_too}
use Rattle.law_refinement.proofs.RefusedApart.{stage_full, stage_past, stage_past_back, stage_there}
use Rattle.law_refinement.proofs.RefusedPuts.{fits}
use Rattle.law_refinement.proofs.StagesApart.{counting, counting_geometry, counting_parts}

module _ (x : ExtentsState) (g : GraphState) (i : IndexState) (copies : List Copy) (s : State) (are : AreAllPartsOf x g i copies s) where
  abbrev S : Shape
  S = shape x

  abbrev F : Formats
  F = formats_of (shape x)

  -- ---- what there is to stage

  left_there : is_left_over S (extents_of x) copies ≡ left_over S s
  left_there = ap₂ (λ (z : Extents) (cs : List Copy). is_left_over S z cs) (sym are.parts.world.extents) (sym are.same_copies)

  pub may_stage : MayStage S s ↔ MayStageRoot S (extents_of x) i copies
  may_stage = (
    (λ may. ⊎_elim
        (λ (some : s.table ≢ []). inl (λ none. some (none_too i.table s.table are.parts.index.lookups none)))
        (λ (left : left_over S s ≡ true). inr (left_there ∙ left)) may),
    (λ may. ⊎_elim
        (λ (some : i.table ≢ []). inl (λ none. some (none_too s.table i.table (λ id. sym (are.parts.index.lookups id)) none)))
        (λ (left : is_left_over S (extents_of x) copies ≡ true). inr (sym left_there ∙ left)) may),
  )

  -- there is nothing
  pub idle : (shape x).apart ≡ true → ¬ MayStageRoot S (extents_of x) i copies → Does S F s Stage Unchanged s
  idle on none = unchanged_so S F on s s (
    empty s.table (λ some. none (may_stage.0 (inl some))),
    false_from_ne_true (left_over S s) (λ left. none (may_stage.0 (inr left))),
    refl,
  )
    where
      empty : (es : List Entry) → ¬ (es ≢ []) → es ≡ []
      empty [] not = refl
      empty (e ∷ es) not = absurd (not (λ is. let wrong : e ∷ es ≡ [] = is in cc))

  module _ (on : (shape x).apart ≡ true) (whole : IsWhole x) (sound : Sound (shape x) (formats_of (shape x)) s) (bounded : Bounded (shape x) (formats_of (shape x)) s) where
    good : PastLimit (shape x) (formats_of (shape x)) s → ⊥
    good = fits x s sound bounded

    -- ---- stages

    stage_would : (reply : Reply) (t : State) → Does S F s Stage reply t → PastLimit S F t
        → MayStageRoot S (extents_of x) i copies × IsStageWornApart i x g.staging
    stage_would Unchanged t d over = absurd (good (subst (λ (u : State). PastLimit S F u) (unchanged S F s t d) over))
    stage_would (Staged v) t d over = let so = staged S F on s t v d in
        (may_stage.0 so.0, stage_past x g i s are.parts whole.geometry good t so.2 over)
    stage_would reply t d over = absurd d

    pub stage_worn : ¬ IsStageFullApart i x → WouldPass S F s Stage ↔ (MayStageRoot S (extents_of x) i copies × IsStageWornApart i x g.staging)
    stage_worn room = (
      (λ would. stage_would would.0 would.1 would.2 would.3),
      (λ both. let t = stage_there x g i s are.parts whole.geometry good room in (
        Staged (suc s.world.root),
        t.0,
        stages_so S F on s t.0 (suc s.world.root) (may_stage.1 both.0, refl, t.1),
        stage_past_back x g i s are.parts whole.geometry good t.0 t.1 both.1,
      )),
    )

-- ---- retires

-- a state in which what was copied counts
counts : (s : State) (e : ℕ) → settled (mark s e false) ≡ counting s e
counts s e = ap (λ (u : State). record u { copies = [] }) (settle_all_is (mark s e false) s.copies)

-- the generation of an extent can't rise exactly where it is the greatest
reset_worn : (n greatest : ℕ) → n ≤ greatest → (greatest ≤ n) ↔ (n ≡ greatest)
reset_worn n greatest low = ((λ le. omega arith), (λ is. omega arith))

module _ (x : ExtentsState) (g : GraphState) (i : IndexState) (copies : List Copy) (s : State) (e : ℕ) (on : (shape x).apart ≡ true) (whole : IsWhole x)
    (are : AreAllPartsOf x g i copies s) (counted : IndexState) (unmarked : ExtentsState) (settles : IsSettled i copies counted) (ended : IsUnmarked x e unmarked) where
  parts : AreAllPartsOf unmarked g counted [] (counting s e)
  parts = counting_parts x g i copies s e on whole.geometry are counted unmarked settles ended

  -- so it is staged in the state of the machine
  there : (t : State) → StagesApart (shape unmarked) (formats_of (shape unmarked)) (counting s e) t → StagesApart (shape x) (formats_of (shape x)) (settled (mark s e false)) t
  there t stages = subst (λ (u : State). StagesApart (shape x) (formats_of (shape x)) u t) (sym (counts s e))
      (subst (λ (T : Shape). StagesApart T (formats_of T) (counting s e) t) ended.same_shape stages)

  back : (t : State) → StagesApart (shape x) (formats_of (shape x)) (settled (mark s e false)) t → StagesApart (shape unmarked) (formats_of (shape unmarked)) (counting s e) t
  back t stages = subst (λ (T : Shape). StagesApart T (formats_of T) (counting s e) t) (sym ended.same_shape)
      (subst (λ (u : State). StagesApart (shape x) (formats_of (shape x)) u t) (counts s e) stages)

  pub retire_full : NoRoomApart (shape x) (formats_of (shape x)) (settled (mark s e false)) ↔ IsStageFullApart counted unmarked
  retire_full = let full = stage_full unmarked g counted (counting s e) parts.parts in (
    (λ none. full.0 (λ t stages. none t (there t stages))),
    (λ is t stages. full.1 is t (back t stages)),
  )

  module _ (sound : Sound (shape x) (formats_of (shape x)) s) (bounded : Bounded (shape x) (formats_of (shape x)) s) where
    good_then : PastLimit (shape unmarked) (formats_of (shape unmarked)) (counting s e) → ⊥
    good_then over = fits x s sound bounded (subst (λ (T : Shape). PastLimit T (formats_of T) (counting s e)) ended.same_shape over)

    geometry_then : IsGeometry unmarked.format (length unmarked.written) unmarked.pages unmarked.sections
    geometry_then = counting_geometry x g i copies s e on whole.geometry are counted unmarked settles ended

    retire_would : (reply : Reply) (t : State) → Does (shape x) (formats_of (shape x)) s (Retire e) reply t → PastLimit (shape x) (formats_of (shape x)) t
        → IsStageWornApart counted unmarked g.staging
    retire_would (Retired v) t does over = stage_past unmarked g counted (counting s e) parts.parts geometry_then good_then t
        (back t (retired (shape x) (formats_of (shape x)) on s t e v does).3)
        (subst (λ (T : Shape). PastLimit T (formats_of T) t) (sym ended.same_shape) over)
    retire_would reply t does over = absurd does

    generation_is : ResetWorn (shape x) s.world.extents e ↔ ((extents_of x).generation e ≡ (shape x).greatest_generation)
    generation_is = let either = reset_worn (s.world.extents.generation e) (shape x).greatest_generation (fitting.young x s (fits x s sound bounded) e) in
        let here : s.world.extents.generation e ≡ (extents_of x).generation e = ap (λ (z : Extents). z.generation e) are.parts.world.extents in (
          (λ worn. sym here ∙ either.0 worn),
          (λ is. either.1 (here ∙ is)),
        )

    pub retire_worn : s.world.extents.swept e ≡ true → NothingLeft s e → ¬ IsStageFullApart counted unmarked
        → (WouldPass (shape x) (formats_of (shape x)) s (Retire e) ⊎ ResetWorn (shape x) s.world.extents e)
        ↔ (IsStageWornApart counted unmarked g.staging ⊎ ((extents_of x).generation e ≡ (shape x).greatest_generation))
    retire_worn swept nothing room = (
      (λ worn. ⊎_elim
          (λ (would : WouldPass (shape x) (formats_of (shape x)) s (Retire e)). inl (retire_would would.0 would.1 would.2 would.3))
          (λ (top : ResetWorn (shape x) s.world.extents e). inr (generation_is.0 top)) worn),
      (λ worn. ⊎_elim
          (λ (would : IsStageWornApart counted unmarked g.staging).
          let t = stage_there unmarked g counted (counting s e) parts.parts geometry_then good_then room in inl (
            Retired (suc s.world.root),
            t.0,
            retires_so (shape x) (formats_of (shape x)) on s t.0 e (suc s.world.root) (swept, nothing, refl, there t.0 t.1),
            subst (λ (T : Shape). PastLimit T (formats_of T) t.0) ended.same_shape
                (stage_past_back unmarked g counted (counting s e) parts.parts geometry_then good_then t.0 t.1 would),
          ))
          (λ (top : (extents_of x).generation e ≡ (shape x).greatest_generation). inr (generation_is.1 top)) worn),
    )
