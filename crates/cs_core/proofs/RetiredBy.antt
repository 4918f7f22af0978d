-- An extent is retired, by the rule of the format.
use Rattle.std.proofs.Common.{◌≡◌, ◌⊎◌, ℕ, ◌+◌, ◌<◌, Bool, true, false, List, [], ◌∷◌, ◌++◌, Result, Ok, Err, length, refl, sym, ◌∙◌, subst}
use Rattle.std.specs.Prelude.{◌↔◌}
use Rattle.cs_refusal.specs.declared.refusals.Refusal.{Refusal as Code}
use Rattle.cs_refusal.specs.declared.refusals.Refusal.TheVariants as code
use Rattle.cs_deps.specs.Staging.{IsKept as AreKept}
use Rattle.cs_deps.specs.State.{State as GraphState}
use Rattle.cs_extent.specs.Appended.{IsReady}
use Rattle.cs_extent.specs.Frames.{root_family}
use Rattle.cs_extent.specs.State.{IsWhole, State as ExtentsState, extents_of, shape}
use Rattle.cs_index.specs.State.{State as IndexState, index_of}
use Rattle.law_machine.specs.Element.{Copy}
use Rattle.law_machine.specs.Extents.{ForMove}
use Rattle.law_machine.specs.Index.{live_at}
use Rattle.law_machine.specs.State.{Retire, Retired}
use Rattle.law_refinement.specs.cs_reclaim.ByRule.{IsRetireExactBy, IsRetiredBy, NothingToMoveBy}
use Rattle.cs_core.specs.declared.histories.Root.{Root as Noted}
use Rattle.cs_core.specs.Puts.{MeansTheSame}
use Rattle.cs_core.specs.Steps.{Declines, Steps}
use Rattle.cs_core.specs.Stored.{AreSwept, IsKept, IsKeptApart, AreInside, KeepsDevice, Stored, but_for_room}
use Rattle.cs_core.proofs.Kept.{inside_live, kept_on, moves_retired, noted_staged, root_there, swept_retired}
use Rattle.cs_core.proofs.KeptStages.{kept_together, retired_adds, retired_inside, retired_kept, retired_means, retired_moves, retired_swept}
use Rattle.cs_core.proofs.Moves.{AddsRoot, root_merged, root_on}
use Rattle.cs_core.proofs.PutsMeant.{live_means}
use Rattle.cs_core.proofs.StagesApart.{retire_apart_refused, retire_apart_steps}
use Rattle.cs_core.proofs.StageSteps.{retire_refused, retire_steps}
use Rattle.cs_reader.specs.ImageReads.{page_total}

-- ---- what a Retire did

module _ (i : IndexState) (x : ExtentsState) (g : GraphState) (copies : List Copy) (e n commands : ℕ) (j : IndexState) (y : ExtentsState) (h : GraphState) (after : List Copy) where
  pub retired_moves_by : (b : Bool) → IsRetiredBy b i x g copies e n commands j y h after → 1 < page_total (shape x) → shape y ≡ shape x → KeepsDevice x g y h
  retired_moves_by false done some same = moves_retired i x g e n commands j y h some done.0 same
  retired_moves_by true done some same = retired_moves i x g copies e n commands j y h after done.0 some

  retired_adds_by : (b : Bool) → IsRetiredBy b i x g copies e n commands j y h after → root_family < length h.staging.latest → AddsRoot g h n
  retired_adds_by false done lt = root_merged i x g ForMove n commands j done.0.0 h lt done.0.1
  retired_adds_by true done lt = retired_adds i x g copies e n commands j y h after done.0 lt

  module _ (kept : (shape x).apart ≡ true → IsKeptApart x i copies) (map : (shape x).apart ≡ false → (id : ℕ) → live_at (index_of j) id ≡ live_at (index_of i) id) where
    retired_inside_by : (b : Bool) → (shape x).apart ≡ b → IsRetiredBy b i x g copies e n commands j y h after → AreInside (shape x) i → AreInside (shape x) j
    retired_inside_by false rule done old = inside_live (shape x) i j old (map rule)
    retired_inside_by true rule done old = retired_inside i x g copies e n commands j y h after done.0 (kept rule).placed old

    -- all that lives means what it meant
    pub retired_means_by : (b : Bool) → (shape x).apart ≡ b → IsRetiredBy b i x g copies e n commands j y h after → MeansTheSame i j
    retired_means_by false rule done = live_means i j (map rule)
    retired_means_by true rule done = retired_means i x g copies e n commands j y h after done.0 (kept rule).marks

    module _ (whole : IsWhole x) (same : shape y ≡ shape x) (marks : (extents_of x).swept e ≡ true) where
      retired_swept_by : (b : Bool) → (shape x).apart ≡ b → IsRetiredBy b i x g copies e n commands j y h after → AreSwept x → AreSwept y
      retired_swept_by false rule done swept = swept_retired i x g e n commands j y h rule (root_on x whole) done.0 same swept
      retired_swept_by true rule done swept = retired_swept i x g copies e n commands j y h after done.0 (kept rule).one marks

      retired_kept_by : (b : Bool) → (shape x).apart ≡ b → IsRetiredBy b i x g copies e n commands j y h after → (shape y).apart ≡ true → IsKeptApart y j after
      retired_kept_by false rule done apart = kept_together x y j after same rule apart
      retired_kept_by true rule done apart = retired_kept i x g copies e n commands j y h after done.0 (kept rule).one marks whole (kept rule).runs done.1

-- ---- what is kept

module _ (v : Stored) (kept : IsKept v) (y : ExtentsState) (h : GraphState) (j : IndexState) (after : List Copy) (roots : List Noted)
    (ready : IsReady y h.staging) (format : j.format ≡ v.index.format) (limit : j.limit ≡ v.index.limit) where
  abbrev store_then : Stored
  store_then = record v { extents = y; graph = h; out = h.round; index = j; copies = after; roots = roots }

  pub kept_retired_by : (b : Bool) → (shape v.extents).apart ≡ b → (whole : IsWhole v.extents) → AreKept v.graph.staging → (e n commands : ℕ) → (extents_of v.extents).swept e ≡ true → shape y ≡ shape v.extents
      → ((shape v.extents).apart ≡ false → (id : ℕ) → live_at (index_of j) id ≡ live_at (index_of v.index) id)
      → IsRetiredBy b v.index v.extents v.graph v.copies e n commands j y h after → roots ≡ v.roots ++ record { version = n; commands = v.accepted } ∷ [] → IsKept store_then
  kept_retired_by b rule whole graph e n commands marks same map done noted =
      let m = retired_moves_by v.index v.extents v.graph v.copies e n commands j y h after b done (root_on v.extents whole) same in
      kept_on v store_then kept m ready format limit
      (retired_inside_by v.index v.extents v.graph v.copies e n commands j y h after kept.apart map b rule done kept.places) (m.round ∙ sym kept.round) refl kept.numbers
      (retired_swept_by v.index v.extents v.graph v.copies e n commands j y h after kept.apart map whole same marks b rule done kept.swept)
      (retired_kept_by v.index v.extents v.graph v.copies e n commands j y h after kept.apart map whole same marks b rule done)
      (noted_staged v kept graph h n
      (retired_adds_by v.index v.extents v.graph v.copies e n commands j y h after b done (root_there v.extents y h.staging whole same ready)) roots noted)

-- ---- what is answered

module _ (v : Stored) (whole : IsWhole v.extents) (runs : v.halted ≡ false) (e : ℕ) (marks : (extents_of v.extents).swept e ≡ true) where
  pub retire_steps_by : (b : Bool) → (shape v.extents).apart ≡ b → NothingToMoveBy b (index_of v.index) v.copies e → (n : ℕ) (y : ExtentsState) (h : GraphState) (j : IndexState) (after : List Copy) (roots : List Noted)
      → IsRetireExactBy {T = ℕ} b (Ok n) v.index v.extents v.graph v.copies e → e < (shape v.extents).extents → IsRetiredBy b v.index v.extents v.graph v.copies e n (v.base + v.accepted) j y h after → shape y ≡ shape v.extents
      → roots ≡ v.roots ++ record { version = n; commands = v.accepted } ∷ [] → Steps v (Retire e) (Retired n) (record v { graph = h; extents = y; index = j; copies = after; roots = roots })
  retire_steps_by false rule all n y h j after roots why inside done same noted =
      subst (λ (cs : List Copy). Steps v (Retire e) (Retired n) (record v { graph = h; extents = y; index = j; copies = cs; roots = roots })) (sym done.1)
      (retire_steps v whole runs rule e marks all n y h j roots why.0 why.1 inside done.0 same noted)
  retire_steps_by true rule all n y h j after roots why inside done same noted = retire_apart_steps v whole runs rule e marks all n y h j after roots why done.0 same noted

  pub retire_refused_by : (b : Bool) → (shape v.extents).apart ≡ b → IsKept v → (w : Stored) → but_for_room w ≡ but_for_room v → (r : Code)
      → (◌≡◌ {A = Result ℕ Code} (Err r) (Err code.StillLive)) ↔ (NothingToMoveBy b (index_of v.index) v.copies e → ⊥)
      → (NothingToMoveBy b (index_of v.index) v.copies e → IsRetireExactBy {T = ℕ} b (Err r) v.index v.extents v.graph v.copies e)
      → (r ≡ code.StillLive) ⊎ (r ≡ code.Full) ⊎ (r ≡ code.WornOut) ⊎ (r ≡ code.OutOfMemory) → Declines v (Retire e) r w
  retire_refused_by false rule kept w same r left why refusals = retire_refused v w whole runs rule same e marks r left why refusals
  retire_refused_by true rule kept w same r left why refusals =
      retire_apart_refused v whole runs rule e marks w same (kept.apart rule).order ((kept.apart rule).up_to e marks) r left why refusals
