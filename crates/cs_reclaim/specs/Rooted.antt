-- What a Stage and a Retire do where chunks and runs lie apart, and why a Retire is refused.
use Rattle.std.specs.Prelude.{◌≡◌, ◌≢◌, ◌⊎◌, ◌&&◌, ℕ, Bool, true, false, not, List, [], None, Result, if◌then◌else◌}
use Rattle.cs_refusal.specs.declared.refusals.Refusal.{Refusal}
use Rattle.cs_deps.specs.State.{State as GraphState}
use Rattle.cs_extent.specs.State.{IsWhole, State as ExtentsState, extents_of, shape}
use Rattle.cs_index.specs.Apart.{IsStageFullApart, IsStageWornApart, IsStagedApart}
use Rattle.cs_index.specs.Copies.{IsSettled}
use Rattle.cs_index.specs.Staged.{IsExact}
use Rattle.cs_index.specs.State.{State, index_of}
use Rattle.law_machine.specs.Apart.{is_any_swept, is_blank_by, reset_all, some_copy}
use Rattle.law_machine.specs.Device.{Shape}
use Rattle.law_machine.specs.Element.{Copy}
use Rattle.law_machine.specs.Extents.{Extents, marked}

-- a device of this shape on which chunks and runs lie apart
abbrev pub lying_apart : Shape → Shape
lying_apart S = record S { apart = true }

-- a sweep was given up, and its copies are still noted
abbrev pub is_left_over : Shape → Extents → List Copy → Bool
is_left_over S x copies = not (is_any_swept S x) && some_copy copies

-- there is something to stage a root for: the table isn't empty, or copies of a sweep that was given up are noted
abbrev pub MayStageRoot : Shape → Extents → State → List Copy → Type 0
MayStageRoot S x s copies = (s.table ≢ []) ⊎ (is_left_over S x copies ≡ true)

-- where no extent is being swept no copy is noted any more
abbrev pub copies_at_rest : Shape → Extents → List Copy → List Copy
copies_at_rest S x copies = if is_any_swept S x then copies else []

-- where no extent is being swept no extent is one that a sweep opened any more
abbrev pub extents_at_rest : Shape → Extents → Extents
extents_at_rest S x = record x { fresh = if is_any_swept S x then x.fresh else None }

-- all blank extents are emptied under this version of the root
abbrev pub freed_under : Shape → Extents → State → List Copy → (root : ℕ) → Extents
freed_under S x s copies root = reset_all (lying_apart S) x root (is_blank_by S x (index_of s) s.runs copies) S.extents

-- Once a root was staged over the runs of an index: copies and extents are at rest, and then the blank extents are
-- emptied under it.
pub record IsRootedApart (t : State) (x : ExtentsState) (copies : List Copy) (v : ℕ) (y : ExtentsState) (after : List Copy) : Type 0 where
  pub copies_rest : after ≡ copies_at_rest (shape x) (extents_of x) copies
  pub freed : extents_of y ≡ freed_under (shape x) (extents_at_rest (shape x) (extents_of x)) t after v
  pub same_shape : shape y ≡ shape x

-- A Stage: runs were merged and the root was staged, and what goes with it was done.
pub record IsSweepStaged (s : State) (x : ExtentsState) (g : GraphState) (copies : List Copy) (v commands : ℕ) (t : State) (y : ExtentsState) (h : GraphState) (after : List Copy) : Type 0 where
  pub mid : ExtentsState
  pub staged : IsStagedApart s x g v commands t mid h
  pub same_shape : shape mid ≡ shape x
  pub whole : IsWhole mid
  pub rooted : IsRootedApart t mid copies v y after

-- extent e isn't being swept any more, and nothing else changed
pub record IsUnmarked (x : ExtentsState) (e : ℕ) (y : ExtentsState) : Type 0 where
  pub mark : extents_of y ≡ marked (extents_of x) e false
  pub same_shape : shape y ≡ shape x
  pub whole : IsWhole y

-- A Retire: extent e isn't being swept any more, what was copied counts, and then a root was staged as by a Stage with
-- no copies.
pub record IsRetiredApart (s : State) (x : ExtentsState) (g : GraphState) (copies : List Copy) (e v commands : ℕ) (t : State) (y : ExtentsState) (h : GraphState) (after : List Copy) : Type 0 where
  pub counted : State
  pub unmarked : ExtentsState
  pub settled : IsSettled s copies counted
  pub ended : IsUnmarked x e unmarked
  pub staged : IsSweepStaged counted unmarked g [] v commands t y h after

-- Where all is copied a Retire is refused 30 where no run of what counts then goes anywhere, else 35 where a number of
-- its would pass its greatest, or the extent's generation is the greatest; 9 may come instead.
pub record IsRetireExact {T : Type 0} (result : Result T Refusal) (s : State) (x : ExtentsState) (g : GraphState) (copies : List Copy) (e : ℕ) : Type 0 where
  pub counted : State
  pub unmarked : ExtentsState
  pub settled : IsSettled s copies counted
  pub ended : IsUnmarked x e unmarked
  pub why : IsExact result (IsStageFullApart counted unmarked)
      (IsStageWornApart counted unmarked g.staging ⊎ ((extents_of x).generation e ≡ (shape x).greatest_generation))
