-- What an append does to the extents and to the graph, and what it asks of them.
use Rattle.std.specs.Prelude.{◌≡◌, ◌+◌, ℕ, Bool, List, [], ◌∷◌, Some, length, slice_index}
use Rattle.cs_deps.specs.Staging.{Staging}
use Rattle.cs_deps.specs.State.{State as GraphState, write_of}
use Rattle.cs_frame.specs.declared.locators.Locator.{Locator}
use Rattle.law_machine.specs.Device.{mark_of}
use Rattle.law_machine.specs.Extents.{Goes, Purpose as Reason, taken_by}
use Rattle.cs_extent.specs.Frames.{AreResetsStaged, AreWritten, IsFrameStaged, IsOfFrame, AddsOnlyOf, family_of, next_place, next_section, root_recorded}
use Rattle.cs_extent.specs.State.{SpellsExtents, State, extents_of, need_of, shape}

-- the next frame may be appended: the root and each section have a family of versions, and what was reset goes with a
-- version of the root that was staged
pub record IsReady (x : State) (s : Staging) : Type 0 where
  pub families : length s.latest ≡ 1 + (shape x).sections
  pub resets : AreResetsStaged (extents_of x) s

-- A frame was appended at l, where chunks and runs lie apart or not. Its pages were given and staged after the pointer
-- of an extent that may take them, and then a version of that extent's section, which records them, and the root that
-- was persistent before. Nothing else was staged, and of all other elements no write is kept that wasn't kept before.
pub record IsAppendedBy (apart : Bool) (x : State) (g : GraphState) (reason : Reason) (frame : List (List ℕ)) (l : Locator) (y : State) (h : GraphState) : Type 0 where
  pub placed : Goes (shape x) apart (extents_of x) reason (length frame) l.extent
  pub place : l ≡ next_place (extents_of x) l.extent (mark_of (shape x) frame)
  pub extents : extents_of y ≡ taken_by (shape x) apart reason (extents_of x) l.extent (length frame)
  pub same_shape : shape y ≡ shape x
  pub staged : IsFrameStaged g.staging h.staging (shape x).pages_first (shape x).sections ((shape x).section l.extent) (length frame)
      ((extents_of x).reset l.extent) (need_of x ((shape x).section l.extent))
  pub writes : AreWritten h g.staging.staged (length frame) (λ i. (shape x).address l.extent (l.page + i)) frame
  pub section : (page : List ℕ)
      × (write_of h (next_section g.staging ((shape x).section l.extent)) ≡ Some ((shape x).section_page ((shape x).section l.extent), page))
      × SpellsExtents y ((shape x).section l.extent) (slice_index g.staging.latest (family_of ((shape x).section l.extent)) + 1)
      (root_recorded (shape x).format g.staging) page
  pub others : AddsOnlyOf g h (IsOfFrame g.staging ((shape x).section l.extent) (length frame))
  pub round : h.round ≡ g.round

-- so by the extents' own rule
abbrev pub IsAppended : State → GraphState → Reason → List (List ℕ) → Locator → State → GraphState → Type 0
IsAppended x g reason frame l y h = IsAppendedBy (shape x).apart x g reason frame l y h

-- frames were appended one after another at these places; where there are none the graph may have other room
abbrev pub AreAppendedBy : (apart : Bool) → State → GraphState → Reason → List (List (List ℕ)) → List Locator → State → GraphState → Type 0
AreAppendedBy apart x g reason [] [] y h = (y ≡ x) × (h ≡ record g { room = h.room })
AreAppendedBy apart x g reason (frame ∷ frames) (l ∷ ls) y h =
    (mid : State) × (between : GraphState) × IsAppendedBy apart x g reason frame l mid between
    × AreAppendedBy apart mid between reason frames ls y h
AreAppendedBy apart x g reason [] (l ∷ ls) y h = ⊥
AreAppendedBy apart x g reason (frame ∷ frames) [] y h = ⊥

-- so by the extents' own rule
abbrev pub AreAppended : State → GraphState → Reason → List (List (List ℕ)) → List Locator → State → GraphState → Type 0
AreAppended x g reason frames ls y h = AreAppendedBy (shape x).apart x g reason frames ls y h
