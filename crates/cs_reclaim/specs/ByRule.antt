-- What the calls of a sweep do, by whether chunks and runs lie apart or may lie on one extent. Each word that ends with
-- In is the word before it, by the extents' own rule.
use Rattle.std.specs.Prelude.{◌≡◌, ◌≢◌, ◌⊎◌, ◌&&◌, ℕ, Bool, true, List, [], Result}
use Rattle.cs_refusal.specs.declared.refusals.Refusal.{Refusal}
use Rattle.cs_deps.specs.Staging.{Staging}
use Rattle.cs_deps.specs.State.{State as GraphState}
use Rattle.cs_extent.specs.State.{State as ExtentsState, extents_of, shape}
use Rattle.cs_index.specs.Apart.{IsStageFullApart, IsStageWornApart}
use Rattle.cs_index.specs.Merges.{stage_takes}
use Rattle.cs_index.specs.Staged.{IsExact, IsFull, IsNewestStaged, IsStageWorn, WritesRun}
use Rattle.cs_index.specs.State.{State}
use Rattle.law_machine.specs.Apart.{AllCopied, FirstUncopied, MayNotBegin, by_rule, swept_aside}
use Rattle.law_machine.specs.Device.{Shape}
use Rattle.law_machine.specs.Element.{Copy, Entry, Locator as Place}
use Rattle.law_machine.specs.Extents.{Extents, ForRun, marked}
use Rattle.law_machine.specs.Index.{FirstLive, NothingLive}
use Rattle.cs_reclaim.specs.Copied.{IsCopyMade}
use Rattle.cs_reclaim.specs.Moves.{IsMoved}
use Rattle.cs_reclaim.specs.Retired.{IsRetireFull, IsRetireWorn, IsRetired}
use Rattle.cs_reclaim.specs.Rooted.{IsRetireExact, IsRetiredApart, IsSweepStaged, MayStageRoot, is_left_over}
use Rattle.cs_reclaim.specs.Sweeps.{IsNotSweepable, IsSwept, IsSweptApart}

-- ---- the start

-- an extent that is being swept
abbrev pub IsSweptBy : (apart : Bool) → Shape → Extents → ℕ → Type 0
IsSweptBy apart S x e = by_rule apart (IsSwept S x e) (IsSweptApart S x e)

abbrev pub IsSweptIn : ExtentsState → ℕ → Type 0
IsSweptIn x e = IsSweptBy (shape x).apart (shape x) (extents_of x) e

-- the sweep of an extent may not begin
abbrev pub MayNotBeginBy : (apart : Bool) → Shape → Extents → List Copy → ℕ → Type 0
MayNotBeginBy apart S x copies e = by_rule apart (IsNotSweepable S x e) (MayNotBegin S x copies e)

abbrev pub MayNotBeginIn : ExtentsState → List Copy → ℕ → Type 0
MayNotBeginIn x copies e = MayNotBeginBy (shape x).apart (shape x) (extents_of x) copies e

-- the sweep of an extent began: it is marked; where chunks and runs lie apart no copy was noted, and no frame goes
-- there any more
abbrev pub IsBegunBy : (apart : Bool) → Shape → Extents → List Copy → ℕ → Extents → Type 0
IsBegunBy apart S x copies e y = by_rule apart (y ≡ marked x e true) ((y ≡ swept_aside S x e) × (copies ≡ []))

abbrev pub IsBegunIn : ExtentsState → List Copy → ℕ → ExtentsState → Type 0
IsBegunIn x copies e y = IsBegunBy (shape x).apart (shape x) (extents_of x) copies e (extents_of y)

-- ---- one chunk after another

-- nothing is left to move: nothing lives on the extent; where chunks and runs lie apart, all that lives there is copied
abbrev pub NothingToMoveBy : (apart : Bool) → (index : List Entry) → List Copy → ℕ → Type 0
NothingToMoveBy apart index copies e = by_rule apart (NothingLive index e) (AllCopied index copies e)

abbrev pub NothingToMoveIn : ExtentsState → (index : List Entry) → List Copy → ℕ → Type 0
NothingToMoveIn x index copies e = NothingToMoveBy (shape x).apart index copies e

-- the chunk that is moved next: the first that lives on the extent; where chunks and runs lie apart, the first that
-- isn't copied
abbrev pub IsNextBy : (apart : Bool) → (index : List Entry) → List Copy → (e id chunk : ℕ) → Place → Type 0
IsNextBy apart index copies e id chunk from =
    by_rule apart (FirstLive index e id chunk from) (FirstUncopied index copies e id chunk from)

abbrev pub IsNextIn : ExtentsState → (index : List Entry) → List Copy → (e id chunk : ℕ) → Place → Type 0
IsNextIn x index copies e id chunk from = IsNextBy (shape x).apart index copies e id chunk from

-- the next chunk was moved from there: it counts where it is now, and no copy is noted; where chunks and runs lie apart
-- a copy is noted, and the index stays
abbrev pub IsMovedBy : (apart : Bool) → State → ExtentsState → GraphState → List Copy → (e id chunk : ℕ) → (from : Place)
    → (payload : List ℕ) → State → ExtentsState → GraphState → List Copy → Type 0
IsMovedBy apart s x g copies e id chunk from payload t y h after = by_rule apart
    ((move : IsMoved s x g e id chunk payload t y h) × (move.from ≡ from) × (after ≡ copies))
    ((copy : IsCopyMade s x g copies e id chunk payload after y h) × (copy.from ≡ from) × (t ≡ s))

abbrev pub IsMovedIn : State → ExtentsState → GraphState → List Copy → (e id chunk : ℕ) → (from : Place)
    → (payload : List ℕ) → State → ExtentsState → GraphState → List Copy → Type 0
IsMovedIn s x g copies e id chunk from payload t y h after = IsMovedBy (shape x).apart s x g copies e id chunk from payload t y h after

-- an index is as it was, but for its room; where chunks and runs lie apart, with its room
abbrev pub StaysBy : (apart : Bool) → State → State → Type 0
StaysBy apart s t = by_rule apart (t ≡ record s { room = t.room }) (t ≡ s)

abbrev pub StaysIn : ExtentsState → State → State → Type 0
StaysIn x s t = StaysBy (shape x).apart s t

-- ---- the end

-- an extent was retired: the copies stay; where chunks and runs lie apart none is noted any more
abbrev pub IsRetiredBy : (apart : Bool) → State → ExtentsState → GraphState → List Copy → (e v commands : ℕ)
    → State → ExtentsState → GraphState → List Copy → Type 0
IsRetiredBy apart s x g copies e v commands t y h after = by_rule apart
    (IsRetired s x g e v commands t y h × (after ≡ copies))
    (IsRetiredApart s x g copies e v commands t y h after × (after ≡ []))

abbrev pub IsRetiredIn : State → ExtentsState → GraphState → List Copy → (e v commands : ℕ) → State → ExtentsState → GraphState → List Copy → Type 0
IsRetiredIn s x g copies e v commands t y h after = IsRetiredBy (shape x).apart s x g copies e v commands t y h after

-- how a Retire is answered where nothing is left to move
abbrev pub IsRetireExactBy : {T : Type 0} → (apart : Bool) → Result T Refusal → State → ExtentsState → GraphState → List Copy → ℕ → Type 0
IsRetireExactBy apart result s x g copies e = by_rule apart
    (IsExact result (IsRetireFull s x) (IsRetireWorn s x g.staging e))
    (IsRetireExact result s x g copies e)

abbrev pub IsRetireExactIn : {T : Type 0} → Result T Refusal → State → ExtentsState → GraphState → List Copy → ℕ → Type 0
IsRetireExactIn result s x g copies e = IsRetireExactBy (shape x).apart result s x g copies e

-- ---- a root

-- copies are noted still of a sweep that was given up: none are where chunks and runs may lie on one extent
abbrev pub is_left_over_by : (apart : Bool) → Shape → Extents → List Copy → Bool
is_left_over_by apart S x copies = apart && is_left_over S x copies

abbrev pub is_left_over_in : ExtentsState → List Copy → Bool
is_left_over_in x copies = is_left_over_by (shape x).apart (shape x) (extents_of x) copies

-- there is something to stage a root for: the table isn't empty, or copies are left over
abbrev pub MayStageBy : (apart : Bool) → Shape → Extents → State → List Copy → Type 0
MayStageBy apart S x s copies = (s.table ≢ []) ⊎ (is_left_over_by apart S x copies ≡ true)

abbrev pub MayStageIn : ExtentsState → State → List Copy → Type 0
MayStageIn x s copies = MayStageBy (shape x).apart (shape x) (extents_of x) s copies

-- a Stage merged the table and as many of the newest runs as it takes, and the copies stay; where chunks and runs lie
-- apart it did what goes with a root, too
abbrev pub IsSweepStagedBy : (apart : Bool) → State → ExtentsState → GraphState → List Copy → (v commands : ℕ)
    → State → ExtentsState → GraphState → List Copy → Type 0
IsSweepStagedBy apart s x g copies v commands t y h after = by_rule apart
    (IsNewestStaged (stage_takes (shape x) s) s x g v commands t y h × (after ≡ copies))
    (IsSweepStaged s x g copies v commands t y h after)

abbrev pub IsSweepStagedIn : State → ExtentsState → GraphState → List Copy → (v commands : ℕ) → State → ExtentsState → GraphState → List Copy → Type 0
IsSweepStagedIn s x g copies v commands t y h after = IsSweepStagedBy (shape x).apart s x g copies v commands t y h after

-- there is something to stage a root for, and no extent takes its run
abbrev pub IsSweepStageFullBy : (apart : Bool) → State → ExtentsState → List Copy → Type 0
IsSweepStageFullBy apart s x copies = by_rule apart
    (IsFull (WritesRun (shape x) s) x ForRun)
    (MayStageRoot (shape x) (extents_of x) s copies × IsStageFullApart s x)

abbrev pub IsSweepFullIn : State → ExtentsState → List Copy → Type 0
IsSweepFullIn s x copies = IsSweepStageFullBy (shape x).apart s x copies

-- there is something to stage a root for, and a number would pass its greatest
abbrev pub IsSweepStageWornBy : (apart : Bool) → State → ExtentsState → Staging → List Copy → Type 0
IsSweepStageWornBy apart s x staging copies = by_rule apart
    ((s.table ≢ []) × IsStageWorn (WritesRun (shape x) s) x ForRun staging)
    (MayStageRoot (shape x) (extents_of x) s copies × IsStageWornApart s x staging)

abbrev pub IsSweepWornIn : State → ExtentsState → Staging → List Copy → Type 0
IsSweepWornIn s x staging copies = IsSweepStageWornBy (shape x).apart s x staging copies
