-- What moving a chunk does, and why it is refused.
use Rattle.std.specs.Prelude.{◌≡◌, ◌⊎◌, ◌≤◌, ℕ, Bool, false, List, Option, None, Result, MatchResult, length}
use Rattle.cs_chunk.specs.Reads.{IsNoAnswer, IsOfFault}
use Rattle.cs_refusal.specs.declared.refusals.Refusal.{Refusal}
use Rattle.cs_refusal.specs.declared.refusals.Refusal.TheVariants.{Full, WornOut}
use Rattle.cs_deps.specs.Staging.{Staging}
use Rattle.cs_deps.specs.State.{State as GraphState}
use Rattle.cs_extent.specs.Appended.{IsAppendedBy}
use Rattle.cs_extent.specs.State.{State as ExtentsState, extents_of, shape}
use Rattle.cs_extent.specs.Worn.{IsFrameWornBy}
use Rattle.cs_frame.specs.declared.faults.FormatFault.{FormatFault}
use Rattle.cs_frame.specs.declared.locators.Locator.{Locator}
use Rattle.cs_frame.specs.Formats.{formats_of, place_of}
use Rattle.cs_index.specs.Staged.{IsWhy}
use Rattle.cs_index.specs.State.{IsSet, State, index_of}
use Rattle.law_machine.specs.Element.{Locator as Place}
use Rattle.law_machine.specs.Extents.{ForMove, Goes}
use Rattle.law_machine.specs.Formats.{ChunkFrame}
use Rattle.law_machine.specs.Index.{FirstLive, live_at}
use Rattle.law_machine.specs.Lists.{replaced}

-- the pages of the frame of a chunk
abbrev pub chunk_frame : ExtentsState → (payload : List ℕ) → List (List ℕ)
chunk_frame x payload = (formats_of (shape x)).frame ChunkFrame payload

-- The first live chunk on an extent was moved: a frame of this payload was appended, the shard has that chunk there, of
-- the mark that it had, and its other chunks where they were, and each other shard has what it had.
pub record IsMoved (s : State) (x : ExtentsState) (g : GraphState) (e id chunk : ℕ) (payload : List ℕ) (t : State) (y : ExtentsState) (h : GraphState) : Type 0 where
  pub from : Place
  pub to : Locator
  pub first : FirstLive (index_of s) e id chunk from
  pub appended : IsAppendedBy false x g ForMove (chunk_frame x payload) to y h
  pub mark : to.mark ≡ from.mark
  pub entry : IsSet s id (replaced (live_at (index_of s) id) chunk (place_of to)) t

-- Something was moved, and the frame has no fault; or the refusal is that of its fault; or there is none, and no place
-- or no number; or the device or memory refused.
abbrev pub AnswersMove : {T : Type 0} → Option FormatFault → Result T Refusal → Type 0
AnswersMove found result = MatchResult result (λ _. found ≡ None)
    (λ r. IsNoAnswer r ⊎ IsOfFault found r ⊎ ((found ≡ None) × ((r ≡ Full) ⊎ (r ≡ WornOut))))

-- no extent takes a frame of so many pages for a move, where chunks and runs lie apart or not
abbrev pub NowhereBy : (apart : Bool) → ExtentsState → (pages : ℕ) → Type 0
NowhereBy apart x pages = (e : ℕ) → Goes (shape x) apart (extents_of x) ForMove pages e → ⊥

-- so by the extents' own rule, here and below
abbrev pub Nowhere : ExtentsState → (pages : ℕ) → Type 0
Nowhere x pages = NowhereBy (shape x).apart x pages

-- no extent takes the frame of some payload, for whose pages an extent has enough
abbrev pub IsMoveFullBy : (apart : Bool) → ExtentsState → Type 0
IsMoveFullBy apart x = (payload : List ℕ) × (length (chunk_frame x payload) ≤ x.pages) × NowhereBy apart x (length (chunk_frame x payload))

abbrev pub IsMoveFull : ExtentsState → Type 0
IsMoveFull x = IsMoveFullBy (shape x).apart x

-- an extent takes the frame of some payload, and a number would pass its greatest
abbrev pub IsMoveWornBy : (apart : Bool) → ExtentsState → Staging → Type 0
IsMoveWornBy apart x s = (payload : List ℕ) × (length (chunk_frame x payload) ≤ x.pages) × IsFrameWornBy apart x ForMove s (length (chunk_frame x payload))

abbrev pub IsMoveWorn : ExtentsState → Staging → Type 0
IsMoveWorn x s = IsMoveWornBy (shape x).apart x s

-- a chunk of this payload is moved exactly where there is a place and there are numbers for its frame, unless the
-- device or memory refuses
abbrev pub AnswersPlaceBy : {T : Type 0} → (apart : Bool) → ExtentsState → Staging → (payload : List ℕ) → Result T Refusal → Type 0
AnswersPlaceBy apart x s payload result =
    MatchResult result (λ _. (NowhereBy apart x (length (chunk_frame x payload)) → ⊥) × (IsFrameWornBy apart x ForMove s (length (chunk_frame x payload)) → ⊥))
    (λ r. IsNoAnswer r ⊎ IsWhy r (NowhereBy apart x (length (chunk_frame x payload))) (IsFrameWornBy apart x ForMove s (length (chunk_frame x payload))))

abbrev pub AnswersPlace : {T : Type 0} → ExtentsState → Staging → (payload : List ℕ) → Result T Refusal → Type 0
AnswersPlace x s payload result = AnswersPlaceBy (shape x).apart x s payload result
