-- What staging an index does to the extents and to the graph.
use Rattle.std.specs.Prelude.{◌≡◌, ◌≢◌, ◌⊎◌, ◌↔◌, ◌+◌, ◌^◌, ◌≤◌, ◌∷◌, ℕ, Bool, false, List, [], Some, Result, Ok, Err, drop, length, map, reverse, slice_index}
use Rattle.cs_deps.specs.declared.elements.Element.{Element}
use Rattle.cs_deps.specs.declared.elements.Element.TheVariants.{Version}
use Rattle.cs_refusal.specs.declared.refusals.Refusal.{Refusal}
use Rattle.cs_refusal.specs.declared.refusals.Refusal.TheVariants.{Full, OutOfMemory, WornOut}
use Rattle.cs_deps.specs.Named.{Named, Names}
use Rattle.cs_deps.specs.Staging.{IsVersionStaged, Staging}
use Rattle.cs_deps.specs.State.{AddsOnly, State as GraphState, write_of}
use Rattle.cs_extent.specs.Appended.{IsAppendedBy}
use Rattle.cs_extent.specs.Frames.{IsRootNeed, root_family, root_pages}
use Rattle.cs_extent.specs.Places.{GoesIn}
use Rattle.cs_extent.specs.State.{State as ExtentsState, extents_of, shape}
use Rattle.cs_extent.specs.Worn.{IsFrameWornBy}
use Rattle.cs_frame.specs.declared.locators.Locator.{Locator}
use Rattle.cs_frame.specs.Formats.{as_locator, formats_of}
use Rattle.cs_frame.specs.Roots.{SpellsRoot, identity_in}
use Rattle.law_machine.specs.Format.{Format}
use Rattle.law_machine.specs.Device.{Shape}
use Rattle.law_machine.specs.Element.{Entry, Locator as Place, Run}
use Rattle.law_machine.specs.Extents.{ForRun, NoPlace, Purpose as Reason}
use Rattle.law_machine.specs.Formats.{RunFrame, places}
use Rattle.law_machine.specs.Geometry.{pages_first_in}
use Rattle.law_machine.specs.Index.{IsMergedRun, IsTableRun, live_at}
use Rattle.law_machine.specs.Merges.{IsRunOf}
use Rattle.cs_index.specs.Merges.{deletions_go, part, stage_takes}
use Rattle.cs_index.specs.State.{State, index_of}

-- the pages of a run's frame
unfoldable pub run_frame : ExtentsState → List Entry → List (List ℕ)
run_frame x entries = (formats_of (shape x)).frame RunFrame ((formats_of (shape x)).run entries)

-- an extent takes the frame of a run
abbrev pub HasPlace : ExtentsState → Reason → List Entry → Type 0
HasPlace x reason entries = (e : ℕ) × GoesIn x reason (length (run_frame x entries)) e

-- a run has no entry, so it needs no place, or an extent takes its frame
abbrev pub Fits : ExtentsState → Reason → List Entry → Type 0
Fits x reason entries = (entries ≡ []) ⊎ HasPlace x reason entries

-- a run has some entry, and no extent takes its frame
abbrev pub FitsNowhere : ExtentsState → Reason → List Entry → Type 0
FitsNowhere x reason entries = (entries ≢ []) × ((e : ℕ) → ¬ GoesIn x reason (length (run_frame x entries)) e)

-- the frame of a run was appended at a place, where chunks and runs lie apart or not
abbrev pub IsRunAppendedBy : (apart : Bool) → ExtentsState → GraphState → Reason → List Entry → Place → ExtentsState → GraphState → Type 0
IsRunAppendedBy apart x g reason entries place y h = IsAppendedBy apart x g reason (run_frame x entries) (as_locator place) y h

-- The next version of the root was staged to page 1: its page spells, in this format, so many commands and the runs at
-- these places, oldest first, and in format 4 the store's identity. It needs all versions of each section so far, where
-- page writes don't come first all plain writes so far, and nothing else of its own.
pub record IsRootOver (format : Format) (pages_first : Bool) (g h : GraphState) (v commands : ℕ) (oldest_first : List Locator) : Type 0 where
  pub needs : Named
  pub names : (x : Element) → Names needs x ↔ IsRootNeed (root_pages pages_first g.staging.staged) g.staging.latest x
  pub version : IsVersionStaged g.staging root_family v needs h.staging
  pub page : (page : List ℕ) × (write_of h (Version root_family v) ≡ Some (1, page)) × SpellsRoot page (identity_in format) v commands oldest_first
  pub others : AddsOnly g h (Version root_family v)
  pub round : h.round ≡ g.round

-- the root over these runs was staged, by the format's rule
abbrev pub IsRootStaged : (format : Format) → GraphState → GraphState → (v commands : ℕ) → List Run → Type 0
IsRootStaged format g h v commands runs = IsRootOver format (pages_first_in format) g h v commands (map as_locator (reverse (places runs)))

-- the frame of a run was appended, and the root over it and over the older runs was staged
abbrev pub IsRunStagedBy : (apart : Bool) → ExtentsState → GraphState → Reason → List Entry → (older : List Run) → Place → (v commands : ℕ) → ExtentsState → GraphState → Type 0
IsRunStagedBy apart x g reason entries older place v commands y h = (between : GraphState)
    × IsRunAppendedBy apart x g reason entries place y between × IsRootStaged x.format between h v commands (record { place = place; entries = entries } ∷ older)

abbrev pub IsRunStaged : ExtentsState → GraphState → Reason → List Entry → (older : List Run) → Place → (v commands : ℕ) → ExtentsState → GraphState → Type 0
IsRunStaged x g reason entries older place v commands y h = IsRunStagedBy (shape x).apart x g reason entries older place v commands y h

-- The table became a run over those before, and the root over all of them was staged.
pub record IsTableStaged (s : State) (x : ExtentsState) (g : GraphState) (v commands : ℕ) (t : State) (y : ExtentsState) (h : GraphState) : Type 0 where
  pub entries : List Entry
  pub place : Place
  pub run : IsTableRun s.table entries
  pub staged : IsRunStagedBy false x g ForRun entries s.runs place v commands y h
  pub table : t.table ≡ []
  pub runs : t.runs ≡ record { place = place; entries = entries } ∷ s.runs
  pub format : t.format ≡ s.format
  pub limit : t.limit ≡ s.limit

-- one run of all that is live was appended, or none where nothing is
abbrev pub IsMergeAppended : List Entry → ExtentsState → GraphState → Reason → List Run → ExtentsState → GraphState → Type 0
IsMergeAppended index x g reason runs y h =
    ((entries : List Entry) × (place : Place) × (entries ≢ []) × IsMergedRun index entries × IsRunAppendedBy false x g reason entries place y h
    × (runs ≡ record { place = place; entries = entries } ∷ []))
    ⊎ (((id : ℕ) → live_at index id ≡ []) × (y ≡ x) × (h ≡ g) × (runs ≡ []))

-- The whole index became one run, or none where nothing is live, and the root over it was staged.
pub record IsMergeStaged (s : State) (x : ExtentsState) (g : GraphState) (reason : Reason) (v commands : ℕ) (t : State) (y : ExtentsState) (h : GraphState) : Type 0 where
  pub between : GraphState
  pub appended : IsMergeAppended (index_of s) x g reason t.runs y between
  pub root : IsRootStaged x.format between h v commands t.runs
  pub table : t.table ≡ []
  pub format : t.format ≡ s.format
  pub limit : t.limit ≡ s.limit

-- the run of the table and of the newest k runs was appended in front of the others, or none where it would have no
-- entry
abbrev pub IsPartAppendedBy : (apart go : Bool) → State → ℕ → ExtentsState → GraphState → Reason → List Run → ExtentsState → GraphState → Type 0
IsPartAppendedBy apart go s k x g reason runs y h =
    ((entries : List Entry) × (place : Place) × (entries ≢ []) × IsRunOf go (part s k) entries × IsRunAppendedBy apart x g reason entries place y h
    × (runs ≡ record { place = place; entries = entries } ∷ drop k s.runs))
    ⊎ (IsRunOf go (part s k) [] × (y ≡ x) × (h ≡ g) × (runs ≡ drop k s.runs))

-- The table and the newest k runs became one run in front of the others, with their deletions or without them, or none
-- where it would have no entry, and the root over all that stand then was staged. Chunks and runs lie apart or not.
pub record IsPartStagedBy (apart go : Bool) (k : ℕ) (s : State) (x : ExtentsState) (g : GraphState) (reason : Reason) (v commands : ℕ) (t : State) (y : ExtentsState) (h : GraphState) : Type 0 where
  pub between : GraphState
  pub appended : IsPartAppendedBy apart go s k x g reason t.runs y between
  pub root : IsRootStaged x.format between h v commands t.runs
  pub table : t.table ≡ []
  pub format : t.format ≡ s.format
  pub limit : t.limit ≡ s.limit

abbrev pub IsPartStaged : (go : Bool) → (k : ℕ) → State → ExtentsState → GraphState → Reason → (v commands : ℕ) → State → ExtentsState → GraphState → Type 0
IsPartStaged go k s x g reason v commands t y h = IsPartStagedBy (shape x).apart go k s x g reason v commands t y h

-- a Stage merged the table and the newest k runs
abbrev pub IsNewestStaged : (k : ℕ) → State → ExtentsState → GraphState → (v commands : ℕ) → State → ExtentsState → GraphState → Type 0
IsNewestStaged k s x g v commands t y h = IsPartStagedBy false (deletions_go (shape x) s k) k s x g ForRun v commands t y h

-- the run of all that is live, if anything is
abbrev pub WritesMerged : State → List Entry → Type 0
WritesMerged s entries = IsMergedRun (index_of s) entries × (entries ≢ [])

-- the run of the table and of the newest k runs, if it has an entry
abbrev pub WritesPart : (go : Bool) → State → ℕ → List Entry → Type 0
WritesPart go s k entries = IsRunOf go (part s k) entries × (entries ≢ [])

-- the run that a Stage writes, where the table isn't empty: that of the table and of as many of the newest runs as it
-- takes
abbrev pub WritesRun : Shape → State → List Entry → Type 0
WritesRun S s entries = (s.table ≢ []) × WritesPart (deletions_go S s (stage_takes S s)) s (stage_takes S s) entries

-- a run is to be written, and no extent takes its pages
abbrev pub IsFull : (List Entry → Type 0) → ExtentsState → Reason → Type 0
IsFull Writes x reason = (entries : List Entry) × Writes entries × NoPlace (shape x) (extents_of x) reason (length (run_frame x entries))

-- a run is to be written, an extent takes its pages, and a number of its frame would pass 2^63 - 1
abbrev pub IsRunWornBy : (apart : Bool) → (List Entry → Type 0) → ExtentsState → Reason → Staging → Type 0
IsRunWornBy apart Writes x reason s = (entries : List Entry) × Writes entries × IsFrameWornBy apart x reason s (length (run_frame x entries))

abbrev pub IsRunWorn : (List Entry → Type 0) → ExtentsState → Reason → Staging → Type 0
IsRunWorn Writes x reason s = IsRunWornBy (shape x).apart Writes x reason s

-- the root's number would pass 2^63 - 1
abbrev pub IsRootWorn : Staging → Type 0
IsRootWorn s = 2 ^ 63 ≤ slice_index s.latest root_family + 1

-- the root's number would pass 2^63 - 1, or a run is to be written and a number of its frame would
abbrev pub IsStageWorn : (List Entry → Type 0) → ExtentsState → Reason → Staging → Type 0
IsStageWorn Writes x reason s = IsRootWorn s ⊎ ((entries : List Entry) × Writes entries × IsFrameWornBy false x reason s (length (run_frame x entries)))

-- why a call was refused: 30 where there was no place, 35 where there was one and a number would pass its greatest,
-- and 9 whenever memory ran out
abbrev pub IsWhy : Refusal → (full worn : Type 0) → Type 0
IsWhy Full full worn = full
IsWhy WornOut full worn = (full → ⊥) × worn
IsWhy OutOfMemory full worn = Unit {0}
IsWhy _ full worn = ⊥

-- the call is refused 30 where the first holds, else 35 where the second does, else not; 9 may come instead of any of
-- these
abbrev pub IsExact : {T : Type 0} → Result T Refusal → (full worn : Type 0) → Type 0
IsExact (Ok x) full worn = (full → ⊥) × (worn → ⊥)
IsExact (Err refusal) full worn = IsWhy refusal full worn
