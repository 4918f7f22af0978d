-- The room of the machine's state: what lies on its extents, and what lives.
use Rattle.std.specs.Prelude.{◌≡◌, ◌≢◌, ◌⊎◌, ◌<◌, ◌≤◌, ◌∷◌, ◌++◌, ◌==◌, ◌&&◌, ℕ, suc, Bool, true, false, not, List, length, Option, Some, None, map, [], if◌then◌else◌}
use Rattle.law_machine.specs.Apart.{any_swept, is_none, same_place}
use Rattle.law_machine.specs.Append.{chunk_frames, page_counts}
use Rattle.law_machine.specs.Device.{Page, Shape}
use Rattle.law_machine.specs.Element.{Copy, Entry, Locator, Map, Opening, Run}
use Rattle.law_machine.specs.Events.{ArePayloads, Chunked, newest_page}
use Rattle.law_machine.specs.Extents.{Extents, MayFill}
use Rattle.law_machine.specs.Formats.{ChunkFrame, Formats, RunFrame, opening_in, fault_for}
use Rattle.law_machine.specs.Index.{IsRunList, Reads, entries_of, live_at}
use Rattle.law_machine.specs.Lists.{◌∈◌}
use Rattle.law_machine.specs.Recovery.{Recovers}
use Rattle.law_machine.specs.Refusal.{Full, Refusal}
use Rattle.law_machine.specs.Sound.{Bounded, Sound}
use Rattle.law_machine.specs.State.{Abandon, Abandoned, Accepted, BeginSweep, Delete, Event, MoveOne, Moved, Put, Reply, Retire, Retired, Stage, Staged, State, Sweeping, index_now}
use Rattle.law_room.specs.Events.{Abandon as AbandonInRoom, BeginSweep as BeginInRoom, Delete as DeleteInRoom, Does, MoveOne as MoveInRoom, Put as PutInRoom, Retire as RetireInRoom, Stage as StageInRoom, forget, unless}
use Rattle.law_room.specs.Invariant.{IsRoot, Keeps}
use Rattle.law_room.specs.Rooms.{Chunk, Empty, Holding, OfChunks, OfRuns, Room, Root, Sweep, is_at, is_named}

-- the extents on which the runs lie, and those to which the copies went
abbrev pub run_places : List Run → List ℕ
run_places [] = []
run_places (run ∷ runs) = run.place.extent ∷ run_places runs

abbrev pub targets_of : List Copy → List ℕ
targets_of [] = []
targets_of (c ∷ cs) = c.to.extent ∷ targets_of cs

-- the chunks of an identifier
abbrev pub of_id : ℕ → List Chunk → List Chunk
of_id id [] = []
of_id id (c ∷ cs) = if c.id == id then c ∷ of_id id cs else of_id id cs

-- the first of two, where there is one, else the second
abbrev pub either_of : Option ℕ → Option ℕ → Option ℕ
either_of None other = other
either_of (Some e) other = Some e

-- the copy is one of this chunk, from there
abbrev pub is_copy_of : Copy → (id chunk : ℕ) → Locator → Bool
is_copy_of c id chunk l = (c.id == id) && ((c.chunk == chunk) && same_place c.from l)

-- the extent to which a chunk was copied from there, if it was. The copies stand newest first
abbrev pub copied_to : List Copy → (id chunk : ℕ) → Locator → Option ℕ
copied_to [] id chunk l = None
copied_to (c ∷ cs) id chunk l =
    either_of (copied_to cs id chunk l) (if is_copy_of c id chunk l then Some c.to.extent else None)

-- what lies on an extent
abbrev pub holding : Extents → ℕ → Holding
holding x e = if x.pointer e == 0 then Empty else if x.of_runs e then OfRuns else OfChunks

module _ (S : Shape) where
  -- no generation is the greatest
  abbrev pub NoneWorn : State → Type 0
  NoneWorn s = (e : ℕ) → e < S.extents → s.world.extents.generation e < S.greatest_generation

  -- chunks lie on the extent, and it may be filled up
  abbrev pub IsFilled : Extents → ℕ → Type 0
  IsFilled x e = (e < S.extents) × (0 < x.pointer e) × (x.of_runs e ≡ false) × MayFill S.fills (x.found e)

  -- what is noted of the extents is right: chunks were appended to those to which the last chunk of a put and the last copy
  -- went and to the one that a sweep opened, and of an empty one nothing is noted
  pub record IsNoted (x : Extents) : Type 0 where
    pub appended : (e : ℕ) → x.open_extent ≡ Some e → IsFilled x e
    pub copied : (e : ℕ) → x.last ≡ Some e → IsFilled x e
    pub opened : (e : ℕ) → x.fresh ≡ Some e → IsFilled x e
    pub empty : (e : ℕ) → e < S.extents → x.pointer e ≡ 0 → (x.of_runs e ≡ false) × (x.found e ≡ 0)

  -- the extents of r are those of x; an extent that is set aside counts as empty
  pub record AreExtentsOf (aside : ℕ → Bool) (x : Extents) (r : Room) : Type 0 where
    pub pointer : (e : ℕ) → e < S.extents → r.pointer e ≡ (if aside e then 0 else x.pointer e)
    pub holds : (e : ℕ) → e < S.extents → r.holds e ≡ (if aside e then Empty else holding x e)
    pub open_extent : r.open_extent ≡ unless aside x.open_extent
    pub last : r.last ≡ unless aside x.last
    pub noted : IsNoted x

  -- what the unfinished sweep has copied
  abbrev pub copies_now : State → List Copy
  copies_now s = if any_swept S s then s.copies else []

  -- the extent that a sweep opened that was given up is set aside, until the next root
  abbrev pub is_aside : State → ℕ → Bool
  is_aside s e = not (any_swept S s) && is_at s.world.extents.fresh e

  -- the unfinished sweep is that of the one extent that is being swept
  abbrev pub IsSweepOf : State → Option Sweep → Type 0
  IsSweepOf s None = any_swept S s ≡ false
  IsSweepOf s (Some w) = (any_swept S s ≡ true) × (w.extent < S.extents) × (s.world.extents.swept w.extent ≡ true)
      × (w.fresh ≡ s.world.extents.fresh) × (w.targets ≡ targets_of s.copies)

-- no damaged chunk that lives is told as one without a place
abbrev pub NoneToldFull : State → Type 0
NoneToldFull s = (id : ℕ) (l : Locator) → l ∈ live_at (index_now s) id → s.opening.damage l ≢ Some Full

-- the event is a put
abbrev pub IsPut : Event → Type 0
IsPut (Put id bytes) = Unit {0}
IsPut event = ⊥

-- the bytes are cut in at most n pieces
abbrev pub AreChunksAtMost : Shape → (n : ℕ) → (bytes : List ℕ) → Type 0
AreChunksAtMost S n bytes = (chunks : List (List ℕ)) × Chunked (S.piece_bytes (length bytes)) bytes chunks × (length chunks ≤ n)

-- what is told of the chunk at a locator as damaged is told so whatever pages follow those that were found
abbrev pub Lasts : Shape → Formats → Opening → Locator → Refusal → Type 0
Lasts S F opening l f = (more : List Page) → fault_for S F ChunkFrame l.mark (opening.pages l ++ more) ≡ Some f

module _ (S : Shape) (F : Formats) where
  module _ (opening : Opening) (img : ℕ → Page) (pointers generations : ℕ → ℕ) where
    -- the frame of the chunk at a locator takes so many pages; a damaged one counts for none, but where extents are filled up
    -- it does so only if it is damaged whatever pages follow
    abbrev pub HasPages : Locator → ℕ → Type 0
    HasPages l n =
        ((payload : List ℕ) × Reads S F opening img pointers generations l (F.frame ChunkFrame payload)
        × (n ≡ length (F.frame ChunkFrame payload)))
        ⊎ ((f : Refusal) × (opening.damage l ≡ Some f) × (S.fills ≡ true → Lasts S F opening l f) × (n ≡ 0))

    -- c is this chunk of the identifier, which lies there
    pub record IsChunkOf (copies : List Copy) (of chunk : ℕ) (l : Locator) (c : Chunk) : Type 0 where
      pub id : c.id ≡ of
      pub extent : c.extent ≡ l.extent
      pub pages : HasPages l c.pages
      pub copy : c.copy ≡ copied_to copies of chunk l

    -- these are the chunks of the identifier from this number on, which lie there, the last first
    abbrev pub AreChunksOf : List Copy → (of chunk : ℕ) → List Locator → List Chunk → Type 0
    AreChunksOf copies of chunk [] cs = cs ≡ []
    AreChunksOf copies of chunk (l ∷ ls) cs = (c : Chunk) × (rest : List Chunk) × (cs ≡ rest ++ c ∷ [])
        × IsChunkOf copies of chunk l c × AreChunksOf copies of (suc chunk) ls rest

  -- these are the chunks of the identifier in the state
  abbrev pub AreChunksIn : State → List Copy → ℕ → List Chunk → Type 0
  AreChunksIn s copies id cs = AreChunksOf s.opening (newest_page s) s.world.extents.pointer s.world.extents.generation
      copies id 0 (live_at (index_now s) id) cs

  -- r is the room of the state, where these extents are set aside and these copies count as made
  pub record IsRoomBut (aside : ℕ → Bool) (copies : List Copy) (s : State) (r : Room) : Type 0 where
    pub extents : AreExtentsOf S aside s.world.extents r
    pub chunks : (id : ℕ) → AreChunksIn s copies id (of_id id r.chunks)
    pub runs : r.runs ≡ run_places s.runs
    pub rooted : r.rooted ≡ is_none s.table
    pub sweep : IsSweepOf S s r.sweep

  -- r is the room of the state
  abbrev pub IsRoomOf : State → Room → Type 0
  IsRoomOf s r = IsRoomBut (is_aside S s) (copies_now S s) s r

  -- the state is sound, and r is its room and keeps the invariant
  pub record HasRoomNow (s : State) (r : Room) : Type 0 where
    pub sound : Sound S F s
    pub bounded : Bounded S F s
    pub room : IsRoomOf s r
    pub keeps : Keeps S S.run_extents r
    -- where no copy is noted, none of the extents is noted as opened by a sweep
    pub unopened : s.copies ≡ [] → s.world.extents.fresh ≡ None

  -- each run fits on an extent
  abbrev pub RunsFit : Type 0
  RunsFit = (entries : List Entry) → IsRunList S entries → length (F.frame RunFrame (F.run entries)) ≤ S.pages

  -- each chunk fits on an extent, with its head
  abbrev pub ChunksFit : Type 0
  ChunksFit = (id number count command : ℕ) (piece : List ℕ) → length piece ≤ S.chunk_bytes
      → length (F.frame ChunkFrame (F.chunk id number count command piece)) ≤ S.pages

  -- what an event of the machine is in room
  abbrev pub InRoom : Event → Reply → Room → Room → Type 0
  InRoom (Put id bytes) (Accepted n) r q =
      (command : ℕ) × (chunks : List (List ℕ)) × ArePayloads S F id command bytes chunks
      × Does S S.run_extents r (PutInRoom id (page_counts (chunk_frames S F chunks))) q
  InRoom (Delete id) (Accepted n) r q = Does S S.run_extents r (DeleteInRoom id) q
  InRoom Stage (Staged v) r q =
      (newest : ℕ) × (pages : ℕ) × (all : ℕ) × Does S S.run_extents r (StageInRoom newest pages all) q
  InRoom (BeginSweep e) Sweeping r q = Does S S.run_extents r (BeginInRoom e) q
  InRoom (MoveOne e) (Moved id chunk) r q = Does S S.run_extents r MoveInRoom q
  InRoom (Retire e) (Retired v) r q =
      (newest : ℕ) × (pages : ℕ) × (all : ℕ) × Does S S.run_extents r (RetireInRoom newest pages all) q
  InRoom (Abandon e) Abandoned r q = Does S S.run_extents r AbandonInRoom q
  InRoom event reply r q = q ≡ r

  -- p names what these runs name that are read there, its copies left aside, and no more pages of an extent than are given
  pub record Names (opening : Opening) (img : ℕ → Page) (pointers generations : ℕ → ℕ) (of : List Run)
      (p : Root) : Type 0 where
    pub chunks : (id : ℕ) → AreChunksOf opening img pointers generations [] id 0 (live_at (entries_of of) id)
        (of_id id (map forget p.chunks))
    pub runs : p.runs ≡ run_places of
    pub given : (e : ℕ) → is_named p e ≡ true → p.pointers e ≤ pointers e

  -- p is the root of room that an image gives: it names what is read there, and keeps the quotas
  pub record IsRootIn (img : ℕ → Page) (n : ℕ) (m : Map) (gives : Recovers S F img n m) (p : Root) : Type 0 where
    pub names : Names (opening_in S F img gives.pointers gives.generations) img gives.pointers gives.generations
        gives.runs p
    pub root : IsRoot S S.run_extents p
