-- The events, by rules under which no store is ever stuck: where frames go, and what is reset.
use Rattle.std.specs.Prelude.{◌≡◌, ◌≢◌, ◌⊎◌, ◌+◌, ◌<◌, ◌≤◌, ◌∷◌, ◌++◌, ◌==◌, ◌||◌, ◌&&◌, ℕ, suc, Bool, true, false, not, List, Option, Some, None, is_some, map, take, drop, [], if◌then◌else◌}
use Rattle.law_machine.specs.Device.{Shape}
use Rattle.law_machine.specs.Lists.{with, ◌∈◌}
use Rattle.law_room.specs.Rooms.{Chunk, Empty, Holding, OfChunks, OfRuns, Room, Root, Sweep, any_on, chunk_extents, has, is_at, is_named, opened_by, run_extents, without}

-- the events that matter for room
pub data Event : Type 0 where
  -- a put of frames of these numbers of pages
  Put : (id : ℕ) (sizes : List ℕ) → Event
  Delete : (id : ℕ) → Event
  -- how many of the newest runs the table is merged with, and how many pages that run takes; how many one run of all takes
  Stage Retire : (newest pages all : ℕ) → Event
  BeginSweep : (extent : ℕ) → Event
  MoveOne Abandon : Event
  -- a round ends, and of the roots so many that wait are left
  End : (waiting : ℕ) → Event
  -- a crash, or none, and an opening at this root; of each extent the pages that the superblock says are given
  Open : (root : Root) (found : ℕ → ℕ) → Event

-- k more pages of e are given, to frames of this kind
abbrev pub given : Room → (e k : ℕ) → Holding → Room
given s e k kind = record s {
  pointer = with s.pointer e (s.pointer e + k);
  holds = λ d. if d == e then kind else s.holds d;
}

-- the extent, but none where the test passes
abbrev pub unless : (ℕ → Bool) → Option ℕ → Option ℕ
unless test None = None
unless test (Some e) = if test e then None else Some e

-- the extents that pass the test are reset
abbrev pub reset : Room → (ℕ → Bool) → Room
reset s test = record s {
  pointer = λ e. if test e then 0 else s.pointer e;
  holds = λ e. if test e then Empty else s.holds e;
  open_extent = unless test s.open_extent;
  last = unless test s.last;
}

-- the extent is being swept, or a copy of the unfinished sweep lies there
abbrev pub is_held : Option Sweep → ℕ → Bool
is_held None e = false
is_held (Some w) e = (w.extent == e) || has w.targets e

-- nothing that lives lies on e, and no run, and the unfinished sweep doesn't hold it
abbrev pub is_blank : Room → ℕ → Bool
is_blank s e = not (any_on s.chunks e || (has s.runs e || is_held s.sweep e))

-- all blank extents are reset, which writes nothing
abbrev pub freed : Room → Room
freed s = reset s (is_blank s)

-- the chunks of an identifier don't live any more
abbrev pub dropped : Room → ℕ → Room
dropped s id = record s { chunks = without id s.chunks; rooted = false }

-- a root is staged over these runs, and what it doesn't name is reset
abbrev pub staged : Room → List ℕ → Room
staged s runs = freed (record s {
  runs = runs;
  rooted = true;
  roots = record { chunks = s.chunks; runs = runs; pointers = s.pointer } ∷ s.roots;
})

-- the chunk lies where its copy is, or where it lay
abbrev pub place_of : Option ℕ → ℕ → ℕ
place_of None e = e
place_of (Some d) e = d

-- a chunk with its copy in its place; one without its copy
abbrev pub settle : Chunk → Chunk
settle c = record c { extent = place_of c.copy c.extent; copy = None }

abbrev pub forget : Chunk → Chunk
forget c = record c { copy = None }

-- one of the chunks has a copy
abbrev pub any_copied : List Chunk → Bool
any_copied [] = false
any_copied (c ∷ cs) = is_some c.copy || any_copied cs

-- what a sweep moved counts: each chunk that lives lies where its copy is, and the sweep is over
abbrev pub settled : Room → Room
settled s = record s {
  chunks = map settle s.chunks;
  rooted = s.rooted && not (any_copied s.chunks);
  sweep = None;
}

-- the sweep is over, and what it wrote is garbage: the extent that it opened is reset
abbrev pub abandoned : Room → Option ℕ → Room
abandoned s fresh = reset (record s { chunks = map forget s.chunks; sweep = None }) (is_at fresh)

-- what lies on an extent at an opening: whether the root names chunks there, and runs
abbrev pub found_holding : (chunks runs : Bool) → Holding
found_holding true runs = OfChunks
found_holding false true = OfRuns
found_holding false false = Empty

-- the store that is opened at a root: what it names lies where it lay, and all else is reset
abbrev pub opened : Root → (ℕ → ℕ) → Room
opened r found = record {
  pointer = λ e. if is_named r e then found e else 0;
  holds = λ e. found_holding (any_on r.chunks e) (has r.runs e);
  chunks = map forget r.chunks;
  runs = r.runs;
  rooted = true;
  open_extent = None;
  sweep = None;
  last = None;
  roots = r ∷ [];
}

module _ (S : Shape) where
  -- the frame of k pages fits behind e, which holds frames of its kind; e is empty, and the frame fits there
  abbrev pub Behind : Room → Holding → (k e : ℕ) → Type 0
  Behind s kind k e = (e < S.extents) × (s.holds e ≡ kind) × (s.pointer e + k ≤ S.pages)

  abbrev pub OnEmpty : Room → (k e : ℕ) → Type 0
  OnEmpty s k e = (e < S.extents) × (s.holds e ≡ Empty) × (k ≤ S.pages)

  -- e is neither swept nor opened by the unfinished sweep
  abbrev pub LeftAlone : Option Sweep → ℕ → Type 0
  LeftAlone sweep e = (w : Sweep) → sweep ≡ Some w → (w.extent ≢ e) × (w.fresh ≢ Some e)

  -- a put's frame of k pages fits behind e, and the unfinished sweep leaves e alone
  abbrev pub TakesPut : Room → (k e : ℕ) → Type 0
  TakesPut s k e = Behind s OfChunks k e × LeftAlone s.sweep e

  -- it doesn't fit behind the last one
  abbrev pub OpenIsFull : Room → ℕ → Type 0
  OpenIsFull s k = (e : ℕ) → s.open_extent ≡ Some e → TakesPut s k e → ⊥

  -- where extents are filled up, it fits behind no extent
  abbrev pub NoneTakesPut : Room → ℕ → Type 0
  NoneTakesPut s k = S.fills ≡ true → (e : ℕ) → TakesPut s k e → ⊥

  -- a put's frame of k pages goes behind the last one; if it doesn't fit there, behind other chunks; or on an empty extent, where
  -- extents are filled up only if it fits behind none
  abbrev pub GoesForPut : Room → (k e : ℕ) → Type 0
  GoesForPut s k e =
      ((s.open_extent ≡ Some e) × TakesPut s k e)
      ⊎ (OpenIsFull s k × TakesPut s k e)
      ⊎ (OpenIsFull s k × OnEmpty s k e × NoneTakesPut s k)

  -- the frame of a put's chunk is written to e
  abbrev pub with_chunk : Room → (id k e : ℕ) → Room
  with_chunk s id k e = record (given s e k OfChunks) {
    chunks = record { id = id; extent = e; pages = k; copy = None } ∷ s.chunks;
    open_extent = Some e;
  }

  -- frames of these numbers of pages are written one after another
  abbrev pub Writes : Room → ℕ → List ℕ → Room → Type 0
  Writes s id [] t = t ≡ s
  Writes s id (k ∷ ks) t = (e : ℕ) × GoesForPut s k e × Writes (with_chunk s id k e) id ks t

  -- the chunk is on the swept extent, and isn't copied yet
  abbrev pub IsLeft : Sweep → Chunk → Type 0
  IsLeft w c = (c.extent ≡ w.extent) × (c.copy ≡ None)

  -- the sweep's copy of k pages fits behind e
  abbrev pub TakesCopy : Room → Sweep → (k e : ℕ) → Type 0
  TakesCopy s w k e = Behind s OfChunks k e × (e ≢ w.extent)

  -- it doesn't fit behind the extent to which the last copy went
  abbrev pub LastIsFull : Room → Sweep → ℕ → Type 0
  LastIsFull s w k = (e : ℕ) → s.last ≡ Some e → TakesCopy s w k e → ⊥

  -- where extents are filled up, it fits behind no extent
  abbrev pub NoneTakesCopy : Room → Sweep → ℕ → Type 0
  NoneTakesCopy s w k = S.fills ≡ true → (e : ℕ) → TakesCopy s w k e → ⊥

  -- a copy of k pages goes behind the last one; if it doesn't fit there, behind other chunks; or on an empty extent, where extents
  -- are filled up only if it fits behind none. The sweep has opened none, or this one
  abbrev pub GoesForCopy : Room → Sweep → (k e : ℕ) → Option ℕ → Type 0
  GoesForCopy s w k e fresh =
      ((s.last ≡ Some e) × TakesCopy s w k e × (fresh ≡ w.fresh))
      ⊎ (LastIsFull s w k × TakesCopy s w k e × (fresh ≡ w.fresh))
      ⊎ (LastIsFull s w k × OnEmpty s k e × (w.fresh ≡ None) × (fresh ≡ Some e) × NoneTakesCopy s w k)

  -- the copy of a chunk is written to e. The chunk itself lies where it lay
  abbrev pub with_copy : Room → Sweep → (before : List Chunk) → Chunk → (behind : List Chunk) → ℕ → Option ℕ → Room
  with_copy s w before c behind e fresh = record (given s e c.pages OfChunks) {
    chunks = before ++ record c { copy = Some e } ∷ behind;
    sweep = Some (record w { fresh = fresh; targets = e ∷ w.targets });
    last = Some e;
  }

  -- all that lives on the swept extent is copied
  abbrev pub AllCopied : Room → Sweep → Type 0
  AllCopied s w = (c : Chunk) → c ∈ s.chunks → IsLeft w c → ⊥

module _ (S : Shape) (J : ℕ) where
  -- a run of k pages may go to e: behind runs, or on an empty extent where fewer than J hold runs
  abbrev pub GoesForRun : Room → (k e : ℕ) → Type 0
  GoesForRun s k e = Behind S s OfRuns k e ⊎ (OnEmpty S s k e × (run_extents s S.extents < J))

  -- the table becomes a run, and a root is staged: nothing is to be staged; the table and the newest runs become one; all
  -- becomes one on an empty extent, as where that run goes nowhere; or nothing lives, and there is no run
  abbrev pub Stages : Room → (newest pages all : ℕ) → Room → Type 0
  Stages s newest pages all t =
      ((s.rooted ≡ true) × (t ≡ freed s))
      ⊎ ((s.rooted ≡ false) × (e : ℕ) × GoesForRun s pages e
      × (t ≡ staged (given s e pages OfRuns) (e ∷ drop newest s.runs)))
      ⊎ ((s.rooted ≡ false) × (e : ℕ) × OnEmpty S s all e
      × (t ≡ staged (given s e all OfRuns) (e ∷ [])))
      ⊎ ((s.rooted ≡ false) × (s.chunks ≡ []) × (t ≡ staged s []))

  -- what an event does
  abbrev pub Does : Room → Event → Room → Type 0
  Does s (Put id sizes) t = Writes S (dropped s id) id sizes t
      × (chunk_extents t S.extents + J + 2 ≤ S.extents + opened_by s.sweep)
  Does s (Delete id) t = t ≡ dropped s id
  Does s (Stage newest pages all) t = Stages s newest pages all t
  Does s (BeginSweep e) t = (s.sweep ≡ None) × (e < S.extents) × (s.holds e ≡ OfChunks)
      × (t ≡ record s {
        sweep = Some (record { extent = e; fresh = None; targets = [] });
        open_extent = unless (λ d. d == e) s.open_extent;
        last = unless (λ d. d == e) s.last;
      })
  Does s MoveOne t = (w : Sweep) × (before : List Chunk) × (c : Chunk) × (behind : List Chunk) × (e : ℕ)
      × (fresh : Option ℕ) × (s.sweep ≡ Some w) × (s.chunks ≡ before ++ c ∷ behind) × IsLeft S w c
      × GoesForCopy S s w c.pages e fresh × (t ≡ with_copy S s w before c behind e fresh)
  Does s (Retire newest pages all) t = (w : Sweep) × (s.sweep ≡ Some w) × AllCopied S s w
      × Stages (settled s) newest pages all t
  Does s Abandon t = (w : Sweep) × (s.sweep ≡ Some w) × (t ≡ abandoned s w.fresh)
  Does s (End waiting) t = t ≡ record s { roots = take (suc waiting) s.roots }
  Does s (Open r found) t = (r ∈ s.roots) × ((e : ℕ) → e < S.extents → found e ≤ S.pages)
      × ((e : ℕ) → is_named r e ≡ true → r.pointers e ≤ found e) × (t ≡ opened r found)

  -- a run is to be written, and has no place, however much is merged
  abbrev pub NoPlaceForRun : Room → (pages all : ℕ) → Type 0
  NoPlaceForRun s pages all = (s.rooted ≡ false) × (s.chunks ≢ []) × ((e : ℕ) → GoesForRun s pages e → ⊥)
      × ((e : ℕ) → OnEmpty S s all e → ⊥)

  -- refused 30: by the rules there is no place
  abbrev pub Refused30 : Room → Event → Type 0
  Refused30 s (Put id sizes) = (t : Room) → Does s (Put id sizes) t → ⊥
  Refused30 s (Stage newest pages all) = NoPlaceForRun s pages all
  Refused30 s MoveOne = (w : Sweep) × (c : Chunk) × (s.sweep ≡ Some w) × (c ∈ s.chunks) × IsLeft S w c
      × ((e : ℕ) (fresh : Option ℕ) → GoesForCopy S s w c.pages e fresh → ⊥)
  Refused30 s (Retire newest pages all) = (w : Sweep) × (s.sweep ≡ Some w) × AllCopied S s w
      × NoPlaceForRun (settled s) pages all
  Refused30 s event = ⊥
