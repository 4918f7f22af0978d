-- What every store keeps: the two quotas, what its roots name, and that its frames lie where they should.
use Rattle.std.specs.Prelude.{◌≡◌, ◌≢◌, ◌⊎◌, ◌+◌, ◌<◌, ◌≤◌, ◌∷◌, ◌||◌, ℕ, true, false, List, Option, Some, None}
use Rattle.law_machine.specs.Device.{Shape}
use Rattle.law_machine.specs.Lists.{◌∈◌}
use Rattle.law_room.specs.Rooms.{Chunk, Empty, OfChunks, OfRuns, Room, Root, Sweep, any_on, chunk_extents, copied_pages, fresh_of, has, how_many, is_at, is_named, left_pages, live_pages, opened_by, run_extents}

-- J: how many extents may hold runs
module _ (S : Shape) (J : ℕ) where
  -- at most J extents hold runs, and all but J + 2 chunks; the one that the unfinished sweep opened isn't counted
  pub record IsWithinQuotas (s : Room) : Type 0 where
    pub chunks : chunk_extents s S.extents + J + 2 ≤ S.extents + opened_by s.sweep
    pub runs : run_extents s S.extents ≤ J

  -- a root names chunks on at most all but J + 2 extents, runs on at most J, and no extent for both; its pages were given
  pub record IsRoot (r : Root) : Type 0 where
    pub few_chunks : how_many (any_on r.chunks) S.extents + J + 2 ≤ S.extents
    pub few_runs : how_many (has r.runs) S.extents ≤ J
    pub apart : (c : Chunk) → c ∈ r.chunks → has r.runs c.extent ≡ false
    pub chunks_there : (c : Chunk) → c ∈ r.chunks → c.extent < S.extents
    pub runs_there : (e : ℕ) → e ∈ r.runs → e < S.extents
    pub given : (e : ℕ) → e < S.extents → live_pages r.chunks e ≤ r.pointers e

  -- frames lie where they should: chunks and copies take no more pages of an extent than are given, an empty one has none,
  -- and each chunk and each run lies on an extent of its kind
  pub record LiesRight (s : Room) : Type 0 where
    pub given : (e : ℕ) → e < S.extents → live_pages s.chunks e + copied_pages s.chunks e ≤ s.pointer e
    pub fits : (e : ℕ) → e < S.extents → s.pointer e ≤ S.pages
    pub empty : (e : ℕ) → s.holds e ≡ Empty → s.pointer e ≡ 0
    pub chunks : (c : Chunk) → c ∈ s.chunks → (c.extent < S.extents) × (s.holds c.extent ≡ OfChunks)
    pub runs : (e : ℕ) → e ∈ s.runs → (e < S.extents) × (s.holds e ≡ OfRuns)

  -- the unfinished sweep: copies lie on extents of chunks other than the swept one; on the extent that it opened lies nothing
  -- else, there the last copy went, and all that isn't copied yet fits behind it
  pub record IsSweep (s : Room) (w : Sweep) : Type 0 where
    pub swept : (w.extent < S.extents) × (s.holds w.extent ≡ OfChunks)
    pub targets : (e : ℕ) → e ∈ w.targets → (e < S.extents) × (s.holds e ≡ OfChunks) × (e ≢ w.extent)
    pub copies : (c : Chunk) (e : ℕ) → c ∈ s.chunks → c.copy ≡ Some e → e ∈ w.targets
    pub fresh : (e : ℕ) → w.fresh ≡ Some e → (e ∈ w.targets) × (s.last ≡ Some e) × (any_on s.chunks e ≡ false)
        × (s.pointer e + left_pages s.chunks w.extent ≤ S.pages)

  -- with no sweep there are no copies
  abbrev pub SweepsRight : Room → Option Sweep → Type 0
  SweepsRight s None = (c : Chunk) → c ∈ s.chunks → c.copy ≡ None
  SweepsRight s (Some w) = IsSweep s w

  -- the invariant
  pub record Keeps (s : Room) : Type 0 where
    pub quotas : IsWithinQuotas s
    pub lies : LiesRight s
    pub sweeps : SweepsRight s s.sweep
    -- of a root that is persistent or waits
    pub roots : (r : Root) → r ∈ s.roots → IsRoot r

  -- what the newest root names stands: no such extent is empty or was opened by the unfinished sweep, and where the table is
  -- empty, a chunk or a run lies there now
  pub record KeepsNewest (s : Room) : Type 0 where
    pub newest : Root
    pub older : List Root
    pub first : s.roots ≡ newest ∷ older
    pub stands : (e : ℕ) → is_named newest e ≡ true → (s.holds e ≢ Empty) × (is_at (fresh_of s.sweep) e ≡ false)
    pub lives : s.rooted ≡ true → (e : ℕ) → is_named newest e ≡ true → (any_on s.chunks e || has s.runs e) ≡ true

-- e has as many pages given as before or more, to frames of the kind that it had
abbrev pub Grows : (s t : Room) → ℕ → Type 0
Grows s t e = (s.pointer e ≤ t.pointer e) × ((s.holds e ≡ Empty) ⊎ (t.holds e ≡ s.holds e))

-- e is empty now, and the newest root names nothing there
abbrev pub IsReset : Room → ℕ → Type 0
IsReset t e = (t.holds e ≡ Empty)
    × ((newest : Root) (older : List Root) → t.roots ≡ newest ∷ older → is_named newest e ≡ false)
