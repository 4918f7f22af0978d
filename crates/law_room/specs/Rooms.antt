-- A store as far as room goes: what lies on each extent, what lives, and what roots name.
use Rattle.std.specs.Prelude.{◌∷◌, ◌==◌, ◌||◌, ◌&&◌, ◌+◌, ℕ, Bool, true, false, List, Option, Some, None, is_none, [], if◌then◌else◌}
pub use Rattle.law_machine.specs.Extents.{how_many, one_if}

-- what lies on an extent: nothing, frames of chunks or frames of runs. No extent has both
pub data Holding : Type 0 where
  Empty OfChunks OfRuns : Holding

-- a chunk that lives
pub record Chunk : Type 0 where
  -- the identifier whose chunk it is
  pub id : ℕ
  -- the extent on which its frame lies, and how many pages the frame takes
  pub extent : ℕ
  pub pages : ℕ
  -- the extent on which the unfinished sweep has written a copy of it, if it has
  pub copy : Option ℕ

-- a root as far as room goes: the chunks and the extents of the runs that it names, the newest run first, and how many
-- pages of each extent were given as it was staged
pub record Root : Type 0 where
  pub chunks : List Chunk
  pub runs : List ℕ
  pub pointers : ℕ → ℕ

-- an unfinished sweep
pub record Sweep : Type 0 where
  -- the extent that is swept, the one that the sweep opened, if it has, and all on which it has written copies
  pub extent : ℕ
  pub fresh : Option ℕ
  pub targets : List ℕ

-- a store
pub record Room : Type 0 where
  -- of each extent: how many of its pages are given, and what lies on it
  pub pointer : ℕ → ℕ
  pub holds : ℕ → Holding
  -- the chunks that live, and the extent of each run, the newest run first
  pub chunks : List Chunk
  pub runs : List ℕ
  -- whether the newest root that was staged names these: the table is empty
  pub rooted : Bool
  -- the extent to which the last frame of a put went
  pub open_extent : Option ℕ
  -- the sweep that isn't finished, if there is one, and the extent to which the last copy of any sweep went
  pub sweep : Option Sweep
  pub last : Option ℕ
  -- the roots that wait, the newest first, and behind them the persistent one
  pub roots : List Root

-- the tests of what lies on an extent
abbrev pub is_empty : Holding → Bool
is_empty Empty = true
is_empty OfChunks = false
is_empty OfRuns = false

abbrev pub is_of_chunks : Holding → Bool
is_of_chunks Empty = false
is_of_chunks OfChunks = true
is_of_chunks OfRuns = false

abbrev pub is_of_runs : Holding → Bool
is_of_runs Empty = false
is_of_runs OfChunks = false
is_of_runs OfRuns = true

-- how many pages those chunks take that pass the test
abbrev pub pages_of : (Chunk → Bool) → List Chunk → ℕ
pages_of test [] = 0
pages_of test (c ∷ cs) = (if test c then c.pages else 0) + pages_of test cs

-- there is a number, and it is e
abbrev pub is_at : Option ℕ → ℕ → Bool
is_at None e = false
is_at (Some d) e = d == e

-- e is in the list
abbrev pub has : List ℕ → ℕ → Bool
has [] e = false
has (d ∷ ds) e = (d == e) || has ds e

-- one of the chunks lies on e
abbrev pub any_on : List Chunk → ℕ → Bool
any_on [] e = false
any_on (c ∷ cs) e = (c.extent == e) || any_on cs e

-- the pages of the chunks on e, of the copies on e, and of the chunks on e that aren't copied yet
abbrev pub live_pages : List Chunk → ℕ → ℕ
live_pages cs e = pages_of (λ c. c.extent == e) cs

abbrev pub copied_pages : List Chunk → ℕ → ℕ
copied_pages cs e = pages_of (λ c. is_at c.copy e) cs

abbrev pub left_pages : List Chunk → ℕ → ℕ
left_pages cs e = pages_of (λ c. (c.extent == e) && is_none c.copy) cs

-- the pages of all chunks
abbrev pub all_pages : List Chunk → ℕ
all_pages cs = pages_of (λ c. true) cs

-- the chunks but for those of an identifier
abbrev pub without : ℕ → List Chunk → List Chunk
without id [] = []
without id (c ∷ cs) = if c.id == id then without id cs else c ∷ without id cs

-- how many of the extents below n hold chunks, and how many runs
abbrev pub chunk_extents : Room → ℕ → ℕ
chunk_extents s n = how_many (λ e. is_of_chunks (s.holds e)) n

abbrev pub run_extents : Room → ℕ → ℕ
run_extents s n = how_many (λ e. is_of_runs (s.holds e)) n

-- 1 where the unfinished sweep has opened an extent, else 0
abbrev pub opened_by : Option Sweep → ℕ
opened_by None = 0
opened_by (Some w) = one_if w.fresh

-- that extent
abbrev pub fresh_of : Option Sweep → Option ℕ
fresh_of None = None
fresh_of (Some w) = w.fresh

-- the root names a chunk or a run on e
abbrev pub is_named : Root → ℕ → Bool
is_named r e = any_on r.chunks e || has r.runs e
