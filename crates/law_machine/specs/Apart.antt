-- The events where chunks and runs lie apart: what a Stage and a sweep do, and which extents are reset then.
use Rattle.std.specs.Prelude.{◌≡◌, ◌≢◌, ◌⊎◌, ◌<◌, ◌≤◌, ◌∷◌, ◌==◌, ◌&&◌, ◌||◌, ℕ, zero, suc, Bool, true, false, not, nat_le, nat_lt, List, length, Option, Some, None, [], if◌then◌else◌}
use Rattle.law_machine.specs.Append.{AppendsFrameBy}
use Rattle.law_machine.specs.Changes.{ReadsNow, mark, rooted}
use Rattle.law_machine.specs.Device.{Shape}
use Rattle.law_machine.specs.Element.{Copy, Entry, Locator, Root, Run, roots_of}
use Rattle.law_machine.specs.Extents.{Extents, ForMerge, ForMove, ForRun, emptied, forgotten, other_than}
use Rattle.law_machine.specs.Formats.{ChunkFrame, Formats}
use Rattle.law_machine.specs.Index.{entries_of, live_at}
use Rattle.law_machine.specs.Lists.{nth, replaced, ◌∈◌}
use Rattle.law_machine.specs.Meant.{same_mark}
use Rattle.law_machine.specs.Merges.{MergesPart, deletions_go, stage_takes}
use Rattle.law_machine.specs.Refusal.{Refusal}
use Rattle.law_machine.specs.State.{State, index_now}
use Rattle.law_machine.specs.Tally.{lives_on}

-- the first where chunks and runs may lie on one extent, the second where they lie apart
abbrev pub by_rule : (apart : Bool) → Type 0 → Type 0 → Type 0
by_rule false Before Apart = Before
by_rule true Before Apart = Apart

-- one of the numbers below n passes the test
abbrev pub any_below : (ℕ → Bool) → ℕ → Bool
any_below test zero = false
any_below test (suc n) = test n || any_below test n

-- one of the runs lies on the extent; one of the copies was written there
abbrev pub any_run_on : List Run → ℕ → Bool
any_run_on [] e = false
any_run_on (run ∷ runs) e = (run.place.extent == e) || any_run_on runs e

abbrev pub any_copy_on : List Copy → ℕ → Bool
any_copy_on [] e = false
any_copy_on (c ∷ cs) e = (c.to.extent == e) || any_copy_on cs e

-- the table is empty
abbrev pub is_none : List Entry → Bool
is_none [] = true
is_none (x ∷ xs) = false

-- there is a copy
abbrev pub some_copy : List Copy → Bool
some_copy [] = false
some_copy (c ∷ cs) = true

-- the pointers that a root of these runs is staged with: extents on which nothing lives and no run lies count as empty
abbrev pub named : (pointer : ℕ → ℕ) → List Run → ℕ → ℕ
named pointer runs e = if nat_lt 0 (lives_on e (entries_of runs)) || any_run_on runs e then pointer e else 0

-- two locators are one
abbrev pub same_place : Locator → Locator → Bool
same_place k l = same_mark k.mark l.mark
    && ((k.extent == l.extent) && ((k.page == l.page) && (k.generation == l.generation)))

-- there is a locator, and it is l
abbrev pub is_place : Option Locator → Locator → Bool
is_place None l = false
is_place (Some k) l = same_place k l

-- this chunk is one of those that were copied, from l
abbrev pub IsCopyOf : List Copy → (id chunk : ℕ) → Locator → Type 0
IsCopyOf copies id chunk l = (c : Copy) × (c ∈ copies) × (c.id ≡ id) × (c.chunk ≡ chunk) × (c.from ≡ l)

-- of an index each chunk that lives on the extent is copied
abbrev pub AllCopied : (index : List Entry) → List Copy → ℕ → Type 0
AllCopied index copies e = (id chunk : ℕ) (l : Locator) → nth (live_at index id) chunk ≡ Some l → l.extent ≡ e
    → IsCopyOf copies id chunk l

-- the first chunk of an index that lives on the extent and isn't copied, by identifier and chunk
pub record FirstUncopied (index : List Entry) (copies : List Copy) (e id chunk : ℕ) (l : Locator) : Type 0 where
  pub there : nth (live_at index id) chunk ≡ Some l
  pub on_it : l.extent ≡ e
  pub left : IsCopyOf copies id chunk l → ⊥
  pub first : (d k : ℕ) (x : Locator) → nth (live_at index d) k ≡ Some x → x.extent ≡ e
      → IsCopyOf copies d k x ⊎ ((id < d) ⊎ ((id ≡ d) × (chunk ≤ k)))

-- in a state: this chunk was copied from l; each chunk that lives on the extent is copied; the first one that isn't
abbrev pub IsCopied : State → (id chunk : ℕ) → Locator → Type 0
IsCopied s id chunk l = IsCopyOf s.copies id chunk l

abbrev pub NothingLeft : State → ℕ → Type 0
NothingLeft s e = AllCopied (index_now s) s.copies e

abbrev pub FirstLeft : State → (e id chunk : ℕ) → Locator → Type 0
FirstLeft s e id chunk l = FirstUncopied (index_now s) s.copies e id chunk l

-- the chunk counts where its copy is, if it still lies where it was copied from
abbrev pub settle : State → Copy → State
settle s c = record s {
  table = if is_place (nth (live_at (index_now s) c.id) c.chunk) c.from
      then record { id = c.id; locators = replaced (live_at (index_now s) c.id) c.chunk c.to } ∷ s.table else s.table;
}

-- so do all of these, the oldest first
abbrev pub settle_all : State → List Copy → State
settle_all s [] = s
settle_all s (c ∷ cs) = settle (settle_all s cs) c

-- what the sweep copied counts
abbrev pub settled : State → State
settled s = record (settle_all s s.copies) { copies = [] }

-- an extent keeps its generation, and no fewer of its pages are given
abbrev pub Grows : (s t : State) → ℕ → Type 0
Grows s t e = (t.world.extents.generation e ≡ s.world.extents.generation e)
    × (s.world.extents.pointer e ≤ t.world.extents.pointer e)

-- an extent was reset under the last root, which names nothing there: nothing that lives in its runs, and none of them
pub record IsFreed (s t : State) (e : ℕ) : Type 0 where
  pub generation : t.world.extents.generation e ≡ suc (s.world.extents.generation e)
  pub empty : t.world.extents.pointer e ≡ 0
  pub root : (r : Root) × (r ∈ roots_of t.world.elements) × (r.version ≡ t.world.root) × (r.runs ≡ t.runs)
  pub staged : t.table ≡ []
  pub none_lives : (id : ℕ) (l : Locator) → l ∈ live_at (entries_of t.runs) id → l.extent ≢ e
  pub no_run : (run : Run) → run ∈ t.runs → run.place.extent ≢ e

module _ (S : Shape) where
  -- an extent is being swept
  abbrev pub is_any_swept : Extents → Bool
  is_any_swept x = any_below x.swept S.extents

  -- the unfinished sweep goes on there, or has written a copy there
  abbrev pub is_held_by : Extents → List Copy → ℕ → Bool
  is_held_by x copies e = is_any_swept x && (x.swept e || any_copy_on copies e)

  -- frames lie on the extent, but none that lives and no run, the unfinished sweep doesn't hold it, and its generation may rise
  abbrev pub is_blank_by : Extents → (index : List Entry) → List Run → List Copy → ℕ → Bool
  is_blank_by x index runs copies e = (nat_lt 0 (x.pointer e) && nat_le (lives_on e index) 0)
      && (not (any_run_on runs e || is_held_by x copies e) && nat_lt (x.generation e) S.greatest_generation)

  -- so in a state
  abbrev pub any_swept : State → Bool
  any_swept s = is_any_swept s.world.extents

  abbrev pub is_held : State → ℕ → Bool
  is_held s e = is_held_by s.world.extents s.copies e

  abbrev pub is_blank : State → ℕ → Bool
  is_blank s e = is_blank_by s.world.extents (index_now s) s.runs s.copies e

  -- the extents below n that pass the test are reset under this root, one after another
  abbrev pub reset_all : Extents → (root : ℕ) → (ℕ → Bool) → ℕ → Extents
  reset_all x root test zero = x
  reset_all x root test (suc n) = if test n then forgotten S.apart (emptied (reset_all x root test n) n root) n
      else reset_all x root test n

  -- all blank extents are reset under the last root
  abbrev pub freed : State → State
  freed s = record s {
    world = record s.world { extents = reset_all s.world.extents s.world.root (is_blank s) S.extents };
  }

  -- where no extent is being swept no copy counts any more, and no extent is one that a sweep opened
  abbrev pub rested : State → State
  rested s = record s {
    copies = if any_swept s then s.copies else [];
    world = record s.world {
      extents = record s.world.extents { fresh = if any_swept s then s.world.extents.fresh else None };
    };
  }

  -- a sweep was given up, and its copies are still noted, until the next root
  abbrev pub left_over : State → Bool
  left_over s = not (any_swept s) && some_copy s.copies

  -- there is something to stage a root for
  abbrev pub MayStage : State → Type 0
  MayStage s = (s.table ≢ []) ⊎ (left_over s ≡ true)

  -- how many of the newest runs are merged: none where the table is empty
  abbrev pub takes : State → ℕ
  takes s = if is_none s.table then 0 else stage_takes S s

  -- the extent is being swept, and is neither the open one nor the last one of a sweep any more
  abbrev pub swept_aside : Extents → ℕ → Extents
  swept_aside x e = record x {
    swept = λ d. if d == e then true else x.swept d;
    open_extent = other_than e x.open_extent;
    last = other_than e x.last;
  }

  abbrev pub sweeping : State → ℕ → State
  sweeping s e = record s { world = record s.world { extents = swept_aside s.world.extents e } }

  -- one sweep goes on at a time, of an extent of chunks
  abbrev pub BeginsApart : State → ℕ → State → Type 0
  BeginsApart s e t = (any_swept s ≡ false) × (s.copies ≡ []) × (e < S.extents) × (0 < s.world.extents.pointer e)
      × (s.world.extents.of_runs e ≡ false) × (t ≡ sweeping s e)

  -- the extent can't be swept
  abbrev pub MayNotBegin : Extents → List Copy → ℕ → Type 0
  MayNotBegin x copies e = (is_any_swept x ≡ true) ⊎ (copies ≢ []) ⊎ (S.extents ≤ e) ⊎ (x.pointer e ≡ 0) ⊎ (x.of_runs e ≡ true)

  abbrev pub NotSweepableApart : State → ℕ → Type 0
  NotSweepableApart s e = MayNotBegin s.world.extents s.copies e

module _ (S : Shape) (F : Formats) where
  -- the root of these runs is staged, which names nothing on blank extents, and they are reset under it
  abbrev pub rooted_apart : State → List Run → State
  rooted_apart s runs = freed S (rested S (rooted S F s runs (named s.world.extents.pointer runs)))

  -- the table and as many of the newest runs as a Stage takes become one run; all become one
  abbrev pub MergesFor : State → (all : Bool) → State → List Run → Type 0
  MergesFor s false t runs = MergesPart S F true (deletions_go S s (takes S s)) s ForRun (takes S s) t runs
  MergesFor s true t runs = MergesPart S F true (deletions_go S s (length s.runs)) s ForMerge (length s.runs) t runs

  -- as many runs are merged as a Stage takes; where that run goes nowhere all of them, onto an empty extent
  abbrev pub MergesApart : State → State → List Run → Type 0
  MergesApart s t runs = MergesFor s false t runs
      ⊎ (((u : State) (others : List Run) → MergesFor s false u others → ⊥) × MergesFor s true t runs)

  -- runs are merged, and the root is staged
  abbrev pub StagesApart : State → State → Type 0
  StagesApart s t = (mid : State) × (runs : List Run) × MergesApart s mid runs × (t ≡ rooted_apart mid runs)

  -- the first chunk that is left on the swept extent is copied; it counts where it lay
  abbrev pub MovesApart : State → (e id chunk : ℕ) → State → Type 0
  MovesApart s e id chunk t = (l : Locator) × (new : Locator) × (payload : List ℕ) × (mid : State)
      × (s.world.extents.swept e ≡ true) × FirstLeft s e id chunk l
      × (s.opening.damage l ≡ None) × ReadsNow S F s l ChunkFrame payload
      × AppendsFrameBy S F true s ForMove ChunkFrame payload new mid
      × (t ≡ record mid { copies = record { id = id; chunk = chunk; from = l; to = new } ∷ mid.copies })

  -- what was copied counts, a root is staged, and the extent is reset with the others
  abbrev pub RetiresApart : State → (e : ℕ) → State → Type 0
  RetiresApart s e t = StagesApart (settled (mark s e false)) t

  -- the first chunk that is left is damaged; it has nowhere to go
  abbrev pub DamagedLeft : State → (extent : ℕ) → Refusal → Type 0
  DamagedLeft s e f =
      (id : ℕ) × (chunk : ℕ) × (l : Locator) × FirstLeft s e id chunk l × (s.opening.damage l ≡ Some f)

  abbrev pub NoRoomToCopy : State → ℕ → Type 0
  NoRoomToCopy s e = (id chunk : ℕ) (l new : Locator) (payload : List ℕ) (mid : State)
      → FirstLeft s e id chunk l → ReadsNow S F s l ChunkFrame payload
      → AppendsFrameBy S F true s ForMove ChunkFrame payload new mid → ⊥
