-- Examples: a new store, and some events of one of 6 extents of 2 pages, one of which may hold runs.
use Rattle.std.specs.Prelude.{◌≡◌, ◌∷◌, ℕ, true, List, None, []}
use Rattle.law_machine.specs.Device.{Shape}
use Rattle.law_machine.specs.Format.{Two}
use Rattle.law_machine.specs.Geometry.{shape_of}
use Rattle.law_machine.specs.Lists.{with}
use Rattle.law_room.specs.Events.{Abandon, BeginSweep, Delete, Does, End, Event, MoveOne, Open, Put, Retire, Stage}
use Rattle.law_room.specs.Rooms.{Empty, Room, Root}

-- a store in which nothing lies, and whose root names nothing
abbrev pub new_room : Room
new_room = record {
  pointer = λ e. 0;
  holds = λ e. Empty;
  chunks = [];
  runs = [];
  rooted = true;
  open_extent = None;
  sweep = None;
  last = None;
  roots = record { chunks = []; runs = []; pointers = λ e. 0 } ∷ [];
}

-- the events one after another
abbrev pub Plays : Shape → ℕ → Room → List Event → Room → Type 0
Plays S J s [] t = t ≡ s
Plays S J s (event ∷ events) t = (mid : Room) × Does S J s event mid × Plays S J mid events t

abbrev pub example_shape : Shape
example_shape = shape_of 6 2 1 8 Two

-- two shards are put and staged, and the extent where they lie is swept: two chunks are moved, to one extent that the sweep
-- opens
abbrev pub example_events : List Event
example_events = Put 1 (1 ∷ []) ∷ Put 2 (1 ∷ []) ∷ Stage 0 1 1 ∷ BeginSweep 0 ∷ MoveOne ∷ MoveOne ∷ Retire 0 1 1 ∷ []

-- the same with a deletion between, and the sweep is given up
abbrev pub example_abandoned : List Event
example_abandoned = Put 1 (1 ∷ []) ∷ Put 2 (1 ∷ []) ∷ BeginSweep 0 ∷ MoveOne ∷ Delete 1 ∷ Stage 0 1 1 ∷ Abandon ∷ []

-- so many pages of extent 0 are given, which has chunks, and so many of extent 1, which has runs
abbrev pub example_pointers : (chunks runs : ℕ) → ℕ → ℕ
example_pointers chunks runs = with (with (λ e. 0) 0 chunks) 1 runs

-- the root of the first Stage below: it names the shard that was put ahead of it
abbrev pub example_root : Root
example_root = record {
  chunks = record { id = 1; extent = 0; pages = 1; copy = None } ∷ [];
  runs = 1 ∷ [];
  pointers = example_pointers 1 1;
}

-- a shard is put and staged, and a round ends that makes its root persistent; a second one is put and staged, and a round ends
-- whose superblock is persistent, while the second root waits. Then there is a crash, and an opening at the first root: of the
-- second shard nothing is left but the pages that were given
abbrev pub example_opened : List Event
example_opened =
    Put 1 (1 ∷ []) ∷ Stage 0 1 1 ∷ End 0 ∷ Put 2 (1 ∷ []) ∷ Stage 0 1 1 ∷ End 1 ∷ Open example_root (example_pointers 2 2) ∷ []
