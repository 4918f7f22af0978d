-- What each event does where nothing refuses it.
use Rattle.std.specs.Prelude.{◌≡◌, ◌≢◌, ◌⊎◌, ◌↔◌, ◌+◌, ◌<◌, ◌≤◌, ◌∷◌, ◌++◌, ℕ, suc, true, false, List, length, Some, None, []}
use Rattle.law_machine.specs.Append.{AppendsChunksBy, AppendsFrame}
use Rattle.law_machine.specs.Apart.{BeginsApart, MayStage, MovesApart, NothingLeft, RetiresApart, StagesApart, by_rule, left_over}
pub use Rattle.law_machine.specs.Changes.{Merged, ReadsNow, mark, newest_page, reset_now, retired, rooted}
use Rattle.law_machine.specs.Cut.{Cut}
use Rattle.law_machine.specs.Device.{Shape}
use Rattle.law_machine.specs.Element.{Bytes, Element, Locator, Root, Run, roots_of}
use Rattle.law_machine.specs.Extents.{ForMove, ForRun}
use Rattle.law_machine.specs.Formats.{ChunkFrame, Formats}
use Rattle.law_machine.specs.Index.{FirstLive, NothingLive, joined, live_at}
use Rattle.law_machine.specs.Distinct.{AreDistinct}
use Rattle.law_machine.specs.Lists.{replaced, ◌∈◌}
use Rattle.law_machine.specs.Merges.{MergesNewest, stage_takes}
use Rattle.law_machine.specs.Machine.{BeginRound, EndRound, happens}
use Rattle.law_machine.specs.Round.{IsMember, IsRound, NothingWaits}
use Rattle.law_machine.specs.State.{Abandon, Abandoned, Absent, Accepted, Begin, BeginSweep, Begun, Delete, End, Ended, Event, Found, Get, Issue, Issued, MoveOne, Moved, NoneLive, NotYet, Nothing, Persistent, Put, Reply, Retire, Retired, Settle, Stage, Staged, State, Sweeping, Unchanged, index_now, map_now, next_command}

-- all but the last have one size, and only the last may be shorter; the last is empty only where it is alone
abbrev pub AllFullButLast : (size : ℕ) → List (List ℕ) → Type 0
AllFullButLast size [] = Unit {0}
AllFullButLast size (c ∷ []) = length c ≤ size
AllFullButLast size (c ∷ d ∷ cs) = (length c ≡ size) × (d ≢ []) × AllFullButLast size (d ∷ cs)

-- the bytes in pieces: at least one, all but the last of this size
abbrev pub Chunked : (size : ℕ) → List ℕ → List (List ℕ) → Type 0
Chunked size bytes pieces = (joined pieces ≡ bytes) × (0 < length pieces) × AllFullButLast size pieces

-- the payload of a chunk for each piece, numbered from this number on
abbrev pub headed : Formats → (id number count command : ℕ) → List (List ℕ) → List (List ℕ)
headed F id number count command [] = []
headed F id number count command (piece ∷ pieces) =
    F.chunk id number count command piece ∷ headed F id (suc number) count command pieces

module _ (S : Shape) (F : Formats) where
  -- the payloads of the chunks of a put that is this command: the pieces of its bytes, each with its head.
  -- They are numbered from 0 on
  abbrev pub ArePayloads : (id command : ℕ) → List ℕ → List (List ℕ) → Type 0
  ArePayloads id command bytes cs =
      (pieces : List (List ℕ)) × Chunked (S.piece_bytes (length bytes)) bytes pieces × (cs ≡ headed F id 0 (length pieces) command pieces)

  -- the persistent root includes commands 1 to n, and no more
  abbrev pub IsFrontier : State → ℕ → Type 0
  IsFrontier s n = (r : Root) × (r ∈ roots_of s.world.elements) × (r.version ≡ s.world.persistent.root)
      × (r.commands ≡ s.count + n)

  -- the state after a member of the round went to the device
  abbrev pub issued_one : State → List Element → Element → List Element → State
  issued_one s before m behind = record s { left = before ++ behind; issued = s.issued ++ m ∷ [] }

  -- what an event does where nothing refuses it
  abbrev pub Does : State → Event → Reply → State → Type 0
  Does s (Put id bytes) (Accepted n) t =
      (cs : List (List ℕ)) × (ls : List Locator) × (mid : State)
      × ArePayloads id (next_command s) bytes cs × AppendsChunksBy S F S.apart s cs ls mid × (n ≡ suc (length s.commands))
      × (t ≡ record mid {
        table = record { id = id; locators = ls } ∷ mid.table;
        commands = (id, Some bytes) ∷ mid.commands;
      })
  Does s (Get id) (Found bytes) t = (map_now s id ≡ Some (Bytes bytes)) × (t ≡ s)
  Does s (Get id) Absent t = (map_now s id ≡ None) × (t ≡ s)
  Does s (Delete id) (Accepted n) t = (map_now s id ≢ None) × (n ≡ suc (length s.commands))
      × (t ≡ record s { table = record { id = id; locators = [] } ∷ s.table; commands = (id, None) ∷ s.commands })
  Does s (Delete id) Absent t = (map_now s id ≡ None) × (t ≡ s)
  Does s Stage Unchanged t = by_rule S.apart ((s.table ≡ []) × (t ≡ s))
      ((s.table ≡ []) × (left_over S s ≡ false) × (t ≡ s))
  Does s Stage (Staged v) t = by_rule S.apart
      ((s.table ≢ []) × (v ≡ suc s.world.root) × (mid : State) × (runs : List Run)
      × MergesNewest S F s ForRun (stage_takes S s) mid runs
      × (t ≡ rooted S F mid runs mid.world.extents.pointer))
      (MayStage S s × (v ≡ suc s.world.root) × StagesApart S F s t)
  Does s Begin Nothing t = (s.round_out ≡ false) × NothingWaits s.world × (t ≡ s)
  Does s Begin (Begun members) t = (s.round_out ≡ false) × (R : Cut) × IsRound S s.world R
      × ((m : Element) → m ∈ members ↔ IsMember S (record s.world { round = R }) m) × AreDistinct members
      × (NothingWaits s.world → ⊥)
      × (t ≡ record s { world = happens S s.world (BeginRound R); round_out = true; left = members; issued = [] })
  Does s Issue (Issued m) t = (xs : List Element) × (ys : List Element) × (s.left ≡ xs ++ m ∷ ys)
      × (t ≡ issued_one s xs m ys)
  Does s End (Ended n) t = (s.round_out ≡ true) × (s.left ≡ [])
      × (t ≡ record s { world = happens S s.world EndRound; round_out = false; left = []; issued = [] })
      × IsFrontier t n
  Does s (BeginSweep e) Sweeping t = by_rule S.apart
      ((s.world.extents.swept e ≡ false) × (s.world.extents.open_extent ≢ Some e)
      × (e < S.extents) × (0 < s.world.extents.pointer e) × (t ≡ mark s e true))
      (BeginsApart S s e t)
  Does s (MoveOne e) NoneLive t = by_rule S.apart
      ((s.world.extents.swept e ≡ true) × NothingLive (index_now s) e × (t ≡ s))
      ((s.world.extents.swept e ≡ true) × NothingLeft s e × (t ≡ s))
  Does s (MoveOne e) (Moved id chunk) t = by_rule S.apart
      ((l : Locator) × (new : Locator) × (payload : List ℕ) × (mid : State)
      × (s.world.extents.swept e ≡ true) × FirstLive (index_now s) e id chunk l
      × (s.opening.damage l ≡ None) × ReadsNow S F s l ChunkFrame payload
      × AppendsFrame S F s ForMove ChunkFrame payload new mid
      × (t ≡ record mid {
        table = record {
          id = id;
          locators = replaced (live_at (index_now s) id) chunk new;
        } ∷ mid.table;
      }))
      (MovesApart S F s e id chunk t)
  Does s (Retire e) (Retired v) t = by_rule S.apart
      ((s.world.extents.swept e ≡ true) × NothingLive (index_now s) e
      × (v ≡ suc s.world.root)
      × (mid : State) × (runs : List Run) × Merged S F s ForMove mid runs × (t ≡ retired S F mid runs e))
      ((s.world.extents.swept e ≡ true) × NothingLeft s e × (v ≡ suc s.world.root) × RetiresApart S F s e t)
  Does s (Abandon e) Abandoned t = (s.world.extents.swept e ≡ true) × (t ≡ mark s e false)
  Does s (Settle n) Persistent t = (f : ℕ) × IsFrontier s f × (1 ≤ n) × (n ≤ f) × (t ≡ s)
  Does s (Settle n) (NotYet f) t = IsFrontier s f × ((n ≡ 0) ⊎ (f < n)) × (t ≡ s)
  Does s event reply t = ⊥
