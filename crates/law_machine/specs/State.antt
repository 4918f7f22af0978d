-- The core's state, its events and their replies, and the map after its commands.
use Rattle.std.specs.Prelude.{◌+◌, ◌∷◌, ◌++◌, ◌==◌, ℕ, suc, Bool, List, length, Option, Some, None, nat_le, [], if◌then◌else◌}
use Rattle.law_machine.specs.Device.{Page}
use Rattle.law_machine.specs.Element.{Bytes, Content, Copy, Element, Entry, Map, Opening, Run}
use Rattle.law_machine.specs.Index.{entries_of}
use Rattle.law_machine.specs.Machine.{World}
use Rattle.law_machine.specs.Refusal.{Refusal}

-- a put of these bytes, or a delete
abbrev pub Command : Type 0
Command = ℕ × Option (List ℕ)

-- what a command gives its identifier
abbrev pub content_of : Option (List ℕ) → Option Content
content_of None = None
content_of (Some bytes) = Some (Bytes bytes)

-- the map after one command more
abbrev pub changed : Map → Command → Map
changed m c id = if id == c.0 then content_of c.1 else m id

-- the start map after all these commands, newest first
abbrev pub after_all : Map → List Command → Map
after_all start [] = start
after_all start (c ∷ cs) = changed (after_all start cs) c

-- the start map after the first n of these commands
abbrev pub map_after : Map → List Command → ℕ → Map
map_after start [] n = start
map_after start (c ∷ cs) n = if nat_le n (length cs) then map_after start cs n else after_all start (c ∷ cs)

-- the state of the core
pub record State : Type 0 where
  -- the image at open; what was staged since, the extents, what is persistent
  pub opened : ℕ → Page
  pub world : World
  -- the index: the table over the runs, newest first
  pub table : List Entry
  pub runs : List Run
  -- what the sweep has copied, newest first, where copies count once it ends
  pub copies : List Copy
  -- the map at open, and what is known of the image at open
  pub start : Map
  pub opening : Opening
  -- the root's number of commands at open, and the commands since, newest first
  pub count : ℕ
  pub commands : List Command
  -- whether a round is out, its members not issued yet and, in order, those issued
  pub round_out : Bool
  pub left : List Element
  pub issued : List Element
  -- whether a fault in writeback stopped the core
  pub halted : Bool

-- the events
pub data Event : Type 0 where
  Put : (id : ℕ) (bytes : List ℕ) → Event
  Get Delete : (id : ℕ) → Event
  Stage Begin Issue End : Event
  BeginSweep MoveOne Retire Abandon : (extent : ℕ) → Event
  Settle : (command : ℕ) → Event

-- the replies
pub data Reply : Type 0 where
  Accepted : (command : ℕ) → Reply
  Found : (bytes : List ℕ) → Reply
  Absent : Reply
  Staged : (root : ℕ) → Reply
  Unchanged : Reply
  Begun : (members : List Element) → Reply
  Nothing : Reply
  Issued : (member : Element) → Reply
  Ended : (frontier : ℕ) → Reply
  Sweeping : Reply
  Moved : (id chunk : ℕ) → Reply
  NoneLive : Reply
  Retired : (root : ℕ) → Reply
  Abandoned : Reply
  Persistent : Reply
  NotYet : (frontier : ℕ) → Reply
  Refused : (refusal : Refusal) → Reply

-- the map now
abbrev pub map_now : State → Map
map_now s = after_all s.start s.commands

-- the number of the command that is accepted next, which goes on from the root's number at open
abbrev pub next_command : State → ℕ
next_command s = s.count + suc (length s.commands)

-- the index now, as one list of entries
abbrev pub index_now : State → List Entry
index_now s = s.table ++ entries_of s.runs

-- the command of one event, if it was accepted
abbrev pub command_of : Event → Reply → List Command
command_of (Put id bytes) (Accepted n) = (id, Some bytes) ∷ []
command_of (Delete id) (Accepted n) = (id, None) ∷ []
command_of event reply = []

-- the commands of a history, newest first: the puts and deletes that were accepted. The history has its first event
-- first
abbrev pub commands_of : List (Event × Reply) → List Command
commands_of [] = []
commands_of (x ∷ xs) = commands_of xs ++ command_of x.0 x.1
