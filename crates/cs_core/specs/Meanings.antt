-- What events and replies say, in the words of the store's machine.
use Rattle.std.specs.Prelude.{◌≡◌, ◌∷◌, ◌++◌, List, [], Some, None, map}
use Rattle.cs_index.specs.State.{id_number}
use Rattle.law_machine.specs.Device.{Shape}
use Rattle.law_machine.specs.Disk.{page_write}
use Rattle.law_machine.specs.Element.{Element}
use Rattle.law_machine.specs.Formats.{Formats}
use Rattle.law_machine.specs.Refusal.{Refusal as Ground}
use Rattle.law_machine.specs.State as model
use Rattle.law_machine.specs.State.{Command}
use Rattle.law_refinement.specs.Bridge.{name}
use Rattle.law_refinement.specs.Refusals.{refusal_for}
use Rattle.cs_core.specs.declared.events.Event.{Event}
use Rattle.cs_core.specs.declared.events.Event.TheVariants.{Abandon, Begin, BeginSweep, Delete, End, Get, Issue, MoveOne, Put, Retire, Settle, Stage}
use Rattle.cs_core.specs.declared.events.Reply.{Reply}
use Rattle.cs_core.specs.declared.events.Reply.TheVariants.{Abandoned, Absent, Accepted, Begun, Ended, Found, Issued, Moved, NoneLive, NotYet, Nothing, Persistent, Refused, Retired, Staged, Sweeping, Unchanged}

-- the machine's event
abbrev pub event_of : Event → model.Event
event_of (Put id bytes) = model.Put (id_number id) bytes
event_of (Get id) = model.Get (id_number id)
event_of (Delete id) = model.Delete (id_number id)
event_of Stage = model.Stage
event_of Begin = model.Begin
event_of Issue = model.Issue
event_of End = model.End
event_of (BeginSweep e) = model.BeginSweep e
event_of (MoveOne e) = model.MoveOne e
event_of (Retire e) = model.Retire e
event_of (Abandon e) = model.Abandon e
event_of (Settle n) = model.Settle n

-- the command of one event, if it was accepted
abbrev pub command_said : Event → Reply → List Command
command_said (Put id bytes) (Accepted n) = (id_number id, Some bytes) ∷ []
command_said (Delete id) (Accepted n) = (id_number id, None) ∷ []
command_said event reply = []

-- the commands of a history, newest first. The history has its first event first
abbrev pub commands_said : List (Event × Reply) → List Command
commands_said [] = []
commands_said (x ∷ xs) = commands_said xs ++ command_said x.0 x.1

module _ (S : Shape) (F : Formats) where
  -- a reply says what the machine replies: elements by their names, and an identifier by its number
  abbrev pub Says : Reply → model.Reply → Type 0
  Says (Accepted n) m = m ≡ model.Accepted n
  Says (Found bytes) m = m ≡ model.Found bytes
  Says Absent m = m ≡ model.Absent
  Says (Staged v) m = m ≡ model.Staged v
  Says Unchanged m = m ≡ model.Unchanged
  Says (Begun round) m = (members : List Element) × (m ≡ model.Begun members) × (map name members ≡ round)
  Says Nothing m = m ≡ model.Nothing
  Says (Issued x p) m = (e : Element) × (m ≡ model.Issued e) × (name e ≡ x) × ((page_write S F e).0 ≡ p)
  Says (Ended n) m = m ≡ model.Ended n
  Says Sweeping m = m ≡ model.Sweeping
  Says (Moved id chunk) m = m ≡ model.Moved (id_number id) chunk
  Says NoneLive m = m ≡ model.NoneLive
  Says (Retired v) m = m ≡ model.Retired v
  Says Abandoned m = m ≡ model.Abandoned
  Says Persistent m = m ≡ model.Persistent
  Says (NotYet n) m = m ≡ model.NotYet n
  Says (Refused r) m = (f : Ground) × (m ≡ model.Refused f) × (r ≡ refusal_for f)
