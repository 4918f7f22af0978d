-- What the reply to an event says of the store, whatever its disk does.
use Rattle.cs_index.specs.State.{id_number}
use Rattle.cs_core.specs.declared.events.Event.{Event}
use Rattle.cs_core.specs.declared.events.Event.TheVariants.{BeginSweep, Delete, End, Get, Issue, MoveOne, Put, Settle}
use Rattle.cs_core.specs.declared.events.Reply.{Reply}
use Rattle.cs_core.specs.declared.events.Reply.TheVariants.{Found}
use Rattle.cs_core.specs.Lookups.{AreMeantBytes}
use Rattle.cs_core.specs.Puts.{ChangesMeaning}
use Rattle.cs_core.specs.Replies.{MayAnswer}
use Rattle.cs_core.specs.Stored.{Stored}
use Rattle.cs_core.specs.Writebacks.{WritesBack}

-- The bytes that a Get tells are those that the places of the identifier mean, whatever the disk answered.
abbrev pub TellsMeant : Stored → Event → Reply → Type 0
TellsMeant v (Get id) (Found bytes) = AreMeantBytes v (id_number id) bytes
TellsMeant v event reply = Unit {0}

-- it is a reply to the event, the store is as the reply says, and so are what the reply tells and what places mean then
unfoldable pub IsAnswered : (old : Stored) → Event → Reply → (new : Stored) → Type 0
IsAnswered old event reply new = MayAnswer event reply × WritesBack old event reply new × TellsMeant old event reply × ChangesMeaning old event reply new

-- events for which the disk is read, written or flushed, of those that a halted store refuses
abbrev pub IsForDevice : Event → Type 0
IsForDevice Issue = Unit {0}
IsForDevice End = Unit {0}
IsForDevice (MoveOne e) = Unit {0}
IsForDevice event = ⊥

-- events for which the disk is left alone, of those that a halted store refuses
abbrev pub IsAlone : Event → Type 0
IsAlone (Get id) = ⊥
IsAlone (Settle n) = ⊥
IsAlone Issue = ⊥
IsAlone End = ⊥
IsAlone (MoveOne e) = ⊥
IsAlone event = Unit {0}

-- the events that are refused where as many are kept as may be: those of clients, and those that begin a sweep and move
-- chunks. What writes back, and what ends a sweep, is never refused for that
abbrev pub IsLimited : Event → Type 0
IsLimited (Put id bytes) = Unit {0}
IsLimited (Get id) = Unit {0}
IsLimited (Delete id) = Unit {0}
IsLimited (Settle n) = Unit {0}
IsLimited (BeginSweep e) = Unit {0}
IsLimited (MoveOne e) = Unit {0}
IsLimited event = ⊥
