-- What was put since a core was opened, and what the places of its index mean.
use Rattle.std.specs.Prelude.{◌≡◌, ◌≢◌, ◌==◌, ◌∷◌, ℕ, List, [], Option, None, Some, if◌then◌else◌, map}
use Rattle.cs_index.specs.State.{State as IndexState, id_number, index_of}
use Rattle.law_machine.specs.Element.{Locator as Place}
use Rattle.law_machine.specs.Index.{live_at}
use Rattle.law_machine.specs.State.{Command}
use Rattle.cs_core.specs.declared.events.Event.{Event}
use Rattle.cs_core.specs.declared.events.Event.TheVariants.{Delete, Put}
use Rattle.cs_core.specs.declared.events.Reply.{Reply}
use Rattle.cs_core.specs.declared.events.Reply.TheVariants.{Accepted}
use Rattle.cs_core.specs.Lookups.{AreMeantBytes}
use Rattle.cs_core.specs.Meanings.{commands_said}
use Rattle.cs_core.specs.Stored.{Stored}

-- the marks of the places of an identifier's chunks
abbrev pub marks_at : IndexState → (id : ℕ) → List ℕ
marks_at index id = map (λ (l : Place). l.mark) (live_at (index_of index) id)

-- the places of each identifier mean what they meant, wherever they are
abbrev pub MeansTheSame : (old new : IndexState) → Type 0
MeansTheSame old new = (id : ℕ) → marks_at new id ≡ marks_at old id

-- those of all identifiers but this one do
abbrev pub MeansTheSameBut : (id : ℕ) → (old new : IndexState) → Type 0
MeansTheSameBut id old new = (d : ℕ) → d ≢ id → marks_at new d ≡ marks_at old d

-- What an event makes of what places mean: those of an identifier under which bytes were put mean these bytes, and
-- those of all others mean what they meant. Of one that was deleted nothing is said.
abbrev pub ChangesMeaning : (old : Stored) → Event → Reply → (new : Stored) → Type 0
ChangesMeaning old (Put id bytes) (Accepted n) new = AreMeantBytes new (id_number id) bytes × MeansTheSameBut (id_number id) old.index new.index
ChangesMeaning old (Delete id) (Accepted n) new = MeansTheSameBut (id_number id) old.index new.index
ChangesMeaning old event reply new = MeansTheSame old.index new.index

-- the newest command to an identifier, of commands newest first: the bytes that it put, or None where it deleted; None
-- where there is no command
abbrev pub newest_command : List Command → (id : ℕ) → Option (Option (List ℕ))
newest_command [] id = None
newest_command (c ∷ cs) id = if c.0 == id then Some c.1 else newest_command cs id

-- where the newest command of a history to an identifier put bytes, these are what its places mean
abbrev pub ArePutsMeant : List (Event × Reply) → Stored → Type 0
ArePutsMeant history store = (id : ℕ) (bytes : List ℕ) → newest_command (commands_said history) id ≡ Some (Some bytes) → AreMeantBytes store id bytes
