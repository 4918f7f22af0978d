-- What the events of a history put and deleted.
use Rattle.std.specs.Prelude.{◌∷◌, ◌++◌, ℕ, List, [], Option, Some, None}
use Rattle.cs_frame.specs.declared.identifiers.ShardId.{ShardId}
use Rattle.cs_core.specs.declared.events.Event.{Event}
use Rattle.cs_core.specs.declared.events.Event.TheVariants.{Delete, Put}
use Rattle.cs_core.specs.declared.events.Reply.{Reply}
use Rattle.cs_core.specs.declared.events.Reply.TheVariants.{Accepted}

-- what one event put under an identifier, or that it deleted it, if it was accepted
abbrev pub change_said : Event → Reply → List (ShardId × Option (List ℕ))
change_said (Put id bytes) (Accepted n) = (id, Some bytes) ∷ []
change_said (Delete id) (Accepted n) = (id, None) ∷ []
change_said event reply = []

-- the changes of a history, the first of them first
abbrev pub replayed : List (Event × Reply) → List (ShardId × Option (List ℕ))
replayed [] = []
replayed (x ∷ xs) = change_said x.0 x.1 ++ replayed xs

-- a change or none, as a list
abbrev pub listed : Option (ShardId × Option (List ℕ)) → List (ShardId × Option (List ℕ))
listed None = []
listed (Some change) = change ∷ []
