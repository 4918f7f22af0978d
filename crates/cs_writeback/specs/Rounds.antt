-- The events of rounds, and which of them is due.
use Rattle.std.specs.Prelude.{◌≡◌, ◌≢◌, ◌⊎◌, ◌∷◌, ◌++◌, ℕ, List, [], Option, Some, None, length, map, if◌then◌else◌, nat_lt}
use Rattle.std.specs.List.{flat_map}
use Rattle.cs_deps.specs.declared.elements.Element.{Element}
use Rattle.cs_refusal.specs.declared.refusals.Refusal.{Refusal}
use Rattle.cs_disk.specs.declared.disk.PageDisk.{Ghosts as PageDisk}
use Rattle.cs_core.specs.declared.events.Event.{Event}
use Rattle.cs_core.specs.declared.events.Event.TheVariants.{Begin, End, Issue}
use Rattle.cs_core.specs.declared.events.Reply.{Reply}
use Rattle.cs_core.specs.declared.events.Reply.TheVariants.{Begun, Ended, Issued}
use Rattle.cs_core.specs.Stored.{Stored}
use Rattle.cs_core.specs.Views.{View}
use Rattle.cs_writeback.specs.Histories.{IsStopped, Stays, Went}

-- members of a round that are written, each with its page
abbrev pub Members : Type 0
Members = List (Element × ℕ)

-- each of them is issued
abbrev pub issues : Members → List (Event × Reply)
issues members = map (λ m. (Issue, Issued m.0 m.1)) members

-- these are issued, and the round ends with this frontier
abbrev pub rest_of_round : Members → ℕ → List (Event × Reply)
rest_of_round members frontier = issues members ++ (End, Ended frontier) ∷ []

-- a whole round: its members, and the frontier at its end
pub record Turn : Type 0 where
  pub members : Members
  pub frontier : ℕ

-- the elements of a whole round
abbrev pub elements_of : Turn → List Element
elements_of turn = map (λ m. m.0) turn.members

-- it begins, each of its members is issued, and it ends
abbrev pub events_of : Turn → List (Event × Reply)
events_of turn = (Begin, Begun (elements_of turn)) ∷ rest_of_round turn.members turn.frontier

-- the events of whole rounds, one after another
abbrev pub events_of_all : List Turn → List (Event × Reply)
events_of_all turns = flat_map events_of turns

-- the elements of each round
abbrev pub rounds_of : List Turn → List (List Element)
rounds_of turns = map elements_of turns

-- the event of writeback that is due where this round is out, of which so many members are issued: the next of them
-- goes out, or the round ends; where none is out one begins
abbrev pub event_due : Option (List Element) → ℕ → Event
event_due None issued = Begin
event_due (Some round) issued = if nat_lt issued (length round) then Issue else End

-- the event of writeback that is due in this store, which a line `step` makes
abbrev pub step_event : Stored → Event
step_event s = event_due s.out s.issued

-- there is something to write back: a round is out, or else something waits
abbrev pub HasWriteback : Stored → Type 0
HasWriteback s = s.out ≡ None → s.graph.staging.pending.waiting ≢ []

-- what was done of a round that isn't ended: nothing yet, or it began, and these members were issued
abbrev pub IsPart : List (Event × Reply) → Type 0
IsPart part = (part ≡ []) ⊎ ((round : List Element) × (members : Members) × (part ≡ (Begin, Begun round) ∷ issues members))

module _ {D : Type 0} (disks : PageDisk D) where
  -- These events were recorded with their replies, and then the event of writeback that was due was refused: as the
  -- core was when that was asked for, it was the next Issue of the round that was out, its End where all was issued, or
  -- a Begin where none was out and something waited.
  pub record IsStoppedAtDue (old : View D) (done : List (Event × Reply)) (refusal : Refusal) (new : View D) : Type 0 where
    pub asked : View D
    pub went : Went disks old done asked
    pub due : HasWriteback asked.store
    pub stopped : IsStopped disks asked [] (step_event asked.store) refusal new

  -- a round that was out is ended: what is left of it is issued, and so many commands are persistent then; where none
  -- was out nothing is done
  abbrev pub Finishes : (old : View D) → Option ℕ → (ended : View D) → Type 0
  Finishes old None ended = (old.store.out ≡ None) × Stays disks old ended
  Finishes old (Some frontier) ended = (old.store.out ≢ None) × (members : Members) × Went disks old (rest_of_round members frontier) ended

  -- some members of the round that was out are issued, and then what is due of it is refused
  abbrev pub StopsFirst : (old : View D) → Refusal → (new : View D) → Type 0
  StopsFirst old r new = (old.store.out ≢ None) × (members : Members) × IsStoppedAtDue old (issues members) r new
