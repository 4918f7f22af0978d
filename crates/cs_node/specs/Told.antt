-- What a purse keeps, and what a call adds to it.
use Rattle.std.specs.Prelude.{◌≡◌, ℕ, ◌+◌, ◌<◌, List, [], ◌∷◌, ◌++◌, Option, Some, None, max, nat_le, All, filter, length, slice_index_or, Bool, true, false, MatchBool}
use Rattle.cs_node.specs.declared.stretches.Stretch.{Stretch}
use Rattle.cs_refusal.specs.declared.refusals.Refusal.{Refusal}
use Rattle.cs_refusal.specs.declared.refusals.Refusal.TheVariants.{OutOfMemory, HistoryFull}
use Rattle.cs_core.specs.declared.events.Event.{Event}
use Rattle.cs_core.specs.declared.events.Event.TheVariants.{Settle}
use Rattle.cs_core.specs.declared.events.Reply.{Reply}
use Rattle.cs_core.specs.declared.events.Reply.TheVariants.{Found, NotYet, Persistent, Refused}
use Rattle.cs_node.specs.declared.logs.Call.{Call}

-- a call with its place in the history, its event and its reply
abbrev pub call : ℕ → Event → Reply → Call
call place event reply = record { place = place; event = event; reply = reply }

-- the number that was found persistent, or that of the last command that is
abbrev pub told_settle : ℕ → Reply → ℕ
told_settle n Persistent = n
told_settle n (NotYet f) = f
told_settle n _ = 0

-- up to which command a call told that all are persistent
abbrev pub told_by : Event → Reply → ℕ
told_by (Settle n) r = told_settle n r
told_by _ r = 0

-- the greatest number that any of these calls told of
abbrev pub floor_of : List Call → ℕ
floor_of [] = 0
floor_of (c ∷ cs) = max (told_by c.event c.reply) (floor_of cs)

-- the bytes in a reply
abbrev pub found_in : Reply → Option (List ℕ)
found_in (Found bytes) = Some bytes
found_in _ = None

-- the bytes that the last call found
abbrev pub found_last : List Call → Option (List ℕ)
found_last [] = None
found_last (c ∷ []) = found_in c.reply
found_last (c ∷ d ∷ cs) = found_last (d ∷ cs)

-- all calls are at places below n
abbrev pub Below : ℕ → List Call → Type 0
Below n calls = All (λ c. c.place < n) calls

-- the calls at this place and above
abbrev pub from_place : ℕ → List Call → List Call
from_place n calls = filter (λ c. nat_le n c.place) calls

-- each place is above the one before
abbrev pub Rising : List Call → Type 0
Rising calls = (k : ℕ) (d : Call) → k + 1 < length calls → (slice_index_or calls k d).place < (slice_index_or calls (k + 1) d).place

-- calls as they are kept, the greatest number that these and the forgotten ones told of, the place behind that of the
-- last call, a forgotten one too, and for how many more there is room
pub record Logged : Type 0 where
  pub calls : List Call
  pub floor : ℕ
  pub next : ℕ
  pub room : ℕ

-- a purse: its calls but for those that it forgot, the numbers of its tickets and of its acks, up to which command it
-- was told that all are persistent, and the view of its seat at the board
pub record Holdings : Type 0 where
  pub calls : List Call
  pub tickets : List Stretch
  pub acks : List Stretch
  pub floor : ℕ
  pub seen : ℕ

-- a new purse, whose seat has this view
abbrev pub empty : ℕ → Holdings
empty n = record { calls = []; tickets = []; acks = []; floor = 0; seen = n }

-- one call more, at a place greater than all others
pub record Adds (old : Holdings) (e : Event) (r : Reply) (new : Holdings) : Type 0 where
  pub place : ℕ
  pub above : Below place old.calls
  pub calls : new.calls ≡ old.calls ++ call place e r ∷ []
  pub tickets : new.tickets ≡ old.tickets
  pub acks : new.acks ≡ old.acks
  pub floor : new.floor ≡ max old.floor (told_by e r)
  pub seen : new.seen ≡ old.seen

-- the refusals that no history records
abbrev pub is_unrecorded : Refusal → Bool
is_unrecorded OutOfMemory = true
is_unrecorded HistoryFull = true
is_unrecorded _ = false

-- a refusal: one call more, or nothing where the history doesn't record it
abbrev pub Refuses : Holdings → Event → Refusal → Holdings → Type 0
Refuses old e x new = MatchBool (is_unrecorded x) (new ≡ old) (Adds old e (Refused x) new)
