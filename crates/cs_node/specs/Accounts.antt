-- When purses, and what they handed in, account for a history.
use Rattle.std.specs.Prelude.{◌≡◌, ℕ, zero, suc, ◌+◌, ◌≤◌, ◌<◌, ◌==◌, List, length, cond, All, Some, Option, MatchOption, slice_get, slice_index_or, count_by, sum_by, nat_le}
use Rattle.cs_node.specs.declared.stretches.Stretch.{Stretch}
use Rattle.cs_node.specs.Numbers.{Within, once_to, times}
use Rattle.cs_core.specs.declared.events.Event.{Event}
use Rattle.cs_core.specs.declared.events.Event.TheVariants.{Delete, Get, Put, Settle}
use Rattle.cs_core.specs.declared.events.Reply.{Reply}
use Rattle.cs_core.specs.Views.{View}
use Rattle.cs_node.specs.declared.logs.Call.{Call}
use Rattle.cs_node.specs.Told.{Holdings}

-- how many calls an event is: a put, get, delete or settle is one, and those of the node's own are none
abbrev pub wanted : Event → ℕ
wanted (Put id bytes) = 1
wanted (Get id) = 1
wanted (Delete id) = 1
wanted (Settle n) = 1
wanted _ = 0

-- the call stands in the history at its place, with its event and its reply
abbrev pub Stands : List (Event × Reply) → Call → Type 0
Stands history c = slice_get history c.place ≡ Some (c.event, c.reply)

-- how many of the calls have this place
abbrev pub times_at : ℕ → List Call → ℕ
times_at place calls = count_by (λ c. c.place == place) calls

-- how many calls at this place the purses have
abbrev pub called_at : ℕ → List Holdings → ℕ
called_at place purses = sum_by (λ h. times_at place h.calls) purses

-- From the place `base` on the calls are those of the history: each stands in it, and each event of a client is one of
-- them. Of places below nothing is asked: the events there were replaced.
pub record AreCalls (base : ℕ) (history : List (Event × Reply)) (purses : List Holdings) : Type 0 where
  pub stand : All (λ h. All (λ c. base ≤ c.place → Stands history c) h.calls) purses
  pub once : (place : ℕ) (d : Event × Reply) → base ≤ place → place < length history → called_at place purses ≡ wanted (slice_index_or history place d).0

-- how often a number is there: among those handed in, and as a ticket or an ack of a purse
abbrev pub held : ℕ → (handed : List Stretch) → List Holdings → ℕ
held x handed purses = times x handed + sum_by (λ h. times x h.tickets + times x h.acks) purses

-- these are the numbers 1 to n, each once
abbrev pub AreAllNumbers : ℕ → (handed : List Stretch) → List Holdings → Type 0
AreAllNumbers n handed purses = (x : ℕ) → held x handed purses ≡ once_to n x

-- no ack is above f, handed in or not
abbrev pub AcksWithin : ℕ → (handed : List Stretch) → List Holdings → Type 0
AcksWithin f handed purses = Within f handed × All (λ h. Within f h.acks) purses

-- the tests of `close`: all purses that were given are there, the calls are those of the history as far as it is kept,
-- what was handed in, the tickets and the acks are the numbers of all accepted commands, each once, and no ack is for a
-- command that isn't persistent
pub record Accounted {D : Type 0} (core : View D) (given : ℕ) (handed : List Stretch) (purses : List Holdings) : Type 0 where
  pub here : length purses ≡ given
  pub calls : AreCalls core.base core.history purses
  pub numbers : AreAllNumbers core.store.accepted handed purses
  pub within : AcksWithin core.store.frontier handed purses

-- how many of the numbers 1 to n aren't there
abbrev pub lacking : ℕ → (handed : List Stretch) → List Holdings → ℕ
lacking zero handed purses = 0
lacking (suc n) handed purses = lacking n handed purses + cond (held (suc n) handed purses == 0) 1 0

-- how many acks with this number there are once the tickets up to f became acks
abbrev pub acknowledged_by : ℕ → ℕ → (handed : List Stretch) → List Holdings → ℕ
acknowledged_by f x handed purses = times x handed + sum_by (λ h. times x h.acks + cond (nat_le x f) (times x h.tickets) 0) purses

-- they account for it, or so many numbers are missing
abbrev pub Judges : {D : Type 0} → View D → ℕ → (handed : List Stretch) → List Holdings → Option ℕ → Type 0
Judges core given handed purses o = MatchOption o (Accounted core given handed purses) (λ n. (n ≡ lacking core.store.accepted handed purses) × ¬ (Accounted core given handed purses))
