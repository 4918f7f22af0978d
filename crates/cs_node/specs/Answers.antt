-- What the calls of a node answer.
use Rattle.std.specs.Prelude.{◌≡◌, ℕ, ◌≤◌, ◌<◌, List, Option, Some, None, Bool, MatchBool}
use Rattle.cs_frame.specs.declared.identifiers.ShardId.{ShardId}
use Rattle.cs_core.specs.declared.events.Event.TheVariants.{Get, Settle}
use Rattle.cs_core.specs.declared.events.Reply.{Reply}
use Rattle.cs_core.specs.declared.events.Reply.TheVariants.{Absent, Accepted, Found, NotYet, Persistent}
use Rattle.cs_node.specs.declared.nodes.Why.{Why}
use Rattle.cs_node.specs.declared.nodes.Why.TheVariants.{NotYet as WhyNotYet, HistoryFull as WhyFull, OutOfMemory as WhyMemory}
use Rattle.cs_node.specs.declared.nodes.Settled.{Settled}
use Rattle.cs_node.specs.declared.nodes.Settled.TheVariants.{Done as SettleDone, Back as SettleBack}
use Rattle.cs_node.specs.declared.purses.Polled.{Polled}
use Rattle.cs_node.specs.declared.purses.Polled.TheVariants.{Done as PollDone, Back as PollBack}
use Rattle.cs_node.specs.Told.{Adds, Holdings, found_last}

-- the reply to a delete: the ticket's number, or that there was nothing
abbrev pub deleted : Option ℕ → Reply
deleted (Some n) = Accepted n
deleted None = Absent

-- the reply to a get
abbrev pub got : Option (List ℕ) → Reply
got (Some bytes) = Found bytes
got None = Absent

-- a get: there is something, and the last call of the purse has its bytes; or there is nothing
abbrev pub Gets : Holdings → ShardId → Bool → Holdings → Type 0
Gets old id there new = MatchBool there ((bytes : List ℕ) × Adds old (Get id) (Found bytes) new × (found_last new.calls ≡ Some bytes)) (Adds old (Get id) Absent new)

-- a settle that gave the ticket back
abbrev pub GivesBack : Holdings → ℕ → Why → Holdings → Type 0
GivesBack old n (WhyNotYet f) new = (f < n) × Adds old (Settle n) (NotYet f) new
GivesBack old n WhyFull new = new ≡ old
GivesBack old n WhyMemory new = new ≡ old

-- a settle of the ticket n: an ack with its number where it is persistent, or the same ticket
abbrev pub Settles : {K : _} → Holdings → ℕ → Settled K → Holdings → Type 0
Settles old n (SettleDone ack) new = (ack ≡ n) × Adds old (Settle n) Persistent new
Settles old n (SettleBack ticket why) new = (ticket ≡ n) × GivesBack old n why new

-- a poll of the ticket n, by who knows that the commands up to this one are persistent
abbrev pub Tells : {K : _} → ℕ → ℕ → Polled K → Type 0
Tells known n (PollDone ack) = (ack ≡ n) × (n ≤ known)
Tells known n (PollBack ticket told) = (ticket ≡ n) × (told ≡ known) × (told < n)
