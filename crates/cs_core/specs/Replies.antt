-- Which replies an event may have.
use Rattle.std.specs.Prelude.{◌≡◌, ◌⊎◌, ◌<◌, ◌≤◌}
use Rattle.cs_refusal.specs.declared.refusals.Refusal.{Refusal}
use Rattle.cs_refusal.specs.declared.refusals.Refusal.TheVariants.{BadDigest, BadLength, BadMagic, BadPadding, BadVersion, DeviceFault, Full, Halted, HistoryFull, InFlight, IndexFull, Misplaced, NoRound, NotSweepable, StillLive, TooLarge, WornOut}
use Rattle.cs_core.specs.declared.events.Event.{Event}
use Rattle.cs_core.specs.declared.events.Event.TheVariants.{Abandon, Begin, BeginSweep, Delete, End, Get, Issue, MoveOne, Put, Retire, Settle, Stage}
use Rattle.cs_core.specs.declared.events.Reply.{Reply}
use Rattle.cs_core.specs.declared.events.Reply.TheVariants.{Abandoned, Absent, Accepted, Begun, Ended, Found, Issued, Moved, NoneLive, NotYet, Nothing, Persistent, Refused, Retired, Staged, Sweeping, Unchanged}

-- The refusals of each event, whatever the disk does. Want of memory is none of them.
abbrev pub MayRefuse : Event → Refusal → Type 0
MayRefuse (Put id bytes) TooLarge = Unit {0}
MayRefuse (Put id bytes) IndexFull = Unit {0}
MayRefuse (Put id bytes) Full = Unit {0}
MayRefuse (Put id bytes) WornOut = Unit {0}
MayRefuse (Put id bytes) Halted = Unit {0}
MayRefuse (Put id bytes) HistoryFull = Unit {0}
MayRefuse (Get id) DeviceFault = Unit {0}
MayRefuse (Get id) BadMagic = Unit {0}
MayRefuse (Get id) BadDigest = Unit {0}
MayRefuse (Get id) BadLength = Unit {0}
MayRefuse (Get id) BadPadding = Unit {0}
MayRefuse (Get id) BadVersion = Unit {0}
MayRefuse (Get id) Misplaced = Unit {0}
MayRefuse (Get id) HistoryFull = Unit {0}
MayRefuse (Delete id) WornOut = Unit {0}
MayRefuse (Delete id) Halted = Unit {0}
MayRefuse (Delete id) HistoryFull = Unit {0}
MayRefuse Stage Full = Unit {0}
MayRefuse Stage WornOut = Unit {0}
MayRefuse Stage Halted = Unit {0}
MayRefuse Begin InFlight = Unit {0}
MayRefuse Begin Halted = Unit {0}
MayRefuse Issue NoRound = Unit {0}
MayRefuse Issue DeviceFault = Unit {0}
MayRefuse Issue Halted = Unit {0}
MayRefuse End NoRound = Unit {0}
MayRefuse End DeviceFault = Unit {0}
MayRefuse End Halted = Unit {0}
MayRefuse (BeginSweep e) NotSweepable = Unit {0}
MayRefuse (BeginSweep e) Halted = Unit {0}
MayRefuse (BeginSweep e) HistoryFull = Unit {0}
MayRefuse (MoveOne e) NotSweepable = Unit {0}
MayRefuse (MoveOne e) DeviceFault = Unit {0}
MayRefuse (MoveOne e) BadMagic = Unit {0}
MayRefuse (MoveOne e) BadDigest = Unit {0}
MayRefuse (MoveOne e) BadLength = Unit {0}
MayRefuse (MoveOne e) BadPadding = Unit {0}
MayRefuse (MoveOne e) BadVersion = Unit {0}
MayRefuse (MoveOne e) Misplaced = Unit {0}
MayRefuse (MoveOne e) Full = Unit {0}
MayRefuse (MoveOne e) WornOut = Unit {0}
MayRefuse (MoveOne e) Halted = Unit {0}
MayRefuse (MoveOne e) HistoryFull = Unit {0}
MayRefuse (Retire e) NotSweepable = Unit {0}
MayRefuse (Retire e) StillLive = Unit {0}
MayRefuse (Retire e) Full = Unit {0}
MayRefuse (Retire e) WornOut = Unit {0}
MayRefuse (Retire e) Halted = Unit {0}
MayRefuse (Abandon e) NotSweepable = Unit {0}
MayRefuse (Abandon e) Halted = Unit {0}
MayRefuse (Settle n) HistoryFull = Unit {0}
MayRefuse event r = ⊥

-- The replies to each event. Commands are numbered from 1. Where Settle answers NotYet, the number that it tells is
-- below the one asked for, unless that was 0.
abbrev pub MayAnswer : Event → Reply → Type 0
MayAnswer event (Refused r) = MayRefuse event r
MayAnswer (Put id bytes) (Accepted n) = 1 ≤ n
MayAnswer (Get id) (Found bytes) = Unit {0}
MayAnswer (Get id) Absent = Unit {0}
MayAnswer (Delete id) (Accepted n) = 1 ≤ n
MayAnswer (Delete id) Absent = Unit {0}
MayAnswer Stage (Staged v) = Unit {0}
MayAnswer Stage Unchanged = Unit {0}
MayAnswer Begin (Begun round) = Unit {0}
MayAnswer Begin Nothing = Unit {0}
MayAnswer Issue (Issued x page) = Unit {0}
MayAnswer End (Ended n) = Unit {0}
MayAnswer (BeginSweep e) Sweeping = Unit {0}
MayAnswer (MoveOne e) (Moved id chunk) = Unit {0}
MayAnswer (MoveOne e) NoneLive = Unit {0}
MayAnswer (Retire e) (Retired v) = Unit {0}
MayAnswer (Abandon e) Abandoned = Unit {0}
MayAnswer (Settle n) Persistent = 1 ≤ n
MayAnswer (Settle n) (NotYet f) = (n ≡ 0) ⊎ (f < n)
MayAnswer event reply = ⊥
