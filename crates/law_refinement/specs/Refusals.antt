-- The refusals of the machine's events, as those of the store's calls.
use Rattle.std.specs.Prelude.{}
use Rattle.cs_refusal.specs.declared.refusals.Refusal.{Refusal}
use Rattle.cs_refusal.specs.declared.refusals.Refusal.TheVariants as refusal
use Rattle.law_machine.specs.Refusal.{BadDigest, BadLength, BadMagic, BadPadding, BadVersion, DeviceFault, Full, Halted, InFlight, IndexFull, Misplaced, NoRound, NotSweepable, Refusal as Ground, StillLive, TooLarge, WornOut}

-- the refusal that an event gives which is refused in the machine
abbrev pub refusal_for : Ground → Refusal
refusal_for DeviceFault = refusal.DeviceFault
refusal_for InFlight = refusal.InFlight
refusal_for BadMagic = refusal.BadMagic
refusal_for BadDigest = refusal.BadDigest
refusal_for BadLength = refusal.BadLength
refusal_for BadPadding = refusal.BadPadding
refusal_for BadVersion = refusal.BadVersion
refusal_for Misplaced = refusal.Misplaced
refusal_for Full = refusal.Full
refusal_for TooLarge = refusal.TooLarge
refusal_for IndexFull = refusal.IndexFull
refusal_for NotSweepable = refusal.NotSweepable
refusal_for StillLive = refusal.StillLive
refusal_for WornOut = refusal.WornOut
refusal_for Halted = refusal.Halted
refusal_for NoRound = refusal.NoRound
