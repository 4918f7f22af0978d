-- The numbers of the refusals, as operators see them.
use Rattle.std.specs.Prelude.{ℕ}
use Rattle.law_machine.specs.Refusal.{BadDigest, BadLength, BadMagic, BadPadding, BadVersion, DeviceFault, Full, Halted, InFlight, IndexFull, Misplaced, NoRound, NotSweepable, Refusal, StillLive, TooLarge, WornOut}

-- the number of a refusal
abbrev pub number_of : Refusal → ℕ
number_of DeviceFault = 1
number_of InFlight = 5
number_of BadMagic = 20
number_of BadDigest = 21
number_of BadLength = 22
number_of BadPadding = 23
number_of BadVersion = 24
number_of Misplaced = 26
number_of Full = 30
number_of TooLarge = 31
number_of IndexFull = 32
number_of NotSweepable = 33
number_of StillLive = 34
number_of WornOut = 35
number_of Halted = 40
number_of NoRound = 42
